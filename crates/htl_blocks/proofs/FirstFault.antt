-- The fault that is told is the first of those that stand in a text.
use Rattle.std.proofs.Common.{◌⊎◌, ◌≡◌, ◌<◌, ◌≤◌, ◌+◌, ◌-◌, ℕ, zero, suc, Bool, true, false, cond, List, [], ◌∷◌, ◌++◌, take, drop, length, Option, Some, None, Result, Ok, Err, refl, ap, sym, subst, ◌∙◌, arith, inl, inr}
use Rattle.sp_base.proofs.NatLemmas.{suc_is_not_zero}
use Rattle.htl_syntax.specs.declared.expression.Expression.{Expression}
use Rattle.htl_syntax.specs.declared.expression.ExprFault.{ExprFault}
use Rattle.htl_syntax.specs.Fault.{expression_of}
use Rattle.htl_text.specs.declared.piece.TemplatePiece.{TemplatePiece}
use Rattle.htl_text.specs.declared.piece.TemplatePiece.TheVariants as piece
use Rattle.htl_text.specs.declared.fault.TextFault.{TextFault}
use Rattle.htl_text.specs.declared.fault.TextFault.TheVariants as text_fault
use Rattle.htl_text.specs.declared.quotes.Quotes.TheVariants as quotes
use Rattle.htl_text.specs.Template.{opens_expression, escapes, value_at, closed_value, read_value, closing, with_plain, before, with_expression, template_pieces, template_of, template_at, read_from_place, fault_at}
use Rattle.htl_blocks.specs.declared.fault.BlockFault.{BlockFault}
use Rattle.htl_blocks.specs.declared.fault.BlockFault.TheVariants as fault
use Rattle.htl_blocks.specs.declared.attribute.Attributes.{Attributes}
use Rattle.htl_blocks.specs.declared.block.Block.{Block}
use Rattle.htl_blocks.specs.declared.block.Block.TheVariants as block
use Rattle.htl_blocks.specs.declared.block.Tag.{Tag}
use Rattle.htl_blocks.specs.ElementText.{ElementText}
use Rattle.htl_blocks.specs.Markup.{parts}
use Rattle.htl_blocks.specs.Attributes.{tag_attributes}
use Rattle.htl_blocks.specs.Reading.{◌then◌, told_at, run_of, after_text_run, text_block, run_blocks, element_cut, tag_of, known_tag, start_tag, element, blocks_read, content_within, blocks_of}
use Rattle.htl_blocks.specs.Laws.{HasNoBlock, bytes_of}
use Rattle.htl_blocks.specs.Spelling.{whole_text, FirstTag, Element, FaultIn, text_fault_place, block_fault_place, text_fault_kind, fault_kind, ComesFirst, IsFirstFault}
use Rattle.htl_blocks.specs.Spelling as spelling
use Rattle.htl_blocks.proofs.Turns.{within_is, element_is, element_open, element_tag_fails, element_content_fails}
use Rattle.htl_blocks.proofs.Split.{cut_of, cut_only, cut_says, Cuts, first_tag, run_plain, run_tag, length_text}
use Rattle.htl_blocks.proofs.Spelled.{step_more, step_end, step_run_fails, step_one_fails, step_none, first_parts, first_some, first_size, tag_nonempty, sizes, after_place, TagSays, tag_found, one_says}

-- ---- the places of a template's faults

-- a fault of a template with so many bytes
abbrev Within : ℕ → TextFault → Type 0
Within all (text_fault.Unclosed n) = n < all
Within all (text_fault.BadExpr n) = n < all
Within all text_fault.NoMemory = ⊥

value_fault : (place all : ℕ) (t : List ℕ) (f : TextFault) → place < all → value_at place t ≡ Err f → Within all f
unfolding value_at
value_fault place all t f lt e = go (closing quotes.Outside 0 (drop 2 t)) e
  where
    unclosed : (g : TextFault) → text_fault.Unclosed place ≡ g → Within all g
    unclosed g same = subst (Within all) same lt

    bad : (g : TextFault) → text_fault.BadExpr place ≡ g → Within all g
    bad g same = subst (Within all) same lt

    read : (rest : List ℕ) (r : Result Expression ExprFault) → read_value place rest r ≡ Err f → Within all f
    read rest (Ok x) h = absurd cc
    read rest (Err x) h = bad f cc

    go : (o : Option ℕ) → closed_value place (drop 2 t) o ≡ Err f → Within all f
    go None h = unclosed f cc
    go (Some n) h = read (drop 1 (drop n (drop 2 t))) (expression_of (take n (drop 2 t))) h

plain_fault : (t : List ℕ) (r : Result (List TemplatePiece) TextFault) (f : TextFault) → with_plain t r ≡ Err f → r ≡ Err f
plain_fault t (Ok ps) f e = absurd cc
plain_fault t (Err g) f e = e

before_fault : (ps : List TemplatePiece) (r : Result (List TemplatePiece) TextFault) (f : TextFault) → before ps r ≡ Err f → r ≡ Err f
before_fault ps (Ok qs) f e = absurd cc
before_fault ps (Err g) f e = e

value_err : (g f : TextFault) (more : List ℕ → Result (List TemplatePiece) TextFault) → with_expression (Err g) more ≡ Err f → g ≡ f
value_err g f more e = cc

pieces_fault : (all skip : ℕ) (t : List ℕ) (f : TextFault) → length t ≤ all → template_pieces all skip t ≡ Err f → Within all f
unfolding template_pieces
pieces_fault all zero [] f le e = absurd cc
pieces_fault all (suc skip) [] f le e = absurd cc
pieces_fault all (suc skip) (c ∷ t) f le e = pieces_fault all skip t f (omega (arith, le)) e
pieces_fault all zero (c ∷ t) f le e = go (opens_expression (c ∷ t)) (escapes (c ∷ t)) e (λ (skip : ℕ) (x : template_pieces all skip t ≡ Err f). pieces_fault all skip t f (omega (arith, le)) x)
  where
    value : (r : Result (Expression × List ℕ) TextFault) → value_at (all - length (c ∷ t)) (c ∷ t) ≡ r → with_expression r (λ (rest : List ℕ). template_pieces all (length t - length rest) t) ≡ Err f → ((skip : ℕ) → template_pieces all skip t ≡ Err f → Within all f) → Within all f
    value (Ok x) q h ih = ih (length t - length x.1) (before_fault (piece.Value x.0 ∷ []) (template_pieces all (length t - length x.1) t) f h)
    value (Err g) q h ih = value_fault (all - length (c ∷ t)) all (c ∷ t) f (omega (arith, le)) (q ∙ ap Err (value_err g f (λ (rest : List ℕ). template_pieces all (length t - length rest) t) h))

    go : (a b : Bool) → cond a (with_expression (value_at (all - length (c ∷ t)) (c ∷ t)) (λ (rest : List ℕ). template_pieces all (length t - length rest) t)) (cond b (with_plain (36 ∷ 123 ∷ []) (template_pieces all 2 t)) (with_plain (c ∷ []) (template_pieces all 0 t))) ≡ Err f → ((skip : ℕ) → template_pieces all skip t ≡ Err f → Within all f) → Within all f
    go true b h ih = value (value_at (all - length (c ∷ t)) (c ∷ t)) refl h ih
    go false true h ih = ih 2 (plain_fault (36 ∷ 123 ∷ []) (template_pieces all 2 t) f h)
    go false false h ih = ih 0 (plain_fault (c ∷ []) (template_pieces all 0 t) f h)

template_fault : (t : List ℕ) (f : TextFault) → template_of t ≡ Err f → Within (length t) f
template_fault t f e = pieces_fault (length t) 0 t f (omega arith) e

-- a template's fault stands in its text
record Stands (place len : ℕ) (f : TextFault) : Type 0 where
  pub from : place ≤ text_fault_place f
  pub below : text_fault_place f < place + len

text_fault_stands : (place : ℕ) (t : List ℕ) (f : TextFault) → template_at place t ≡ Err f → Stands place (length t) f
text_fault_stands place t f e = go (template_of t) refl e
  where
    moved : (g : TextFault) → Within (length t) g → Stands place (length t) (fault_at place g)
    moved (text_fault.Unclosed n) w = record { from = omega arith; below = omega (arith, w) }
    moved (text_fault.BadExpr n) w = record { from = omega arith; below = omega (arith, w) }
    moved text_fault.NoMemory w = absurd w

    go : (r : Result (List TemplatePiece) TextFault) → template_of t ≡ r → read_from_place place r ≡ Err f → Stands place (length t) f
    go (Ok ps) q h = absurd cc
    go (Err g) q h = let same : fault_at place g ≡ f = cc in subst (Stands place (length t)) same (moved g (template_fault t g q))

-- a fault that is told at a tag stands there
told_place : (place : ℕ) (t : List ℕ) (f : TextFault) → template_of t ≡ Err f → text_fault_place (told_at place f) ≡ place
told_place place t f e = go f (template_fault t f e)
  where
    go : (g : TextFault) → Within (length t) g → text_fault_place (told_at place g) ≡ place
    go (text_fault.Unclosed n) w = refl
    go (text_fault.BadExpr n) w = refl
    go text_fault.NoMemory w = absurd w

-- ---- faults stand in their text

-- a fault stands in a text
pub record Lies (place len : ℕ) (f : BlockFault) : Type 0 where
  pub from : place ≤ block_fault_place f
  pub below : block_fault_place f < place + len

at_tag : (t : List ℕ) (x : FirstTag t) (place : ℕ) (f : BlockFault) → block_fault_place f ≡ place + bytes_of x.before → Lies place (length t) f
at_tag t x place f e = let some = tag_nonempty t x in let size = first_size t x in record { from = omega (arith, e); below = omega (arith, e, some, size) }

pub fault_lies : (levels place : ℕ) (t : List ℕ) (f : BlockFault) → FaultIn levels place t f → Lies place (length t) f
fault_lies levels place t _ (spelling.of_text {f = f} h e) = let s = text_fault_stands place t f e in record { from = s.from; below = s.below }
fault_lies levels place t _ (spelling.of_leading_text {f = f} x e) =
    let s = text_fault_stands place (whole_text x.before) f e in
    let size = first_size t x in
    let len = length_text x.before in
    let below = s.below in
    record { from = s.from; below = omega (arith, below, size, len) }
fault_lies levels place t _ (spelling.open_tag x n) = at_tag t x place (fault.OpenTag (place + bytes_of x.before)) refl
fault_lies levels place t _ (spelling.bad_block x n) = at_tag t x place (fault.BadBlock (place + bytes_of x.before)) refl
fault_lies _ place t _ (spelling.too_deep x) = at_tag t x place (fault.TooDeep (place + bytes_of x.before)) refl
fault_lies levels place t _ (spelling.of_start_tag {kept = kept} {f = f} x a e) = at_tag t x place (fault.Text (told_at (place + bytes_of x.before) f)) (told_place (place + bytes_of x.before) kept f e)
fault_lies _ place t f (spelling.in_content {levels = levels} x y d) =
    let ih = fault_lies levels ((place + bytes_of x.before) + length x.tag) (whole_text y.inner) f d in
    let z = sizes t x y in
    let all = z.all in
    let len = length_text y.inner in
    let from = ih.from in
    let below = ih.below in
    record { from = omega (arith, from); below = omega (arith, below, all, len) }
fault_lies levels place t f (spelling.after_element x y d) =
    let ih = fault_lies levels ((((place + bytes_of x.before) + length x.tag) + bytes_of y.inner) + length y.end_tag) (whole_text y.after) f d in
    let z = sizes t x y in
    let all = z.all in
    let len = length_text y.after in
    let from = ih.from in
    let below = ih.below in
    record { from = omega (arith, from); below = omega (arith, below, all, len) }

-- ---- a fault that is told stands in the text

-- the fault of a text between elements
run_fault : (place : ℕ) (t : List ℕ) (f : BlockFault) → run_blocks place t ≡ Err f → (g : TextFault) × (template_at place t ≡ Err g) × (fault.Text g ≡ f)
unfolding run_blocks
run_fault place [] f e = absurd cc
run_fault place (c ∷ t) f e = go (template_at place (c ∷ t)) refl e
  where
    go : (r : Result (List TemplatePiece) TextFault) → template_at place (c ∷ t) ≡ r → text_block r ≡ Err f → (g : TextFault) × (template_at place (c ∷ t) ≡ Err g) × (fault.Text g ≡ f)
    go (Ok ps) q h = absurd cc
    go (Err g) q h = (g, q, cc)

empty_reads : (place : ℕ) → template_at place [] ≡ Ok []
unfolding template_pieces
empty_reads place = refl

run_fails : (place : ℕ) (t : List ℕ) (g : TextFault) → template_at place t ≡ Err g → run_blocks place t ≡ Err (fault.Text g)
unfolding run_blocks
run_fails place [] g e = absurd (let none = empty_reads place in cc)
run_fails place (c ∷ t) g e = rw e refl

-- why a tag has no reading
abbrev TagFails : ℕ → ℕ → List ℕ → BlockFault → Type 0
TagFails levels place tag f =
    ((tag_attributes tag ≡ None) × (fault.BadBlock place ≡ f))
    ⊎ ((levels ≡ 0) × (fault.TooDeep place ≡ f))
    ⊎ ((a : Attributes) × (kept : List ℕ) × (g : TextFault) × (tag_attributes tag ≡ Some (a, kept)) × (template_of kept ≡ Err g) × (fault.Text (told_at place g) ≡ f))

tag_fails : (levels place : ℕ) (tag : List ℕ) (f : BlockFault) → tag_of levels place tag ≡ Err f → TagFails levels place tag f
unfolding tag_of
tag_fails levels place tag f e = go levels refl (tag_attributes tag) refl e
  where
    read : (n : ℕ) → levels ≡ suc n → (a : Attributes × List ℕ) → tag_attributes tag ≡ Some a → (r : Result (List TemplatePiece) TextFault) → template_of a.1 ≡ r → start_tag place a.0 r ≡ Err f → TagFails levels place tag f
    read n l a s (Ok ps) q h = absurd cc
    read n l a s (Err g) q h = inr (inr (a.0, a.1, g, s, q, cc))

    go : (n : ℕ) → levels ≡ n → (o : Option (Attributes × List ℕ)) → tag_attributes tag ≡ o → known_tag n place o ≡ Err f → TagFails levels place tag f
    go n l None s h = inl (s, cc)
    go zero l (Some a) s h = inr (inl (l, cc))
    go (suc n) l (Some a) s h = read n l a s (template_of a.1) refl (rw suc_is_not_zero at h)

-- a tag's fault stands at the tag
tag_fault_place : (levels place : ℕ) (tag : List ℕ) (f : BlockFault) → tag_of levels place tag ≡ Err f → block_fault_place f ≤ place
tag_fault_place levels place tag f e = go (tag_fails levels place tag f e)
  where
    go : TagFails levels place tag f → block_fault_place f ≤ place
    go (inl x) = let same = ap block_fault_place (sym x.1) in omega (arith, same)
    go (inr (inl x)) = let same = ap block_fault_place (sym x.1) in omega (arith, same)
    go (inr (inr x)) = let same = ap block_fault_place (sym x.5) in let there = told_place place x.1 x.2 x.4 in omega (arith, same, there)

-- the faults of content that was read stand in it
abbrev InsideFault : ℕ → Type 0
InsideFault levels = (l : ℕ) → levels ≡ suc l → (place end : ℕ) (u : List ℕ) (f : BlockFault) → end ≡ place + length u → content_within levels end u ≡ Err f → FaultIn l place u f

-- where the content of an element ends
inside_end : (t : List ℕ) (x : FirstTag t) (y : Element x.tag x.rest) (place end : ℕ) → end ≡ place + length t → (end - length (whole_text y.after)) - length y.end_tag ≡ ((place + bytes_of x.before) + length x.tag) + length (whole_text y.inner)
inside_end t x y place end e =
    let z = sizes t x y in
    let all = z.all in
    let after = length_text y.after in
    let inner = length_text y.inner in
    omega (arith, e, all, after, inner)

then_err : {A B : Type 0} (r : Result A BlockFault) (f : A → Result B BlockFault) (g : BlockFault) → r then f ≡ Err g → (r ≡ Err g) ⊎ ((x : A) × (r ≡ Ok x) × (f x ≡ Err g))
then_err (Ok x) f g e = inr (x, refl, e)
then_err (Err h) f g e = inl cc

-- why an element was not read
abbrev ElementFails : (levels : ℕ) → (ℕ → List ℕ → Result (List Block) BlockFault) → ℕ → List ℕ → BlockFault → Type 0
ElementFails levels inner end u f =
    (element_cut (end - length u) u ≡ Err f)
    ⊎ ((cut : ElementText) × (element_cut (end - length u) u ≡ Ok cut) × (tag_of levels (end - length u) cut.tag ≡ Err f))
    ⊎ ((cut : ElementText) × (tag : Tag) × (element_cut (end - length u) u ≡ Ok cut) × (tag_of levels (end - length u) cut.tag ≡ Ok tag) × (inner ((end - length cut.rest) - length cut.end_tag) cut.inside ≡ Err f))

element_fails : (levels : ℕ) (inner : ℕ → List ℕ → Result (List Block) BlockFault) (end : ℕ) (u : List ℕ) (f : BlockFault) → element levels inner end u ≡ Err f → ElementFails levels inner end u f
unfolding element
element_fails levels inner end u f e = cut_case (then_err (element_cut (end - length u) u) _ f e)
  where
    content_case : (cut : ElementText) → element_cut (end - length u) u ≡ Ok cut → (tag : Tag) → tag_of levels (end - length u) cut.tag ≡ Ok tag
        → (inner ((end - length cut.rest) - length cut.end_tag) cut.inside ≡ Err f) ⊎ ((content : List Block) × (inner ((end - length cut.rest) - length cut.end_tag) cut.inside ≡ Ok content) × ◌≡◌ {A = Result (Block × List ℕ) BlockFault} (Ok (block.Element tag content cut.end_tag, cut.rest)) (Err f))
        → ElementFails levels inner end u f
    content_case cut c tag a (inl h) = inr (inr (cut, tag, c, a, h))
    content_case cut c tag a (inr x) = absurd (let never = x.2 in cc)

    tag_case : (cut : ElementText) → element_cut (end - length u) u ≡ Ok cut
        → (tag_of levels (end - length u) cut.tag ≡ Err f) ⊎ ((tag : Tag) × (tag_of levels (end - length u) cut.tag ≡ Ok tag) × ◌≡◌ {A = Result (Block × List ℕ) BlockFault} (inner ((end - length cut.rest) - length cut.end_tag) cut.inside then λ content. Ok (block.Element tag content cut.end_tag, cut.rest)) (Err f))
        → ElementFails levels inner end u f
    tag_case cut c (inl h) = inr (inl (cut, c, h))
    tag_case cut c (inr x) = content_case cut c x.0 x.1 (then_err (inner ((end - length cut.rest) - length cut.end_tag) cut.inside) _ f x.2)

    cut_case : (element_cut (end - length u) u ≡ Err f) ⊎ ((cut : ElementText) × (element_cut (end - length u) u ≡ Ok cut) × ◌≡◌ {A = Result (Block × List ℕ) BlockFault} (tag_of levels (end - length u) cut.tag then λ tag. inner ((end - length cut.rest) - length cut.end_tag) cut.inside then λ content. Ok (block.Element tag content cut.end_tag, cut.rest)) (Err f)) → ElementFails levels inner end u f
    cut_case (inl h) = inl h
    cut_case (inr x) = tag_case x.0 x.1 (then_err (tag_of levels (end - length u) x.0.tag) _ f x.2)

-- the fault of an element that was not read
element_fault : (levels place end : ℕ) (t : List ℕ) (x : FirstTag t) (f : BlockFault) → InsideFault levels → end ≡ place + length t → element levels (content_within levels) end (after_text_run t) ≡ Err f → FaultIn levels place t f
element_fault levels place end t x f inside e h = go (element_fails levels (content_within levels) end (after_text_run t) f h)
  where
    at : ℕ
    at = end - length (after_text_run t)

    at_is : at ≡ place + bytes_of x.before
    at_is = after_place t x place end e

    says : Cuts at x.tag x.rest (element_cut at (after_text_run t))
    says = cut_says at (after_text_run t) x.tag x.rest (first_parts t x) x.block

    of_tag : (n : ℕ) → n ≡ place + bytes_of x.before → TagFails levels n x.tag f → FaultIn levels place t f
    of_tag n q (inl w) = subst (FaultIn levels place t) (ap fault.BadBlock (sym q) ∙ w.1) (spelling.bad_block x w.0)
    of_tag n q (inr (inl w)) = subst (λ (l : ℕ). FaultIn l place t f) (sym w.0) (subst (FaultIn 0 place t) (ap fault.TooDeep (sym q) ∙ w.1) (spelling.too_deep x))
    of_tag n q (inr (inr w)) = subst (FaultIn levels place t) (ap (λ (k : ℕ). fault.Text (told_at k w.2)) (sym q) ∙ w.5) (spelling.of_start_tag x w.3 w.4)

    in_content : (cut : ElementText) → (w : (y : Element x.tag x.rest) × (cut ≡ cut_of x.tag x.rest y)) → (tag : Tag) → tag_of levels at cut.tag ≡ Ok tag → content_within levels ((end - length cut.rest) - length cut.end_tag) cut.inside ≡ Err f → FaultIn levels place t f
    in_content cut w tag a c =
        let y = w.0 in
        let s = tag_found levels at x.tag tag (ap (λ (k : ElementText). tag_of levels at k.tag) (sym w.1) ∙ a) in
        let c_is : content_within levels ((end - length (whole_text y.after)) - length y.end_tag) (whole_text y.inner) ≡ Err f = ap (λ (k : ElementText). content_within levels ((end - length k.rest) - length k.end_tag) k.inside) (sym w.1) ∙ c in
        let there = inside s.level s.more ((place + bytes_of x.before) + length x.tag) ((end - length (whole_text y.after)) - length y.end_tag) (whole_text y.inner) f (inside_end t x y place end e) c_is in
        subst (λ (l : ℕ). FaultIn l place t f) (sym s.more) (spelling.in_content x y there)

    go : ElementFails levels (content_within levels) end (after_text_run t) f → FaultIn levels place t f
    go (inl c) =
        let w = subst (Cuts at x.tag x.rest) c says in
        subst (FaultIn levels place t) (ap fault.OpenTag (sym at_is) ∙ sym w.0) (spelling.open_tag x w.1)
    go (inr (inl z)) =
        let w = subst (Cuts at x.tag x.rest) z.1 says in
        of_tag at at_is (tag_fails levels at x.tag f (ap (λ (k : ElementText). tag_of levels at k.tag) (sym w.1) ∙ z.2))
    go (inr (inr z)) = in_content z.0 (subst (Cuts at x.tag x.rest) z.2 says) z.1 z.3 z.4

fault_turns : (levels place end turns : ℕ) (found : List Block) (t : List ℕ) (f : BlockFault) → InsideFault levels → end ≡ place + length t → length t ≤ turns → blocks_read (element levels (content_within levels) end) end turns found t ≡ Err f → FaultIn levels place t f
fault_turns levels place end zero found t f inside e le h = absurd (let none = step_none (element levels (content_within levels) end) end found t in cc)
fault_turns levels place end (suc n) found t f inside e le h =
    go (run_blocks (end - length t) (run_of t)) refl (first_tag t)
    (λ (later : ℕ) (found_too : List Block) (u : List ℕ) (q : end ≡ later + length u) (l : length u ≤ n) (x : blocks_read (element levels (content_within levels) end) end n found_too u ≡ Err f). fault_turns levels later end n found_too u f inside q l x)
  where
    IH : Type 0
    IH = (later : ℕ) (found_too : List Block) (u : List ℕ) → end ≡ later + length u → length u ≤ n → blocks_read (element levels (content_within levels) end) end n found_too u ≡ Err f → FaultIn levels later u f

    here : end - length t ≡ place
    here = omega (arith, e)

    of_run : (g : BlockFault) → run_blocks (end - length t) (run_of t) ≡ Err g → g ≡ f → HasNoBlock (parts t) ⊎ FirstTag t → FaultIn levels place t f
    of_run g q same (inl plain) =
        let r = run_fault place t g (ap (λ (k : ℕ). run_blocks k t) (sym here) ∙ ap (run_blocks (end - length t)) (sym (run_plain t plain).0) ∙ q) in
        subst (FaultIn levels place t) (r.2 ∙ same) (spelling.of_text plain r.1)
    of_run g q same (inr x) =
        let r = run_fault place (whole_text x.before) g (ap (λ (k : ℕ). run_blocks k (whole_text x.before)) (sym here) ∙ ap (run_blocks (end - length t)) (sym (run_tag t x).0) ∙ q) in
        subst (FaultIn levels place t) (r.2 ∙ same) (spelling.of_leading_text x r.1)

    at_tag : (ws : List Block) → run_blocks (end - length t) (run_of t) ≡ Ok ws → (x : FirstTag t) → IH → (r : Result (Block × List ℕ) BlockFault) → element levels (content_within levels) end (after_text_run t) ≡ r → FaultIn levels place t f
    at_tag ws q x ih (Err g) c =
        let fails = step_one_fails (element levels (content_within levels) end) end n found ws t g q (first_some t x) c in
        let same : g ≡ f = cc in
        element_fault levels place end t x f inside e (c ∙ ap Err same)
    at_tag ws q x ih (Ok p) c =
        let o = one_says levels end t x p.0 p.1 c in
        let z = sizes t x o.y in
        let some = z.tag_some in
        let all = z.all in
        let size = length_text o.y.after in
        let read = sym (step_more (element levels (content_within levels) end) end n found ws t p.1 p.0 q (first_some t x) c) ∙ h in
        let read_after = subst (λ (u : List ℕ). blocks_read (element levels (content_within levels) end) end n ((found ++ ws) ++ p.0 ∷ []) u ≡ Err f) (sym o.rest_is) read in
        spelling.after_element x o.y (ih ((((place + bytes_of x.before) + length x.tag) + bytes_of o.y.inner) + length o.y.end_tag) ((found ++ ws) ++ p.0 ∷ []) (whole_text o.y.after) (omega (arith, e, all, size)) (omega (arith, some, all, size, le)) read_after)

    go : (r : Result (List Block) BlockFault) → run_blocks (end - length t) (run_of t) ≡ r → HasNoBlock (parts t) ⊎ FirstTag t → IH → FaultIn levels place t f
    go (Err g) q first ih = let fails = step_run_fails (element levels (content_within levels) end) end n found t g q in of_run g q (cc) first
    go (Ok ws) q (inl plain) ih = absurd (let ends = step_end (element levels (content_within levels) end) end n found ws t q (run_plain t plain).1 in cc)
    go (Ok ws) q (inr x) ih = at_tag ws q x ih (element levels (content_within levels) end (after_text_run t)) refl

fault_within : (levels : ℕ) → InsideFault levels
fault_within zero l q place end u f e h = absurd cc
fault_within (suc levels) l q place end u f e h =
    let same : levels ≡ l = omega (arith, q) in
    subst (λ (n : ℕ). FaultIn n place u f) same (fault_turns levels place end (length u) [] u f (fault_within levels) e (omega arith) (sym (within_is levels end u) ∙ h))

-- ---- no fault comes before the one that is told

-- a fault of a template is the last kind
text_kind : (place : ℕ) (f : TextFault) → 3 ≤ text_fault_kind (told_at place f)
text_kind place (text_fault.Unclosed n) = omega arith
text_kind place (text_fault.BadExpr n) = omega arith
text_kind place text_fault.NoMemory = omega arith

-- a step that fails by a fault which comes first
record Told (A : Type 0) (r : Result A BlockFault) (g : BlockFault) : Type 0 where
  pub f : BlockFault
  pub fails : r ≡ Err f
  pub first : ComesFirst f g

-- one turn over a text
abbrev TurnTold : (levels end n : ℕ) (found : List Block) (t : List ℕ) → BlockFault → Type 0
TurnTold levels end n found t g = Told (List Block) (blocks_read (element levels (content_within levels) end) end (suc n) found t) g

-- the text before a tag has no fault, or one that comes before those at and after the tag
past_run : (levels place end n : ℕ) (found : List Block) (t : List ℕ) (x : FirstTag t) (g : BlockFault) → end ≡ place + length t → place + bytes_of x.before ≤ block_fault_place g
    → ((ws : List Block) → run_blocks (end - length t) (run_of t) ≡ Ok ws → TurnTold levels end n found t g) → TurnTold levels end n found t g
past_run levels place end n found t x g e le next = go (run_blocks (end - length t) (run_of t)) refl
  where
    here : end - length t ≡ place
    here = omega (arith, e)

    go : (r : Result (List Block) BlockFault) → run_blocks (end - length t) (run_of t) ≡ r → TurnTold levels end n found t g
    go (Ok ws) q = next ws q
    go (Err f) q =
        let r = run_fault place (whole_text x.before) f (ap (λ (k : ℕ). run_blocks k (whole_text x.before)) (sym here) ∙ ap (run_blocks (end - length t)) (sym (run_tag t x).0) ∙ q) in
        let s = text_fault_stands place (whole_text x.before) r.0 r.1 in
        let below = s.below in
        let same : text_fault_place r.0 ≡ block_fault_place f = ap block_fault_place r.2 in
        let len = length_text x.before in
        record { f = f; fails = step_run_fails (element levels (content_within levels) end) end n found t f q; first = inl (omega (arith, below, same, len, le)) }

-- an element that fails ends the turn
of_element : (levels end n : ℕ) (found ws : List Block) (t : List ℕ) (x : FirstTag t) (g : BlockFault) → run_blocks (end - length t) (run_of t) ≡ Ok ws → Told (Block × List ℕ) (element levels (content_within levels) end (after_text_run t)) g → TurnTold levels end n found t g
of_element levels end n found ws t x g q o = record { f = o.f; fails = step_one_fails (element levels (content_within levels) end) end n found ws t o.f q (first_some t x) o.fails; first = o.first }

-- a fault of the tag itself: only that the tag is open comes before it
at_the_tag : (levels place end : ℕ) (t : List ℕ) (x : FirstTag t) (g : BlockFault) → end ≡ place + length t → block_fault_place g ≡ place + bytes_of x.before → 1 ≤ fault_kind g
    → Told Tag (tag_of levels (end - length (after_text_run t)) x.tag) g → Told (Block × List ℕ) (element levels (content_within levels) end (after_text_run t)) g
at_the_tag levels place end t x g e there kind o = go (element_cut (end - length (after_text_run t)) (after_text_run t)) refl (cut_says (end - length (after_text_run t)) (after_text_run t) x.tag x.rest (first_parts t x) x.block)
  where
    at_is : end - length (after_text_run t) ≡ place + bytes_of x.before
    at_is = after_place t x place end e

    go : (r : Result ElementText BlockFault) → element_cut (end - length (after_text_run t)) (after_text_run t) ≡ r → Cuts (end - length (after_text_run t)) x.tag x.rest r → Told (Block × List ℕ) (element levels (content_within levels) end (after_text_run t)) g
    go (Err f) c w =
        let place_is : block_fault_place f ≡ end - length (after_text_run t) = ap block_fault_place w.0 in
        let kind_is : fault_kind f ≡ 0 = ap fault_kind w.0 in
        record { f = f; fails = element_open levels (content_within levels) end (after_text_run t) (end - length (after_text_run t)) f refl c; first = inr (place_is ∙ at_is ∙ sym there, omega (arith, kind_is, kind)) }
    go (Ok cut) c w =
        record { f = o.f; fails = element_tag_fails levels (content_within levels) end (after_text_run t) (end - length (after_text_run t)) cut o.f refl c (ap (λ (k : ElementText). tag_of levels (end - length (after_text_run t)) k.tag) w.1 ∙ o.fails); first = o.first }

tag_none : (levels place : ℕ) (tag : List ℕ) → tag_attributes tag ≡ None → tag_of levels place tag ≡ Err (fault.BadBlock place)
unfolding tag_of
tag_none levels place tag e = rw e refl

tag_deep : (place : ℕ) (tag : List ℕ) (a : Attributes) (kept : List ℕ) → tag_attributes tag ≡ Some (a, kept) → tag_of zero place tag ≡ Err (fault.TooDeep place)
unfolding tag_of
tag_deep place tag a kept e = rw e refl

tag_start : (levels place : ℕ) (tag : List ℕ) (a : Attributes) (kept : List ℕ) (f : TextFault) → tag_attributes tag ≡ Some (a, kept) → template_of kept ≡ Err f → tag_of (suc levels) place tag ≡ Err (fault.Text (told_at place f))
unfolding tag_of
tag_start levels place tag a kept f e q = rw (e, suc_is_not_zero levels, q) refl

too_deep_told : (place at : ℕ) (tag : List ℕ) → at ≡ place → Told Tag (tag_of zero at tag) (fault.TooDeep place)
too_deep_told place at tag same = go (tag_attributes tag) refl
  where
    go : (o : Option (Attributes × List ℕ)) → tag_attributes tag ≡ o → Told Tag (tag_of zero at tag) (fault.TooDeep place)
    go None e = record { f = fault.BadBlock at; fails = tag_none zero at tag e; first = inr (same, omega arith) }
    go (Some x) e = record { f = fault.TooDeep at; fails = tag_deep at tag x.0 x.1 e; first = inr (same, omega arith) }

start_told : (levels place at : ℕ) (tag kept : List ℕ) (a : Attributes) (f : TextFault) → at ≡ place → tag_attributes tag ≡ Some (a, kept) → template_of kept ≡ Err f → Told Tag (tag_of levels at tag) (fault.Text (told_at place f))
start_told zero place at tag kept a f same e q =
    let kind = text_kind place f in
    let there = told_place place kept f q in
    record { f = fault.TooDeep at; fails = tag_deep at tag a kept e; first = inr (same ∙ sym there, omega (arith, kind)) }
start_told (suc levels) place at tag kept a f same e q =
    let alike : fault.Text (told_at at f) ≡ fault.Text (told_at place f) = ap (λ (n : ℕ). fault.Text (told_at n f)) same in
    record { f = fault.Text (told_at at f); fails = tag_start levels at tag a kept f e q; first = inr (ap block_fault_place alike, let kinds = ap fault_kind alike in omega (arith, kinds)) }

-- a fault after the tag: a fault of the tag comes before it
past_tag : (levels place end n : ℕ) (found : List Block) (t : List ℕ) (x : FirstTag t) (y : Element x.tag x.rest) (g : BlockFault) → end ≡ place + length t → place + bytes_of x.before < block_fault_place g
    → ((ws : List Block) → run_blocks (end - length t) (run_of t) ≡ Ok ws → (tag : Tag) → tag_of levels (end - length (after_text_run t)) x.tag ≡ Ok tag → TurnTold levels end n found t g) → TurnTold levels end n found t g
past_tag levels place end n found t x y g e lt next = past_run levels place end n found t x g e (omega (arith, lt)) (λ (ws : List Block) (q : run_blocks (end - length t) (run_of t) ≡ Ok ws). go ws q (tag_of levels (end - length (after_text_run t)) x.tag) refl)
  where
    at_is : end - length (after_text_run t) ≡ place + bytes_of x.before
    at_is = after_place t x place end e

    go : (ws : List Block) → run_blocks (end - length t) (run_of t) ≡ Ok ws → (r : Result Tag BlockFault) → tag_of levels (end - length (after_text_run t)) x.tag ≡ r → TurnTold levels end n found t g
    go ws q (Ok tag) h = next ws q tag h
    go ws q (Err f) h =
        let low = tag_fault_place levels (end - length (after_text_run t)) x.tag f h in
        of_element levels end n found ws t x g q (record {
          f = f;
          fails = element_tag_fails levels (content_within levels) end (after_text_run t) (end - length (after_text_run t)) (cut_of x.tag x.rest y) f refl (cut_only (end - length (after_text_run t)) (after_text_run t) x.tag x.rest (first_parts t x) x.block y) h;
          first = inl (omega (arith, low, at_is, lt));
        })

-- a fault of the content ends the element
content_fails : (levels end : ℕ) (t : List ℕ) (x : FirstTag t) (y : Element x.tag x.rest) (tag : Tag) (f : BlockFault) → tag_of levels (end - length (after_text_run t)) x.tag ≡ Ok tag → content_within levels ((end - length (whole_text y.after)) - length y.end_tag) (whole_text y.inner) ≡ Err f → element levels (content_within levels) end (after_text_run t) ≡ Err f
content_fails levels end t x y tag f a c =
    element_content_fails levels (content_within levels) end (after_text_run t) (end - length (after_text_run t)) ((end - length (whole_text y.after)) - length y.end_tag) (cut_of x.tag x.rest y) tag f refl refl (cut_only (end - length (after_text_run t)) (after_text_run t) x.tag x.rest (first_parts t x) x.block y) a c

-- an element without its end tag
open_told : (levels place end : ℕ) (t : List ℕ) (x : FirstTag t) → end ≡ place + length t → (Element x.tag x.rest → ⊥) → Told (Block × List ℕ) (element levels (content_within levels) end (after_text_run t)) (fault.OpenTag (place + bytes_of x.before))
open_told levels place end t x e none = go (element_cut (end - length (after_text_run t)) (after_text_run t)) refl (cut_says (end - length (after_text_run t)) (after_text_run t) x.tag x.rest (first_parts t x) x.block)
  where
    go : (r : Result ElementText BlockFault) → element_cut (end - length (after_text_run t)) (after_text_run t) ≡ r → Cuts (end - length (after_text_run t)) x.tag x.rest r → Told (Block × List ℕ) (element levels (content_within levels) end (after_text_run t)) (fault.OpenTag (place + bytes_of x.before))
    go (Ok cut) c w = absurd (none w.0)
    go (Err f) c w =
        let kind_is : fault_kind f ≡ 0 = ap fault_kind w.0 in
        record { f = f; fails = element_open levels (content_within levels) end (after_text_run t) (end - length (after_text_run t)) f refl c; first = inr (ap block_fault_place w.0 ∙ after_place t x place end e, omega (arith, kind_is)) }

-- a fault within content, or one of the content that comes before it
content_told : (levels end : ℕ) (t : List ℕ) (x : FirstTag t) (y : Element x.tag x.rest) (tag : Tag) (g : BlockFault) → tag_of (suc levels) (end - length (after_text_run t)) x.tag ≡ Ok tag
    → Told (List Block) (content_within (suc levels) ((end - length (whole_text y.after)) - length y.end_tag) (whole_text y.inner)) g → Told (Block × List ℕ) (element (suc levels) (content_within (suc levels)) end (after_text_run t)) g
content_told levels end t x y tag g a o = record { f = o.f; fails = content_fails (suc levels) end t x y tag o.f a o.fails; first = o.first }

-- a fault after an element, or one of its content
after_told : (levels place end n : ℕ) (found ws : List Block) (t : List ℕ) (x : FirstTag t) (y : Element x.tag x.rest) (tag : Tag) (g : BlockFault) → end ≡ place + length t → run_blocks (end - length t) (run_of t) ≡ Ok ws → tag_of levels (end - length (after_text_run t)) x.tag ≡ Ok tag
    → (((place + bytes_of x.before) + length x.tag) + bytes_of y.inner) + length y.end_tag ≤ block_fault_place g
    → ((found_too : List Block) → Told (List Block) (blocks_read (element levels (content_within levels) end) end n found_too (whole_text y.after)) g)
    → TurnTold levels end n found t g
after_told levels place end n found ws t x y tag g e q a le later = go (content_within levels ((end - length (whole_text y.after)) - length y.end_tag) (whole_text y.inner)) refl
  where
    says : TagSays levels x.tag tag
    says = tag_found levels (end - length (after_text_run t)) x.tag tag a

    go : (r : Result (List Block) BlockFault) → content_within levels ((end - length (whole_text y.after)) - length y.end_tag) (whole_text y.inner) ≡ r → TurnTold levels end n found t g
    go (Err f) c =
        let there = fault_within levels says.level says.more ((place + bytes_of x.before) + length x.tag) ((end - length (whole_text y.after)) - length y.end_tag) (whole_text y.inner) f (inside_end t x y place end e) c in
        let lies = fault_lies says.level ((place + bytes_of x.before) + length x.tag) (whole_text y.inner) f there in
        let below = lies.below in
        let len = length_text y.inner in
        of_element levels end n found ws t x g q (record { f = f; fails = content_fails levels end t x y tag f a c; first = inl (omega (arith, below, len, le)) })
    go (Ok content) c =
        let one_is = element_is levels (content_within levels) end (after_text_run t) (end - length (after_text_run t)) ((end - length (whole_text y.after)) - length y.end_tag) (cut_of x.tag x.rest y) tag content refl refl (cut_only (end - length (after_text_run t)) (after_text_run t) x.tag x.rest (first_parts t x) x.block y) a c in
        let step = step_more (element levels (content_within levels) end) end n found ws t (whole_text y.after) (block.Element tag content y.end_tag) q (first_some t x) one_is in
        let o = later ((found ++ ws) ++ block.Element tag content y.end_tag ∷ []) in
        record { f = o.f; fails = step ∙ o.fails; first = o.first }

first_turns : (levels place : ℕ) (t : List ℕ) (g : BlockFault) → FaultIn levels place t g → (end n : ℕ) (found : List Block) → end ≡ place + length t → length t ≤ suc n → TurnTold levels end n found t g
first_turns levels place t _ (spelling.of_text {f = f} h b) end n found e le =
    let here : end - length t ≡ place = omega (arith, e) in
    let fails = run_fails place t f b in
    record { f = fault.Text f; fails = step_run_fails (element levels (content_within levels) end) end n found t (fault.Text f) (ap (run_blocks (end - length t)) (run_plain t h).0 ∙ ap (λ (k : ℕ). run_blocks k t) here ∙ fails); first = inr (refl, omega arith) }
first_turns levels place t _ (spelling.of_leading_text {f = f} x b) end n found e le =
    let here : end - length t ≡ place = omega (arith, e) in
    let fails = run_fails place (whole_text x.before) f b in
    record { f = fault.Text f; fails = step_run_fails (element levels (content_within levels) end) end n found t (fault.Text f) (ap (run_blocks (end - length t)) (run_tag t x).0 ∙ ap (λ (k : ℕ). run_blocks k (whole_text x.before)) here ∙ fails); first = inr (refl, omega arith) }
first_turns levels place t _ (spelling.open_tag x none) end n found e le =
    past_run levels place end n found t x (fault.OpenTag (place + bytes_of x.before)) e (omega arith)
    (λ (ws : List Block) (q : run_blocks (end - length t) (run_of t) ≡ Ok ws). of_element levels end n found ws t x (fault.OpenTag (place + bytes_of x.before)) q (open_told levels place end t x e none))
first_turns levels place t _ (spelling.bad_block x none) end n found e le =
    past_run levels place end n found t x (fault.BadBlock (place + bytes_of x.before)) e (omega arith)
    (λ (ws : List Block) (q : run_blocks (end - length t) (run_of t) ≡ Ok ws). of_element levels end n found ws t x (fault.BadBlock (place + bytes_of x.before)) q
    (at_the_tag levels place end t x (fault.BadBlock (place + bytes_of x.before)) e refl (omega arith) (record { f = fault.BadBlock (end - length (after_text_run t)); fails = tag_none levels (end - length (after_text_run t)) x.tag none; first = inr (after_place t x place end e, omega arith) })))
first_turns _ place t _ (spelling.too_deep x) end n found e le =
    past_run zero place end n found t x (fault.TooDeep (place + bytes_of x.before)) e (omega arith)
    (λ (ws : List Block) (q : run_blocks (end - length t) (run_of t) ≡ Ok ws). of_element zero end n found ws t x (fault.TooDeep (place + bytes_of x.before)) q
    (at_the_tag zero place end t x (fault.TooDeep (place + bytes_of x.before)) e refl (omega arith) (too_deep_told (place + bytes_of x.before) (end - length (after_text_run t)) x.tag (after_place t x place end e))))
first_turns levels place t _ (spelling.of_start_tag {kept = kept} {a = a} {f = f} x s b) end n found e le =
    let there = told_place (place + bytes_of x.before) kept f b in
    let kind = text_kind (place + bytes_of x.before) f in
    past_run levels place end n found t x (fault.Text (told_at (place + bytes_of x.before) f)) e (omega (arith, there))
    (λ (ws : List Block) (q : run_blocks (end - length t) (run_of t) ≡ Ok ws). of_element levels end n found ws t x (fault.Text (told_at (place + bytes_of x.before) f)) q
    (at_the_tag levels place end t x (fault.Text (told_at (place + bytes_of x.before) f)) e there (omega (arith, kind)) (start_told levels (place + bytes_of x.before) (end - length (after_text_run t)) x.tag kept a f (after_place t x place end e) s b)))
first_turns _ place t g (spelling.in_content {levels = levels} x y d) end n found e le =
    let lies = fault_lies levels ((place + bytes_of x.before) + length x.tag) (whole_text y.inner) g d in
    let from = lies.from in
    let below = lies.below in
    let some = tag_nonempty t x in
    let at : ℕ = (end - length (whole_text y.after)) - length y.end_tag in
    let len : suc (length (whole_text y.inner) - 1) ≡ length (whole_text y.inner) = omega (arith, from, below) in
    let ih = first_turns levels ((place + bytes_of x.before) + length x.tag) (whole_text y.inner) g d ((end - length (whole_text y.after)) - length y.end_tag) (length (whole_text y.inner) - 1) [] (inside_end t x y place end e) (omega (arith, len)) in
    let whole = subst (λ (k : ℕ). Told (List Block) (blocks_read (element levels (content_within levels) ((end - length (whole_text y.after)) - length y.end_tag)) ((end - length (whole_text y.after)) - length y.end_tag) k [] (whole_text y.inner)) g) len ih in
    let inside : Told (List Block) (content_within (suc levels) ((end - length (whole_text y.after)) - length y.end_tag) (whole_text y.inner)) g = record { f = whole.f; fails = within_is levels ((end - length (whole_text y.after)) - length y.end_tag) (whole_text y.inner) ∙ whole.fails; first = whole.first } in
    past_tag (suc levels) place end n found t x y g e (omega (arith, from, some))
    (λ (ws : List Block) (q : run_blocks (end - length t) (run_of t) ≡ Ok ws) (tag : Tag) (a : tag_of (suc levels) (end - length (after_text_run t)) x.tag ≡ Ok tag). of_element (suc levels) end n found ws t x g q (content_told levels end t x y tag g a inside))
first_turns levels place t g (spelling.after_element x y d) end n found e le =
    let lies = fault_lies levels ((((place + bytes_of x.before) + length x.tag) + bytes_of y.inner) + length y.end_tag) (whole_text y.after) g d in
    let from = lies.from in
    let below = lies.below in
    let z = sizes t x y in
    let some = z.tag_some in
    let all = z.all in
    let size = length_text y.after in
    let more : suc (n - 1) ≡ n = omega (arith, from, below, some, all, size, le) in
    let ih : (found_too : List Block) → Told (List Block) (blocks_read (element levels (content_within levels) end) end (suc (n - 1)) found_too (whole_text y.after)) g
    = λ found_too. first_turns levels ((((place + bytes_of x.before) + length x.tag) + bytes_of y.inner) + length y.end_tag) (whole_text y.after) g d end (n - 1) found_too (omega (arith, e, all, size)) (omega (arith, some, all, size, le, more)) in
    let later : (found_too : List Block) → Told (List Block) (blocks_read (element levels (content_within levels) end) end n found_too (whole_text y.after)) g
    = λ found_too. subst (λ (k : ℕ). Told (List Block) (blocks_read (element levels (content_within levels) end) end k found_too (whole_text y.after)) g) more (ih found_too) in
    past_tag levels place end n found t x y g e (omega (arith, from, some))
    (λ (ws : List Block) (q : run_blocks (end - length t) (run_of t) ≡ Ok ws) (tag : Tag) (a : tag_of levels (end - length (after_text_run t)) x.tag ≡ Ok tag). after_told levels place end n found ws t x y tag g e q a from later)

-- ---- the fault of a whole script

told : (t : List ℕ) (g : BlockFault) → FaultIn 32 0 t g → Told (List Block) (blocks_of t) g
told t g d =
    let lies = fault_lies 32 0 t g d in
    let from = lies.from in
    let below = lies.below in
    let len : suc (length t - 1) ≡ length t = omega (arith, from, below) in
    let o = first_turns 32 0 t g d (length t) (length t - 1) [] (omega arith) (omega (arith, len)) in
    let whole = subst (λ (k : ℕ). Told (List Block) (blocks_read (element 32 (content_within 32) (length t)) (length t) k [] t) g) len o in
    record { f = whole.f; fails = within_is 32 (length t) t ∙ whole.fails; first = whole.first }

fault_there : (t : List ℕ) (f : BlockFault) → blocks_of t ≡ Err f → FaultIn 32 0 t f
fault_there t f e = fault_within 33 32 refl 0 (length t) t f (omega arith) e

-- the fault that is told is the first
pub fault_is_first : (t : List ℕ) (f : BlockFault) → blocks_of t ≡ Err f → IsFirstFault 32 t f
fault_is_first t f e = record { there = fault_there t f e; first = λ g d. before_it g (told t g d) }
  where
    before_it : (g : BlockFault) → Told (List Block) (blocks_of t) g → ComesFirst f g
    before_it g o = let fails = o.fails in let same : o.f ≡ f = cc in subst (λ (h : BlockFault). ComesFirst h g) same o.first

-- a fault by its kind and its place
abbrev fault_by : ℕ → ℕ → BlockFault
fault_by zero n = fault.OpenTag n
fault_by (suc zero) n = fault.BadBlock n
fault_by (suc (suc zero)) n = fault.TooDeep n
fault_by (suc (suc (suc zero))) n = fault.Text (text_fault.Unclosed n)
fault_by (suc (suc (suc (suc zero)))) n = fault.Text (text_fault.BadExpr n)
fault_by (suc (suc (suc (suc (suc zero))))) n = fault.Text text_fault.NoMemory
fault_by (suc (suc (suc (suc (suc (suc k)))))) n = fault.NoMemory

by_kind : (f : BlockFault) → fault_by (fault_kind f) (block_fault_place f) ≡ f
by_kind (fault.OpenTag n) = refl
by_kind (fault.BadBlock n) = refl
by_kind (fault.TooDeep n) = refl
by_kind (fault.Text (text_fault.Unclosed n)) = refl
by_kind (fault.Text (text_fault.BadExpr n)) = refl
by_kind (fault.Text text_fault.NoMemory) = refl
by_kind fault.NoMemory = refl

both_first : (f g : BlockFault) → ComesFirst f g → ComesFirst g f → f ≡ g
both_first f g (inl a) (inl b) = absurd (omega (arith, a, b))
both_first f g (inl a) (inr b) = absurd (let same = b.0 in omega (arith, a, same))
both_first f g (inr a) (inl b) = absurd (let same = a.0 in omega (arith, b, same))
both_first f g (inr a) (inr b) =
    let x = a.1 in
    let y = b.1 in
    let kinds : fault_kind f ≡ fault_kind g = omega (arith, x, y) in
    sym (by_kind f) ∙ ap (λ (k : ℕ). fault_by k (block_fault_place f)) kinds ∙ ap (fault_by (fault_kind g)) a.0 ∙ by_kind g

-- the first fault is told
pub first_is_told : (t : List ℕ) (f : BlockFault) → IsFirstFault 32 t f → blocks_of t ≡ Err f
first_is_told t f x =
    let o = told t f x.there in
    let back = x.first o.f (fault_there t o.f o.fails) in
    o.fails ∙ ap Err (both_first o.f f o.first back)
