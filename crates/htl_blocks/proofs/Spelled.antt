-- What is read is what the text spells, and the other way round.
use Rattle.std.proofs.Common.{◌⊎◌, ◌≡◌, ◌<◌, ◌≤◌, ◌+◌, ◌-◌, ℕ, zero, suc, true, List, [], ◌∷◌, ◌++◌, length, Option, Some, None, Result, Ok, Err, refl, ap, sym, subst, ◌∙◌, arith, append_assoc, inl, inr}
use Rattle.sp_base.specs.Bytes.{begins_with_byte}
use Rattle.sp_base.proofs.NatLemmas.{suc_is_not_zero}
use Rattle.htl_text.specs.declared.piece.TemplatePiece.{TemplatePiece}
use Rattle.htl_text.specs.declared.fault.TextFault.{TextFault}
use Rattle.htl_text.specs.Template.{template_of, read_from_place}
use Rattle.htl_blocks.specs.declared.fault.BlockFault.{BlockFault}
use Rattle.htl_blocks.specs.declared.attribute.Attributes.{Attributes}
use Rattle.htl_blocks.specs.declared.block.Block.{Block}
use Rattle.htl_blocks.specs.declared.block.Block.TheVariants as block
use Rattle.htl_blocks.specs.declared.block.Tag.{Tag}
use Rattle.htl_blocks.specs.ElementText.{ElementText}
use Rattle.htl_blocks.specs.Markup.{parts, parts_after, begins_tag}
use Rattle.htl_blocks.specs.Attributes.{is_block_tag, tag_attributes}
use Rattle.htl_blocks.specs.Reading.{◌then◌, run_of, after_text_run, text_block, run_blocks, to_element, element_cut, tag_of, known_tag, start_tag, element, blocks_read, content_within, blocks_of}
use Rattle.htl_blocks.specs.Laws.{HasNoBlock, bytes_of}
use Rattle.htl_blocks.specs.Laws as laws
use Rattle.htl_blocks.specs.Spelling.{whole_text, FirstTag, Element, SpellsText, SpellsBlocks}
use Rattle.htl_blocks.specs.Spelling as spelling
use Rattle.htl_blocks.proofs.Turns.{within_is, element_is}
use Rattle.htl_blocks.proofs.Split.{cut_of, cut_only, cut_says, Cuts, first_tag, run_plain, run_tag, parts_suffix, length_parts, length_text, head_part}

-- ---- texts without a block tag

pub run_only : (place : ℕ) (t : List ℕ) (ws : List Block) → SpellsText t ws → run_blocks place t ≡ Ok ws
unfolding run_blocks
run_only place _ _ spelling.no_text = refl
run_only place _ _ (spelling.template e) = rw e refl

pub run_found : (place : ℕ) (t : List ℕ) (ws : List Block) → run_blocks place t ≡ Ok ws → SpellsText t ws
unfolding run_blocks
run_found place [] ws e = let same : [] ≡ ws = cc in subst (λ (bs : List Block). SpellsText [] bs) same spelling.no_text
run_found place (c ∷ t) ws e = go (template_of (c ∷ t)) refl e
  where
    go : (r : Result (List TemplatePiece) TextFault) → template_of (c ∷ t) ≡ r → text_block (read_from_place place r) ≡ Ok ws → SpellsText (c ∷ t) ws
    go (Ok ps) a b = let same : block.Text ps ∷ [] ≡ ws = cc in subst (λ (bs : List Block). SpellsText (c ∷ t) bs) same (spelling.template a)
    go (Err f) a b = absurd cc

append_none : (found : List Block) → found ≡ found ++ []
append_none [] = refl
append_none (b ∷ found) = ap (λ (bs : List Block). b ∷ bs) (append_none found)

no_parts : HasNoBlock (parts [])
unfolding parts_after
no_parts = laws.none

-- ---- one turn

pub step_more : (one : List ℕ → Result (Block × List ℕ) BlockFault) (end turns : ℕ) (found ws : List Block) (t later : List ℕ) (b : Block) → run_blocks (end - length t) (run_of t) ≡ Ok ws → 0 < length (after_text_run t) → one (after_text_run t) ≡ Ok (b, later)
    → blocks_read one end (suc turns) found t ≡ blocks_read one end turns ((found ++ ws) ++ b ∷ []) later
unfolding blocks_read
step_more one end turns found ws t later b run some e = rw run (next (after_text_run t) some e)
  where
    next : (u : List ℕ) → 0 < length u → one u ≡ Ok (b, later) → to_element one (blocks_read one end turns) (found ++ ws) u ≡ blocks_read one end turns ((found ++ ws) ++ b ∷ []) later
    next [] s x = absurd (omega (arith, s))
    next (c ∷ u) s x = rw x refl

pub step_end : (one : List ℕ → Result (Block × List ℕ) BlockFault) (end turns : ℕ) (found ws : List Block) (t : List ℕ) → run_blocks (end - length t) (run_of t) ≡ Ok ws → after_text_run t ≡ []
    → blocks_read one end (suc turns) found t ≡ Ok (found ++ ws)
unfolding blocks_read
step_end one end turns found ws t run none = rw (run, none) refl

pub step_run_fails : (one : List ℕ → Result (Block × List ℕ) BlockFault) (end turns : ℕ) (found : List Block) (t : List ℕ) (f : BlockFault) → run_blocks (end - length t) (run_of t) ≡ Err f → blocks_read one end (suc turns) found t ≡ Err f
unfolding blocks_read
step_run_fails one end turns found t f run = rw run refl

pub step_one_fails : (one : List ℕ → Result (Block × List ℕ) BlockFault) (end turns : ℕ) (found ws : List Block) (t : List ℕ) (f : BlockFault) → run_blocks (end - length t) (run_of t) ≡ Ok ws → 0 < length (after_text_run t) → one (after_text_run t) ≡ Err f
    → blocks_read one end (suc turns) found t ≡ Err f
unfolding blocks_read
step_one_fails one end turns found ws t f run some e = rw run (next (after_text_run t) some e)
  where
    next : (u : List ℕ) → 0 < length u → one u ≡ Err f → to_element one (blocks_read one end turns) (found ++ ws) u ≡ Err f
    next [] s x = absurd (omega (arith, s))
    next (c ∷ u) s x = rw x refl

pub step_none : (one : List ℕ → Result (Block × List ℕ) BlockFault) (end : ℕ) (found : List Block) (t : List ℕ) → blocks_read one end zero found t ≡ Ok found
unfolding blocks_read
step_none one end found t = refl

-- ---- what the first block tag of a text says of sizes

-- the sizes of the parts of a text with an element
pub record Sizes (t : List ℕ) (x : FirstTag t) (y : Element x.tag x.rest) : Type 0 where
  pub tag_some : 1 ≤ length x.tag
  pub all : length t ≡ ((bytes_of x.before + length x.tag) + bytes_of y.inner) + (length y.end_tag + bytes_of y.after)

closed_size : (tag : List ℕ) (rest inner after : List (List ℕ)) (end_tag : List ℕ) → spelling.Closed tag rest inner end_tag after → bytes_of rest ≡ bytes_of inner + (length end_tag + bytes_of after)
closed_size tag rest _ _ _ (spelling.without_content h) = let same : bytes_of rest ≡ 0 + (0 + bytes_of rest) = omega arith in same
closed_size tag _ _ _ _ (spelling.by_end_tag {inner = inner} {after = after} {end_tag = end_tag} h b c) = both inner
  where
    both : (a : List (List ℕ)) → bytes_of (a ++ end_tag ∷ after) ≡ bytes_of a + (length end_tag + bytes_of after)
    both [] = let same : length end_tag + bytes_of after ≡ 0 + (length end_tag + bytes_of after) = omega arith in same
    both (p ∷ a) = let ih = both a in omega (arith, ih)

pub first_parts : (t : List ℕ) (x : FirstTag t) → parts (after_text_run t) ≡ x.tag ∷ x.rest
first_parts t x = ap parts (run_tag t x).1 ∙ parts_suffix x.before (x.tag ∷ x.rest) t x.split

pub first_some : (t : List ℕ) (x : FirstTag t) → 0 < length (after_text_run t)
first_some t x = (head_part (after_text_run t) x.tag x.rest (first_parts t x)).0

block_nonempty : (tag : List ℕ) → is_block_tag tag ≡ true → 1 ≤ length tag
unfolding is_block_tag begins_tag begins_with_byte
block_nonempty [] h = absurd cc
block_nonempty (c ∷ tag) h = omega arith

pub tag_nonempty : (t : List ℕ) (x : FirstTag t) → 1 ≤ length x.tag
tag_nonempty t x = block_nonempty x.tag x.block

pub first_size : (t : List ℕ) (x : FirstTag t) → length t ≡ bytes_of x.before + (length x.tag + bytes_of x.rest)
first_size t x = length_parts x.before (x.tag ∷ x.rest) t x.split

pub sizes : (t : List ℕ) (x : FirstTag t) (y : Element x.tag x.rest) → Sizes t x y
sizes t x y =
    let all = first_size t x in
    let rest = closed_size x.tag x.rest y.inner y.after y.end_tag y.closed in
    record { tag_some = tag_nonempty t x; all = omega (arith, all, rest) }

-- the text after a block tag is after its first byte
pub after_place : (t : List ℕ) (x : FirstTag t) (place end : ℕ) → end ≡ place + length t → end - length (after_text_run t) ≡ place + bytes_of x.before
after_place t x place end e =
    let all = first_size t x in
    let size : length (after_text_run t) ≡ length x.tag + bytes_of x.rest = ap length (run_tag t x).1 ∙ length_text (x.tag ∷ x.rest) in
    omega (arith, all, size, e)

-- ---- the tag of an element

pub tag_only : (levels place : ℕ) (tag kept : List ℕ) (a : Attributes) (start : List TemplatePiece) → tag_attributes tag ≡ Some (a, kept) → template_of kept ≡ Ok start → tag_of (suc levels) place tag ≡ Ok (record { attributes = a; start = start })
unfolding tag_of
tag_only levels place tag kept a start e f = rw (e, suc_is_not_zero levels, f) refl

-- what a tag that has a reading says
pub record TagSays (levels : ℕ) (tag : List ℕ) (x : Tag) : Type 0 where
  pub level : ℕ
  pub more : levels ≡ suc level
  pub kept : List ℕ
  pub says : tag_attributes tag ≡ Some (x.attributes, kept)
  pub reads : template_of kept ≡ Ok x.start

pub tag_found : (levels place : ℕ) (tag : List ℕ) (x : Tag) → tag_of levels place tag ≡ Ok x → TagSays levels tag x
unfolding tag_of
tag_found levels place tag x e = go levels refl (tag_attributes tag) refl e
  where
    read : (n : ℕ) → levels ≡ suc n → (a : Attributes × List ℕ) → tag_attributes tag ≡ Some a → (r : Result (List TemplatePiece) TextFault) → template_of a.1 ≡ r → start_tag place a.0 r ≡ Ok x → TagSays levels tag x
    read n l a s (Ok ps) q h = let same : (record { attributes = a.0; start = ps }) ≡ x = cc in subst (λ (y : Tag). TagSays levels tag y) same (record { level = n; more = l; kept = a.1; says = s; reads = q })
    read n l a s (Err f) q h = absurd cc

    go : (n : ℕ) → levels ≡ n → (o : Option (Attributes × List ℕ)) → tag_attributes tag ≡ o → known_tag n place o ≡ Ok x → TagSays levels tag x
    go n l None s h = absurd cc
    go zero l (Some a) s h = absurd cc
    go (suc n) l (Some a) s h = read n l a s (template_of a.1) refl (rw suc_is_not_zero at h)

-- ---- what the text spells is read

pub spelled_turns : (levels : ℕ) (t : List ℕ) (bs : List Block) → SpellsBlocks levels t bs → (end turns : ℕ) (found : List Block) → length t ≤ turns
    → blocks_read (element levels (content_within levels) end) end turns found t ≡ Ok (found ++ bs)
spelled_turns levels t bs (spelling.no_element h s) end turns found le = plain t turns h s le
  where
    none : (bs : List Block) → SpellsText [] bs → [] ≡ bs
    none _ spelling.no_text = refl

    plain : (t : List ℕ) (turns : ℕ) → HasNoBlock (parts t) → SpellsText t bs → length t ≤ turns → blocks_read (element levels (content_within levels) end) end turns found t ≡ Ok (found ++ bs)
    plain [] zero h s le = step_none (element levels (content_within levels) end) end found [] ∙ ap Ok (append_none found ∙ ap (λ (ws : List Block). found ++ ws) (none bs s))
    plain (c ∷ t) zero h s le = absurd (omega (arith, le))
    plain t (suc turns) h s le =
        let r = run_plain t h in
        step_end (element levels (content_within levels) end) end turns found bs t (ap (run_blocks (end - length t)) r.0 ∙ run_only (end - length t) t bs s) r.1
spelled_turns _ t _ (spelling.element {levels = levels} {kept = kept} {words = words} {content = content} {more = more} {a = a} {start = start} x y s ea es c m) end turns found le =
    go turns le (λ (at : ℕ). spelled_turns levels (whole_text y.inner) content c at (length (whole_text y.inner)) [] (omega arith)) (λ (n : ℕ) (found_too : List Block) (l : length (whole_text y.after) ≤ n). spelled_turns (suc levels) (whole_text y.after) more m end n found_too l)
  where
    at : ℕ
    at = (end - length (whole_text y.after)) - length y.end_tag

    b : Block
    b = block.Element (record { attributes = a; start = start }) content y.end_tag

    run : run_blocks (end - length t) (run_of t) ≡ Ok words
    run = ap (run_blocks (end - length t)) (run_tag t x).0 ∙ run_only (end - length t) (whole_text x.before) words s

    one_is : content_within (suc levels) at (whole_text y.inner) ≡ Ok content → element (suc levels) (content_within (suc levels)) end (after_text_run t) ≡ Ok (b, whole_text y.after)
    one_is e =
        element_is (suc levels) (content_within (suc levels)) end (after_text_run t) (end - length (after_text_run t)) at (cut_of x.tag x.rest y) (record { attributes = a; start = start }) content refl refl
        (cut_only (end - length (after_text_run t)) (after_text_run t) x.tag x.rest (first_parts t x) x.block y)
        (tag_only levels (end - length (after_text_run t)) x.tag kept a start ea es)
        e

    go : (turns : ℕ) → length t ≤ turns
        → ((at : ℕ) → blocks_read (element levels (content_within levels) at) at (length (whole_text y.inner)) [] (whole_text y.inner) ≡ Ok ([] ++ content))
        → ((n : ℕ) (found_too : List Block) → length (whole_text y.after) ≤ n → blocks_read (element (suc levels) (content_within (suc levels)) end) end n found_too (whole_text y.after) ≡ Ok (found_too ++ more))
        → blocks_read (element (suc levels) (content_within (suc levels)) end) end turns found t ≡ Ok (found ++ (words ++ b ∷ more))
    go zero le inside later = absurd (let z = sizes t x y in let some = z.tag_some in let all = z.all in omega (arith, some, all, le))
    go (suc n) le inside later =
        let z = sizes t x y in
        let some = z.tag_some in
        let all = z.all in
        let size = length_text y.after in
        step_more (element (suc levels) (content_within (suc levels)) end) end n found words t (whole_text y.after) b run (first_some t x) (one_is (within_is levels at (whole_text y.inner) ∙ inside at))
        ∙ later n ((found ++ words) ++ b ∷ []) (omega (arith, some, all, size, le))
        ∙ ap Ok (append_assoc (found ++ words) (b ∷ []) more ∙ append_assoc found words (b ∷ more))

pub spelled_is_read : (t : List ℕ) (bs : List Block) → SpellsBlocks 32 t bs → blocks_of t ≡ Ok bs
spelled_is_read t bs x = within_is 32 (length t) t ∙ spelled_turns 32 t bs x (length t) (length t) [] (omega arith)

-- ---- what is read is what the text spells

pub then_ok : {A B : Type 0} (r : Result A BlockFault) (f : A → Result B BlockFault) (y : B) → r then f ≡ Ok y → (x : A) × (r ≡ Ok x) × (f x ≡ Ok y)
then_ok (Ok x) f y e = (x, refl, e)
then_ok (Err g) f y e = absurd cc

pair_is : (b c : Block) (r s : List ℕ) → ◌≡◌ {A = Result (Block × List ℕ) BlockFault} (Ok (b, r)) (Ok (c, s)) → (b ≡ c) × (r ≡ s)
pair_is b c r s e =
    let same : ◌≡◌ {A = Block × List ℕ} (b, r) (c, s) = cc in
    (ap (λ (p : Block × List ℕ). p.0) same, ap (λ (p : Block × List ℕ). p.1) same)

-- what an element that was read is made of
pub record ElementSays (levels : ℕ) (inner : ℕ → List ℕ → Result (List Block) BlockFault) (end : ℕ) (u : List ℕ) (b : Block) (later : List ℕ) : Type 0 where
  pub cut : ElementText
  pub tag : Tag
  pub content : List Block
  pub cut_is : element_cut (end - length u) u ≡ Ok cut
  pub tag_is : tag_of levels (end - length u) cut.tag ≡ Ok tag
  pub content_is : inner ((end - length cut.rest) - length cut.end_tag) cut.inside ≡ Ok content
  pub block_is : block.Element tag content cut.end_tag ≡ b
  pub rest_is : cut.rest ≡ later

pub element_says : (levels : ℕ) (inner : ℕ → List ℕ → Result (List Block) BlockFault) (end : ℕ) (u : List ℕ) (b : Block) (later : List ℕ) → element levels inner end u ≡ Ok (b, later) → ElementSays levels inner end u b later
unfolding element
element_says levels inner end u b later e =
    let x = then_ok (element_cut (end - length u) u) _ (b, later) e in
    let y = then_ok (tag_of levels (end - length u) x.0.tag) _ (b, later) x.2 in
    let z = then_ok (inner ((end - length x.0.rest) - length x.0.end_tag) x.0.inside) _ (b, later) y.2 in
    let last = pair_is (block.Element y.0 z.0 x.0.end_tag) b x.0.rest later z.2 in
    record { cut = x.0; tag = y.0; content = z.0; cut_is = x.1; tag_is = y.1; content_is = z.1; block_is = last.0; rest_is = last.1 }

-- what was read after the blocks that were found
record Found (levels : ℕ) (found : List Block) (t : List ℕ) (bs : List Block) : Type 0 where
  pub more : List Block
  pub all : bs ≡ found ++ more
  pub spells : SpellsBlocks levels t more

-- the content of an element that was read is spelled
abbrev Inside : ℕ → Type 0
Inside levels = (l : ℕ) → levels ≡ suc l → (at : ℕ) (u : List ℕ) (cs : List Block) → content_within levels at u ≡ Ok cs → SpellsBlocks l u cs

-- what the element at the first block tag of a text is made of, where it was read
pub record OneSays (levels : ℕ) (t : List ℕ) (x : FirstTag t) (b : Block) (later : List ℕ) : Type 0 where
  pub y : Element x.tag x.rest
  pub tag : Tag
  pub content : List Block
  pub at : ℕ
  pub says : TagSays levels x.tag tag
  pub content_is : content_within levels at (whole_text y.inner) ≡ Ok content
  pub block_is : block.Element tag content y.end_tag ≡ b
  pub rest_is : whole_text y.after ≡ later

pub one_says : (levels end : ℕ) (t : List ℕ) (x : FirstTag t) (b : Block) (later : List ℕ) → element levels (content_within levels) end (after_text_run t) ≡ Ok (b, later) → OneSays levels t x b later
one_says levels end t x b later e =
    let z = element_says levels (content_within levels) end (after_text_run t) b later e in
    let w = subst (λ (r : Result ElementText BlockFault). Cuts (end - length (after_text_run t)) x.tag x.rest r) z.cut_is (cut_says (end - length (after_text_run t)) (after_text_run t) x.tag x.rest (first_parts t x) x.block) in
    record {
      y = w.0;
      tag = z.tag;
      content = z.content;
      at = (end - length z.cut.rest) - length z.cut.end_tag;
      says = tag_found levels (end - length (after_text_run t)) x.tag z.tag (ap (λ (c : ElementText). tag_of levels (end - length (after_text_run t)) c.tag) (sym w.1) ∙ z.tag_is);
      content_is = ap (λ (c : ElementText). content_within levels ((end - length z.cut.rest) - length z.cut.end_tag) c.inside) (sym w.1) ∙ z.content_is;
      block_is = ap (λ (c : ElementText). block.Element z.tag z.content c.end_tag) (sym w.1) ∙ z.block_is;
      rest_is = ap (λ (c : ElementText). c.rest) (sym w.1) ∙ z.rest_is;
    }

with_element : (levels : ℕ) (found ws : List Block) (t : List ℕ) (x : FirstTag t) (b : Block) (later : List ℕ) (bs : List Block) → Inside levels → SpellsText (whole_text x.before) ws → OneSays levels t x b later → Found levels ((found ++ ws) ++ b ∷ []) later bs → Found levels found t bs
with_element levels found ws t x b later bs inside s o rest =
    let spelled = inside o.says.level o.says.more o.at (whole_text o.y.inner) o.content o.content_is in
    let after = subst (λ (n : ℕ). SpellsBlocks n (whole_text o.y.after) rest.more) o.says.more (subst (λ (u : List ℕ). SpellsBlocks levels u rest.more) (sym o.rest_is) rest.spells) in
    let whole = spelling.element x o.y s o.says.says o.says.reads spelled after in
    record {
      more = ws ++ b ∷ rest.more;
      all = rest.all ∙ append_assoc (found ++ ws) (b ∷ []) rest.more ∙ append_assoc found ws (b ∷ rest.more);
      spells = subst (λ (n : ℕ). SpellsBlocks n t (ws ++ b ∷ rest.more)) (sym o.says.more) (subst (λ (c : Block). SpellsBlocks (suc o.says.level) t (ws ++ c ∷ rest.more)) o.block_is whole);
    }

found_turns : (levels end turns : ℕ) (found : List Block) (t : List ℕ) (bs : List Block) → Inside levels → length t ≤ turns → blocks_read (element levels (content_within levels) end) end turns found t ≡ Ok bs → Found levels found t bs
found_turns levels end zero found t bs inside le e = go t le
  where
    none_read : blocks_read (element levels (content_within levels) end) end zero found t ≡ Ok found
    none_read = step_none (element levels (content_within levels) end) end found t

    go : (t : List ℕ) → length t ≤ 0 → Found levels found t bs
    go [] le = let here = none_read in let same : found ≡ bs = cc in record { more = []; all = sym same ∙ append_none found; spells = spelling.no_element no_parts spelling.no_text }
    go (c ∷ u) le = absurd (omega (arith, le))
found_turns levels end (suc n) found t bs inside le e =
    go (run_blocks (end - length t) (run_of t)) refl (first_tag t) (λ (found_too : List Block) (u : List ℕ) (l : length u ≤ n) (x : blocks_read (element levels (content_within levels) end) end n found_too u ≡ Ok bs). found_turns levels end n found_too u bs inside l x)
  where
    one : List ℕ → Result (Block × List ℕ) BlockFault
    one = element levels (content_within levels) end

    at_tag : (ws : List Block) → run_blocks (end - length t) (run_of t) ≡ Ok ws → (x : FirstTag t) → ((found_too : List Block) (u : List ℕ) → length u ≤ n → blocks_read (element levels (content_within levels) end) end n found_too u ≡ Ok bs → Found levels found_too u bs)
        → (r : Result (Block × List ℕ) BlockFault) → element levels (content_within levels) end (after_text_run t) ≡ r → Found levels found t bs
    at_tag ws q x ih (Err f) h = absurd (let fails = step_one_fails (element levels (content_within levels) end) end n found ws t f q (first_some t x) h in cc)
    at_tag ws q x ih (Ok p) h =
        let o = one_says levels end t x p.0 p.1 h in
        let z = sizes t x o.y in
        let some = z.tag_some in
        let all = z.all in
        let size : length p.1 ≡ bytes_of o.y.after = ap length (sym o.rest_is) ∙ length_text o.y.after in
        let read = sym (step_more (element levels (content_within levels) end) end n found ws t p.1 p.0 q (first_some t x) h) ∙ e in
        with_element levels found ws t x p.0 p.1 bs inside (run_found (end - length t) (whole_text x.before) ws (ap (run_blocks (end - length t)) (sym (run_tag t x).0) ∙ q)) o (ih ((found ++ ws) ++ p.0 ∷ []) p.1 (omega (arith, some, all, size, le)) read)

    go : (r : Result (List Block) BlockFault) → run_blocks (end - length t) (run_of t) ≡ r → HasNoBlock (parts t) ⊎ FirstTag t
        → ((found_too : List Block) (u : List ℕ) → length u ≤ n → blocks_read (element levels (content_within levels) end) end n found_too u ≡ Ok bs → Found levels found_too u bs)
        → Found levels found t bs
    go (Err f) q d ih = absurd (let fails = step_run_fails (element levels (content_within levels) end) end n found t f q in cc)
    go (Ok ws) q (inl h) ih =
        let r = run_plain t h in
        let ends = step_end (element levels (content_within levels) end) end n found ws t q r.1 in
        record { more = ws; all = cc; spells = spelling.no_element h (run_found (end - length t) t ws (ap (run_blocks (end - length t)) (sym r.0) ∙ q)) }
    go (Ok ws) q (inr x) ih = at_tag ws q x ih (element levels (content_within levels) end (after_text_run t)) refl

-- the content within so many levels is what it spells
read_within : (levels : ℕ) → Inside levels
read_within zero l e at u cs r = absurd cc
read_within (suc levels) l e at u cs r =
    let x = found_turns levels at (length u) [] u cs (read_within levels) (omega arith) (sym (within_is levels at u) ∙ r) in
    let same : levels ≡ l = omega (arith, e) in
    subst (λ (n : ℕ). SpellsBlocks n u cs) same (subst (λ (bs : List Block). SpellsBlocks levels u bs) (sym x.all) x.spells)

pub read_is_spelled : (t : List ℕ) (bs : List Block) → blocks_of t ≡ Ok bs → SpellsBlocks 32 t bs
read_is_spelled t bs e = read_within 33 32 refl (length t) t bs e
