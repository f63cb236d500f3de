-- A text in which no block tag stands.
use Rattle.std.proofs.Common.{◌≡◌, ◌<◌, ◌≤◌, ◌+◌, ◌-◌, ℕ, zero, suc, false, List, [], ◌∷◌, ◌++◌, take, drop, length, Result, Ok, Err, refl, ap, ◌∙◌, arith}
use Rattle.std.specs.List.{flat_map}
use Rattle.std.proofs.Math.Seq.{take-length}
use Rattle.std.proofs.lemmas.List.{length-take-le, take-append-drop}
use Rattle.htl_text.specs.declared.fault.TextFault.{TextFault}
use Rattle.htl_text.specs.declared.fault.TextFault.TheVariants as text
use Rattle.htl_text.specs.declared.piece.TemplatePiece.{TemplatePiece}
use Rattle.htl_text.specs.Template.{template_of, template_at, read_from_place, fault_at}
use Rattle.htl_blocks.specs.declared.fault.BlockFault.{BlockFault}
use Rattle.htl_blocks.specs.declared.fault.BlockFault.TheVariants as fault
use Rattle.htl_blocks.specs.declared.block.Block.{Block}
use Rattle.htl_blocks.specs.Markup.{part_len, parts, parts_after}
use Rattle.htl_blocks.specs.Attributes.{is_block_tag}
use Rattle.htl_blocks.specs.Reading.{◌then◌, text_run_len, run_of, after_text_run, text_block, run_blocks, with_blocks, element, blocks_read, content_within, blocks_of}
use Rattle.htl_blocks.specs.Laws.{HasNoBlock}
use Rattle.htl_blocks.specs.Laws as laws
use Rattle.htl_blocks.proofs.Tags.{part_within}

first_no_block : (p : List ℕ) (more : List (List ℕ)) → HasNoBlock (p ∷ more) → (is_block_tag p ≡ false) × HasNoBlock more
first_no_block p more (laws.part a x) = (a, x)

no_block_run : (skip : ℕ) (t : List ℕ) → skip ≤ length t → HasNoBlock (parts_after skip t) → skip + text_run_len (parts_after skip t) ≡ length t
unfolding parts_after text_run_len
no_block_run zero [] h x = omega arith
no_block_run (suc n) [] h x = absurd (omega (arith, h))
no_block_run (suc n) (c ∷ t) h x = let ih = no_block_run n t (omega (arith, h)) x in omega (arith, ih)
no_block_run zero (c ∷ t) h x =
    let y = first_no_block _ _ x in
    let some : 0 < length (c ∷ t) = omega arith in
    let within = part_within (c ∷ t) some in
    let size = length-take-le (part_len (c ∷ t)) (c ∷ t) within.1 in
    let ih = no_block_run (part_len (c ∷ t) - 1) t (omega (arith, within.1, within.0)) y.1 in
    rw y.0 (omega (arith, size, ih, within.0))

pub drop_all : (t : List ℕ) → drop (length t) t ≡ []
drop_all [] = refl
drop_all (c ∷ t) = drop_all t

-- the text is one run
read_plain : (one : List ℕ → Result (Block × List ℕ) BlockFault) (end turns : ℕ) (t : List ℕ) → HasNoBlock (parts t) → blocks_read one end (suc turns) [] t ≡ (with_blocks [] (run_blocks (end - length t) t) then λ found. Ok found)
unfolding blocks_read run_of after_text_run
read_plain one end turns t x =
    let sum = no_block_run 0 t (omega arith) x in
    let all : text_run_len (parts t) ≡ length t = omega (arith, sum) in
    rw (all, take-length t, drop_all t) refl

same_fault : (f : TextFault) → fault_at 0 f ≡ f
same_fault (text.Unclosed n) = ap text.Unclosed (let none : 0 + n ≡ n = omega arith in none)
same_fault (text.BadExpr n) = ap text.BadExpr (let none : 0 + n ≡ n = omega arith in none)
same_fault text.NoMemory = refl

as_text : (r : Result (List TemplatePiece) TextFault) → (with_blocks [] (text_block (read_from_place 0 r)) then λ found. Ok found) ≡ text_block r
as_text (Ok ps) = refl
as_text (Err f) = ap (λ (g : TextFault). Err (fault.Text g)) (same_fault f)

run_is : (place c : ℕ) (t : List ℕ) → run_blocks place (c ∷ t) ≡ text_block (template_at place (c ∷ t))
unfolding run_blocks
run_is place c t = refl

within_is : (levels end : ℕ) (t : List ℕ) → content_within (suc levels) end t ≡ blocks_read (element levels (content_within levels) end) end (length t) [] t
unfolding content_within
within_is levels end t = refl

pub plain_is_template : (t : List ℕ) → 0 < length t → HasNoBlock (parts t) → blocks_of t ≡ text_block (template_of t)
plain_is_template [] some x = absurd (omega (arith, some))
plain_is_template (c ∷ t) some x =
    let here : length (c ∷ t) - length (c ∷ t) ≡ 0 = omega arith in
    within_is 32 (length (c ∷ t)) (c ∷ t)
    ∙ read_plain (element 32 (content_within 32) (length (c ∷ t))) (length (c ∷ t)) (length t) (c ∷ t) x
    ∙ ap (λ (n : ℕ). with_blocks [] (run_blocks n (c ∷ t)) then λ found. Ok found) here
    ∙ ap (λ (r : Result (List Block) BlockFault). with_blocks [] r then λ found. Ok found) (run_is 0 c t)
    ∙ as_text (template_of (c ∷ t))

-- the parts of a text are the text
whole_from : (skip : ℕ) (t : List ℕ) → flat_map (λ (p : List ℕ). p) (parts_after skip t) ≡ drop skip t
unfolding parts_after
whole_from zero [] = refl
whole_from (suc n) [] = refl
whole_from (suc n) (c ∷ t) = whole_from n t
whole_from zero (c ∷ t) = ap (λ (u : List ℕ). take (part_len (c ∷ t)) (c ∷ t) ++ u) (whole_from (part_len (c ∷ t) - 1) t) ∙ ap (λ (u : List ℕ). take (part_len (c ∷ t)) (c ∷ t) ++ u) (go (part_len (c ∷ t)) (part_within (c ∷ t) (omega arith)).0) ∙ take-append-drop (part_len (c ∷ t)) (c ∷ t)
  where
    go : (n : ℕ) → 1 ≤ n → drop (n - 1) t ≡ drop n (c ∷ t)
    go zero h = absurd (omega (arith, h))
    go (suc k) h = let same : suc k - 1 ≡ k = omega arith in rw same refl

pub parts_whole : (t : List ℕ) → flat_map (λ (p : List ℕ). p) (parts t) ≡ t
parts_whole t = whole_from 0 t
