-- Turns of the loops that read a script and a tag.
use Rattle.std.proofs.Common.{◌≡◌, ◌<◌, ◌≤◌, ◌+◌, ◌-◌, ℕ, zero, suc, true, false, eqb, List, [], ◌∷◌, ◌++◌, take, drop, length, Option, Some, None, Result, Ok, Err, refl, arith}
use Rattle.sp_base.proofs.ListLemmas.{cons_is_some}
use Rattle.htl_blocks.specs.ElementText.{ElementText}
use Rattle.htl_blocks.specs.declared.fault.BlockFault.{BlockFault}
use Rattle.htl_blocks.specs.declared.attribute.Attributes.{Attributes}
use Rattle.htl_blocks.specs.declared.block.Block.{Block}
use Rattle.htl_blocks.specs.declared.block.Block.TheVariants as block
use Rattle.htl_blocks.specs.declared.block.Tag.{Tag}
use Rattle.htl_blocks.specs.declared.quoting.Quoting.TheVariants.{Outside}
use Rattle.htl_blocks.proofs.Runs.{drop_one_more}
use Rattle.htl_blocks.specs.Attributes.{statement_place, end_trimmed, tag_attributes, attributes_read, statement_split, with_known, attribute_of, after_attribute}
use Rattle.htl_blocks.specs.Reading.{run_of, after_text_run, run_blocks, with_blocks, to_element, blocks_read, element, element_cut, tag_of, known_tag, content_within}

-- ---- blocks

-- a turn reads a run and an element
pub blocks_more : (one : List ℕ → Result (Block × List ℕ) BlockFault) (end all turn : ℕ) (found new : List Block) (rest run tag later : List ℕ) (b : Block) → turn < all → Ok new ≡ with_blocks found (run_blocks (end - length rest) run) → run ≡ run_of rest → tag ≡ after_text_run rest → eqb (length tag) 0 ≡ false → one tag ≡ Ok (b, later)
    → blocks_read one end (all - turn) found rest ≡ blocks_read one end (all - (turn + 1)) (new ++ b ∷ []) later
unfolding blocks_read
blocks_more one end all turn found new rest run tag later b lt pushed er et some e =
    let more : all - turn ≡ suc (all - (turn + 1)) = omega (arith, lt) in
    rw (more, ← er, ← et, ← pushed) (next tag some e)
  where
    next : (t : List ℕ) → eqb (length t) 0 ≡ false → one t ≡ Ok (b, later) → to_element one (blocks_read one end (all - (turn + 1))) new t ≡ blocks_read one end (all - (turn + 1)) (new ++ b ∷ []) later
    next [] s x = absurd cc
    next (c ∷ t) s x = rw x refl

-- the last turn reads a run
pub blocks_end : (one : List ℕ → Result (Block × List ℕ) BlockFault) (end all turn : ℕ) (found new : List Block) (rest run tag : List ℕ) → turn < all → Ok new ≡ with_blocks found (run_blocks (end - length rest) run) → run ≡ run_of rest → tag ≡ after_text_run rest → eqb (length tag) 0 ≡ true
    → blocks_read one end (all - turn) found rest ≡ Ok new
unfolding blocks_read
blocks_end one end all turn found new rest run tag lt pushed er et none =
    let more : all - turn ≡ suc (all - (turn + 1)) = omega (arith, lt) in
    rw (more, ← er, ← et, ← pushed) (next tag none)
  where
    next : (t : List ℕ) → eqb (length t) 0 ≡ true → to_element one (blocks_read one end (all - (turn + 1))) new t ≡ Ok new
    next [] s = refl
    next (c ∷ t) s = absurd (let some = cons_is_some c t in cc)

-- a turn that meets a fault of a run
pub blocks_run_fails : (one : List ℕ → Result (Block × List ℕ) BlockFault) (end all turn : ℕ) (found : List Block) (rest run : List ℕ) (f : BlockFault) → turn < all → run_blocks (end - length rest) run ≡ Err f → run ≡ run_of rest
    → blocks_read one end (all - turn) found rest ≡ Err f
unfolding blocks_read
blocks_run_fails one end all turn found rest run f lt e er =
    let more : all - turn ≡ suc (all - (turn + 1)) = omega (arith, lt) in
    rw (more, ← er, e) refl

-- a turn that meets a fault of an element
pub blocks_one_fails : (one : List ℕ → Result (Block × List ℕ) BlockFault) (end all turn : ℕ) (found new : List Block) (rest run tag : List ℕ) (f : BlockFault) → turn < all → Ok new ≡ with_blocks found (run_blocks (end - length rest) run) → run ≡ run_of rest → tag ≡ after_text_run rest → eqb (length tag) 0 ≡ false → one tag ≡ Err f
    → blocks_read one end (all - turn) found rest ≡ Err f
unfolding blocks_read
blocks_one_fails one end all turn found new rest run tag f lt pushed er et some e =
    let more : all - turn ≡ suc (all - (turn + 1)) = omega (arith, lt) in
    rw (more, ← er, ← et, ← pushed) (next tag some e)
  where
    next : (t : List ℕ) → eqb (length t) 0 ≡ false → one t ≡ Err f → to_element one (blocks_read one end (all - (turn + 1))) new t ≡ Err f
    next [] s x = absurd cc
    next (c ∷ t) s x = rw x refl

-- no turn is left
pub blocks_done : (one : List ℕ → Result (Block × List ℕ) BlockFault) (end all turn : ℕ) (found : List Block) (rest : List ℕ) → all ≤ turn → blocks_read one end (all - turn) found rest ≡ Ok found
unfolding blocks_read
blocks_done one end all turn found rest h = let none : all - turn ≡ 0 = omega (arith, h) in rw none refl

pub within_is : (levels end : ℕ) (t : List ℕ) → content_within (suc levels) end t ≡ blocks_read (element levels (content_within levels) end) end (length t) [] t
unfolding content_within
within_is levels end t = refl

-- ---- an element

-- an element with a tag has a level left
pub tag_has_level : (levels place : ℕ) (t : List ℕ) (x : Tag) → tag_of levels place t ≡ Ok x → 0 < levels
unfolding tag_of
tag_has_level levels place t x e = go levels (tag_attributes t) e
  where
    go : (n : ℕ) (o : Option (Attributes × List ℕ)) → known_tag n place o ≡ Ok x → 0 < n
    go n None h = absurd cc
    go zero (Some a) h = absurd cc
    go (suc n) (Some a) h = omega arith

pub element_is : (levels : ℕ) (inner : ℕ → List ℕ → Result (List Block) BlockFault) (end : ℕ) (t : List ℕ) (place at : ℕ) (cut : ElementText) (tag : Tag) (content : List Block) → place ≡ end - length t → at ≡ (end - length cut.rest) - length cut.end_tag → element_cut place t ≡ Ok cut → tag_of levels place cut.tag ≡ Ok tag → inner at cut.inside ≡ Ok content
    → element levels inner end t ≡ Ok (block.Element tag content cut.end_tag, cut.rest)
unfolding element
element_is levels inner end t place at cut tag content p q a b c = rw (← p, a, b, ← q, c) refl

pub element_open : (levels : ℕ) (inner : ℕ → List ℕ → Result (List Block) BlockFault) (end : ℕ) (t : List ℕ) (place : ℕ) (f : BlockFault) → place ≡ end - length t → element_cut place t ≡ Err f → element levels inner end t ≡ Err f
unfolding element
element_open levels inner end t place f p a = rw (← p, a) refl

pub element_tag_fails : (levels : ℕ) (inner : ℕ → List ℕ → Result (List Block) BlockFault) (end : ℕ) (t : List ℕ) (place : ℕ) (cut : ElementText) (f : BlockFault) → place ≡ end - length t → element_cut place t ≡ Ok cut → tag_of levels place cut.tag ≡ Err f → element levels inner end t ≡ Err f
unfolding element
element_tag_fails levels inner end t place cut f p a b = rw (← p, a, b) refl

pub element_content_fails : (levels : ℕ) (inner : ℕ → List ℕ → Result (List Block) BlockFault) (end : ℕ) (t : List ℕ) (place at : ℕ) (cut : ElementText) (tag : Tag) (f : BlockFault) → place ≡ end - length t → at ≡ (end - length cut.rest) - length cut.end_tag → element_cut place t ≡ Ok cut → tag_of levels place cut.tag ≡ Ok tag → inner at cut.inside ≡ Err f
    → element levels inner end t ≡ Err f
unfolding element
element_content_fails levels inner end t place at cut tag f p q a b c = rw (← p, a, b, ← q, c) refl

-- ---- the statements of a tag

-- a turn adds a statement
pub attributes_more : (all turn : ℕ) (found more : Attributes) (kept new t leading statement rest : List ℕ) → turn < all → statement_split t ≡ Some (leading, statement) → with_known found (attribute_of statement) ≡ Some more → new ≡ kept ++ leading → rest ≡ after_attribute statement
    → attributes_read (all - turn) found kept t ≡ attributes_read (all - (turn + 1)) more new rest
unfolding attributes_read
attributes_more all turn found more kept new t leading statement rest lt a b en er =
    let left : all - turn ≡ suc (all - (turn + 1)) = omega (arith, lt) in
    rw (left, a, b, en, er) refl

-- a turn meets what is no attribute
pub attributes_bad : (all turn : ℕ) (found : Attributes) (kept t leading statement : List ℕ) → turn < all → statement_split t ≡ Some (leading, statement) → with_known found (attribute_of statement) ≡ None → attributes_read (all - turn) found kept t ≡ None
unfolding attributes_read
attributes_bad all turn found kept t leading statement lt a b =
    let left : all - turn ≡ suc (all - (turn + 1)) = omega (arith, lt) in
    rw (left, a, b) refl

-- no statement is left
pub attributes_end : (all turn : ℕ) (found : Attributes) (kept t : List ℕ) → turn < all → statement_split t ≡ None → attributes_read (all - turn) found kept t ≡ Some (found, kept ++ t)
unfolding attributes_read
attributes_end all turn found kept t lt a =
    let left : all - turn ≡ suc (all - (turn + 1)) = omega (arith, lt) in
    rw (left, a) refl

-- no turn is left
pub attributes_done : (all turn : ℕ) (found : Attributes) (kept t : List ℕ) → all ≤ turn → attributes_read (all - turn) found kept t ≡ Some (found, kept ++ t)
unfolding attributes_read
attributes_done all turn found kept t h = let none : all - turn ≡ 0 = omega (arith, h) in rw none refl

pub split_is : (t : List ℕ) (n : ℕ) → statement_place Outside 0 t ≡ Some n → Some (end_trimmed (take n t), drop 1 (drop n t)) ≡ statement_split t
unfolding statement_split
split_is t n e = rw (e, drop_one_more n t) refl
