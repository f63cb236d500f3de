-- What an element writes, in terms of what the blocks in it write.
use Rattle.std.proofs.Common.{◌≡◌, ℕ, Bool, true, false, List, [], ◌∷◌, ◌++◌, map, Some, None, refl, ap, sym, ◌∙◌}
use mathlib.Core.Path.{fun_ext}
use Rattle.std.specs.List.{flat_map}
use Rattle.htl_expr.specs.Bindings.{Bindings}
use Rattle.htl_text.specs.declared.piece.TemplatePiece.{TemplatePiece}
use Rattle.htl_text.specs.Template.{template_output}
use Rattle.htl_blocks.specs.declared.block.Tag.{Tag}
use Rattle.htl_blocks.specs.declared.block.Block.{Block}
use Rattle.htl_blocks.specs.declared.block.Block.TheVariants.{Text, Element, rolls-Text, rolls-Element}
use Rattle.htl_blocks.specs.declared.block.Block.TheOpen.{Block-F}
use Rattle.htl_blocks.specs.declared.block.Block.TheFolds.{fold-roll-Block}
use Rattle.htl_blocks.specs.Parts.{Part, text_parts}
use Rattle.htl_blocks.specs.Written.{all_parts, block_parts, block_step, blocks_parts, body_parts, element_parts, keeps_tags, listed, passes}
use Rattle.htl_blocks.specs.WrittenLaws.{StandsInTags}

each_is : (scope : Bindings) (content : List Block) → flat_map (λ (parts : Bindings → List Part). parts scope) (map block_parts content) ≡ blocks_parts scope content
each_is scope [] = refl
each_is scope (b ∷ bs) = ap (λ (ps : List Part). block_parts b scope ++ ps) (each_is scope bs)

all_is : (content : List Block) → all_parts (map block_parts content) ≡ (λ (scope : Bindings). blocks_parts scope content)
all_is content = fun_ext (λ (scope : Bindings). each_is scope content)

pub text_is : (pieces : List TemplatePiece) (scope : Bindings) → block_parts (Text pieces) scope ≡ text_parts (template_output scope pieces)
text_is pieces scope =
    ap (λ (b : Block). block_parts b scope) (sym (rolls-Text pieces))
    ∙ ap (λ (f : Bindings → List Part). f scope) (fold-roll-Block (Bindings → List Part) block_step (Block-F.Text pieces))

pub element_is : (tag : Tag) (content : List Block) (end_tag : List ℕ) (scope : Bindings) → block_parts (Element tag content end_tag) scope ≡ element_parts tag (λ (scope : Bindings). blocks_parts scope content) end_tag scope
element_is tag content end_tag scope =
    ap (λ (b : Block). block_parts b scope) (sym (rolls-Element tag content end_tag))
    ∙ ap (λ (f : Bindings → List Part). f scope) (fold-roll-Block (Bindings → List Part) block_step (Block-F.Element tag content end_tag))
    ∙ ap (λ (inside : Bindings → List Part). element_parts tag inside end_tag scope) (all_is content)

-- an element whose test is false
pub left_out : (tag : Tag) (content : Bindings → List Part) (end_tag : List ℕ) (scope : Bindings) → passes scope tag.attributes.test ≡ false → element_parts tag content end_tag scope ≡ []
left_out tag content end_tag scope fails = rw fails refl

-- an element of which nothing stands
pub nothing_stands : (tag : Tag) (content : Bindings → List Part) (end_tag : List ℕ) (scope : Bindings) → listed tag.attributes.list (body_parts tag.attributes.body content) scope ≡ None → element_parts tag content end_tag scope ≡ []
nothing_stands tag content end_tag scope none = go (passes scope tag.attributes.test) refl
  where
    go : (t : Bool) → passes scope tag.attributes.test ≡ t → element_parts tag content end_tag scope ≡ []
    go true e = rw e (rw none refl)
    go false e = rw e refl

-- an element in its tags
pub in_tags : (tag : Tag) (content : Bindings → List Part) (end_tag : List ℕ) (scope : Bindings) (inside : List Part) → StandsInTags scope tag → listed tag.attributes.list (body_parts tag.attributes.body content) scope ≡ Some inside
    → element_parts tag content end_tag scope ≡ text_parts (template_output scope tag.start) ++ (inside ++ text_parts end_tag)
in_tags tag content end_tag scope inside stands some = rw stands.passed (rw some (rw stands.kept refl))

-- an element without its tags
pub without_tags : (tag : Tag) (content : Bindings → List Part) (end_tag : List ℕ) (scope : Bindings) (inside : List Part) → passes scope tag.attributes.test ≡ true → keeps_tags scope tag.attributes.unwrap ≡ false
    → listed tag.attributes.list (body_parts tag.attributes.body content) scope ≡ Some inside → element_parts tag content end_tag scope ≡ inside ++ []
without_tags tag content end_tag scope inside passed unwrapped some = rw passed (rw some (rw unwrapped refl))
