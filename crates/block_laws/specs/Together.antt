-- What an element writes, by taking one of its statements away. So they stand together: test, list, body and unwrap in this order.
use Rattle.std.specs.Prelude.{◌≡◌, true, false, List, [], ◌∷◌, ◌++◌, Option, Some, None}
use Rattle.std.specs.List.{flat_map}
use Rattle.sp_base.specs.Texts.{Text}
use Rattle.htl_expr.specs.Bindings.{Bindings}
use Rattle.htl_expr.specs.Value.{list_in}
use Rattle.htl_text.specs.declared.piece.TemplatePiece.{TemplatePiece}
use Rattle.htl_text.specs.Template.{template_output}
use Rattle.htl_blocks.specs.declared.attribute.Body.{Body}
use Rattle.htl_blocks.specs.declared.attribute.Body.TheVariants as body
use Rattle.htl_blocks.specs.declared.block.Tag.{Tag}
use Rattle.htl_blocks.specs.declared.block.Block.{Block}
use Rattle.htl_blocks.specs.declared.block.Block.TheVariants as block
use Rattle.htl_blocks.specs.Parts.{text_parts, Round}
use Rattle.htl_blocks.specs.Written.{passes, keeps_tags, statement_value, with_variable, within_room, block_parts}
use Rattle.htl_blocks.specs.WrittenLaws.{StandsInTags}

-- ---- a tag without one of its statements

-- without its test
abbrev pub without_test : Tag → Tag
without_test tag = record tag { attributes = record tag.attributes { test = None } }

-- without its unwrap
abbrev pub without_unwrap : Tag → Tag
without_unwrap tag = record tag { attributes = record tag.attributes { unwrap = None } }

-- without its text, include or resource
abbrev pub without_body : Tag → Tag
without_body tag = record tag { attributes = record tag.attributes { body = None } }

-- without its unwrap, and of its text nothing is left
abbrev pub without_text : Tag → Tag
without_text tag = record { attributes = record tag.attributes { unwrap = None }; start = [] }

-- no text, and no statement but this text, include or resource
abbrev pub body_alone : Option Body → Tag
body_alone body = record { attributes = record { test = None; list = None; body = body; unwrap = None }; start = [] }

-- what stands in an element: the element without its test, its list and its tags
abbrev pub inner_element : Tag → List Block → Block
inner_element tag content = block.Element (body_alone tag.attributes.body) content []

-- ---- the laws

-- an element whose test is true is written as without the test
abbrev pub IsWrittenAsWithoutTestIfTrue : Bindings → Tag → List Block → Text → Type 0
IsWrittenAsWithoutTestIfTrue scope tag content end_tag = passes scope tag.attributes.test ≡ true
    → block_parts (block.Element tag content end_tag) scope ≡ block_parts (block.Element (without_test tag) content end_tag) scope

-- one that is unwrapped is written as without its tags
abbrev pub IsWrittenAsWithoutTagsIfUnwrapped : Bindings → Tag → List Block → Text → Type 0
IsWrittenAsWithoutTagsIfUnwrapped scope tag content end_tag = keeps_tags scope tag.attributes.unwrap ≡ false
    → block_parts (block.Element tag content end_tag) scope ≡ block_parts (block.Element (without_text tag) content []) scope

-- one whose unwrap is false is written as without it
abbrev pub IsWrittenAsWithoutUnwrapIfFalse : Bindings → Tag → List Block → Text → Type 0
IsWrittenAsWithoutUnwrapIfFalse scope tag content end_tag = keeps_tags scope tag.attributes.unwrap ≡ true
    → block_parts (block.Element tag content end_tag) scope ≡ block_parts (block.Element (without_unwrap tag) content end_tag) scope

-- of one with a list the tags are written once, and between them what stands in it, once for each item, with the item as the variable
abbrev pub ListsRepeatWhatStandsWithin : Type 0
ListsRepeatWhatStandsWithin = (scope : Bindings) (tag : Tag) (content : List Block) (end_tag name : Text) (list : List TemplatePiece) (item : Text) (items : List Text)
    → StandsInTags scope tag → tag.attributes.list ≡ Some (name, list) → list_in (statement_value scope list) ≡ Some (item ∷ items)
    → block_parts (block.Element tag content end_tag) scope
    ≡ text_parts (template_output scope tag.start) ++ (flat_map (λ one. Round ∷ within_room (block_parts (inner_element tag content)) (with_variable scope name one)) (item ∷ items) ++ text_parts end_tag)

-- one that says a text is written as one of which that text is the content
abbrev pub TextsStandAsContent : Type 0
TextsStandAsContent = (scope : Bindings) (tag : Tag) (content : List Block) (end_tag : Text) (value : List TemplatePiece) → tag.attributes.body ≡ Some (body.Text value)
    → block_parts (block.Element tag content end_tag) scope ≡ block_parts (block.Element (without_body tag) (block.Text value ∷ []) end_tag) scope

-- and so is one that puts in a script or a resource, of which the content is an element that has this statement alone, and no tags
abbrev pub BodiesStandAsContent : Type 0
BodiesStandAsContent = (scope : Bindings) (tag : Tag) (content : List Block) (end_tag : Text)
    → block_parts (block.Element tag content end_tag) scope ≡ block_parts (block.Element (without_body tag) (inner_element tag content ∷ []) end_tag) scope
