-- What the laws of elements suppose.
use Rattle.std.specs.Prelude.{◌≡◌, ◌<◌, ◌≤◌, true, List, false, ℕ, [], None, ◌++◌, Some, ◌∷◌, length}
use Rattle.std.specs.List.{flat_map}
use Rattle.sp_base.specs.Limits.{most_rendered_bytes}
use Rattle.sp_base.specs.Texts.{Text}
use Rattle.htl_expr.specs.Bindings.{Bindings}
use Rattle.htl_expr.specs.Value.{list_in}
use Rattle.htl_blocks.specs.declared.block.Tag.{Tag}
use Rattle.htl_blocks.specs.Written.{keeps_tags, passes, block_parts, blocks_parts, round_parts, statement_value, text_of_vars, with_variable, within_room, statement_name}
use Rattle.htl_blocks.specs.declared.block.Block.{Block}
use Rattle.htl_blocks.specs.declared.block.Block.TheVariants.{Element}
use Rattle.htl_blocks.specs.declared.attribute.Body.TheVariants as body
use Rattle.htl_blocks.specs.declared.run_fault.RunFault.TheVariants.{TooLong, TooMany}
use Rattle.htl_blocks.specs.Parts.{Part, text_parts, Round, Script, Resource, rounds}
use Rattle.htl_blocks.specs.Refused.{IsRefused, most_rounds}
use Rattle.htl_text.specs.Template.{template_output}
use Rattle.htl_text.specs.declared.piece.TemplatePiece.{TemplatePiece}

-- the element isn't left out, and its tags stand
pub record StandsInTags (scope : Bindings) (tag : Tag) : Type 0 where
  pub passed : passes scope tag.attributes.test ≡ true
  pub kept : keeps_tags scope tag.attributes.unwrap ≡ true

-- an element whose test is false is left out
abbrev pub IsLeftOutIfUntrue : Bindings → Tag → List Block → List ℕ → Type 0
IsLeftOutIfUntrue scope tag content end_tag = passes scope tag.attributes.test ≡ false → block_parts (Element tag content end_tag) scope ≡ []

-- of an element that is unwrapped, and has neither a list nor a body, the content stands
abbrev pub IsItsContentIfUnwrappedWithoutListOrBody : Bindings → Tag → List Block → List ℕ → Type 0
IsItsContentIfUnwrappedWithoutListOrBody scope tag content end_tag = passes scope tag.attributes.test ≡ true → tag.attributes.list ≡ None → tag.attributes.body ≡ None → keeps_tags scope tag.attributes.unwrap ≡ false
    → block_parts (Element tag content end_tag) scope ≡ blocks_parts scope content

-- of the tag stands what its template writes, which is its text without the statements
abbrev pub IsWrittenWholeIfInTagsWithoutListOrBody : Bindings → Tag → List Block → List ℕ → Type 0
IsWrittenWholeIfInTagsWithoutListOrBody scope tag content end_tag = StandsInTags scope tag → tag.attributes.list ≡ None → tag.attributes.body ≡ None
    → block_parts (Element tag content end_tag) scope ≡ text_parts (template_output scope tag.start) ++ (blocks_parts scope content ++ text_parts end_tag)

-- the content of an element stands between its tags once for each item of its list, with the item as the variable
abbrev pub ListElementsWriteEachItem : Type 0
ListElementsWriteEachItem = (scope : Bindings) (tag : Tag) (content : List Block) (end_tag name : List ℕ) (list : List TemplatePiece) (item : List ℕ) (items : List Text)
    → StandsInTags scope tag → tag.attributes.body ≡ None → tag.attributes.list ≡ Some (name, list) → list_in (statement_value scope list) ≡ Some (item ∷ items)
    → block_parts (Element tag content end_tag) scope ≡ text_parts (template_output scope tag.start) ++ (flat_map (λ one. Round ∷ within_room (λ here. blocks_parts here content) (with_variable scope name one)) (item ∷ items) ++ text_parts end_tag)

-- an element whose list is none is left out
abbrev pub ElementsWithoutListAreLeftOut : Type 0
ElementsWithoutListAreLeftOut = (scope : Bindings) (tag : Tag) (content : List Block) (end_tag name : List ℕ) (list : List TemplatePiece)
    → tag.attributes.list ≡ Some (name, list) → list_in (statement_value scope list) ≡ None → block_parts (Element tag content end_tag) scope ≡ []

-- and so is one whose list has no items
abbrev pub ElementsWithoutItemsAreLeftOut : Type 0
ElementsWithoutItemsAreLeftOut = (scope : Bindings) (tag : Tag) (content : List Block) (end_tag name : List ℕ) (list : List TemplatePiece)
    → tag.attributes.list ≡ Some (name, list) → list_in (statement_value scope list) ≡ Some [] → block_parts (Element tag content end_tag) scope ≡ []

-- between the tags of an element that says a text stands that text
abbrev pub TextsStandInTags : Type 0
TextsStandInTags = (scope : Bindings) (tag : Tag) (content : List Block) (end_tag : List ℕ) (value : List TemplatePiece) → StandsInTags scope tag → tag.attributes.list ≡ None
    → tag.attributes.body ≡ Some (body.Text value)
    → block_parts (Element tag content end_tag) scope ≡ text_parts (template_output scope tag.start) ++ (text_parts (template_output scope value) ++ text_parts end_tag)

-- between those of one that puts in a script stands the script, with the variables
abbrev pub ScriptsStandInTags : Type 0
ScriptsStandInTags = (scope : Bindings) (tag : Tag) (content : List Block) (end_tag : List ℕ) (value : List TemplatePiece) → StandsInTags scope tag → tag.attributes.list ≡ None
    → tag.attributes.body ≡ Some (body.Include value)
    → block_parts (Element tag content end_tag) scope ≡ text_parts (template_output scope tag.start) ++ (Script (statement_name scope value) scope.vars ∷ [] ++ text_parts end_tag)

-- between those of one that puts in a resource stands the resource
abbrev pub ResourcesStandInTags : Type 0
ResourcesStandInTags = (scope : Bindings) (tag : Tag) (content : List Block) (end_tag : List ℕ) (value : List TemplatePiece) → StandsInTags scope tag → tag.attributes.list ≡ None
    → tag.attributes.body ≡ Some (body.Resource value)
    → block_parts (Element tag content end_tag) scope ≡ text_parts (template_output scope tag.start) ++ (Resource (statement_name scope value) ∷ [] ++ text_parts end_tag)

-- where the variables of a round have together no more bytes than a text may have, what stands in the element stands
abbrev pub IsWrittenIfVariablesFit : (Bindings → List Part) → Bindings → List ℕ → List ℕ → Type 0
IsWrittenIfVariablesFit inside scope name item = length (text_of_vars (with_variable scope name item).vars) ≤ most_rendered_bytes → round_parts name inside scope item ≡ Round ∷ inside (with_variable scope name item)

-- else the script is refused as too long, whatever else it writes, if the round isn't one too many
abbrev pub IsRefusedIfVariablesAreTooLong : (Bindings → List Part) → Bindings → List ℕ → List ℕ → Type 0
IsRefusedIfVariablesAreTooLong inside scope name item =
    (before after : List Part) → most_rendered_bytes < length (text_of_vars (with_variable scope name item).vars) → rounds before < most_rounds → IsRefused TooLong (before ++ (round_parts name inside scope item ++ after))

-- and if it is, as too long where what stands before is so, and else for the rounds, whatever the variables are
abbrev pub IsRefusedIfRoundIsOneTooMany : (Bindings → List Part) → Bindings → List ℕ → List ℕ → Type 0
IsRefusedIfRoundIsOneTooMany inside scope name item = (before after : List Part) → most_rounds ≤ rounds before
    → (IsRefused TooLong before → IsRefused TooLong (before ++ (round_parts name inside scope item ++ after)))
    × ((IsRefused TooLong before → ⊥) → IsRefused TooMany (before ++ (round_parts name inside scope item ++ after)))
