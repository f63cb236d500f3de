-- What is written in a setting. Only proofs and private functions need this.
use Rattle.std.specs.List.{flat_map, slice_index_or}
use Rattle.std.specs.Prelude.{ℕ, List, [], ◌∷◌, Option, Some}
use Rattle.htl_expr.specs.Bindings.{Bindings}
use Rattle.htl_expr.specs.Variables.{vars_of}
use Rattle.htl_text.specs.declared.piece.TemplatePiece.{TemplatePiece}
use Rattle.htl_blocks.specs.Parts.{Part, Script}
use Rattle.htl_blocks.specs.Settings.{seen_at}
use Rattle.htl_blocks.specs.Written.{between_tags, blocks_parts, body_parts, element_parts, listed, repeated, round_parts, statement_name}
use Rattle.htl_blocks.specs.declared.attribute.Body.{Body}
use Rattle.htl_blocks.specs.declared.block.Block.{Block}
use Rattle.htl_blocks.specs.declared.element_tags.ElementTags.{ElementTags}
use Rattle.htl_blocks.specs.declared.setting.Setting.{Setting}
use Rattle.htl_blocks.specs.declared.repetition.Repetition.{Repetition}

-- the text of the script that a value names, with the variables of the setting
abbrev pub script_for_setting : Bindings → Setting → List TemplatePiece → List Part
script_for_setting scope setting value = Script (statement_name (seen_at scope setting) value) (vars_of setting.vars.now) ∷ []

-- what stands in an element, of which this is the content
abbrev pub parts_within : Option Body → List Block → Bindings → List Part
parts_within body content = body_parts body (λ scope. blocks_parts scope content)

-- what stands in it for the item at an index of its list
abbrev pub round_for_setting : Bindings → Setting → List Block → Repetition → ℕ → List Part
round_for_setting scope setting content repetition index =
    round_parts repetition.name.now (parts_within repetition.body.now content) (seen_at scope setting) (slice_index_or repetition.items index [])

-- what stands in it for each item
abbrev pub rounds_for_setting : Bindings → Setting → List Block → Repetition → List Part
rounds_for_setting scope setting content repetition = flat_map (round_parts repetition.name.now (parts_within repetition.body.now content) (seen_at scope setting)) repetition.items

-- an element whose content stands once
abbrev pub element_once : Bindings → Setting → ElementTags → List Block → List Part
element_once scope setting tags content =
    between_tags tags.start.now tags.end.now (seen_at scope setting) (Some (parts_within tags.start.now.attributes.body content (seen_at scope setting)))

-- an element whose content stands once for each of these items
abbrev pub element_for_items : Bindings → Setting → ElementTags → List Block → Repetition → List Part
element_for_items scope setting tags content repetition = between_tags tags.start.now tags.end.now (seen_at scope setting)
    (repeated repetition.name.now (parts_within repetition.body.now content) (seen_at scope setting) (Some repetition.items))

-- an element whose content stands once for each item of its list
abbrev pub element_for_list : Bindings → Setting → ElementTags → List Block → List ℕ × List TemplatePiece → List Part
element_for_list scope setting tags content list =
    between_tags tags.start.now tags.end.now (seen_at scope setting) (listed (Some list) (parts_within tags.start.now.attributes.body content) (seen_at scope setting))

-- an element with its start tag, its content and its end tag
abbrev pub element_for_setting : Bindings → Setting → ElementTags → List Block → List Part
element_for_setting scope setting tags content = element_parts tags.start.now (λ scope. blocks_parts scope content) tags.end.now (seen_at scope setting)
