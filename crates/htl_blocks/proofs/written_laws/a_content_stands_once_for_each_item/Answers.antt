use Rattle.std.proofs.Common.{◌∙◌, ◌∷◌, List, ℕ, refl}
use Rattle.htl_expr.specs.Bindings.{Bindings}
use Rattle.htl_blocks.specs.Written.{blocks_parts, with_variable, within_room}
use Rattle.std.specs.List.{flat_map}
use Rattle.htl_blocks.specs.Parts.{Round}
use Rattle.htl_blocks.proofs.ElementLemmas.{element_is, in_tags}
use Rattle.htl_blocks.proofs.written_laws.a_content_stands_once_for_each_item.Goals as goal

pub returns : goal.returns
returns c = λ scope tag content end_tag name list item items stands bare has some.
    element_is tag content end_tag scope ∙ in_tags tag (λ (s : Bindings). blocks_parts s content) end_tag scope (flat_map (λ (one : List ℕ). Round ∷ within_room (λ (here : Bindings). blocks_parts here content) (with_variable scope name one)) (item ∷ items)) stands (rw bare (rw has (rw some refl)))
