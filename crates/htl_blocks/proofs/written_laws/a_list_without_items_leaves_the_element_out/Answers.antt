use Rattle.std.proofs.Common.{◌∙◌, refl}
use Rattle.htl_expr.specs.Bindings.{Bindings}
use Rattle.htl_blocks.specs.Written.{blocks_parts}
use Rattle.htl_blocks.proofs.ElementLemmas.{element_is, nothing_stands}
use Rattle.htl_blocks.proofs.written_laws.a_list_without_items_leaves_the_element_out.Goals as goal

pub returns-clause-none : goal.returns-clause-none
returns-clause-none c = λ scope tag content end_tag name list has none. element_is tag content end_tag scope ∙ nothing_stands tag (λ (s : Bindings). blocks_parts s content) end_tag scope (rw has (rw none refl))

pub returns-clause-empty : goal.returns-clause-empty
returns-clause-empty c = λ scope tag content end_tag name list has none. element_is tag content end_tag scope ∙ nothing_stands tag (λ (s : Bindings). blocks_parts s content) end_tag scope (rw has (rw none refl))
