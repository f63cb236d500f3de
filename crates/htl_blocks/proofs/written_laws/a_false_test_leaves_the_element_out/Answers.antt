use Rattle.std.proofs.Common.{◌∙◌}
use Rattle.htl_expr.specs.Bindings.{Bindings}
use Rattle.htl_blocks.specs.Written.{blocks_parts}
use Rattle.htl_blocks.proofs.ElementLemmas.{element_is, left_out}
use Rattle.htl_blocks.proofs.written_laws.a_false_test_leaves_the_element_out.Goals as goal

pub returns : goal.returns
returns c = λ scope tag content end_tag fails. element_is tag content end_tag scope ∙ left_out tag (λ (s : Bindings). blocks_parts s content) end_tag scope fails
