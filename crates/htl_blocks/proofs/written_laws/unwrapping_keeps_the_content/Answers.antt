use Rattle.std.proofs.Common.{◌∙◌, refl, append-nil}
use Rattle.htl_expr.specs.Bindings.{Bindings}
use Rattle.htl_blocks.specs.Written.{blocks_parts}
use Rattle.htl_blocks.proofs.ElementLemmas.{element_is, without_tags}
use Rattle.htl_blocks.proofs.written_laws.unwrapping_keeps_the_content.Goals as goal

pub returns : goal.returns
returns c = λ scope tag content end_tag passed once bare unwrapped.
    element_is tag content end_tag scope ∙ without_tags tag (λ (s : Bindings). blocks_parts s content) end_tag scope (blocks_parts scope content) passed unwrapped (rw once (rw bare refl)) ∙ append-nil (blocks_parts scope content)
