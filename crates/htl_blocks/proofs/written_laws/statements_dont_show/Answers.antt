use Rattle.std.proofs.Common.{◌∙◌, refl}
use Rattle.htl_expr.specs.Bindings.{Bindings}
use Rattle.htl_blocks.specs.Written.{blocks_parts}
use Rattle.htl_blocks.proofs.ElementLemmas.{element_is, in_tags}
use Rattle.htl_blocks.proofs.written_laws.statements_dont_show.Goals as goal

pub returns : goal.returns
returns c = λ scope tag content end_tag stands once bare. element_is tag content end_tag scope ∙ in_tags tag (λ (s : Bindings). blocks_parts s content) end_tag scope (blocks_parts scope content) stands (rw once (rw bare refl))
