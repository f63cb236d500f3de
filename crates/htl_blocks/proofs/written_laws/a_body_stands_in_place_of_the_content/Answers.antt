use Rattle.std.proofs.Common.{◌∙◌, ◌∷◌, [], refl}
use Rattle.htl_expr.specs.Bindings.{Bindings}
use Rattle.htl_blocks.specs.Written.{blocks_parts, statement_name}
use Rattle.htl_blocks.specs.Parts.{Script, Resource}
use Rattle.htl_blocks.proofs.ElementLemmas.{element_is, in_tags}
use Rattle.htl_blocks.proofs.written_laws.a_body_stands_in_place_of_the_content.Goals as goal

pub returns-clause-text : goal.returns-clause-text
returns-clause-text c = λ scope tag content end_tag value stands once is. element_is tag content end_tag scope ∙ in_tags tag (λ (s : Bindings). blocks_parts s content) end_tag scope _ stands (rw once (rw is refl))

pub returns-clause-script : goal.returns-clause-script
returns-clause-script c = λ scope tag content end_tag value stands once is. element_is tag content end_tag scope ∙ in_tags tag (λ (s : Bindings). blocks_parts s content) end_tag scope (Script (statement_name scope value) scope.vars ∷ []) stands (rw once (rw is refl))

pub returns-clause-resource : goal.returns-clause-resource
returns-clause-resource c = λ scope tag content end_tag value stands once is. element_is tag content end_tag scope ∙ in_tags tag (λ (s : Bindings). blocks_parts s content) end_tag scope (Resource (statement_name scope value) ∷ []) stands (rw once (rw is refl))
