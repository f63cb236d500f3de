use Rattle.htl_syntax.proofs.Placed.{found, only, fault, memory}
use Rattle.htl_syntax.proofs.laws.the_template_reading_is_the_grammar.Goals as goal

pub returns : goal.returns
returns c = record {
  found = found;
  only = only;
  fault = fault;
  memory = memory;
}
