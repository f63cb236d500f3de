use Rattle.htl_syntax.proofs.Limit.{deepens, one_fault}
use Rattle.htl_syntax.proofs.laws.too_deep_is_the_limit.Goals as goal

pub returns : goal.returns
returns c = record {
  deeper = deepens;
  one = one_fault;
}
