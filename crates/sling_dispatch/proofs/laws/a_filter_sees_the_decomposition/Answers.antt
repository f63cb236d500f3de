use Rattle.sling_dispatch.proofs.FilterLemmas.{sees}
use Rattle.sling_dispatch.proofs.laws.a_filter_sees_the_decomposition.Goals as goal

pub returns : goal.returns
returns c = sees
