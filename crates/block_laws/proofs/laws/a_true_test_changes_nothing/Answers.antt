use Rattle.block_laws.proofs.Together.{as_without_test}
use Rattle.block_laws.proofs.laws.a_true_test_changes_nothing.Goals as goal

pub returns : goal.returns
returns c = as_without_test
