use Rattle.rule_laws.proofs.AlikeLemmas.{read_alike}
use Rattle.rule_laws.proofs.laws.other_members_change_nothing.Goals as goal

pub returns : goal.returns
returns c = read_alike
