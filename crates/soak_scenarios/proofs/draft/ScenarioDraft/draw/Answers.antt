use Rattle.std.proofs.Common.{refl}
use Rattle.soak_scenarios.specs.Drafts.{given}
use Rattle.soak_scenarios.proofs.draft.ScenarioDraft.draw.Goals as goal

pub returns-clause-given : goal.returns-clause-given
unfolding given
returns-clause-given c = refl
