use Rattle.soak_scenarios.specs.Drafts.{seed_after}
use Rattle.soak_scenarios.proofs.Draws.{added_within}
use Rattle.soak_scenarios.proofs.draft.next.Goals as goal
use Rattle.std.proofs.Common.{◌*◌}

pub returns : goal.returns
unfolding seed_after
returns c = added_within 18446744073709551616 (c.args.seed * 6364136223846793005) 1442695040888963407
