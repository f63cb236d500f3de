use Rattle.replay_text.proofs.Runs.{quoted_run}
use Rattle.replay_text.proofs.quoting.literal_run.Goals as goal

pub returns-else-is_literal-clause-literal : goal.returns-else-is_literal-clause-literal
returns-else-is_literal-clause-literal c = quoted_run c.args.bytes.now c.loop-n.n c.loop-n.invariant.0 c.loop-n.invariant.1

pub returns-after-loop-n-clause-literal : goal.returns-after-loop-n-clause-literal
returns-after-loop-n-clause-literal c = quoted_run c.args.bytes.now c.loop-n.n c.loop-n.invariant.0 c.loop-n.invariant.1
