use Rattle.replay_text.proofs.Runs.{run_written}
use Rattle.replay_text.proofs.quoting.push_front.Goals as goal

pub returns-in_ok-push-clause-written : goal.returns-in_ok-push-clause-written
returns-in_ok-push-clause-written c = run_written c.args.out.now.items c.push.new.out.items c.args.bytes.now c.literal_run-n.result c.in_ok-push.ensures c.literal_run-n.ensures.literal
