use Rattle.std.proofs.Common.{arith}
use Rattle.replay_text.proofs.WordLemmas.{no_blank_more}
use Rattle.replay_text.proofs.event_reader.first_word.Goals as goal

pub loop-i-preserved : goal.loop-i-preserved
loop-i-preserved c = no_blank_more c.args.text.now c.loop-i.i (omega arith) c.loop-i.invariant c.if-b-eq32.false
