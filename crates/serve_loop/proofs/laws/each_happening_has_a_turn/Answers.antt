use Rattle.serve_loop.proofs.HappeningLemmas.{turns_tell}
use Rattle.serve_loop.proofs.laws.each_happening_has_a_turn.Goals as goal

pub returns : goal.returns
returns c w limit end disk world s = turns_tell w s.turns s.cut s.whole s.cut_is
