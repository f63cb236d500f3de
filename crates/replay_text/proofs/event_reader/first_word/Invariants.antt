use Rattle.std.proofs.Common.{◌≡◌, take, true}
use Rattle.std.specs.List.{list_all}
use Rattle.replay_text.specs.Quoting.{not_blank}
use Rattle.replay_text.proofs.event_reader.first_word.Given as goal

abbrev pub invariant-loop-i : goal.invariant-loop-i
invariant-loop-i l = list_all not_blank (take l.i l.text) ≡ true
