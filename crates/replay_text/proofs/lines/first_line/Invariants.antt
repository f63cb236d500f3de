use Rattle.std.proofs.Common.{◌≡◌, take}
use Rattle.replay_text.specs.Lines.{newlines}
use Rattle.replay_text.proofs.lines.first_line.Given as goal

abbrev pub invariant-loop-i : goal.invariant-loop-i
invariant-loop-i l = newlines (take l.i l.text) ≡ 0
