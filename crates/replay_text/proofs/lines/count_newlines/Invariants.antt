use Rattle.std.proofs.Common.{◌≡◌, ◌≤◌, take}
use Rattle.replay_text.specs.Lines.{newlines}
use Rattle.replay_text.proofs.lines.count_newlines.Given as goal

abbrev pub invariant-loop-b : goal.invariant-loop-b
invariant-loop-b l = record {
  count : l.n ≡ newlines (take l.b-index l.text);
  bound : l.n ≤ l.b-index;
}
