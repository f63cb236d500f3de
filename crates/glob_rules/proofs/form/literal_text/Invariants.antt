use Rattle.std.proofs.Common.{◌≡◌, take, string_bytes}
use Rattle.glob_rules.specs.Forms.{literals}
use Rattle.glob_rules.proofs.form.literal_text.Given as goal

abbrev pub invariant-loop-piece : goal.invariant-loop-piece
invariant-loop-piece l = take l.piece-index l.pieces ≡ literals (string_bytes l.text)
