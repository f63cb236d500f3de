use Rattle.std.proofs.Common.{◌≡◌, map, string_bytes}
use Rattle.sp_base.specs.PathTexts.{spelling_of}
use Rattle.sp_base.proofs.segments.first_pieces.Given as goal

abbrev pub invariant-loop-piece : goal.invariant-loop-piece
invariant-loop-piece l = string_bytes l.leading ≡ spelling_of (map (λ piece. piece.now) l.yielded)
