use Rattle.std.proofs.Common.{◌≡◌, map, string_bytes}
use Rattle.sp_base.specs.Paths.{unmangled_segs}
use Rattle.sp_base.specs.PathTexts.{spelling_of}
use Rattle.sp_base.proofs.segments.pieces_unmangled.Given as goal

abbrev pub invariant-loop-piece : goal.invariant-loop-piece
invariant-loop-piece l = string_bytes l.unmangled ≡ spelling_of (unmangled_segs (map (λ piece. piece.now) l.yielded))
