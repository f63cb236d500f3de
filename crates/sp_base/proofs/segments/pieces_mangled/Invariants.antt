use Rattle.std.proofs.Common.{◌≡◌, map, string_bytes}
use Rattle.sp_base.specs.Paths.{mangled_segs}
use Rattle.sp_base.specs.PathTexts.{spelling_of}
use Rattle.sp_base.proofs.segments.pieces_mangled.Given as goal

abbrev pub invariant-loop-piece : goal.invariant-loop-piece
invariant-loop-piece l = string_bytes l.spelling ≡ spelling_of (mangled_segs (map (λ piece. piece.now) l.yielded))
