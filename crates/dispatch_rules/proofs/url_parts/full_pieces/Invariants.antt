use Rattle.std.proofs.Common.{◌≡◌, filter, map, string_bytes}
use Rattle.sp_base.specs.Bytes.{is_full, dotted_text}
use Rattle.dispatch_rules.proofs.url_parts.full_pieces.Given as goal

abbrev pub invariant-loop-piece : goal.invariant-loop-piece
invariant-loop-piece l = string_bytes l.dotted ≡ dotted_text (filter is_full (map (λ piece. piece.now) l.yielded))
