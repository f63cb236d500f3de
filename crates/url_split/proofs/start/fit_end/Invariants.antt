use Rattle.std.proofs.Common.{◌≡◌, ◌≤◌, ◌*◌, true, length, map, take}
use Rattle.sp_base.specs.PathTexts.{spelling_of}
use Rattle.sp_base.specs.Paths.{is_path}
use Rattle.url_split.proofs.start.fit_end.Given as goal

abbrev pub invariant-loop-piece : goal.invariant-loop-piece
invariant-loop-piece l = record {
  many : l.many ≡ l.piece-index;
  few : l.many ≤ 64;
  fit : is_path (take l.many (map (λ piece. piece.now) l.pieces)) ≡ true;
  bytes : l.end ≡ length (spelling_of (take l.many (map (λ piece. piece.now) l.pieces)));
  small : l.end ≤ 201 * l.many;
}
