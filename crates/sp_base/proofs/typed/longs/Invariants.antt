use Rattle.std.proofs.Common.{◌≡◌, ◌<◌, ℕ, map, take, get_or, is_none, pos, unwrap_or, false, []}
use Rattle.sp_base.specs.Typed.{number_of}
use Rattle.sp_base.proofs.typed.longs.Given as goal

abbrev pub invariant-loop-place : goal.invariant-loop-place
invariant-loop-place l = record {
  list : l.list ≡ map (λ word. unwrap_or (number_of word) (pos 0)) (take l.place l.word-items);
  passed : (k : ℕ) → k < l.place → is_none (number_of (get_or l.word-items k [])) ≡ false;
}
