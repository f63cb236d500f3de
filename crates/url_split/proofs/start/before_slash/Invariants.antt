use Rattle.std.proofs.Common.{◌≡◌, ◌≤◌, take}
use Rattle.std.specs.List.{count_by}
use Rattle.sp_base.specs.Bytes.{is_slash}
use Rattle.url_split.proofs.start.before_slash.Given as goal

abbrev pub invariant-loop-at : goal.invariant-loop-at
invariant-loop-at l = (l.passed ≡ count_by is_slash (take l.at l.bytes)) × (l.passed ≤ l.n)
