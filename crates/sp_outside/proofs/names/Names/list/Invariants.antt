use Rattle.std.proofs.Common.{◌≡◌, ◌≤◌, length, map}
use Rattle.std.specs.Prelude.{string_bytes}
use Rattle.std.specs.List.{filter}
use Rattle.sp_outside.specs.Files.{has_prefix}
use Rattle.sp_outside.proofs.names.Names.list.Given as goal

abbrev pub invariant-loop-name : goal.invariant-loop-name
invariant-loop-name g l = record {
  names : l.names ≡ filter (has_prefix l.prefix) (map (λ item. string_bytes item.0.now) l.yielded);
  few : length l.names ≤ l.most;
}
