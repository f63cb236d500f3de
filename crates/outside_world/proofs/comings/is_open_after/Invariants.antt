use Rattle.std.proofs.Common.{◌≡◌, map, take}
use Rattle.outside_world.specs.declared.world.WorldEntry.TheVariants.{Came}
use Rattle.outside_world.specs.Worlds.{is_connected}
use Rattle.outside_world.proofs.comings.is_open_after.Given as goal

abbrev pub invariant-loop-happening : goal.invariant-loop-happening
invariant-loop-happening l = l.is_open ≡ is_connected (map Came (take l.happening-index l.before)) l.conn
