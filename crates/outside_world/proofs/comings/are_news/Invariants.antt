use Rattle.std.proofs.Common.{take, drop}
use Rattle.std.specs.Prelude.{◌↔◌}
use Rattle.outside_world.specs.Comings.{MayCome, MayComeAfter}
use Rattle.outside_world.proofs.comings.are_news.Given as goal

abbrev pub invariant-loop-place : goal.invariant-loop-place
invariant-loop-place l = MayCome l.happenings ↔ MayComeAfter (take l.place l.happenings) (drop l.place l.happenings)
