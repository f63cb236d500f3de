use Rattle.get_servlet.proofs.CountLemmas.{IsLevel}
use Rattle.get_servlet.proofs.measure.greatest_fitting.Given as goal

abbrev pub invariant-loop-reached : goal.invariant-loop-reached
invariant-loop-reached g l = IsLevel (g.L.Look.seen l.look) l.res l.reached l.room l.level.items
