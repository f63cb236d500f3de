use Rattle.url_maps.specs.Found.{IsFirstFront}
use Rattle.url_maps.proofs.fronts.first_front.Given as goal

abbrev pub invariant-loop-row : goal.invariant-loop-row
invariant-loop-row l = IsFirstFront l.rows l.whole l.from l.row-index l.best
