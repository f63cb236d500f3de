use Rattle.std.proofs.Common.{◌-◌, Some}
use Rattle.url_maps.specs.declared.answer.MapAnswer.{MapAnswer}
use Rattle.url_maps.specs.Found.{IsTextOf}
use Rattle.url_maps.specs.Patterns.{asked_for}
use Rattle.url_maps.specs.Turns.{Turns}
use Rattle.url_maps.proofs.index.MapIndex.turns.Given as goal

abbrev pub invariant-loop : goal.invariant-loop
invariant-loop l = IsTextOf l.asked l.text × ((answer : MapAnswer) → Turns l.tree (16 - l.counter) l.asked l.text answer → Turns l.tree 16 (Some (asked_for l.fn.host l.port l.fn.text)) l.fn.text answer)
