use Rattle.std.proofs.Common.{◌≡◌, drop}
use Rattle.type_chain.specs.Chain.{first_of}
use Rattle.script_rank.specs.ScriptPlaceSearch.{at_script_places}
use Rattle.script_rank.proofs.ranking.script_place_search.Given as goal

-- no naming before has a script
abbrev pub invariant-loop-naming : goal.invariant-loop-naming
invariant-loop-naming g l = first_of (at_script_places (g.S.Scripts.tells l.scripts) l.parts l.script_places) l.naming-items ≡ first_of (at_script_places (g.S.Scripts.tells l.scripts) l.parts l.script_places) (drop l.naming-index l.naming-items)
