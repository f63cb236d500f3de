use Rattle.std.proofs.Common.{◌≡◌, drop}
use Rattle.type_chain.specs.Chain.{first_of}
use Rattle.script_rank.specs.ScriptPlaceSearch.{at_script_place}
use Rattle.script_rank.proofs.ranking.at_script_places.Given as goal

-- no script place before has a script
abbrev pub invariant-loop-script_place : goal.invariant-loop-script_place
invariant-loop-script_place g l = first_of (at_script_place (g.S.Scripts.tells l.scripts) l.parts l.fn.naming) l.script_places ≡ first_of (at_script_place (g.S.Scripts.tells l.scripts) l.parts l.fn.naming) (drop l.script_place-index l.script_places)
