use Rattle.std.proofs.Common.{◌-◌, length}
use Rattle.type_chain.specs.ScriptPlaces.{AreScriptPlacesOf}
use Rattle.type_chain.proofs.ChainLemmas.{Goes}
use Rattle.type_chain.proofs.inheritance.own_types.Given as goal

abbrev pub invariant-loop-next : goal.invariant-loop-next
invariant-loop-next l = Goes l.tree l.props l.fn.own l.chain.types l.next × AreScriptPlacesOf l.tree l.chain.types l.chain.script_places

abbrev pub decreases-loop-next : goal.decreases-loop-next
decreases-loop-next l = 32 - length l.chain.types
