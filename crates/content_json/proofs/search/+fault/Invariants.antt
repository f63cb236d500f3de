use Rattle.std.proofs.Common.{◌≡◌, false}
use Rattle.serde_json.specs.View.{members_view}
use Rattle.content_json.specs.Names.{has_bad_name}
use Rattle.content_json.specs.Faults.{fault_below}
use Rattle.content_json.proofs.search.+fault.Given as goal

-- the members so far have no fault
abbrev pub invariant-fault_below-loop-name : goal.invariant-fault_below-loop-name
invariant-fault_below-loop-name l =
    (fault_below (members_view l.members.entries) ≡ fault_below (members_view l.name-iterator)) × (has_bad_name (members_view l.name-iterator) ≡ false)
