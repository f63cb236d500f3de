use Rattle.std.proofs.Common.{◌≡◌}
use Rattle.serde_json.specs.View.{members_view}
use Rattle.content_json.specs.Names.{has_bad_name}
use Rattle.content_json.proofs.names.has_bad_name.Given as goal

-- the names so far may stand
abbrev pub invariant-loop-name : goal.invariant-loop-name
invariant-loop-name l = has_bad_name (members_view l.members.entries) ≡ has_bad_name (members_view l.name-iterator)
