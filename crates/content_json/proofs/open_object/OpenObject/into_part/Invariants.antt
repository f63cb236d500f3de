use Rattle.std.proofs.Common.{◌≡◌, ◌++◌, ℕ, [], map}
use Rattle.serde_json.specs.Data.{Members}
use Rattle.content_json.specs.Nodes.{add_props, nodes_below}
use Rattle.content_json.specs.Parts.{AreMemberParts, HoldsMembers, has_unfit, entry_of}
use Rattle.content_json.proofs.open_object.OpenObject.into_part.Given as goal

-- with the members that are left, what is made so far is that of all
abbrev pub invariant-loop-name : goal.invariant-loop-name
invariant-loop-name l =
    (levels : ℕ) (ms : Members) → HoldsMembers levels l.fn.path (record { members = l.fn.self.members }) ms
    → (left : Members) × AreMemberParts levels l.fn.path l.name-iterator left × (has_unfit levels ms ≡ has_unfit levels left)
    × (add_props l.props left ≡ add_props [] ms) × (map entry_of l.below.items ++ nodes_below l.fn.path left ≡ nodes_below l.fn.path ms)
