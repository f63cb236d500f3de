use Rattle.std.proofs.Common.{◌≡◌, drop}
use Rattle.std.specs.Prelude.{find, is_some}
use Rattle.resource_tree.specs.Content.{node_at}
use Rattle.type_chain.proofs.search_paths.first_node.Given as goal

-- no node is at a place before
abbrev pub invariant-loop-place : goal.invariant-loop-place
invariant-loop-place l = find (λ place. is_some (node_at l.tree place)) l.place-items ≡ find (λ place. is_some (node_at l.tree place)) (drop l.place-index l.place-items)
