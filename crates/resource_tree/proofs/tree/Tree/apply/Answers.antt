use Rattle.std.proofs.Common.{◌∙◌, ap, subst}
use Rattle.std.specs.List.Sorted.{IsStrictlySortedBy}
use Rattle.std.specs.Map.{keys_of}
use Rattle.resource_tree.specs.Content.{Content, by_path, node_at}
use Rattle.resource_tree.specs.Patches.{patching}
use Rattle.resource_tree.proofs.Patching.{node_at-patching}
use Rattle.resource_tree.proofs.tree.Tree.apply.Goals as goal

pub returns-clause-look_ups : goal.returns-clause-look_ups
returns-clause-look_ups c = λ q.
    ap (λ (t : Content). node_at t q) (c.put_all.ensures.after ∙ ap (λ (t : Content). patching t c.args.patch) (c.make_room.ensures.entries ∙ c.self.view_is))
    ∙ node_at-patching c.args.self.now c.args.patch q (subst (λ (t : Content). IsStrictlySortedBy by_path (keys_of t)) c.self.view_is c.self.invariant.ordered) c.put_all.ensures.once
