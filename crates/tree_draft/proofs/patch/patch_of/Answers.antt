use Rattle.std.proofs.Common.{rules, ◌≡◌, ◌∙◌, ap, sym, subst, ◌∷◌}
use Rattle.std.specs.List.{IsDistinct}
use Rattle.std.specs.Map.{keys_of}
use Rattle.std.specs.Ordering.{eq_by_cmp}
use Rattle.resource_tree.specs.Content.{Content, by_path}
use Rattle.resource_tree.specs.declared.patch.PatchNode.{PatchNode}
use Rattle.resource_tree.specs.Patches.{PatchEntries, patching, with_entry}
use Rattle.tree_draft.proofs.DraftLemmas.{patching-with_entry}
use Rattle.tree_draft.proofs.patch.patch_of.Goals as goal

pub loop-path-preserved : goal.loop-path-preserved
loop-path-preserved c =
    let tree = c.args.tree.now in
    let left : c.loop-path.path-iterator ≡ (c.in-Some.path, c.in-Some.entry) ∷ c.next.new.self = search rules in
    let put : c.put.new.self ≡ with_entry c.loop-path.patch c.in-Some.path c.in-Some.entry = c.in_ok-put.ensures.ok ∙ ap (λ (r : PatchNode). with_entry c.loop-path.patch c.in-Some.path r) c.in_ok-node.ensures in (
      ap (λ (t : Content). patching t c.next.new.self)
          (ap (patching tree) put
          ∙ patching-with_entry tree c.loop-path.patch c.in-Some.path c.in-Some.entry c.len-nodes.ensures.good.ordered c.loop-path.invariant.1 (subst (λ (r : PatchEntries). IsDistinct (eq_by_cmp by_path) (keys_of r)) put c.len-paths.ensures.once))
          ∙ sym (ap (patching (patching tree c.loop-path.patch)) left)
          ∙ c.loop-path.invariant.0,
      c.len-paths.ensures.once,
    )
