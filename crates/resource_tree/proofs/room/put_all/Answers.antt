use Rattle.std.proofs.Common.{◌≡◌, ◌+◌, ◌∙◌, ap, sym, arith, length, length-append, List, ℕ, ◌∷◌, [], ◌++◌}
use Rattle.resource_tree.specs.declared.patch.PatchNode.{PatchNode}
use Rattle.resource_tree.specs.Patches.{over}
use Rattle.resource_tree.proofs.Patching.{patching-push}
use Rattle.resource_tree.proofs.room.put_all.Goals as goal

pub loop-path-preserved : goal.loop-path-preserved
loop-path-preserved c =
    let entry : List (List ℕ) × PatchNode = (c.in-Some.path, c.in-Some.node) in
    let so_far = c.loop-path.invariant.1 in
    let one_less = c.put_entry.ensures.room in
    let longer : length (c.loop-path.yielded ++ entry ∷ []) ≡ length c.loop-path.yielded + 1 = length-append c.loop-path.yielded (entry ∷ []) in (
      c.put_entry.ensures.after ∙ ap (λ es. over es c.in-Some.path c.in-Some.node) c.loop-path.invariant.0 ∙ sym (patching-push c.args.nodes.now.entries c.loop-path.yielded entry),
      omega (arith, so_far, one_less, longer),
    )
