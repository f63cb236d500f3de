use Rattle.std.proofs.Common.{rules, ◌≡◌, ◌∙◌, ap, sym, ◌∷◌}
use Rattle.resource_tree.specs.Content.{Content}
use Rattle.resource_tree.specs.Patches.{patching}
use Rattle.tree_draft.proofs.draft.Draft.put_all.Goals as goal

pub loop-path-preserved : goal.loop-path-preserved
loop-path-preserved c =
    let left : c.loop-path.path-iterator ≡ (c.in-Some.path, c.in-Some.entry) ∷ c.next.new.self = search rules in (
      ap (λ (t : Content). patching t c.next.new.self) c.in_ok-put.ensures.content ∙ sym (ap (patching c.loop-path.self.content) left) ∙ c.loop-path.invariant.0,
      c.in_ok-put.ensures.ordered,
      λ was. c.in_ok-put.ensures.counted (c.loop-path.invariant.2 was),
      c.put.ensures.tree ∙ c.loop-path.invariant.3,
    )
