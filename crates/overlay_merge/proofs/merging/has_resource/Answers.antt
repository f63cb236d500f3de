use Rattle.std.proofs.Common.{rules, ◌≡◌, ◌==◌, not, length, sym, ◌∙◌}
use Rattle.std.specs.Prelude.{is_some}
use Rattle.resource_tree.specs.Content.{node_at}
use Rattle.overlay_merge.specs.Hiding.{merged_from}
use Rattle.overlay_merge.proofs.MergedLemmas.{has_merged, has_unmerged}
use Rattle.overlay_merge.proofs.merging.has_resource.Goals as goal

pub returns-then-is_merged_path : goal.returns-then-is_merged_path
returns-then-is_merged_path c =
    let e : not c.is_empty.result ≡ not (length (merged_from c.args.tree.now c.args.path.now) == 0) = search rules in
    e ∙ sym (has_merged c.args.tree.now c.args.path.now (sym c.is_merged_path.ensures ∙ c.if-is_merged_path.true))

pub returns : goal.returns
returns c =
    let e : c.is_some.result ≡ is_some (node_at c.args.tree.now c.args.path.now) = search rules in
    e ∙ sym (has_unmerged c.args.tree.now c.args.path.now (sym c.is_merged_path.ensures ∙ c.if-is_merged_path.false))
