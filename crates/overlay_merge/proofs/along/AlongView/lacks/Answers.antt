use Rattle.std.proofs.Common.{◌≡◌, ◌+◌, ◌<◌, false, length, arith, sym, ◌∙◌, ap}
use Rattle.std.proofs.lemmas.Bool.{not-true}
use Rattle.overlay_merge.specs.Merged.{has_resource}
use Rattle.overlay_merge.specs.Walk.{has_kid_node}
use Rattle.overlay_merge.proofs.ReachLemmas.{unknown_kid}
use Rattle.overlay_merge.proofs.along.AlongView.lacks.Goals as goal

pub returns : goal.returns
returns c e =
    let tree = c.self.inside.tree.now in
    let path = c.args.path.now in
    let deepest = c.self.inside.deepest in
    let name = c.in-Some.name.now in
    let deep : 2 < length deepest = omega (arith, c.if-depth-le-ROOT_DEPTH.false, c.depth-depth.ensures.depth) in
    let size : length path ≡ length deepest + 1 = omega (arith, c.if-depth.false, c.depth.ensures.depth, c.depth-depth.ensures.depth) in
    let none = ap (has_kid_node tree name) (sym c.self.invariant ∙ sym c.deref.ensures.value) ∙ sym c.in_ok-has_kid_node.ensures ∙ not-true c.in_ok-has_kid_node.field-0 e in
    ap (λ t. has_resource t path) (sym c.self.view_is)
    ∙ unknown_kid tree path deepest name c.len.ensures.good.shape (sym c.is_merged_path.ensures ∙ c.if-not-is_merged_path.false) deep size
    (sym c.is_under.ensures ∙ c.if-not-is_under.false) c.in-Some.ensures.value none
