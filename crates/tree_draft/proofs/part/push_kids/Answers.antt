use Rattle.std.proofs.Common.{◌≡◌, ◌∙◌, Bor, ℕ, List, ap, sym, subst, map, arith}
use Rattle.std.specs.Prelude.{IsTrue}
use Rattle.sp_base.specs.Paths.{seg_ok}
use Rattle.resource_tree.specs.Content.{kid}
use Rattle.tree_draft.proofs.LentLemmas.{all_pushed, kids_lent, pushed_lent}
use Rattle.tree_draft.proofs.part.push_kids.Goals as goal

pub loop-name-preserved : goal.loop-name-preserved
loop-name-preserved c =
    let tree = c.args.draft.now.content in
    pushed_lent tree c.requires c.args.path.now c.as_slice-name-items.result.now c.loop-name.name-index c.name-item.result c.in-Ok.below c.args.paths.now.items c.loop-name.paths.items c.push.new.self.items
    (kids_lent tree c.args.path.now c.in-Some.node _ (sym c.node.ensures.value ∙ c.in-Some.is) (ap (map (λ (w : Bor (List ℕ)). w.now)) c.as_slice-name-items.ensures.value ∙ c.in_ok-names.ensures))
    c.loop-name-test.true
    c.name-item.is
    (subst (λ (n : List ℕ). IsTrue (seg_ok n) → c.in-Ok.below ≡ kid c.args.path.now n) c.text.ensures c.in-Ok.ensures.whole)
    c.loop-name.invariant
    c.in_ok-push-in-Ok.ensures.items

pub returns : goal.returns
returns c =
    let tree = c.args.draft.now.content in
    all_pushed tree c.args.path.now c.as_slice-name-items.result.now c.loop-name.name-index c.args.paths.now.items c.loop-name.paths.items
    (kids_lent tree c.args.path.now c.in-Some.node _ (sym c.node.ensures.value ∙ c.in-Some.is) (ap (map (λ (w : Bor (List ℕ)). w.now)) c.as_slice-name-items.ensures.value ∙ c.in_ok-names.ensures))
    (omega arith)
    c.loop-name.invariant
