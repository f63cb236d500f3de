use Rattle.std.proofs.Common.{ℕ, List, subst}
use Rattle.std.proofs.lemmas.List.{take_all}
use Rattle.resource_tree.specs.Patches.{patching_at}
use Rattle.url_maps.specs.Siblings.{PutsFamilies, names_first}
use Rattle.url_maps.proofs.SiblingLemmas.{families_more, families_none}
use Rattle.url_maps.proofs.siblings.put_families.Goals as goal

pub loop-parent-init : goal.loop-parent-init
loop-parent-init c = families_none (patching_at c.args.tree.now c.args.patch.now) (names_first c.args.naming) c.args.change.now

pub loop-parent-preserved : goal.loop-parent-preserved
loop-parent-preserved c =
    families_more c.a_path_and_its_text.ensures.read (patching_at c.args.tree.now c.args.patch.now) (names_first c.args.naming) c.args.parents.now c.loop-parent.parent-index c.parent-item.result c.args.change.now c.loop-parent.change c.put_kids.new.change
    c.loop-parent-test.true c.parent-item.is c.loop-parent.invariant c.in_ok-put_kids.ensures

pub returns : goal.returns
returns c = subst (λ (ps : List (List (List ℕ))). PutsFamilies (patching_at c.args.tree.now c.args.patch.now) (names_first c.args.naming) ps c.args.change.now c.loop-parent.change) (take_all c.loop-parent.parent-index c.args.parents.now c.loop-parent-test.false) c.loop-parent.invariant
