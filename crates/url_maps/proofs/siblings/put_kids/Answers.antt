use Rattle.std.proofs.Common.{◌≡◌, ◌∙◌, ℕ, List, [], Some, None, ap, subst, sym}
use Rattle.std.specs.Option.{option_map_or}
use Rattle.std.proofs.lemmas.List.{take_all}
use Rattle.resource_tree.specs.Content.{kid}
use Rattle.resource_tree.specs.Patches.{patching_at}
use Rattle.url_maps.specs.Claims.{claims_by}
use Rattle.url_maps.specs.Siblings.{PutsRows, path_if, names_first}
use Rattle.url_maps.proofs.SiblingLemmas.{PutsSome, puts_all, puts_more, puts_none}
use Rattle.url_maps.proofs.siblings.put_kids.Goals as goal

pub returns-in_default : goal.returns-in_default
returns-in_default c =
    let at = patching_at c.args.tree.now c.args.patch.now in
    let none : at c.args.parent.now ≡ None = sym c.in_default.ensures in
    puts_all at (names_first c.args.naming) c.args.parent.now [] c.args.change.now c.args.change.now (sym (ap (λ o. option_map_or (λ n. n.kids) o []) none)) (puts_none at (names_first c.args.naming) c.args.parent.now c.args.change.now)

pub loop-name-init : goal.loop-name-init
loop-name-init c = puts_none (patching_at c.args.tree.now c.args.patch.now) (names_first c.args.naming) c.args.parent.now c.args.change.now

pub loop-name-preserved : goal.loop-name-preserved
loop-name-preserved c =
    let at = patching_at c.args.tree.now c.args.patch.now in
    let parent = c.args.parent.now in
    puts_more at (names_first c.args.naming) parent c.as_slice-kids.result.now c.loop-name.name-index c.name-item.result c.args.change.now c.loop-name.change c.put_kid.new.change
    c.loop-name-test.true c.name-item.is c.loop-name.invariant
    (subst (λ (word : List ℕ). PutsRows (path_if (names_first c.args.naming) (kid parent word)) (claims_by at (kid parent word)) c.loop-name.change c.put_kid.new.change) c.text.ensures c.in_ok-put_kid.ensures)

pub returns : goal.returns
returns c =
    let at = patching_at c.args.tree.now c.args.patch.now in
    let parent = c.args.parent.now in
    let there : at parent ≡ Some c.in-Some.node.now = sym c.in-Some.ensures in
    puts_all at (names_first c.args.naming) parent c.as_slice-kids.result.now c.args.change.now c.loop-name.change
    (c.as_slice-kids.ensures ∙ sym (ap (λ o. option_map_or (λ n. n.kids) o []) there))
    (subst (λ (ks : List (List ℕ)). PutsSome at (names_first c.args.naming) parent ks c.args.change.now c.loop-name.change) (take_all c.loop-name.name-index c.as_slice-kids.result.now c.loop-name-test.false) c.loop-name.invariant)
