use Rattle.std.proofs.Common.{◌≡◌, ℕ, List, subst, false}
use Rattle.std.specs.List.{list_any}
use Rattle.resource_tree.specs.Content.{node_at, same_path}
use Rattle.resource_tree.specs.Patches.{PatchEntries, patching_at}
use Rattle.url_maps.specs.Claims.{ClaimRows as Named}
use Rattle.url_maps.specs.Siblings.{PutsFamilies}
use Rattle.url_maps.proofs.SiblingLemmas.{leads_on}
use Rattle.url_maps.proofs.siblings.siblings_change.Goals as goal

pub returns : goal.returns
returns c =
    let tree = c.args.tree.now in
    let patch = c.args.patch.now in
    let parents = c.as_slice-parents.result.now in
    leads_on (node_at tree) (patching_at tree patch) parents c.put_families.new.change c.put_families-2.new.change
    (λ parent t other. c.in_ok-changed.ensures parent t (subst (λ (ps : List (List (List ℕ))). list_any (same_path parent) ps ≡ false) c.as_slice-parents.ensures other))
    (subst (λ (rows : Named). PutsFamilies (node_at tree) false parents rows c.put_families.new.change) c.new-change.ensures
    (subst (λ (rows : PatchEntries). PutsFamilies (patching_at tree rows) false parents c.new-change.result c.put_families.new.change) c.new-unchanged.ensures c.in_ok-put_families.ensures))
    c.in_ok-put_families-2.ensures
