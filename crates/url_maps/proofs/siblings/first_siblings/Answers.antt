use Rattle.std.proofs.Common.{◌∙◌, ap, true, subst}
use Rattle.std.specs.List.{list_any}
use Rattle.resource_tree.specs.Content.{node_at, same_path}
use Rattle.resource_tree.specs.Patches.{PatchEntries, patching_at}
use Rattle.url_maps.specs.Claims.{ClaimRows as Named}
use Rattle.url_maps.specs.Changes.{claimants_over}
use Rattle.url_maps.specs.Siblings.{PutsFamilies}
use Rattle.url_maps.proofs.SharedLemmas.{names_over_claims}
use Rattle.url_maps.proofs.siblings.first_siblings.Goals as goal

pub returns : goal.returns
returns c =
    let tree = c.args.tree.now in
    let changed = c.put_families.new.change in
    let once = c.as_slice-2.result.now in
    names_over_claims c.a_path_and_its_text.ensures.read tree c.len.ensures.good.shape c.args.claims.rows changed c.change-2.new.self.rows c.in_ok-shared.shared once c.requires c.in_ok-shared.ensures
    (λ q. ap (list_any (same_path q)) c.as_slice-2.ensures ∙ c.in_ok-parents.ensures q ∙ ap (list_any (same_path q)) c.as_slice.ensures)
    (subst (λ (rows : Named). PutsFamilies (node_at tree) true once rows changed) c.new-change.ensures
    (subst (λ (rows : PatchEntries). PutsFamilies (patching_at tree rows) true once c.new-change.result changed) c.new-unchanged.ensures c.in_ok-put_families.ensures))
    (λ t. c.change-2.ensures t ∙ ap (λ (rows : Named). claimants_over changed rows t) c.make_room.ensures.rows)
