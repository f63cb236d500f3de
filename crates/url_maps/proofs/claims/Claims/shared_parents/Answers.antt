use Rattle.std.proofs.Common.{◌≡◌, ◌∙◌, ◌∷◌, [], map, sym, subst}
use Rattle.std.specs.Prelude.{string_bytes}
use Rattle.std.specs.Map.Iter.{deref}
use Rattle.std.proofs.lemmas.List.{map-append}
use Rattle.std.proofs.lemmas.Map.Iter.{iter_end}
use Rattle.url_maps.specs.Claims.{Table, claimants}
use Rattle.url_maps.specs.Siblings.{HasParent}
use Rattle.url_maps.proofs.SharedLemmas.{HaveParents, more_parents, row_parents}
use Rattle.url_maps.proofs.claims.Claims.shared_parents.Goals as goal

pub loop-paths-preserved : goal.loop-paths-preserved
loop-paths-preserved c =
    subst (HaveParents c.push_shared.new.parents) (sym (map-append deref c.loop-paths.yielded (c.in-Some.paths ∷ [])))
    (more_parents c.loop-paths.parents c.push_shared.new.parents (map deref c.loop-paths.yielded) c.in-Some.paths.now c.in_ok-push_shared.ensures.within c.loop-paths.invariant
    (subst (HasParent c.push_shared.new.parents) c.as_slice.ensures c.in_ok-push_shared.ensures.shared))

pub returns : goal.returns
returns c = λ t.
    let es = c.self.inside.table.entries in
    let lists = map (λ e. e.1) es in
    let all : map deref c.loop-paths.yielded ≡ lists = (iter_end deref lists c.loop-paths.yielded _ _ _ _ (c.into_iter-paths-iterator.ensures.into_iter_gives ∙ c.values-paths-items.ensures.rest) c.loop-paths.yielded_by c.in-None.is c.next.ensures.steps).0 in
    subst (λ (v : Table). HasParent c.loop-paths.parents (claimants v.rows t)) c.self.view_is
    (row_parents string_bytes c.loop-paths.parents es (subst (HaveParents c.loop-paths.parents) all c.loop-paths.invariant) t)
