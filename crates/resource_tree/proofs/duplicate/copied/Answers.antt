use Rattle.std.proofs.Common.{◌≡◌, ◌∙◌, [], sym, map, ap, refl}
use Rattle.std.specs.Map.Iter.{deref_pair}
use Rattle.std.proofs.lemmas.Map.Iter.{rest_so_far, rest_more, iter_end}
use Rattle.resource_tree.specs.Content.{by_path}
use Rattle.resource_tree.specs.InOrder.{in_order, Entries}
use Rattle.resource_tree.proofs.EntriesInOrder.{nil_in_order}
use Rattle.resource_tree.proofs.HashedNodes.{copied_more}
use Rattle.resource_tree.proofs.duplicate.copied.Goals as goal

pub loop-path-init : goal.loop-path-init
loop-path-init c = c.new-copy.ensures.empty ∙ sym (nil_in_order by_path [] refl)

pub loop-path-preserved : goal.loop-path-preserved
loop-path-preserved c =
    copied_more c.nodes.inside.map.entries c.loop-path.path-iterator c.next.new.self c.loop-path.copy.entries c.insert_copy.new.nodes.entries c.loop-path.yielded (c.in-Some.path, c.in-Some.node) c.in-Some.path.now c.in-Some.node.now
    c.into_iter-path-iterator.ensures.into_iter_gives.4
    (sym c.into_iter-path-iterator.ensures.into_iter_gives.0 ∙ rest_so_far deref_pair c.loop-path.yielded _ _ c.loop-path.yielded_by)
    (rest_more deref_pair _ _ _ (c.in-Some.path, c.in-Some.node) c.in-Some.is c.next.ensures.steps)
    c.loop-path.invariant
    refl
    refl
    c.in_ok-insert_copy.ensures

pub returns : goal.returns
returns c =
    let es = c.nodes.inside.map.entries in
    let all : map deref_pair c.loop-path.yielded ≡ es = (iter_end deref_pair es c.loop-path.yielded _ _ _ _ c.into_iter-path-iterator.ensures.into_iter_gives.0 c.loop-path.yielded_by c.in-None.is c.next.ensures.steps).0 in
    c.loop-path.invariant ∙ ap (in_order by_path) all ∙ ap (λ (v : Entries). v.entries) c.nodes.view_is
