use Rattle.std.proofs.Common.{◌≡◌, ◌++◌, ◌∷◌, [], ap, sym, ◌∙◌}
use Rattle.std.specs.Prelude.{string_bytes}
use Rattle.std.specs.FinMap.{keys}
use Rattle.std.specs.Map.Iter.{deref_pair}
use Rattle.std.proofs.lemmas.Map.Iter.{iter_end}
use Rattle.sp_outside.proofs.Listing.{keys_held, names_of, one_named, seen}
use Rattle.sp_outside.proofs.names.Names.all.Goals as goal

pub loop-name-preserved : goal.loop-name-preserved
loop-name-preserved g c =
    let names = c.loop-name.names in
    let name = string_bytes c.in-Some.name.now in
    let grown : c.push.new.self ≡ names ++ name ∷ [] = c.in_ok-push.ensures.ok ∙ ap (λ n. names ++ n ∷ []) (c.in_ok-of.ensures ∙ c.as_str.ensures.value) in
    grown ∙ one_named c.loop-name.yielded (c.in-Some.name, c.in-Some.field-0-1) names c.loop-name.invariant

pub returns : goal.returns
returns g c =
    let held = c.self.inside.held.entries in
    c.loop-name.invariant ∙ seen c.loop-name.yielded
    ∙ ap names_of (iter_end deref_pair held c.loop-name.yielded _ _ _ _ (c.into_iter-name-iterator.ensures.into_iter_gives ∙ c.iter-name-items.ensures.rest) c.loop-name.yielded_by c.in-None.is c.next.ensures.steps).0
    ∙ sym (keys_held held c.self.invariant.rising)
    ∙ ap keys c.self.view_is
