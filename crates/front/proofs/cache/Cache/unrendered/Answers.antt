use Rattle.std.proofs.Common.{◌≡◌, ◌&&◌, None, Some, ap, option_map, sym, ◌∙◌}
use Rattle.std.specs.Prelude.{position}
use Rattle.run_events.specs.declared.flying.Flying.{Flying}
use Rattle.run_events.specs.declared.step.Pick.TheVariants.{First}
use Rattle.run_events.specs.Events.{is_picked, is_unrendered}
use Rattle.front.specs.Caches.{CacheParts, flying_of}
use Rattle.front.proofs.EndingLemmas.{at-place, passes}
use Rattle.front.proofs.FlightListLemmas.{found-none}
use Rattle.front.proofs.cache.Cache.unrendered.Goals as goal

pub returns-in_err-at : goal.returns-in_err-at
returns-in_err-at c =
    let flights_are : c.args.self.now.flying ≡ flying_of c.self.inside.flights.items = ap (λ (parts : CacheParts). parts.flying) (sym c.self.view_is) in
    let found : None ≡ position (λ flying. is_picked First flying && is_unrendered flying) (flying_of c.self.inside.flights.items) = rw c.deref.ensures.value at c.in_err-at.ensures in
    rw flights_are (c.from_residual.ensures ∙ sym (ap (option_map (λ (f : Flying). f.number)) (found-none (λ flying. is_picked First flying && is_unrendered flying) (flying_of c.self.inside.flights.items) (sym found))))

pub returns : goal.returns
returns c =
    let flights_are : c.args.self.now.flying ≡ flying_of c.self.inside.flights.items = ap (λ (parts : CacheParts). parts.flying) (sym c.self.view_is) in
    let found : Some c.in_ok-at.at ≡ position (λ flying. is_picked First flying && is_unrendered flying) (flying_of c.self.inside.flights.items) = rw c.deref.ensures.value at c.in_ok-at.ensures in
    let here = at-place (λ flying. is_picked First flying && is_unrendered flying) c.self.inside.flights.items c.in_ok-at.at c.index.result.now found c.index.ensures in
    rw flights_are (sym (ap (option_map (λ (f : Flying). f.number)) (passes (λ flying. is_picked First flying && is_unrendered flying) c.self.inside.flights.items c.in_ok-at.at c.index.result.now found here)))
