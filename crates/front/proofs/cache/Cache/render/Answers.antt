use Rattle.std.proofs.Common.{◌≡◌, ◌<◌, Some, ap, length, refl, sym, ◌∙◌}
use Rattle.std.specs.Prelude.{slice_get, slice_set}
use Rattle.run_events.specs.declared.flying.Flying.{Flying}
use Rattle.run_events.specs.Moves.{with_rendered}
use Rattle.front.specs.Caches.{CacheParts, flying_of}
use Rattle.front.specs.declared.ticketed.TicketedFlight.{TicketedFlight}
use Rattle.front.proofs.RenderingLemmas.{got-set, map-set, stands-at, ticketed-set, within-map}
use Rattle.front.proofs.cache.Cache.render.Goals as goal

pub invariant_of-self : goal.invariant_of-self
invariant_of-self c = ticketed-set c.self.inside.core c.self.inside.flights.items c.args.at c.index_mut.result.now _ c.self.invariant c.index_mut.ensures.value refl c.requires.kind

pub returns-clause-number : goal.returns-clause-number
returns-clause-number c = λ flying here.
    let flights_are : c.args.self.now.flying ≡ flying_of c.self.inside.flights.items = ap (λ (parts : CacheParts). parts.flying) (sym c.self.view_is) in
    let here_is : slice_get (flying_of c.self.inside.flights.items) c.args.at ≡ Some flying = rw flights_are at here in
    let within : c.args.at < length (flying_of c.self.inside.flights.items) = rw flights_are at c.requires.within in
    ap (λ (t : TicketedFlight). t.flying.number) (got-set c.self.inside.flights.items c.args.at _ c.index.result.now (within-map c.self.inside.flights.items c.args.at within) c.index.ensures)
    ∙ ap (λ (f : Flying). f.number) (stands-at c.self.inside.flights.items c.args.at c.index_mut.result.now flying c.index_mut.ensures.value here_is)

pub returns-clause-flying : goal.returns-clause-flying
returns-clause-flying c = λ flying here.
    let flights_are : c.args.self.now.flying ≡ flying_of c.self.inside.flights.items = ap (λ (parts : CacheParts). parts.flying) (sym c.self.view_is) in
    let here_is : slice_get (flying_of c.self.inside.flights.items) c.args.at ≡ Some flying = rw flights_are at here in
    let same = stands-at c.self.inside.flights.items c.args.at c.index_mut.result.now flying c.index_mut.ensures.value here_is in
    rw flights_are (map-set (λ (t : TicketedFlight). t.flying) c.self.inside.flights.items c.args.at _ ∙ ap (λ (f : Flying). slice_set (flying_of c.self.inside.flights.items) c.args.at (with_rendered c.args.answer f)) same)
