use Rattle.std.proofs.Common.{◌≡◌, ◌&&◌, Some, sym, subst}
use Rattle.std.specs.Prelude.{position}
use Rattle.run_events.specs.Events.{is_any, is_picked}
use Rattle.run_events.specs.declared.step.Pick.TheVariants.{First}
use Rattle.front.specs.Caches.{BehindStandsFor, behind, flying_of}
use Rattle.front.proofs.EndingLemmas.{at-place, first-left, loss-ends, ticket-at, ticketed-left}
use Rattle.front.proofs.cache.Cache.lose.Goals as goal

pub lose-requires : goal.lose-requires
lose-requires c =
    let found : Some c.in_ok-at.at ≡ position (λ flying. is_picked c.args.pick.now flying && is_any flying) (flying_of c.self.inside.flights.items) = rw c.deref.ensures.value at c.in_ok-at.ensures in
    let here = at-place (λ flying. is_picked c.args.pick.now flying && is_any flying) c.self.inside.flights.items c.in_ok-at.at c.remove-ticket.result found c.remove-ticket.ensures.value in
    c.tickets_have_the_places_of_their_flights.ensures.there c.remove-ticket.result.ticket c.in_ok-at.at c.self.inside.core.flights (ticket-at c.self.inside.core c.self.inside.flights.items c.in_ok-at.at c.remove-ticket.result c.self.invariant here)

pub invariant_of-self : goal.invariant_of-self
invariant_of-self c =
    let found : Some c.in_ok-at.at ≡ position (λ flying. is_picked c.args.pick.now flying && is_any flying) (flying_of c.self.inside.flights.items) = rw c.deref.ensures.value at c.in_ok-at.ensures in
    let here = at-place (λ flying. is_picked c.args.pick.now flying && is_any flying) c.self.inside.flights.items c.in_ok-at.at c.remove-ticket.result found c.remove-ticket.ensures.value in
    let ticket = ticket-at c.self.inside.core c.self.inside.flights.items c.in_ok-at.at c.remove-ticket.result c.self.invariant here in
    rw c.remove-ticket.ensures.items (ticketed-left c.self.inside.core c.lose.new.self c.self.inside.flights.items c.in_ok-at.at c.remove-ticket.result c.self.invariant here c.lose.ensures.flights c.lose.ensures.rising
    (c.tickets_have_the_places_of_their_flights.ensures.left 0 c.remove-ticket.result.ticket c.self.inside.core.asked c.in_ok-at.at c.self.inside.core.flights c.self.invariant.rising ticket))

pub returns-clause-loss : goal.returns-clause-loss
returns-clause-loss c = λ files faults w stands quiet.
    let found : Some c.in_ok-at.at ≡ position (λ flying. is_picked c.args.pick.now flying && is_any flying) (flying_of c.self.inside.flights.items) = rw c.deref.ensures.value at c.in_ok-at.ensures in
    let here = at-place (λ flying. is_picked c.args.pick.now flying && is_any flying) c.self.inside.flights.items c.in_ok-at.at c.remove-ticket.result found c.remove-ticket.ensures.value in
    let inside = subst (λ parts. BehindStandsFor (behind parts files faults) w) (sym c.self.view_is) stands in
    rw (c.not_out_of_memory.ensures, ← c.self.view_is, c.remove-ticket.ensures.items) (loss-ends c.self.inside.core c.lose.new.self c.self.inside.flights.items c.self.inside.flushes.items files faults w c.in_ok-at.at c.remove-ticket.result c.args.pick.now c.self.invariant inside here found
    c.lose.ensures.flights c.lose.ensures.queue c.lose.ensures.kept c.lose.ensures.log quiet)

pub returns-clause-first : goal.returns-clause-first
returns-clause-first c = λ first.
    let found : Some c.in_ok-at.at ≡ position (λ flying. is_picked First flying && is_any flying) (flying_of c.self.inside.flights.items) = rw (c.deref.ensures.value, first) at c.in_ok-at.ensures in
    rw (← c.self.view_is, c.remove-ticket.ensures.items) (first-left c.self.inside.flights.items c.in_ok-at.at c.remove-ticket.result found c.remove-ticket.ensures.value)
