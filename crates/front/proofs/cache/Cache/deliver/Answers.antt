use Rattle.std.proofs.Common.{◌≡◌, ◌&&◌, Some, sym, subst}
use Rattle.std.specs.Prelude.{position}
use Rattle.run_events.specs.Events.{is_picked, is_rendered}
use Rattle.front.specs.Caches.{BehindStandsFor, behind, flying_of}
use Rattle.front.proofs.EndingLemmas.{at-place, flying-at, is-some, kind-at, landing-ends, ticket-at, ticketed-left}
use Rattle.front.proofs.cache.Cache.deliver.Goals as goal

pub rendered_answer-answer-requires : goal.rendered_answer-answer-requires
rendered_answer-answer-requires g c =
    let found : Some c.in_ok-at.at ≡ position (λ flying. is_picked c.args.pick.now flying && is_rendered flying) (flying_of c.self.inside.flights.items) = rw c.deref.ensures.value at c.in_ok-at.ensures in
    let here = at-place (λ flying. is_picked c.args.pick.now flying && is_rendered flying) c.self.inside.flights.items c.in_ok-at.at c.remove-ticket.result found c.remove-ticket.ensures.value in
    is-some c.args.pick.now c.self.inside.flights.items c.in_ok-at.at c.remove-ticket.result found here

pub deliver-landed-requires-clause-flight : goal.deliver-landed-requires-clause-flight
deliver-landed-requires-clause-flight g c =
    let found : Some c.in_ok-at.at ≡ position (λ flying. is_picked c.args.pick.now flying && is_rendered flying) (flying_of c.self.inside.flights.items) = rw c.deref.ensures.value at c.in_ok-at.ensures in
    let here = at-place (λ flying. is_picked c.args.pick.now flying && is_rendered flying) c.self.inside.flights.items c.in_ok-at.at c.remove-ticket.result found c.remove-ticket.ensures.value in
    c.tickets_have_the_places_of_their_flights.ensures.there c.remove-ticket.result.ticket c.in_ok-at.at c.self.inside.core.flights (ticket-at c.self.inside.core c.self.inside.flights.items c.in_ok-at.at c.remove-ticket.result c.self.invariant here)

pub deliver-landed-requires-clause-kind : goal.deliver-landed-requires-clause-kind
deliver-landed-requires-clause-kind g c =
    let found : Some c.in_ok-at.at ≡ position (λ flying. is_picked c.args.pick.now flying && is_rendered flying) (flying_of c.self.inside.flights.items) = rw c.deref.ensures.value at c.in_ok-at.ensures in
    let here = at-place (λ flying. is_picked c.args.pick.now flying && is_rendered flying) c.self.inside.flights.items c.in_ok-at.at c.remove-ticket.result found c.remove-ticket.ensures.value in
    kind-at (flying_of c.self.inside.flights.items) c.in_ok-at.at c.remove-ticket.result.flying c.rendered_answer-answer.result c.self.invariant.kinds (flying-at c.self.inside.flights.items c.in_ok-at.at c.remove-ticket.result here) c.rendered_answer-answer.ensures

pub invariant_of-self : goal.invariant_of-self
invariant_of-self g c =
    let found : Some c.in_ok-at.at ≡ position (λ flying. is_picked c.args.pick.now flying && is_rendered flying) (flying_of c.self.inside.flights.items) = rw c.deref.ensures.value at c.in_ok-at.ensures in
    let here = at-place (λ flying. is_picked c.args.pick.now flying && is_rendered flying) c.self.inside.flights.items c.in_ok-at.at c.remove-ticket.result found c.remove-ticket.ensures.value in
    let ticket = ticket-at c.self.inside.core c.self.inside.flights.items c.in_ok-at.at c.remove-ticket.result c.self.invariant here in
    rw c.remove-ticket.ensures.items (ticketed-left c.self.inside.core c.deliver-landed.new.self c.self.inside.flights.items c.in_ok-at.at c.remove-ticket.result c.self.invariant here c.deliver-landed.ensures.flights c.deliver-landed.ensures.rising
    (c.tickets_have_the_places_of_their_flights.ensures.left 0 c.remove-ticket.result.ticket c.self.inside.core.asked c.in_ok-at.at c.self.inside.core.flights c.self.invariant.rising ticket))

pub returns-clause-landing : goal.returns-clause-landing
returns-clause-landing g c = λ w stands quiet.
    let found : Some c.in_ok-at.at ≡ position (λ flying. is_picked c.args.pick.now flying && is_rendered flying) (flying_of c.self.inside.flights.items) = rw c.deref.ensures.value at c.in_ok-at.ensures in
    let here = at-place (λ flying. is_picked c.args.pick.now flying && is_rendered flying) c.self.inside.flights.items c.in_ok-at.at c.remove-ticket.result found c.remove-ticket.ensures.value in
    let inside = subst (λ parts. BehindStandsFor (behind parts (g.D.Disk.files c.args.disk.now) (g.D.Disk.faults c.args.disk.now)) w) (sym c.self.view_is) stands in
    rw (c.landing_end.ensures, ← c.self.view_is, c.remove-ticket.ensures.items) (landing-ends c.self.inside.core c.deliver-landed.new.self c.self.inside.flights.items c.self.inside.flushes.items _ _ _ _ w c.in_ok-at.at c.remove-ticket.result c.args.pick.now c.rendered_answer-answer.result
    c.deliver-landed.result c.self.invariant inside here found c.rendered_answer-answer.ensures c.deliver-landed.ensures.flights c.deliver-landed.ensures.queue c.deliver-landed.ensures.kept c.deliver-landed.ensures.log c.deliver-landed.ensures.key c.deliver-landed.ensures.disk_failed quiet)
