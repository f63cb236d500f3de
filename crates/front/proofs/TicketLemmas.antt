-- Flights with their tickets, and one more of them.
use Rattle.std.proofs.Common.{◌≡◌, ℕ, ◌+◌, ◌++◌, List, [], ◌∷◌, Option, None, refl, ap, sym, ◌∙◌}
use Rattle.flights.specs.Flights.{numbers_of}
use Rattle.cover_rules.specs.declared.page.PageKey.{PageKey}
use Rattle.coherence_core.specs.Cores.{FlightsRise, flights_of}
use Rattle.coherence_core.specs.Requests.{got_flights}
use Rattle.coherence_core.specs.declared.answers.Got.{Got}
use Rattle.coherence_core.specs.declared.answers.Got.TheVariants as got
use Rattle.coherence_core.specs.declared.core_state.Core.{Core}
use Rattle.run_events.specs.declared.flying.Flying.{Flying}
use Rattle.front.specs.declared.ticketed.TicketedFlight.{TicketedFlight}
use Rattle.front.specs.Caches.{AreTicketed, HaveKinds, flying_of, tickets_of}

-- ---- tickets
flying-push : (flights : List TicketedFlight) (flight : TicketedFlight) → flying_of (flights ++ flight ∷ []) ≡ flying_of flights ++ flight.flying ∷ []
flying-push [] flight = refl
flying-push (f ∷ flights) flight = ap (λ fs. f.flying ∷ fs) (flying-push flights flight)

tickets-push : (flights : List TicketedFlight) (flight : TicketedFlight) → tickets_of (flights ++ flight ∷ []) ≡ tickets_of flights ++ flight.ticket ∷ []
tickets-push [] flight = refl
tickets-push (f ∷ flights) flight = ap (λ ns. f.ticket ∷ ns) (tickets-push flights flight)

kinds-push : (flights : List TicketedFlight) (flight : TicketedFlight) → HaveKinds (flying_of flights) → flight.flying.rendered ≡ None → HaveKinds (flying_of (flights ++ flight ∷ []))
kinds-push [] flight kinds none = (rw none tt, tt)
kinds-push (f ∷ flights) flight kinds none = (kinds.0, kinds-push flights flight kinds.1 none)

pub kept-flying : (old new : List TicketedFlight) (ticket : ℕ) (flying made : Flying) → new ≡ old ++ record { ticket = ticket; flying = flying } ∷ [] → flying ≡ made → flying_of new ≡ flying_of old ++ made ∷ []
kept-flying old new ticket flying made added is = ap flying_of added ∙ flying-push old (record { ticket = ticket; flying = flying }) ∙ ap (λ f. flying_of old ++ f ∷ []) is

numbers-got : (numbers more : List ℕ) (out other : Got) → out ≡ other → more ≡ numbers ++ got_flights out → more ≡ numbers ++ got_flights other
numbers-got numbers more out other is got_is = got_is ∙ ap (λ o. numbers ++ got_flights o) is

pub ticketed-more : (old mid new : Core) (flights kept : List TicketedFlight) (r : Got) (n : ℕ) (key : Option PageKey) (flying : Flying) → AreTicketed old flights → r ≡ got.Asked n key → numbers_of (flights_of mid) ≡ numbers_of (flights_of old) ++ got_flights r → (FlightsRise old → FlightsRise mid) → new ≡ mid
    → kept ≡ flights ++ record { ticket = n; flying = flying } ∷ [] → flying.rendered ≡ None → AreTicketed new kept
ticketed-more old mid new flights kept r n key flying ticketed is numbers rises same added none = record {
  tickets = rw (same, added) (tickets-push flights (record { ticket = n; flying = flying }) ∙ ap (λ ns. ns ++ n ∷ []) ticketed.tickets ∙ sym (numbers-got _ _ r (got.Asked n key) is numbers));
  rising = rw same (rises ticketed.rising);
  kinds = rw added (kinds-push flights (record { ticket = n; flying = flying }) ticketed.kinds none);
}
