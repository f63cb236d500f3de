-- A flight that is rendered where it stands.
use Rattle.std.proofs.Common.{◌≡◌, ℕ, zero, suc, ◌<◌, List, [], ◌∷◌, Option, Some, None, get_or, length, map, refl, ap, sym, ◌∙◌, arith}
use Rattle.std.specs.Prelude.{IfSome, IsTrue, slice_get, slice_set}
use Rattle.std.specs.Option.{option_map}
use Rattle.std.proofs.lemmas.Option.{slice_get-map}
use Rattle.sp_base.specs.MediaTypes.{is_kind}
use Rattle.sp_base.specs.declared.answer.Answer.{Answer}
use Rattle.coherence_core.specs.declared.core_state.Core.{Core}
use Rattle.run_events.specs.declared.flying.Flying.{Flying}
use Rattle.front.specs.Caches.{AreTicketed, HaveKinds, flying_of, tickets_of}
use Rattle.front.specs.declared.ticketed.TicketedFlight.{TicketedFlight}
use Rattle.front.proofs.FlightListLemmas.{got}

pub map-set : {A B : Type 0} (f : A → B) (xs : List A) (i : ℕ) (y : A) → map f (slice_set xs i y) ≡ slice_set (map f xs) i (f y)
map-set f [] zero y = refl
map-set f [] (suc i) y = refl
map-set f (x ∷ xs) zero y = refl
map-set f (x ∷ xs) (suc i) y = ap (λ ys. f x ∷ ys) (map-set f xs i y)

pub got-set : {A : Type 0} (xs : List A) (i : ℕ) (y z : A) → i < length xs → z ≡ get_or (slice_set xs i y) i z → z ≡ y
got-set [] i y z within is = absurd (omega (arith, within))
got-set (x ∷ xs) zero y z within is = is
got-set (x ∷ xs) (suc i) y z within is = got-set xs i y z (omega (arith, within)) is

pub within-map : (ts : List TicketedFlight) (i : ℕ) → i < length (flying_of ts) → i < length ts
within-map [] i within = within
within-map (t ∷ ts) zero within = omega arith
within-map (t ∷ ts) (suc i) within = let rest = within-map ts i (omega (arith, within)) in omega (arith, rest)

-- the flight that stands there
pub stands-at : (ts : List TicketedFlight) (i : ℕ) (x : TicketedFlight) (flying : Flying) → x ≡ get_or ts i x → slice_get (flying_of ts) i ≡ Some flying → x.flying ≡ flying
stands-at ts i x flying is at = by_place (slice_get ts i) refl (sym (slice_get-map (λ (t : TicketedFlight). t.flying) ts i) ∙ at)
  where
    by_place : (o : Option TicketedFlight) → slice_get ts i ≡ o → option_map (λ (t : TicketedFlight). t.flying) (slice_get ts i) ≡ Some flying → x.flying ≡ flying
    by_place None none some = absurd (let wrong : None ≡ Some flying = rw none at some in let no : ⊥ = cc in no)
    by_place (Some t) there some =
        let mapped : Some t.flying ≡ Some flying = rw there at some in
        let same : t.flying ≡ flying = cc in
        ap (λ (u : TicketedFlight). u.flying) (got ts i x t is there) ∙ same

tickets-set : (ts : List TicketedFlight) (i : ℕ) (x y : TicketedFlight) → x ≡ get_or ts i x → y.ticket ≡ x.ticket → tickets_of (slice_set ts i y) ≡ tickets_of ts
tickets-set [] zero x y is same = refl
tickets-set [] (suc i) x y is same = refl
tickets-set (t ∷ ts) zero x y is same = ap (λ n. n ∷ tickets_of ts) (same ∙ ap (λ (u : TicketedFlight). u.ticket) is)
tickets-set (t ∷ ts) (suc i) x y is same = ap (λ ns. t.ticket ∷ ns) (tickets-set ts i x y is same)

kinds-set : (ts : List TicketedFlight) (i : ℕ) (y : TicketedFlight) → HaveKinds (flying_of ts) → IfSome y.flying.rendered (λ (answer : Answer). IsTrue (is_kind answer.kind)) → HaveKinds (flying_of (slice_set ts i y))
kinds-set [] zero y kinds kind = tt
kinds-set [] (suc i) y kinds kind = tt
kinds-set (t ∷ ts) zero y kinds kind = (kind, kinds.1)
kinds-set (t ∷ ts) (suc i) y kinds kind = (kinds.0, kinds-set ts i y kinds.1 kind)

pub ticketed-set : (core : Core) (ts : List TicketedFlight) (i : ℕ) (x y : TicketedFlight) → AreTicketed core ts → x ≡ get_or ts i x → y.ticket ≡ x.ticket → IfSome y.flying.rendered (λ (answer : Answer). IsTrue (is_kind answer.kind)) → AreTicketed core (slice_set ts i y)
ticketed-set core ts i x y ticketed is same kind = record {
  tickets = tickets-set ts i x y is same ∙ ticketed.tickets;
  rising = ticketed.rising;
  kinds = kinds-set ts i y ticketed.kinds kind;
}
