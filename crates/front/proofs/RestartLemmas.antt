-- A restart loses each flight in the air.
use Rattle.std.proofs.Common.{◌≡◌, ℕ, ◌++◌, ◌&&◌, Bool, true, false, List, [], ◌∷◌, Option, None, nat_eq, refl, ap, sym, subst, ◌∙◌, append_assoc, append-nil, arith}
use Rattle.std.specs.Prelude.{if◌then◌else◌, position}
use Rattle.std.specs.Option.{option_map}
use Rattle.std.proofs.lemmas.Grind.{common_steps}
use Rattle.sp_outside.specs.Files.{Files}
use Rattle.connections.specs.Connections.{Connection}
use Rattle.flights.specs.Flights.{numbers_of}
use Rattle.flights.specs.declared.flight.Flight.{Flight}
use Rattle.coherence_core.specs.Cores.{flights_of}
use Rattle.coherence_core.specs.declared.core_state.Core.{Core}
use Rattle.run_events.specs.declared.flying.Flying.{Flying}
use Rattle.run_events.specs.declared.note.Note.{Note}
use Rattle.run_events.specs.declared.note.Note.TheVariants.{Lost}
use Rattle.run_events.specs.declared.step.Pick.TheVariants.{First}
use Rattle.run_events.specs.Events.{is_any, is_picked}
use Rattle.run_events.specs.Moves.{state_after_note, state_after_notes}
use Rattle.run_events.specs.States.{RunState}
use Rattle.front.specs.Caches.{AreTicketed, Behind, BehindStandsFor, CacheParts, IsEnding, IsLoss, behind, flying_of, with_end_if}
use Rattle.front.specs.Restarts.{HasLost, IsShut, LosesFlights, lost_notes}
use Rattle.front.specs.declared.answered.Ended.{Ended}
use Rattle.front.specs.declared.ticketed.TicketedFlight.{TicketedFlight}
use Rattle.front.proofs.MoveLemmas.{afters-push}

lost-append : (flights : List Flying) (f : Flying) → lost_notes (flights ++ f ∷ []) ≡ lost_notes flights ++ Lost f.number ∷ []
lost-append [] f = refl
lost-append (g ∷ flights) f = ap (λ notes. Lost g.number ∷ notes) (lost-append flights f)

-- an ending opens no connection
shut-after : (w : RunState) (ended : Ended) (before : ℕ) (new : Behind) → IsShut w → IsEnding w ended before new → IsShut (state_after_note w ended.note)
shut-after w ended before new shut ending = record {
  connections = λ c. ending.connection_is c ∙ none (nat_eq c ended.connection) (w.connection c) (shut.connections c);
  count = ending.count_is ∙ shut.count;
  slicing_is = ending.slicing_is;
}
  where
    none : (b : Bool) (o : Option Connection) → o ≡ None → (if b then option_map (with_end_if ended.awaited ending.response) o else o) ≡ None
    none true o e = rw e refl
    none false o e = e

pub lost-none : (old : CacheParts) (notes : List Note) → HasLost old old notes notes
lost-none old notes = record {
  lost = [];
  flying_is = refl;
  notes_are = sym (append-nil notes);
  flushes_are = refl;
  stands = λ files faults w stands shut. (stands, shut);
}

pub lost-more : (old mid new : CacheParts) (before so_far after_ : List Note) (ended : Ended) → HasLost old mid before so_far → (flying : Flying) × (mid.flying ≡ flying ∷ new.flying) × (ended.note ≡ Lost flying.number) → new.flushes ≡ mid.flushes
    → ((files : Option Files) (faults : ℕ) (w : RunState) → BehindStandsFor (behind mid files faults) w → w.slicing ≡ None → IsLoss w First ended (behind mid files faults) (behind new files faults)) → after_ ≡ so_far ++ ended.note ∷ [] → HasLost old new before after_
lost-more old mid new before so_far after_ ended has first flushes loses notes =
    let f = first.0 in
    record {
      lost = has.lost ++ f ∷ [];
      flying_is = has.flying_is ∙ ap (λ gs. has.lost ++ gs) first.1 ∙ sym (append_assoc has.lost (f ∷ []) new.flying);
      notes_are = notes ∙ ap (λ ns. ns ++ ended.note ∷ []) has.notes_are ∙ ap (λ n. (before ++ lost_notes has.lost) ++ n ∷ []) first.2 ∙ append_assoc before (lost_notes has.lost) (Lost f.number ∷ []) ∙ ap (λ ns. before ++ ns) (sym (lost-append has.lost f));
      flushes_are = flushes ∙ has.flushes_are;
      stands = λ files faults w stands shut.
          let u = state_after_notes w (lost_notes has.lost) in
          let so = has.stands files faults w stands shut in
          let loss = loses files faults u so.0 so.1.slicing_is in
          let is : state_after_notes w (lost_notes (has.lost ++ f ∷ [])) ≡ state_after_note u ended.note =
          ap (state_after_notes w) (lost-append has.lost f) ∙ afters-push w (lost_notes has.lost) (Lost f.number) ∙ ap (state_after_note u) (sym first.2) in
          (subst (BehindStandsFor (behind new files faults)) (sym is) loss.ending.behind_is, subst IsShut (sym is) (shut-after u ended faults (behind new files faults) so.1 loss.ending));
    }

-- none is in the air
pub none-flies : (flights : List Flying) → position (λ flying. is_picked First flying && is_any flying) flights ≡ None → flights ≡ []
none-flies [] none = refl
none-flies (f ∷ flights) none = absurd (let no : ⊥ = grind (arith, common_steps, none) in no)

pub all-lost : (old new : CacheParts) (before after_ : List Note) → HasLost old new before after_ → new.flying ≡ [] → (after_ ≡ before ++ lost_notes old.flying) × ((files : Option Files) (faults : ℕ) → LosesFlights (behind old files faults) (behind new files faults))
all-lost old new before after_ has none =
    let all : has.lost ≡ old.flying = sym (has.flying_is ∙ ap (λ gs. has.lost ++ gs) none ∙ append-nil has.lost) in (
      has.notes_are ∙ ap (λ fs. before ++ lost_notes fs) all,
      λ files faults w stands shut. subst (λ fs. BehindStandsFor (behind new files faults) (state_after_notes w (lost_notes fs)) × IsShut (state_after_notes w (lost_notes fs))) all (has.stands files faults w stands shut),
    )

pub no-flights : (core : Core) (ts : List TicketedFlight) → AreTicketed core ts → flying_of ts ≡ [] → flights_of core ≡ []
no-flights core [] ticketed none = none-numbered (flights_of core) (sym ticketed.tickets)
  where
    none-numbered : (fs : List Flight) → numbers_of fs ≡ [] → fs ≡ []
    none-numbered [] e = refl
    none-numbered (f ∷ fs) e = absurd (let no : ⊥ = cc in no)
no-flights core (t ∷ ts) ticketed none = absurd (let no : ⊥ = cc in no)

pub no-tickets : (ts : List TicketedFlight) → flying_of ts ≡ [] → ts ≡ []
no-tickets [] none = refl
no-tickets (t ∷ ts) none = absurd (let no : ⊥ = cc in no)
