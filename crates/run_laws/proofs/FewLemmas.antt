-- No more flights are in the air than may be.
use Rattle.std.proofs.Common.{◌≡◌, ◌≤◌, ◌<◌, ◌+◌, ◌||◌, ℕ, Bool, true, false, not, List, [], ◌∷◌, Option, Some, None, Result, Ok, Err, refl, sym, subst, inl, inr, length, arith}
use Rattle.std.specs.Prelude.{IsTrue, if◌then◌else◌, nat_eq, nat_le}
use Rattle.std.specs.Map.{update}
use Rattle.std.proofs.lemmas.List.{length-append, length-map}
use Rattle.sp_base.specs.declared.answer.Answer.{Answer}
use Rattle.sp_base.specs.Requests.{Request}
use Rattle.glob_rules.specs.Rules.{allows}
use Rattle.cover_rules.specs.declared.page.PageKey.{PageKey}
use Rattle.cover_rules.specs.declared.invalidation.Invalidation.{Invalidation}
use Rattle.invalidation.specs.Invalidations.{invalidation_of}
use Rattle.invalidation.specs.declared.inv_fault.InvFault.{InvFault}
use Rattle.http_front.specs.declared.turn.Turn.TheVariants.{Continue, Whole}
use Rattle.cache_log.specs.Entries.{LogEntry, FlushOutcome}
use Rattle.connections.specs.Connections.{Close, Connection, Due, Nothing, Refuse, Send, Treat, fresh}
use Rattle.connections.specs.Slots.{Response}
use Rattle.run_events.specs.declared.conditions.Conditions.{Conditions}
use Rattle.run_events.specs.declared.flying.Flying.{Flying}
use Rattle.run_events.specs.declared.flying.Flushing.{Flushing}
use Rattle.run_events.specs.declared.note.Note.{Note}
use Rattle.run_events.specs.declared.note.Note.TheVariants.{Ask as asked, Hit, Local, Flush, Sliced, Done, Failed, Rendered, Kept, Unkept, Passed, Lost, Sent, Shut, Up, Down}
use Rattle.run_events.specs.declared.step.Step.{Step}
use Rattle.run_events.specs.declared.step.Step.TheVariants as step
use Rattle.run_events.specs.States.{RunState}
use Rattle.run_events.specs.Points.{AnswersFlush, AnswersInvalidation, BeginsFlush, IsFirstPoint, are_stamps_drawn, is_full_of_flushes, peer_of, points}
use Rattle.run_events.specs.Moves.{GivesDue, GivesNext, due_of_connection, flying_at, flush_at, has_number, over_with, state_after_ask, state_after_ending, state_after_flush, state_after_hit, state_after_note, state_after_notes, treated_request, air_without}
use Rattle.run_events.specs.Events.{Event, HappensBy, most_connections, state_after_going, state_after_opening, state_before_notes}
use Rattle.run_laws.proofs.EachNoteLemmas.{AllIn, IsOfEach, step-all}
use Rattle.run_laws.proofs.FormLemmas.{IsCutNote, IsLandingNote, IsSliceNote, slice-form}
use Rattle.flights.specs.Flights.{most_flights}

-- a flight is asked only where there is room
abbrev HasRoom : RunState → Note → Type 0
HasRoom w (asked n c key) = length w.flights < most_flights
HasRoom w _ = Unit {0}

-- ---- a note that is due
begins-room : (w : RunState) (c : ℕ) (full : Bool) (inv : Invalidation) (note : Note) → BeginsFlush full w c inv note → HasRoom w note
begins-room w c true inv note is = rw is tt
begins-room w c false inv note is = rw is tt

flush-room : (w : RunState) (c : ℕ) (named : Result Invalidation InvFault) (note : Note) → AnswersFlush w c named note → HasRoom w note
flush-room w c (Err fault) note is = rw is tt
flush-room w c (Ok inv) note is = begins-room w c (is_full_of_flushes w) inv note is

invalidation-room : (w : RunState) (c : ℕ) (request : Request) (may : Bool) (note : Note) → AnswersInvalidation may w c request note → HasRoom w note
invalidation-room w c request false note is = rw is tt
invalidation-room w c request true note is = flush-room w c (invalidation_of request) note is

not-full : (n : ℕ) (worn : Bool) → (IsTrue (nat_le most_flights n || worn) → ⊥) → n < most_flights
not-full n worn room = by_test (nat_le most_flights n) refl room
  where
    by_test : (b : Bool) → nat_le most_flights n ≡ b → (IsTrue (b || worn) → ⊥) → n < most_flights
    by_test true e free = absurd (free refl)
    by_test false e free = grind (arith, e)

first-room : (m : Conditions) (w : RunState) (c : ℕ) (request : Request) (note : Note) → IsFirstPoint m w c request note points → HasRoom w note
first-room m w c request note (inl crowded) = rw crowded.1 tt
first-room m w c request note (inr (_, inl fallen)) = rw fallen.1 tt
first-room m w c request note (inr (_, inr (_, inl inv))) = invalidation-room w c request (allows w.farm.clients (peer_of (w.connection c))) note inv.1
first-room m w c request note (inr (_, inr (_, inr (_, inl hidden)))) = rw hidden.1 tt
first-room m w c request note (inr (_, inr (_, inr (_, inr (_, inl held))))) = rw held.1.2 tt
first-room m w c request note (inr (_, inr (_, inr (_, inr (_, inr (_, inl full)))))) = rw full.1 tt
first-room m w c request note (inr (_, inr (_, inr (_, inr (_, inr (_, inr (room, inl free))))))) = rw free.1 (not-full (length w.flights) (are_stamps_drawn w) room)
first-room m w c request note (inr (_, inr (_, inr (_, inr (_, inr (_, inr (_, inr (never, _)))))))) = absurd never

slice-room : (w : RunState) (v : ℕ) (note : Note) → IsSliceNote v note → HasRoom w note
slice-room w v note (inl done) = rw done tt
slice-room w v note (inr (inl sliced)) = rw sliced tt
slice-room w v note (inr (inr failed)) = rw failed.1 tt

gives-room : (m : Conditions) (w : RunState) (c : ℕ) (owed : Due) (note : Note) → GivesDue m w c owed note → HasRoom w note
gives-room m w c (Send slot) note gives = rw gives.1 tt
gives-room m w c (Treat Continue) note gives = absurd gives
gives-room m w c (Treat (Whole request)) note (inl first) = first-room m w c request note first
gives-room m w c (Treat (Whole request)) note (inr out) = rw out.1 tt
gives-room m w c (Refuse fault) note gives = rw gives tt
gives-room m w c Close note gives = rw gives tt
gives-room m w c Nothing note gives = absurd gives

next-room : (m : Conditions) (w : RunState) (c : ℕ) (slicing : Option ℕ) (note : Note) → GivesNext m w c slicing note → HasRoom w note
next-room m w c None note gives = gives-room m w c (due_of_connection w c) note gives
next-room m w c (Some v) note gives = slice-room w v note (slice-form m v note gives)

landing-room : (w : RunState) (n : ℕ) (note : Note) → IsLandingNote n note → HasRoom w note
landing-room w n note (inl kept) = rw kept.1 tt
landing-room w n note (inr (inl unkept)) = rw unkept tt
landing-room w n note (inr (inr passed)) = rw passed tt

cut-room : (w : RunState) (note : Note) → IsCutNote note → HasRoom w note
cut-room w (asked n c key) is = absurd is
cut-room w note is = tt

each-room : (s : Step) → IsOfEach HasRoom s
each-room s = record {
  due = λ m w c note gives. next-room m w c w.slicing note gives;
  slice = λ m w v note gives. slice-room w v note (slice-form m v note gives);
  landing = landing-room;
  lost = λ w n. tt;
  idle = λ w. tt;
  answer = λ w answer. tt;
  rendered = λ w n answer. tt;
  refused = λ w c opens. tt;
  cut = λ is w note cut. cut-room w note cut;
}

-- ---- a note
abbrev pub AreFew : RunState → Type 0
AreFew w = length w.flights ≤ most_flights

length-air_without : (n : ℕ) (flights : List Flying) → length (air_without n flights) ≤ length flights
length-air_without n [] = omega arith
length-air_without n (f ∷ flights) = by_test (not (has_number n f)) (length-air_without n flights)
  where
    by_test : (b : Bool) → length (air_without n flights) ≤ length flights → length (if b then f ∷ air_without n flights else air_without n flights) ≤ length (f ∷ flights)
    by_test true less = omega (arith, less)
    by_test false less = omega (arith, less)

ask-few : (w : RunState) (n c : ℕ) (key : Option PageKey) (request : Option Request) → length w.flights < most_flights → AreFew w → AreFew (state_after_ask w n c key request)
ask-few w n c key None room few = few
ask-few w n c key (Some request) room few = omega (arith, room, length-append w.flights (record { number = n; connection = c; request = request; rendered = None } ∷ []))

over-few : (w : RunState) (n : ℕ) (answer : Answer) (entry : LogEntry) (at : Option Flying) → AreFew w → AreFew (over_with w n answer entry at)
over-few w n answer entry None few = few
over-few w n answer entry (Some f) few = omega (arith, few, length-air_without n w.flights)

hit-few : (w : RunState) (c : ℕ) (key : PageKey) (request : Option Request) → AreFew w → AreFew (state_after_hit w c key request)
hit-few w c key None few = few
hit-few w c key (Some request) few = few

flush-few : (w : RunState) (v c : ℕ) (inv : Invalidation) (request : Option Request) → AreFew w → AreFew (state_after_flush w v c inv request)
flush-few w v c inv None few = few
flush-few w v c inv (Some request) few = few

ending-few : (w : RunState) (v : ℕ) (outcome : FlushOutcome) (response : Response) (at : Option Flushing) → AreFew w → AreFew (state_after_ending w v outcome response at)
ending-few w v outcome response None few = few
ending-few w v outcome response (Some f) few = few

note-few : (w : RunState) (note : Note) → HasRoom w note → AreFew w → AreFew (state_after_note w note)
note-few w (asked n c key) room few = ask-few w n c key (treated_request (due_of_connection w c)) room few
note-few w (Hit c key) room few = hit-few w c key (treated_request (due_of_connection w c)) few
note-few w (Local c status) room few = few
note-few w (Flush v c inv) room few = flush-few w v c inv (treated_request (due_of_connection w c)) few
note-few w (Sliced v) room few = few
note-few w (Done v) room few = ending-few w v _ _ (flush_at v w.flushes) few
note-few w (Failed v failure) room few = ending-few w v _ _ (flush_at v w.flushes) few
note-few w (Rendered n answer) room few = subst (λ n. n ≤ most_flights) (sym (length-map w.flights _)) few
note-few w (Kept n key) room few = over-few w n _ _ (flying_at n w.flights) few
note-few w (Unkept n) room few = over-few w n _ _ (flying_at n w.flights) few
note-few w (Passed n) room few = over-few w n _ _ (flying_at n w.flights) few
note-few w (Lost n) room few = over-few w n _ _ (flying_at n w.flights) few
note-few w (Sent c bytes) room few = few
note-few w (Shut c) room few = few
note-few w (Up epoch) room few = few
note-few w Down room few = few
note-few w note room few = few

notes-few : (w : RunState) (notes : List Note) → AllIn HasRoom w notes → AreFew w → AreFew (state_after_notes w notes)
notes-few w [] all few = few
notes-few w (note ∷ notes) all few = notes-few (state_after_note w note) notes all.1 (note-few w note all.0 few)

-- ---- an event
opened-few : (w : RunState) (c : ℕ) (peer : List ℕ) (at : Option Connection) → AreFew w → AreFew (state_after_opening w c peer at)
opened-few w c peer (Some k) few = few
opened-few w c peer None few = by_room (nat_le most_connections w.connection_count)
  where
    by_room : (full : Bool) → AreFew (if full then w else record w { connection = update nat_eq w.connection c (Some (fresh peer)); connection_count = w.connection_count + 1 })
    by_room true = few
    by_room false = few

gone-few : (w : RunState) (c : ℕ) (at : Option Connection) → AreFew w → AreFew (state_after_going w c at)
gone-few w c None few = few
gone-few w c (Some k) few = few

begun-few : (w : RunState) (e : Event) (s : Step) → AreFew w → AreFew (state_before_notes w e s)
begun-few w e (step.Opened c peer) few = opened-few w c peer (w.connection c) few
begun-few w e (step.Piece c bytes) few = few
begun-few w e (step.Gone c) few = gone-few w c (w.connection c) few
begun-few w e step.Restart few = few
begun-few w e s few = few

pub step-few : (w : RunState) (e : Event) (s : Step) → HappensBy w e s → AreFew w → AreFew (state_after_notes (state_before_notes w e s) e.body)
step-few w e s happens few = notes-few (state_before_notes w e s) e.body (step-all HasRoom w e s (each-room s) happens) (begun-few w e s few)
