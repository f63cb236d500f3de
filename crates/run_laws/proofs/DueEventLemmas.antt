-- Each event leaves nothing due.
use Rattle.std.proofs.Common.{◌≡◌, ◌+◌, ◌∙◌, ℕ, Bool, true, false, List, [], ◌∷◌, Option, Some, None, refl, ap, sym, inl, inr, eq-eqb}
use Rattle.std.specs.Prelude.{if◌then◌else◌, is_some, nat_eq, nat_le}
use Rattle.std.specs.Map.{update}
use Rattle.sp_base.specs.declared.answer.Answer.{Answer}
use Rattle.cache_log.specs.Entries.{LogEntry, FlushOutcome}
use Rattle.connections.specs.Connections.{Connection, Nothing, fresh, with_piece}
use Rattle.connections.specs.Slots.{Response}
use Rattle.run_events.specs.declared.conditions.Conditions.{Conditions}
use Rattle.run_events.specs.declared.flying.Flying.{Flying}
use Rattle.run_events.specs.declared.flying.Flushing.{Flushing}
use Rattle.run_events.specs.declared.note.Note.{Note}
use Rattle.run_events.specs.declared.note.Note.TheVariants.{Failed, Lost, Shut, Up, Down, Refused, Idle}
use Rattle.run_events.specs.declared.step.Step.{Step}
use Rattle.run_events.specs.declared.step.Step.TheVariants as step
use Rattle.run_events.specs.States.{RunState}
use Rattle.run_events.specs.Moves.{due_if_open, flying_at, flush_at, on_connection, over_with, state_after_ending, state_after_note, state_after_notes}
use Rattle.run_events.specs.Restarts.{without_connections}
use Rattle.run_events.specs.Events.{DeliverAs, DeliverTo, Event, HappensBy, LeadsNotes, LoseTo, PieceTo, PurgeTo, RenderTo, going, is_any, is_rendered, is_unrendered, most_connections, opening, picked_flight, state_after_going, state_after_opening, state_before_notes}
use Rattle.run_laws.proofs.AskLemmas.{Numbered, picked-there}
use Rattle.run_laws.proofs.CountLemmas.{cuts-none}
use Rattle.run_laws.proofs.DueLemmas.{IsGiven, ServesOne, given-absent, given-with, one-changed, one-given, one-over, one-slice, settles-given}
use Rattle.run_laws.proofs.FormLemmas.{AreCutNotes, IsCutNote, IsLandingNote, landing-form, restart-cut, slice-form}

given-idle : (w : RunState) (notes : List Note) → notes ≡ Idle ∷ [] → IsGiven w → IsGiven (state_after_notes w notes)
given-idle w notes is given = rw is given

given-opened : (w : RunState) (c : ℕ) (peer : List ℕ) (at : Option Connection) (notes : List Note) → notes ≡ opening c w.connection_count at → IsGiven w → IsGiven (state_after_notes (state_after_opening w c peer at) notes)
given-opened w c peer (Some k) notes is given = rw is given
given-opened w c peer None notes is given = by_room (nat_le most_connections w.connection_count) is
  where
    by_room : (full : Bool) → notes ≡ (if full then Refused c ∷ [] else []) → IsGiven (state_after_notes (if full then w else record w { connection = update nat_eq w.connection c (Some (fresh peer)); connection_count = w.connection_count + 1 }) notes)
    by_room true is = rw is given
    by_room false is = rw is (given-with w c (Some (fresh peer)) (w.connection_count + 1) refl given)

given-gone : (w : RunState) (c : ℕ) (at : Option Connection) (notes : List Note) → notes ≡ going at → IsGiven w → IsGiven (state_after_notes (state_after_going w c at) notes)
given-gone w c None notes is given = rw is given
given-gone w c (Some k) notes is given = rw is (given-with w c None _ refl given)

given-piece : (w : RunState) (e : Event) (c : ℕ) (bytes : List ℕ) (at : Option Connection) → w.connection c ≡ at → PieceTo w e c bytes at → IsGiven w → IsGiven (state_after_notes (on_connection w c (with_piece bytes e.turns e.ends)) e.body)
given-piece w e c bytes None at to given = given-idle (on_connection w c (with_piece bytes e.turns e.ends)) e.body to (given-absent w c (with_piece bytes e.turns e.ends) at given)
given-piece w e c bytes (Some k) at to given = settles-given e.conditions (on_connection w c (with_piece bytes e.turns e.ends)) c e.body to.settles (one-changed w c (with_piece bytes e.turns e.ends) given)

given-render : (w : RunState) (e : Event) (flying : Option Flying) → RenderTo w e flying → IsGiven w → IsGiven (state_after_notes w e.body)
given-render w e None to given = given-idle w e.body to given
given-render w e (Some f) to given = rw to.2 (record { connections = given.connections; slicing = given.slicing })

given-leads : (w : RunState) (m : Conditions) (first : Note) (c : ℕ) (notes : List Note) → LeadsNotes w m first c notes → ServesOne (state_after_note w first) c → IsGiven (state_after_notes w notes)
given-leads w m first c notes leads one = rw leads.begins (settles-given m (state_after_note w first) c leads.rest leads.settles one)

one-landing : (w : RunState) (f : Flying) (note : Note) → flying_at f.number w.flights ≡ Some f → IsGiven w → IsLandingNote f.number note → ServesOne (state_after_note w note) f.connection
one-landing w f note at given (inl kept) = rw (kept.1, at) (one-over w f.number _ _ f given)
one-landing w f note at given (inr (inl unkept)) = rw (unkept, at) (one-over w f.number _ _ f given)
one-landing w f note at given (inr (inr passed)) = rw (passed, at) (one-over w f.number _ _ f given)

given-deliver : (w : RunState) (e : Event) (f : Flying) (answer : Option Answer) → flying_at f.number w.flights ≡ Some f → DeliverAs w e f answer → IsGiven w → IsGiven (state_after_notes w e.body)
given-deliver w e f None at to given = given-idle w e.body to given
given-deliver w e f (Some answer) at to given = given-leads w e.conditions to.0 f.connection e.body to.2 (one-landing w f to.0 at given (landing-form w e.conditions f answer to.0 to.1))

given-delivers : (w : RunState) (e : Event) (flying : Option Flying) → ((f : Flying) → flying ≡ Some f → flying_at f.number w.flights ≡ Some f) → DeliverTo w e flying → IsGiven w → IsGiven (state_after_notes w e.body)
given-delivers w e None at to given = given-idle w e.body to given
given-delivers w e (Some f) at to given = given-deliver w e f f.rendered (at f refl) to given

given-loses : (w : RunState) (e : Event) (flying : Option Flying) → ((f : Flying) → flying ≡ Some f → flying_at f.number w.flights ≡ Some f) → LoseTo w e flying → IsGiven w → IsGiven (state_after_notes w e.body)
given-loses w e None at to given = given-idle w e.body to given
given-loses w e (Some f) at to given = given-leads w e.conditions (Lost f.number) f.connection e.body to (rw (at f refl) (one-over w f.number _ _ f given))

-- the oldest flush is the one with its number
oldest : (w : RunState) (flush : Flushing) (flushes : List Flushing) (g : Flushing) → w.flushes ≡ flush ∷ flushes → flush_at flush.number w.flushes ≡ Some g → g.connection ≡ flush.connection
oldest w flush flushes g is at =
    let here : nat_eq flush.number flush.number ≡ true = eq-eqb flush.number flush.number refl in
    let same : Some flush ≡ Some g = sym (ap (λ (b : Bool). if b then Some flush else flush_at flush.number flushes) here) ∙ sym (ap (flush_at flush.number) is) ∙ at in
    let one : flush ≡ g = cc same in ap (λ (x : Flushing). x.connection) (sym one)

given-purges : (w : RunState) (e : Event) (flushes : List Flushing) → w.flushes ≡ flushes → PurgeTo w e flushes → IsGiven w → IsGiven (state_after_notes w e.body)
given-purges w e [] is to given = given-idle w e.body to given
given-purges w e (flush ∷ flushes) is to given =
    given-leads w e.conditions to.0 flush.connection e.body to.2 (one-slice w flush.number flush.connection to.0 (λ g at. oldest w flush flushes g is at) (slice-form e.conditions flush.number to.0 to.1) (one-given w flush.connection given))

-- ---- a restart
over-slicing : (w : RunState) (n : ℕ) (answer : Answer) (entry : LogEntry) (at : Option Flying) → (over_with w n answer entry at).slicing ≡ w.slicing
over-slicing w n answer entry None = refl
over-slicing w n answer entry (Some f) = refl

ending-slicing : (w : RunState) (v : ℕ) (outcome : FlushOutcome) (response : Response) (at : Option Flushing) → w.slicing ≡ None → (state_after_ending w v outcome response at).slicing ≡ None
ending-slicing w v outcome response None none = none
ending-slicing w v outcome response (Some f) none = refl

cut-slicing : (w : RunState) (note : Note) → IsCutNote note → w.slicing ≡ None → (state_after_note w note).slicing ≡ None
cut-slicing w (Lost n) is none = over-slicing w n _ _ (flying_at n w.flights) ∙ none
cut-slicing w (Failed v failure) is none = ending-slicing w v _ _ (flush_at v w.flushes) none
cut-slicing w (Shut c) is none = none
cut-slicing w (Up epoch) is none = none
cut-slicing w Down is none = none
cut-slicing w note is none = absurd is

cuts-slicing : (w : RunState) (notes : List Note) → AreCutNotes notes → w.slicing ≡ None → (state_after_notes w notes).slicing ≡ None
cuts-slicing w [] are none = none
cuts-slicing w (note ∷ notes) are none = cuts-slicing (state_after_note w note) notes are.1 (cut-slicing w note are.0 none)

absent : (o : Option Connection) → is_some o ≡ false → due_if_open o ≡ Nothing
absent None none = refl
absent (Some k) none = absurd (cc none)

given-restart : (w : RunState) (notes : List Note) → AreCutNotes notes → IsGiven w → IsGiven (state_after_notes (without_connections w) notes)
given-restart w notes are given = record {
  connections = λ c. absent _ ((cuts-none (without_connections w) notes are (record { there = λ q. refl; count = refl })).there c);
  slicing = cuts-slicing (without_connections w) notes are given.slicing;
}

-- ---- an event
pub step-given : (w : RunState) (e : Event) (s : Step) → Numbered w → HappensBy w e s → IsGiven w → IsGiven (state_after_notes (state_before_notes w e s) e.body)
step-given w e (step.Opened c peer) numbered is given = given-opened w c peer (w.connection c) e.body is given
step-given w e (step.Piece c bytes) numbered to given = given-piece w e c bytes (w.connection c) refl to given
step-given w e (step.Gone c) numbered is given = given-gone w c (w.connection c) e.body is given
step-given w e (step.Direct target) numbered to given = rw to.2 given
step-given w e (step.Render pick) numbered to given = given-render w e (picked_flight pick is_unrendered w.flights) to given
step-given w e (step.Deliver pick) numbered to given = given-delivers w e (picked_flight pick is_rendered w.flights) (λ f found. picked-there w _ f numbered found) to given
step-given w e (step.Lose pick) numbered to given = given-loses w e (picked_flight pick is_any w.flights) (λ f found. picked-there w _ f numbered found) to given
step-given w e step.Purge numbered to given = given-purges w e w.flushes refl to given
step-given w e step.Restart numbered to given = given-restart w e.body (restart-cut w e.conditions e.body to) given
