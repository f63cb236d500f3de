-- Every run is sound, event by event.
use Rattle.std.proofs.Common.{◌≡◌, ℕ, ◌+◌, ◌<◌, ◌++◌, ◌&&◌, Bool, true, false, List, [], ◌∷◌, Option, Some, None, map, refl, subst, ap, ◌∙◌, arith, inl, inr}
use Rattle.std.specs.Prelude.{if◌then◌else◌, nat_eq, nat_le}
use Rattle.std.specs.Map.{update}
use Rattle.std.specs.List.{find}
use Rattle.sp_base.specs.declared.answer.Answer.{Answer}
use Rattle.error_answers.specs.Errors.{error_answer}
use Rattle.cache_log.specs.Entries.{LogEntry, Lost as lost_entry, Failed as failed_outcome, flights_asked, flushes_begun}
use Rattle.connections.specs.Connections.{Connection, fresh, with_piece}
use Rattle.connections.specs.Slots.{Says}
use Rattle.run_events.specs.declared.conditions.Conditions.{Conditions}
use Rattle.run_events.specs.declared.flying.Flying.{Flying}
use Rattle.run_events.specs.declared.flying.Flushing.{Flushing}
use Rattle.run_events.specs.declared.note.Failure.TheVariants.{Restart as cut_off}
use Rattle.run_events.specs.declared.note.Note.{Note}
use Rattle.run_events.specs.declared.note.Note.TheVariants.{Lost, Failed, Shut, Refused, Idle}
use Rattle.run_events.specs.declared.step.Step.{Step}
use Rattle.run_events.specs.declared.step.Step.TheVariants as step
use Rattle.run_events.specs.States.{RunState}
use Rattle.run_events.specs.Moves.{flying_at, flush_at, on_connection, over_with, state_after_ending, state_after_note, state_after_notes}
use Rattle.run_events.specs.Restarts.{EndsRestart, Restarts, cut_notes, without_connections}
use Rattle.run_events.specs.Events.{DeliverAs, DeliverTo, Event, HappensBy, LeadsNotes, LoseTo, MayLand, PieceTo, PurgeTo, RenderTo, Run, after_event, going, is_any, is_picked, is_rendered, is_unrendered, most_connections, opening, picked_flight, state_after_events, state_after_going, state_after_opening, state_before_notes}
use Rattle.run_laws.proofs.NumberedLemmas.{Rising, all_but, at-here, but-first, numbered_at}
use Rattle.run_laws.proofs.SoundLemmas.{flight_number, flush_number}
use Rattle.run_laws.proofs.ComesLemmas.{AllCome, Comes, IsSound, slice-comes}
use Rattle.run_laws.proofs.SoundRunLemmas.{note-sound, notes-sound, serves-come}

-- ---- a step leaves it so before any note
opened-sound : (w : RunState) (c : ℕ) (peer : List ℕ) (at : Option Connection) → IsSound w → IsSound (state_after_opening w c peer at)
opened-sound w c peer (Some k) sound = sound
opened-sound w c peer None sound = by_room (nat_le most_connections w.connection_count)
  where
    by_room : (full : Bool) → IsSound (if full then w else record w { connection = update nat_eq w.connection c (Some (fresh peer)); connection_count = w.connection_count + 1 })
    by_room true = sound
    by_room false = sound

gone-sound : (w : RunState) (c : ℕ) (at : Option Connection) → IsSound w → IsSound (state_after_going w c at)
gone-sound w c None sound = sound
gone-sound w c (Some k) sound = sound

pub begun-sound : (w : RunState) (e : Event) (s : Step) → IsSound w → IsSound (state_before_notes w e s)
begun-sound w e (step.Opened c peer) sound = opened-sound w c peer (w.connection c) sound
begun-sound w e (step.Piece c bytes) sound = sound
begun-sound w e (step.Gone c) sound = gone-sound w c (w.connection c) sound
begun-sound w e step.Restart sound = sound
begun-sound w e s sound = sound

-- ---- the flight that is taken
-- it is the one with its number
pub picked-at : (flights : List Flying) (least most : ℕ) (test : Flying → Bool) (f : Flying) → Rising flight_number least flights most → find test flights ≡ Some f → (numbered_at flight_number f.number flights ≡ Some f) × (least < f.number) × (test f ≡ true)
picked-at [] least most test f rising found = absurd (cc found)
picked-at (g ∷ flights) least most test f rising found = by_test (test g) refl (picked-at flights g.number most test f rising.1)
  where
    by_test : (b : Bool) → test g ≡ b → (find test flights ≡ Some f → (numbered_at flight_number f.number flights ≡ Some f) × (g.number < f.number) × (test f ≡ true)) → (numbered_at flight_number f.number (g ∷ flights) ≡ Some f) × (least < f.number) × (test f ≡ true)
    by_test true is rest =
        let some : Some g ≡ Some f = rw is at found in
        let same : g ≡ f = cc some in
        subst (λ (x : Flying). (numbered_at flight_number x.number (g ∷ flights) ≡ Some x) × (least < x.number) × (test x ≡ true)) same (at-here flight_number g flights, rising.0, is)
    by_test false is rest =
        let later : (numbered_at flight_number f.number flights ≡ Some f) × (g.number < f.number) × (test f ≡ true) = rest (rw is at found) in
        let other : nat_eq g.number f.number ≡ false = grind (arith, later.1) in
        (rw other later.0, omega (arith, rising.0, later.1), later.2)

-- ---- the notes of a step
idle-come : (m : Conditions) (w : RunState) (notes : List Note) → notes ≡ Idle ∷ [] → AllCome m w notes
idle-come m w notes is = rw is (tt, tt)

opening-come : (m : Conditions) (w : RunState) (c count : ℕ) (at : Option Connection) (notes : List Note) → notes ≡ opening c count at → AllCome m w notes
opening-come m w c count (Some k) notes is = rw is (tt, tt)
opening-come m w c count None notes is = by_room (nat_le most_connections count) is
  where
    by_room : (full : Bool) → notes ≡ (if full then Refused c ∷ [] else []) → AllCome m w notes
    by_room true is = rw is (tt, tt)
    by_room false is = rw is tt

going-come : (m : Conditions) (w : RunState) (at : Option Connection) (notes : List Note) → notes ≡ going at → AllCome m w notes
going-come m w None notes is = rw is (tt, tt)
going-come m w (Some k) notes is = rw is tt

piece-come : (w : RunState) (e : Event) (c : ℕ) (bytes : List ℕ) (at : Option Connection) → IsSound w → PieceTo w e c bytes at → AllCome e.conditions (on_connection w c (with_piece bytes e.turns e.ends)) e.body
piece-come w e c bytes None sound to = idle-come e.conditions _ e.body to
piece-come w e c bytes (Some k) sound to = serves-come e.conditions (on_connection w c (with_piece bytes e.turns e.ends)) c e.body sound to.settles.serves

render-come : (w : RunState) (e : Event) (flying : Option Flying) → RenderTo w e flying → AllCome e.conditions w e.body
render-come w e None to = idle-come e.conditions w e.body to
render-come w e (Some f) to = rw to.2 (tt, tt)

pub leads-come : (m : Conditions) (w : RunState) (first : Note) (c : ℕ) (notes : List Note) → IsSound w → Comes m w first → LeadsNotes w m first c notes → AllCome m w notes
leads-come m w first c notes sound comes leads = rw leads.begins (comes, serves-come m (state_after_note w first) c leads.rest (note-sound m w first sound comes) leads.settles.serves)

landing-comes : (w : RunState) (m : Conditions) (f : Flying) (answer : Answer) (note : Note) → flying_at f.number w.flights ≡ Some f → f.rendered ≡ Some answer → MayLand w m f answer note → Comes m w note
landing-comes w m f answer note at rendered (inl kept) = rw kept.2 (record { flight = f; at = at; answer = answer; rendered = rendered; may = (kept.1, kept.3) })
landing-comes w m f answer note at rendered (inr (inl unkept)) = rw unkept.0 (record { flight = f; at = at; answer = answer; rendered = rendered; may = (unkept.1, unkept.2) })
landing-comes w m f answer note at rendered (inr (inr passed)) = rw passed.0 (record { flight = f; at = at; answer = answer; rendered = rendered; may = passed.1 })

deliver-come : (w : RunState) (e : Event) (f : Flying) (answer : Option Answer) → IsSound w → flying_at f.number w.flights ≡ Some f → f.rendered ≡ answer → DeliverAs w e f answer → AllCome e.conditions w e.body
deliver-come w e f None sound at rendered to = idle-come e.conditions w e.body to
deliver-come w e f (Some answer) sound at rendered to = leads-come e.conditions w to.0 f.connection e.body sound (landing-comes w e.conditions f answer to.0 at rendered to.1) to.2

delivers-come : (w : RunState) (e : Event) (flying : Option Flying) → IsSound w → ((f : Flying) → flying ≡ Some f → flying_at f.number w.flights ≡ Some f) → DeliverTo w e flying → AllCome e.conditions w e.body
delivers-come w e None sound there to = idle-come e.conditions w e.body to
delivers-come w e (Some f) sound there to = deliver-come w e f f.rendered sound (there f refl) refl to

loses-come : (w : RunState) (e : Event) (flying : Option Flying) → IsSound w → ((f : Flying) → flying ≡ Some f → flying_at f.number w.flights ≡ Some f) → LoseTo w e flying → AllCome e.conditions w e.body
loses-come w e None sound there to = idle-come e.conditions w e.body to
loses-come w e (Some f) sound there to = leads-come e.conditions w (Lost f.number) f.connection e.body sound (record { flight = f; at = there f refl }) to

purges-come : (w : RunState) (e : Event) (flushes : List Flushing) → IsSound w → w.flushes ≡ flushes → PurgeTo w e flushes → AllCome e.conditions w e.body
purges-come w e [] sound is to = idle-come e.conditions w e.body to
purges-come w e (flush ∷ flushes) sound is to = leads-come e.conditions w to.0 flush.connection e.body sound (slice-comes e.conditions w flush.number to.0 (record { flush = flush; others = flushes; is = is; number = refl }) to.1) to.2

-- ---- a restart
come-append : (m : Conditions) (w : RunState) (notes more : List Note) → AllCome m w notes → AllCome m (state_after_notes w notes) more → AllCome m w (notes ++ more)
come-append m w [] more come rest = rest
come-append m w (note ∷ notes) more come rest = (come.0, come-append m (state_after_note w note) notes more come.1 rest)

-- each flight in the air is lost
losses-come : (m : Conditions) (w : RunState) (flights : List Flying) → IsSound w → w.flights ≡ flights → AllCome m w (map (λ (f : Flying). Lost f.number) flights)
losses-come m w [] sound is = tt
losses-come m w (f ∷ flights) sound is =
    let at : flying_at f.number w.flights ≡ Some f = ap (flying_at f.number) is ∙ at-here flight_number f flights in
    let comes : Comes m w (Lost f.number) = record { flight = f; at = at } in
    let rising : Rising flight_number 0 (f ∷ flights) (flights_asked w.log) = subst (λ fs. Rising flight_number 0 fs (flights_asked w.log)) is sound.numbered in
    let left : (state_after_note w (Lost f.number)).flights ≡ flights = ap (λ o. (over_with w f.number (error_answer 502) (lost_entry f.number) o).flights) at ∙ ap (all_but flight_number f.number) is ∙ but-first flight_number f flights (flights_asked w.log) rising.1 in
    (comes, losses-come m (state_after_note w (Lost f.number)) flights (note-sound m w (Lost f.number) sound comes) left)

-- they leave the flushes
losses-flushes : (w : RunState) (flights : List Flying) → (state_after_notes w (map (λ (f : Flying). Lost f.number) flights)).flushes ≡ w.flushes
losses-flushes w [] = refl
losses-flushes w (f ∷ flights) = losses-flushes (state_after_note w (Lost f.number)) flights ∙ over-flushes w f.number (error_answer 502) (lost_entry f.number) (flying_at f.number w.flights)
  where
    over-flushes : (w : RunState) (n : ℕ) (answer : Answer) (entry : LogEntry) (o : Option Flying) → (over_with w n answer entry o).flushes ≡ w.flushes
    over-flushes w n answer entry None = refl
    over-flushes w n answer entry (Some g) = refl

-- each unfinished flush fails
failures-come : (m : Conditions) (w : RunState) (flushes : List Flushing) → IsSound w → w.flushes ≡ flushes → AllCome m w (map (λ (f : Flushing). Failed f.number cut_off) flushes)
failures-come m w [] sound is = tt
failures-come m w (f ∷ flushes) sound is =
    let at : flush_at f.number w.flushes ≡ Some f = ap (flush_at f.number) is ∙ at-here flush_number f flushes in
    let comes : Comes m w (Failed f.number cut_off) = (record { flush = f; others = flushes; is = is; number = refl }, tt) in
    let rising : Rising flush_number 0 (f ∷ flushes) (flushes_begun w.log) = subst (λ fs. Rising flush_number 0 fs (flushes_begun w.log)) is sound.queued in
    let left : (state_after_note w (Failed f.number cut_off)).flushes ≡ flushes = ap (λ o. (state_after_ending w f.number failed_outcome (Says (error_answer 500)) o).flushes) at ∙ ap (all_but flush_number f.number) is ∙ but-first flush_number f flushes (flushes_begun w.log) rising.1 in
    (comes, failures-come m (state_after_note w (Failed f.number cut_off)) flushes (note-sound m w (Failed f.number cut_off) sound comes) left)

shuts-come : (m : Conditions) (w : RunState) (connections : List ℕ) → AllCome m w (map (λ (c : ℕ). Shut c) connections)
shuts-come m w [] = tt
shuts-come m w (c ∷ connections) = (tt, shuts-come m (state_after_note w (Shut c)) connections)

cut-come : (m : Conditions) (w : RunState) (connections : List ℕ) → IsSound w → AllCome m (without_connections w) (cut_notes w connections)
cut-come m w connections sound =
    come-append m v losses (failures ++ shuts) lost (come-append m u failures shuts failed (shuts-come m (state_after_notes u failures) connections))
  where
    v : RunState
    v = without_connections w

    losses : List Note
    losses = map (λ (f : Flying). Lost f.number) w.flights

    failures : List Note
    failures = map (λ (f : Flushing). Failed f.number cut_off) w.flushes

    shuts : List Note
    shuts = map (λ (c : ℕ). Shut c) connections

    u : RunState
    u = state_after_notes v losses

    lost : AllCome m v losses
    lost = losses-come m v w.flights sound refl

    failed : AllCome m u failures
    failed = failures-come m u w.flushes (notes-sound m v losses sound lost) (losses-flushes v w.flights)

ends-comes : (w : RunState) (m : Conditions) (note : Note) → EndsRestart w m note → Comes m w note
ends-comes w m note (inl up) = rw up.1 up.2
ends-comes w m note (inr down) = rw down.0 down.1

restart-come : (w : RunState) (m : Conditions) (notes : List Note) → IsSound w → Restarts w m notes → AllCome m (without_connections w) notes
restart-come w m notes sound restarts =
    rw restarts.notes_are (come-append m (without_connections w) (cut_notes w restarts.connections) (restarts.last ∷ []) (cut-come m w restarts.connections sound) (ends-comes _ m restarts.last restarts.ends, tt))

-- ---- an event
pub step-come : (w : RunState) (e : Event) (s : Step) → IsSound w → HappensBy w e s → AllCome e.conditions (state_before_notes w e s) e.body
step-come w e (step.Opened c peer) sound is = opening-come e.conditions _ c w.connection_count (w.connection c) e.body is
step-come w e (step.Piece c bytes) sound to = piece-come w e c bytes (w.connection c) sound to
step-come w e (step.Gone c) sound is = going-come e.conditions _ (w.connection c) e.body is
step-come w e (step.Direct target) sound to = rw to.2 (tt, tt)
step-come w e (step.Render pick) sound to = render-come w e (picked_flight pick is_unrendered w.flights) to
step-come w e (step.Deliver pick) sound to = delivers-come w e (picked_flight pick is_rendered w.flights) sound (λ f found. (picked-at w.flights 0 _ (λ flying. is_picked pick flying && is_rendered flying) f sound.numbered found).0) to
step-come w e (step.Lose pick) sound to = loses-come w e (picked_flight pick is_any w.flights) sound (λ f found. (picked-at w.flights 0 _ (λ flying. is_picked pick flying && is_any flying) f sound.numbered found).0) to
step-come w e step.Purge sound to = purges-come w e w.flushes sound refl to
step-come w e step.Restart sound to = restart-come w e.conditions e.body sound to

pub event-sound : (w : RunState) (e : Event) → IsSound w → HappensBy w e e.step → IsSound (after_event w e)
event-sound w e sound happens = notes-sound e.conditions (state_before_notes w e e.step) e.body (begun-sound w e e.step sound) (step-come w e e.step sound happens)

-- ---- a run
pub run-sound : (w : RunState) (events : List Event) → IsSound w → Run w events → IsSound (state_after_events w events)
run-sound w [] sound run = sound
run-sound w (e ∷ events) sound run = run-sound (after_event w e) events (event-sound w e sound run.0.0) run.1
