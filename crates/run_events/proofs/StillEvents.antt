-- Events that render no flight leave the publisher's content.
use Rattle.std.proofs.Common.{Bool, List, None, Option, Some, [], false, inl, inr, map, refl, true, ℕ, ◌+◌, ◌∷◌, ◌≡◌}
use Rattle.std.specs.Map.{update}
use Rattle.std.specs.Prelude.{if◌then◌else◌, nat_eq, nat_le}
use Rattle.sp_base.specs.declared.answer.Answer.{Answer}
use Rattle.connections.specs.Connections.{Connection, fresh}
use Rattle.run_events.specs.Events.{DeliverAs, DeliverTo, Event, HappensBy, LeadsNotes, LoseTo, MayLand, PieceTo, PurgeTo, going, is_any, is_rendered, most_connections, opening, picked_flight, state_after_going, state_after_opening, state_before_notes}
use Rattle.run_events.specs.Moves.{state_after_note, state_after_notes}
use Rattle.run_events.specs.Restarts.{EndsRestart, Restarts, cut_notes, without_connections}
use Rattle.run_events.specs.States.{RunState}
use Rattle.run_events.specs.declared.conditions.Conditions.{Conditions}
use Rattle.run_events.specs.declared.flying.Flushing.{Flushing}
use Rattle.run_events.specs.declared.flying.Flying.{Flying}
use Rattle.run_events.specs.declared.note.Failure.TheVariants.{Restart as cut_off}
use Rattle.run_events.specs.declared.note.Note.{Note}
use Rattle.run_events.specs.declared.note.Note.TheVariants.{Failed, Idle, Lost, Refused, Shut}
use Rattle.run_events.specs.declared.step.Step.{Step}
use Rattle.run_events.specs.declared.step.Step.TheVariants as step
use Rattle.run_events.proofs.NoteLemmas.{AreStillNotes, IsStillNote, SameContent, afters-same, content_chain, same_content, serves-still, slice-still, still-append}

opened-same : (w : RunState) (c : ℕ) (peer : List ℕ) (connection : Option Connection) → SameContent w (state_after_opening w c peer connection)
opened-same w c peer (Some connection) = same_content w
opened-same w c peer None = by_test (nat_le most_connections w.connection_count)
  where
    by_test : (full : Bool) → SameContent w (if full then w else record w { connection = update nat_eq w.connection c (Some (fresh peer)); connection_count = w.connection_count + 1 })
    by_test true = same_content w
    by_test false = record { publishing = refl; farm = refl; content = refl; found = refl }

gone-same : (w : RunState) (c : ℕ) (connection : Option Connection) → SameContent w (state_after_going w c connection)
gone-same w c None = same_content w
gone-same w c (Some connection) = record { publishing = refl; farm = refl; content = refl; found = refl }

pub begun-same : (w : RunState) (e : Event) (s : Step) → SameContent w (state_before_notes w e s)
begun-same w e (step.Opened c peer) = opened-same w c peer (w.connection c)
begun-same w e (step.Piece c bytes) = record { publishing = refl; farm = refl; content = refl; found = refl }
begun-same w e (step.Gone c) = gone-same w c (w.connection c)
begun-same w e step.Restart = record { publishing = refl; farm = refl; content = refl; found = refl }
begun-same w e s = same_content w

opening-still : (w : RunState) (c : ℕ) (connection : Option Connection) (notes : List Note) → notes ≡ opening c w.connection_count connection → AreStillNotes notes
opening-still w c (Some connection) notes is = rw is (tt, tt)
opening-still w c None notes is = by_test (nat_le most_connections w.connection_count) is
  where
    by_test : (full : Bool) → notes ≡ (if full then Refused c ∷ [] else []) → AreStillNotes notes
    by_test true is = rw is (tt, tt)
    by_test false is = rw is tt

going-still : (connection : Option Connection) (notes : List Note) → notes ≡ going connection → AreStillNotes notes
going-still None notes is = rw is (tt, tt)
going-still (Some connection) notes is = rw is tt

idle-still : (notes : List Note) → notes ≡ Idle ∷ [] → AreStillNotes notes
idle-still notes is = rw is (tt, tt)

piece-still : (w : RunState) (e : Event) (c : ℕ) (bytes : List ℕ) (connection : Option Connection) → PieceTo w e c bytes connection → AreStillNotes e.body
piece-still w e c bytes None to = idle-still e.body to
piece-still w e c bytes (Some connection) to = serves-still e.conditions _ c e.body to.settles.serves

leads-still : (w : RunState) (m : Conditions) (first : Note) (c : ℕ) (notes : List Note) → IsStillNote first → LeadsNotes w m first c notes → AreStillNotes notes
leads-still w m first c notes is leads = rw leads.begins (is, serves-still m (state_after_note w first) c leads.rest leads.settles.serves)

land-still : (w : RunState) (m : Conditions) (flying : Flying) (answer : Answer) (note : Note) → MayLand w m flying answer note → IsStillNote note
land-still w m flying answer note (inl kept) = rw kept.2 tt
land-still w m flying answer note (inr (inl unkept)) = rw unkept.0 tt
land-still w m flying answer note (inr (inr passed)) = rw passed.0 tt

deliver-still : (w : RunState) (e : Event) (flying : Flying) (answer : Option Answer) → DeliverAs w e flying answer → AreStillNotes e.body
deliver-still w e flying None to = idle-still e.body to
deliver-still w e flying (Some answer) to = leads-still w e.conditions to.0 flying.connection e.body (land-still w e.conditions flying answer to.0 to.1) to.2

delivers-still : (w : RunState) (e : Event) (flying : Option Flying) → DeliverTo w e flying → AreStillNotes e.body
delivers-still w e None to = idle-still e.body to
delivers-still w e (Some flying) to = deliver-still w e flying flying.rendered to

loses-still : (w : RunState) (e : Event) (flying : Option Flying) → LoseTo w e flying → AreStillNotes e.body
loses-still w e None to = idle-still e.body to
loses-still w e (Some flying) to = leads-still w e.conditions (Lost flying.number) flying.connection e.body tt to

purge-still : (w : RunState) (e : Event) (flushes : List Flushing) → PurgeTo w e flushes → AreStillNotes e.body
purge-still w e [] to = idle-still e.body to
purge-still w e (flush ∷ flushes) to = leads-still w e.conditions to.0 flush.connection e.body (slice-still e.conditions flush.number to.0 to.1) to.2

lost-still : (flights : List Flying) → AreStillNotes (map (λ (flying : Flying). Lost flying.number) flights)
lost-still [] = tt
lost-still (f ∷ flights) = (tt, lost-still flights)

failed-still : (flushes : List Flushing) → AreStillNotes (map (λ (flush : Flushing). Failed flush.number cut_off) flushes)
failed-still [] = tt
failed-still (f ∷ flushes) = (tt, failed-still flushes)

shut-still : (connections : List ℕ) → AreStillNotes (map (λ (c : ℕ). Shut c) connections)
shut-still [] = tt
shut-still (c ∷ connections) = (tt, shut-still connections)

last-still : (w : RunState) (m : Conditions) (note : Note) → EndsRestart w m note → IsStillNote note
last-still w m note (inl up) = rw up.1 tt
last-still w m note (inr down) = rw down.0 tt

restart-still : (w : RunState) (m : Conditions) (notes : List Note) → Restarts w m notes → AreStillNotes notes
restart-still w m notes restarts =
    rw restarts.notes_are
    (still-append (cut_notes w restarts.connections) (restarts.last ∷ []) (still-append _ _ (lost-still w.flights) (still-append _ _ (failed-still w.flushes) (shut-still restarts.connections))) (last-still (state_after_notes (without_connections w) (cut_notes w restarts.connections)) m restarts.last restarts.ends, tt))

abbrev pub IsStillStep : Step → Type 0
IsStillStep (step.Render pick) = ⊥
IsStillStep _ = Unit {0}

pub step-still : (w : RunState) (e : Event) (s : Step) → IsStillStep s → HappensBy w e s → AreStillNotes e.body
step-still w e (step.Opened c peer) still is = opening-still w c (w.connection c) e.body is
step-still w e (step.Piece c bytes) still to = piece-still w e c bytes (w.connection c) to
step-still w e (step.Gone c) still is = going-still (w.connection c) e.body is
step-still w e (step.Direct target) still to = rw to.2 (tt, tt)
step-still w e (step.Render pick) still to = absurd still
step-still w e (step.Deliver pick) still to = delivers-still w e (picked_flight pick is_rendered w.flights) to
step-still w e (step.Lose pick) still to = loses-still w e (picked_flight pick is_any w.flights) to
step-still w e step.Purge still to = purge-still w e w.flushes to
step-still w e step.Restart still to = restart-still w e.conditions e.body to

-- an event that renders no flight leaves the content
pub step-same : (w : RunState) (e : Event) (s : Step) → IsStillStep s → HappensBy w e s → SameContent w (state_after_notes (state_before_notes w e s) e.body)
step-same w e s still happens = content_chain w (state_before_notes w e s) (state_after_notes (state_before_notes w e s) e.body) (begun-same w e s) (afters-same (state_before_notes w e s) e.body (step-still w e s still happens))
