-- What is so of each note of an event, since it is so of each note that may come.
use Rattle.std.proofs.Common.{◌≡◌, ℕ, Bool, true, false, List, [], ◌∷◌, Option, Some, None, refl}
use Rattle.std.specs.Prelude.{if◌then◌else◌, nat_le}
use Rattle.sp_base.specs.declared.answer.Answer.{Answer}
use Rattle.connections.specs.Connections.{Connection, with_piece}
use Rattle.run_events.specs.declared.conditions.Conditions.{Conditions}
use Rattle.run_events.specs.declared.flying.Flying.{Flying}
use Rattle.run_events.specs.declared.flying.Flushing.{Flushing}
use Rattle.run_events.specs.declared.note.Note.{Note}
use Rattle.run_events.specs.declared.note.Note.TheVariants.{Answer as answered, Rendered, Lost, Refused, Idle}
use Rattle.run_events.specs.declared.step.Step.{Step}
use Rattle.run_events.specs.declared.step.Step.TheVariants as step
use Rattle.run_events.specs.States.{RunState}
use Rattle.run_events.specs.Moves.{GivesNext, GivesSlice, Serves, on_connection, state_after_note}
use Rattle.run_events.specs.Events.{DeliverAs, DeliverTo, Event, HappensBy, LeadsNotes, LoseTo, PieceTo, PurgeTo, RenderTo, going, is_any, is_rendered, is_unrendered, most_connections, opening, picked_flight, state_before_notes}
use Rattle.run_events.specs.Restarts.{without_connections}
use Rattle.run_laws.specs.Addressed.{opened_by_step}
use Rattle.run_laws.proofs.FormLemmas.{AreCutNotes, IsCutNote, IsLandingNote, landing-form, restart-cut}

-- each note has the property, in the state in which it comes
abbrev pub AllIn : (RunState → Note → Type 0) → RunState → List Note → Type 0
AllIn P w [] = Unit {0}
AllIn P w (note ∷ notes) = P w note × AllIn P (state_after_note w note) notes

-- each note that may come in an event of this step has the property
pub record IsOfEach (P : RunState → Note → Type 0) (s : Step) : Type 0 where
  pub due : (m : Conditions) (w : RunState) (c : ℕ) (note : Note) → GivesNext m w c w.slicing note → P w note
  pub slice : (m : Conditions) (w : RunState) (v : ℕ) (note : Note) → GivesSlice m v note → P w note
  pub landing : (w : RunState) (n : ℕ) (note : Note) → IsLandingNote n note → P w note
  pub lost : (w : RunState) (n : ℕ) → P w (Lost n)
  pub idle : (w : RunState) → P w Idle
  pub answer : (w : RunState) (answer : Answer) → P w (answered answer)
  pub rendered : (w : RunState) (n : ℕ) (answer : Answer) → P w (Rendered n answer)
  pub refused : (w : RunState) (c : ℕ) → opened_by_step s ≡ Some c → P w (Refused c)
  pub cut : s ≡ step.Restart → (w : RunState) (note : Note) → IsCutNote note → P w note

pub serves-all : (P : RunState → Note → Type 0) (s : Step) (each : IsOfEach P s) (m : Conditions) (w : RunState) (c : ℕ) (notes : List Note) → Serves m w c notes → AllIn P w notes
serves-all P s each m w c [] serves = tt
serves-all P s each m w c (note ∷ notes) serves = (each.due m w c note serves.0, serves-all P s each m (state_after_note w note) c notes serves.1)

idle-all : (P : RunState → Note → Type 0) (s : Step) (each : IsOfEach P s) (w : RunState) (notes : List Note) → notes ≡ Idle ∷ [] → AllIn P w notes
idle-all P s each w notes is = rw is (each.idle w, tt)

opening-all : (P : RunState → Note → Type 0) (s : Step) (each : IsOfEach P s) (w : RunState) (c count : ℕ) (at : Option Connection) (notes : List Note) → opened_by_step s ≡ Some c → notes ≡ opening c count at → AllIn P w notes
opening-all P s each w c count (Some k) notes opens is = rw is (each.idle w, tt)
opening-all P s each w c count None notes opens is = by_room (nat_le most_connections count) is
  where
    by_room : (full : Bool) → notes ≡ (if full then Refused c ∷ [] else []) → AllIn P w notes
    by_room true is = rw is (each.refused w c opens, tt)
    by_room false is = rw is tt

going-all : (P : RunState → Note → Type 0) (s : Step) (each : IsOfEach P s) (w : RunState) (at : Option Connection) (notes : List Note) → notes ≡ going at → AllIn P w notes
going-all P s each w None notes is = rw is (each.idle w, tt)
going-all P s each w (Some k) notes is = rw is tt

piece-all : (P : RunState → Note → Type 0) (s : Step) (each : IsOfEach P s) (w : RunState) (e : Event) (c : ℕ) (bytes : List ℕ) (at : Option Connection) → PieceTo w e c bytes at → AllIn P (on_connection w c (with_piece bytes e.turns e.ends)) e.body
piece-all P s each w e c bytes None to = idle-all P s each (on_connection w c (with_piece bytes e.turns e.ends)) e.body to
piece-all P s each w e c bytes (Some k) to = serves-all P s each e.conditions (on_connection w c (with_piece bytes e.turns e.ends)) c e.body to.settles.serves

render-all : (P : RunState → Note → Type 0) (s : Step) (each : IsOfEach P s) (w : RunState) (e : Event) (flying : Option Flying) → RenderTo w e flying → AllIn P w e.body
render-all P s each w e None to = idle-all P s each w e.body to
render-all P s each w e (Some f) to = rw to.2 (each.rendered w f.number to.0, tt)

leads-all : (P : RunState → Note → Type 0) (s : Step) (each : IsOfEach P s) (w : RunState) (m : Conditions) (first : Note) (c : ℕ) (notes : List Note) → P w first → LeadsNotes w m first c notes → AllIn P w notes
leads-all P s each w m first c notes is leads = rw leads.begins (is, serves-all P s each m (state_after_note w first) c leads.rest leads.settles.serves)

deliver-all : (P : RunState → Note → Type 0) (s : Step) (each : IsOfEach P s) (w : RunState) (e : Event) (f : Flying) (answer : Option Answer) → DeliverAs w e f answer → AllIn P w e.body
deliver-all P s each w e f None to = idle-all P s each w e.body to
deliver-all P s each w e f (Some answer) to = leads-all P s each w e.conditions to.0 f.connection e.body (each.landing w f.number to.0 (landing-form w e.conditions f answer to.0 to.1)) to.2

delivers-all : (P : RunState → Note → Type 0) (s : Step) (each : IsOfEach P s) (w : RunState) (e : Event) (flying : Option Flying) → DeliverTo w e flying → AllIn P w e.body
delivers-all P s each w e None to = idle-all P s each w e.body to
delivers-all P s each w e (Some f) to = deliver-all P s each w e f f.rendered to

loses-all : (P : RunState → Note → Type 0) (s : Step) (each : IsOfEach P s) (w : RunState) (e : Event) (flying : Option Flying) → LoseTo w e flying → AllIn P w e.body
loses-all P s each w e None to = idle-all P s each w e.body to
loses-all P s each w e (Some f) to = leads-all P s each w e.conditions (Lost f.number) f.connection e.body (each.lost w f.number) to

purges-all : (P : RunState → Note → Type 0) (s : Step) (each : IsOfEach P s) (w : RunState) (e : Event) (flushes : List Flushing) → PurgeTo w e flushes → AllIn P w e.body
purges-all P s each w e [] to = idle-all P s each w e.body to
purges-all P s each w e (flush ∷ flushes) to = leads-all P s each w e.conditions to.0 flush.connection e.body (each.slice e.conditions w flush.number to.0 to.1) to.2

cuts-all : (P : RunState → Note → Type 0) (cut : (w : RunState) (note : Note) → IsCutNote note → P w note) (w : RunState) (notes : List Note) → AreCutNotes notes → AllIn P w notes
cuts-all P cut w [] are = tt
cuts-all P cut w (note ∷ notes) are = (cut w note are.0, cuts-all P cut (state_after_note w note) notes are.1)

pub step-all : (P : RunState → Note → Type 0) (w : RunState) (e : Event) (s : Step) → IsOfEach P s → HappensBy w e s → AllIn P (state_before_notes w e s) e.body
step-all P w e (step.Opened c peer) each is = opening-all P (step.Opened c peer) each (state_before_notes w e (step.Opened c peer)) c w.connection_count (w.connection c) e.body refl is
step-all P w e (step.Piece c bytes) each to = piece-all P (step.Piece c bytes) each w e c bytes (w.connection c) to
step-all P w e (step.Gone c) each is = going-all P (step.Gone c) each (state_before_notes w e (step.Gone c)) (w.connection c) e.body is
step-all P w e (step.Direct target) each to = rw to.2 (each.answer w to.0, tt)
step-all P w e (step.Render pick) each to = render-all P (step.Render pick) each w e (picked_flight pick is_unrendered w.flights) to
step-all P w e (step.Deliver pick) each to = delivers-all P (step.Deliver pick) each w e (picked_flight pick is_rendered w.flights) to
step-all P w e (step.Lose pick) each to = loses-all P (step.Lose pick) each w e (picked_flight pick is_any w.flights) to
step-all P w e step.Purge each to = purges-all P step.Purge each w e w.flushes to
step-all P w e step.Restart each to = cuts-all P (each.cut refl) (without_connections w) e.body (restart-cut w e.conditions e.body to)
