-- The renders of a run.
use Rattle.std.proofs.Common.{◌≡◌, ◌++◌, Bool, true, false, List, [], ◌∷◌, Option, Some, None, refl, ap, sym, subst, ◌∙◌, arith, inl, inr}
use Rattle.std.specs.Prelude.{◌==◌}
use Rattle.std.proofs.lemmas.Bool.{ne_eqb}
use Rattle.sp_base.specs.declared.answer.Answer.{Answer}
use Rattle.resource_tree.specs.Content.{Content}
use Rattle.dispatch_rules.specs.Asking.{publisher_ask}
use Rattle.run_events.specs.declared.flying.Flying.{Flying}
use Rattle.run_events.specs.declared.note.Note.{Note}
use Rattle.run_events.specs.declared.note.Note.TheVariants.{Rendered}
use Rattle.run_events.specs.declared.step.Step.{Step}
use Rattle.run_events.specs.declared.step.Step.TheVariants as step
use Rattle.run_events.specs.Events.{Event, HappensBy, IsOrFixed, RenderTo, Run, after_event, is_unrendered, picked_flight, state_after_events, state_before_notes}
use Rattle.run_events.specs.Moves.{content_rendered, flying_at, published_for, state_after_note, state_after_notes}
use Rattle.run_events.specs.States.{RunState, Start, start_of}
use Rattle.run_events.proofs.NoteLemmas.{AreStillNotes, IsStillNote, SameContent}
use Rattle.run_events.proofs.StillEvents.{IsStillStep, step-same, step-still}
use Rattle.run_laws.specs.Renders.{ArePublished, IsNeverFixed, Rendering, rendered_by, rendering_of, renders_in, renders_of}
use Rattle.run_laws.proofs.AskLemmas.{Numbered, picked-there, step-numbered}

-- ---- an event without a render
note-renders : (w : RunState) (out_of_memory : Bool) (note : Note) → IsStillNote note → rendered_by w out_of_memory note ≡ []
note-renders w out_of_memory (Rendered number answer) is = absurd is
note-renders w out_of_memory note is = refl

pub still-renders : (w : RunState) (out_of_memory : Bool) (notes : List Note) → AreStillNotes notes → renders_in w out_of_memory notes ≡ []
still-renders w out_of_memory [] are = refl
still-renders w out_of_memory (note ∷ notes) are = rw (note-renders w out_of_memory note are.0) (still-renders (state_after_note w note) out_of_memory notes are.1)

-- what is published after it is what would be before
abbrev From : RunState → List Rendering → Content → Type 0
From w renders last = ArePublished w.publishing w.farm w.content renders last

from-same : (w v : RunState) (renders : List Rendering) (last : Content) → SameContent w v → From v renders last → From w renders last
from-same w v renders last same from = rw (← same.publishing, ← same.farm, ← same.content) from

from-still : (w : RunState) (e : Event) (s : Step) (renders : List Rendering) (last : Content) → IsStillStep s → HappensBy w e s → From (state_after_notes (state_before_notes w e s) e.body) renders last → From w (renders_in (state_before_notes w e s) e.conditions.out_of_memory e.body ++ renders) last
from-still w e s renders last still happens from = rw (still-renders (state_before_notes w e s) e.conditions.out_of_memory e.body (step-still w e s still happens)) (from-same w (state_after_notes (state_before_notes w e s) e.body) renders last (step-same w e s still happens) from)

-- ---- an event with one
render-from : (w : RunState) (disk_failed out_of_memory : Bool) (f : Flying) (answer : Answer) (renders : List Rendering) (last : Content) → IsNeverFixed w.publishing → flying_at f.number w.flights ≡ Some f → IsOrFixed (record { disk_failed = disk_failed; out_of_memory = out_of_memory }) answer (published_for w f.request).answer
    → From (state_after_note w (Rendered f.number answer)) renders last → From w (record { number = f.number; request = f.request; answer = answer; out_of_memory = out_of_memory } ∷ renders) last
render-from w disk_failed out_of_memory f answer renders last never there (inl is) from =
    let other : (answer.status == 507) ≡ false = rw is.0 (ne_eqb (published_for w f.request).answer.status 507 (never w.content (publisher_ask w.farm f.request))) in
    let moved : (state_after_note w (Rendered f.number answer)).content ≡ (published_for w f.request).content = ap (content_rendered w answer) there ∙ rw other refl in
    inl (is.0, is.1, subst (λ x. ArePublished w.publishing w.farm x renders last) moved from)
render-from w disk_failed out_of_memory f answer renders last never there (inr fixed) from =
    let same : (answer.status == 507) ≡ true = rw fixed.0 refl in
    let stays : (state_after_note w (Rendered f.number answer)).content ≡ w.content = ap (content_rendered w answer) there ∙ rw same refl in
    inr (fixed.0, fixed.1, subst (λ x. ArePublished w.publishing w.farm x renders last) stays from)

from-render : (w : RunState) (e : Event) (flying : Option Flying) (renders : List Rendering) (last : Content) → IsNeverFixed w.publishing → ((f : Flying) → flying ≡ Some f → flying_at f.number w.flights ≡ Some f) → RenderTo w e flying
    → From (state_after_notes w e.body) renders last → From w (renders_in w e.conditions.out_of_memory e.body ++ renders) last
from-render w e None renders last never there to from =
    let stays : From w renders last = rw to at from in
    rw to stays
from-render w e (Some f) renders last never there to from =
    let at = there f refl in
    let body : From (state_after_note w (Rendered f.number to.0)) renders last = rw to.2 at from in
    let effect : renders_in w e.conditions.out_of_memory (Rendered f.number to.0 ∷ []) ≡ record { number = f.number; request = f.request; answer = to.0; out_of_memory = e.conditions.out_of_memory } ∷ [] = ap (λ o. rendering_of to.0 e.conditions.out_of_memory o ++ []) at in
    subst (λ xs. From w (xs ++ renders) last) (sym (ap (renders_in w e.conditions.out_of_memory) to.2 ∙ effect)) (render-from w e.conditions.disk_failed e.conditions.out_of_memory f to.0 renders last never at to.1 body)

-- ---- a run
from-step : (w : RunState) (e : Event) (s : Step) (renders : List Rendering) (last : Content) → IsNeverFixed w.publishing → Numbered w → HappensBy w e s → From (state_after_notes (state_before_notes w e s) e.body) renders last
    → From w (renders_in (state_before_notes w e s) e.conditions.out_of_memory e.body ++ renders) last
from-step w e (step.Render pick) renders last never numbered happens from = from-render w e (picked_flight pick is_unrendered w.flights) renders last never (λ f found. picked-there w _ f numbered found) happens from
from-step w e s renders last never numbered happens from = from-still w e s renders last tt happens from

-- a publisher stays in a run
step-publishing : (w : RunState) (e : Event) (s : Step) → HappensBy w e s → (state_after_notes (state_before_notes w e s) e.body).publishing ≡ w.publishing
step-publishing w e (step.Render pick) happens = by_flying (picked_flight pick is_unrendered w.flights) happens
  where
    by_flying : (flying : Option Flying) → RenderTo w e flying → (state_after_notes w e.body).publishing ≡ w.publishing
    by_flying None to = ap (λ notes. (state_after_notes w notes).publishing) to
    by_flying (Some f) to = ap (λ notes. (state_after_notes w notes).publishing) to.2
step-publishing w e s happens = (step-same w e s tt happens).publishing

run-from : (w : RunState) (events : List Event) → IsNeverFixed w.publishing → Numbered w → Run w events → From w (renders_of w events) (state_after_events w events).content
run-from w [] never numbered run = refl
run-from w (e ∷ events) never numbered run =
    let later = run-from (after_event w e) events (subst IsNeverFixed (sym (step-publishing w e e.step run.0.0)) never) (step-numbered w e e.step numbered run.0.0) run.1 in
    from-step w e e.step (renders_of (after_event w e) events) _ never numbered run.0.0 later

pub renders-published : (s : Start) (events : List Event) → IsNeverFixed s.publishing → Run (start_of s) events
    → ArePublished s.publishing s.farm s.content (renders_of (start_of s) events) (state_after_events (start_of s) events).content
renders-published s events never run = run-from (start_of s) events never (omega arith) run
