-- Events that render no flight leave the publisher's content.
use Rattle.std.proofs.Common.{◌≡◌, ℕ, List, [], ◌∷◌, refl, ◌∙◌, ◌⊎◌, inl, inr}
use Rattle.sp_base.specs.declared.answer.Answer.{Answer}
use Rattle.run_events.specs.declared.note.Note.{Note}
use Rattle.run_events.specs.declared.note.Note.TheVariants.{Answer as answered, Ask as asked, Hit, Local, Flush, Sliced, Done, Failed, Rendered, Kept, Unkept, Passed, Lost, Sent, Shut, Refused, Idle, Up, Down, Hurt, OutOfMemory}
use Rattle.run_events.specs.declared.step.Step.TheVariants as step
use Rattle.run_events.specs.Events.{Event, after_event, state_before_notes}
use Rattle.run_events.specs.Moves.{state_after_note, state_after_notes}
use Rattle.run_events.specs.States.{RunState}
use Rattle.run_events.proofs.NoteLemmas.{IsStillNote, after-same}
use Rattle.run_events.proofs.StillEvents.{begun-same}

-- ---- the farm and the session stay, whatever happens
is-render : (note : Note) → IsStillNote note ⊎ ((number : ℕ) × (answer : Answer) × (note ≡ Rendered number answer))
is-render (Rendered number answer) = inr (number, answer, refl)
is-render (answered answer) = inl tt
is-render (asked number c key) = inl tt
is-render (Hit c key) = inl tt
is-render (Local c status) = inl tt
is-render (Flush number c inv) = inl tt
is-render (Sliced number) = inl tt
is-render (Done number) = inl tt
is-render (Failed number failure) = inl tt
is-render (Kept number key) = inl tt
is-render (Unkept number) = inl tt
is-render (Passed number) = inl tt
is-render (Lost number) = inl tt
is-render (Sent c bytes) = inl tt
is-render (Shut c) = inl tt
is-render (Refused c) = inl tt
is-render Idle = inl tt
is-render (Up epoch) = inl tt
is-render Down = inl tt
is-render Hurt = inl tt
is-render OutOfMemory = inl tt

pub record SameSession (w v : RunState) : Type 0 where
  pub farm : v.farm ≡ w.farm
  pub found : v.found ≡ w.found

note-session : (w : RunState) (note : Note) → IsStillNote note ⊎ ((number : ℕ) × (answer : Answer) × (note ≡ Rendered number answer)) → SameSession w (state_after_note w note)
note-session w note (inl still) = let stays = after-same w note still in record { farm = stays.farm; found = stays.found }
note-session w note (inr rendered) = rw rendered.2 (record { farm = refl; found = refl })

notes-session : (w : RunState) (notes : List Note) → SameSession w (state_after_notes w notes)
notes-session w [] = record { farm = refl; found = refl }
notes-session w (n ∷ notes) =
    let first = note-session w n (is-render n) in
    let rest = notes-session (state_after_note w n) notes in
    record { farm = rest.farm ∙ first.farm; found = rest.found ∙ first.found }

pub event-session : (w : RunState) (e : Event) → SameSession w (after_event w e)
event-session w e =
    let begins = begun-same w e e.step in
    let rest = notes-session (state_before_notes w e e.step) e.body in
    record { farm = rest.farm ∙ begins.farm; found = rest.found ∙ begins.found }
