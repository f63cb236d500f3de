-- Every run is sound: note by note, and event by event.
use Rattle.std.proofs.Common.{◌≡◌, ℕ, ◌++◌, ◌⊎◌, true, false, List, [], ◌∷◌, Option, Some, None, IsTrue, refl, sym, subst, ap, ◌∙◌, inl, inr}
use Rattle.sp_base.specs.declared.answer.Answer.{Answer}
use Rattle.sp_base.specs.Requests.{Request}
use Rattle.cover_rules.specs.declared.page.PageKey.{PageKey}
use Rattle.cover_rules.specs.declared.invalidation.Invalidation.{Invalidation}
use Rattle.dispatch_rules.specs.Caching.{cache_key}
use Rattle.cache_log.specs.Entries.{Fate, Kept as kept_fate, Unkept as unkept_fate, Passed as passed_fate, FlushOutcome, Done as done_outcome, Failed as failed_outcome, Asked, Landed, Lost as lost_entry, Sliced as sliced_entry, Ended, Hit as hit_entry, Up as up_entry, Down as down_entry, flights_asked}
use Rattle.cache_log.specs.Rules.{Allowed, CallConditions, HasFallenShort, IsOldest, IsOwed, MayStore}
use Rattle.connections.specs.Slots.{Response}
use Rattle.run_events.specs.declared.conditions.Conditions.{Conditions}
use Rattle.run_events.specs.declared.flying.Flying.{Flying}
use Rattle.run_events.specs.declared.flying.Flushing.{Flushing}
use Rattle.run_events.specs.declared.note.Failure.{Failure}
use Rattle.run_events.specs.declared.note.Failure.TheVariants.{Disk, NoMemory, Restart as cut_off}
use Rattle.run_events.specs.declared.note.Note.{Note}
use Rattle.run_events.specs.declared.note.Note.TheVariants.{Ask as asked, Hit, Local, Flush, Sliced, Done, Failed, Rendered, Kept, Unkept, Passed, Lost, Sent, Shut, Up, Down}
use Rattle.run_events.specs.States.{RunState}
use Rattle.run_events.specs.Points.{call_conditions, key_of}
use Rattle.run_events.specs.Moves.{Serves, answer_in, due_of_connection, flying_at, flush_at, over_with, state_after_ask, state_after_ending, state_after_flush, state_after_hit, state_after_landing, state_after_note, state_after_notes, treated_request}
use Rattle.run_laws.proofs.NumberedLemmas.{at-here}
use Rattle.run_laws.proofs.SoundLemmas.{Sound, flush_number, sound-asked, sound-begun, sound-ended, sound-entry, sound-oldest, sound-over, sound-rendered, sound-sliced}
use Rattle.run_laws.proofs.ComesLemmas.{AllCome, AskComes, Comes, FlushComes, HitComes, IsFirstFlush, IsSound, LandingComes, LossComes, MayFail, next-comes}

-- ---- notes that tell of a request
note-asked : (m : Conditions) (w : RunState) (number c : ℕ) (key : Option PageKey) → IsSound w → AskComes m w number c key → (request : Option Request) → treated_request (due_of_connection w c) ≡ request → IsSound (state_after_ask w number c key request)
note-asked m w number c key sound comes None is = sound
note-asked m w number c key sound comes (Some request) is =
    let same : Some request ≡ Some comes.request = sym is ∙ comes.treated in
    let one : request ≡ comes.request = cc same in
    let key_is : cache_key w.farm request ≡ key = ap (λ r. cache_key w.farm r) one ∙ sym comes.key_is in
    let f : Flying = record { number = number; connection = c; request = request; rendered = None } in
    let allowed : Allowed w.farm (call_conditions m false) (Asked number (cache_key w.farm request)) w.log = (comes.up, comes.next, λ owed. comes.unowed (subst (λ k. IsOwed w.farm w.log k) key_is owed)) in
    subst (λ k. Sound w.farm (w.flights ++ f ∷ []) w.flushes w.slicing (Asked number k ∷ w.log)) key_is (sound-asked w.farm (call_conditions m false) w.flights w.flushes w.slicing w.log f comes.next allowed sound)

note-hit : (m : Conditions) (w : RunState) (c : ℕ) (key : PageKey) → IsSound w → HitComes w c key → (request : Option Request) → IsSound (state_after_hit w c key request)
note-hit m w c key sound comes None = sound
note-hit m w c key sound comes (Some request) = sound-entry w.farm (call_conditions m false) w.flights w.flushes w.slicing w.log (hit_entry key) refl refl (λ n k. refl) (λ v inv. refl) (comes.up, comes.permitted) sound

note-flush : (m : Conditions) (w : RunState) (v c : ℕ) (inv : Invalidation) → IsSound w → w.slicing ≡ None → FlushComes w v c inv → (request : Option Request) → IsSound (state_after_flush w v c inv request)
note-flush m w v c inv sound none comes None = sound
note-flush m w v c inv sound none comes (Some request) =
    sound-begun w.farm (call_conditions m false) w.flights w.flushes w.log (record { number = v; connection = c }) inv comes.next (comes.up, comes.next) (subst (λ o. Sound w.farm w.flights w.flushes o w.log) none sound)

-- ---- notes that tell of a flush
pub first-oldest : (w : RunState) (v : ℕ) → IsSound w → IsFirstFlush w.flushes v → IsOldest w.log v
first-oldest w v sound first = subst (IsOldest w.log) first.number (sound-oldest w.farm w.flights first.flush first.others w.slicing w.log (subst (λ flushes. Sound w.farm w.flights flushes w.slicing w.log) first.is sound))

first-at : (flushes : List Flushing) (v : ℕ) (first : IsFirstFlush flushes v) → flush_at v flushes ≡ Some first.flush
first-at flushes v first = ap (flush_at v) first.is ∙ subst (λ n. flush_at n (first.flush ∷ first.others) ≡ Some first.flush) first.number (at-here flush_number first.flush first.others)

note-sliced : (m : Conditions) (w : RunState) (v : ℕ) → IsSound w → IsFirstFlush w.flushes v → IsSound (state_after_note w (Sliced v))
note-sliced m w v sound first =
    let here : Sound w.farm w.flights (first.flush ∷ first.others) w.slicing w.log = subst (λ flushes. Sound w.farm w.flights flushes w.slicing w.log) first.is sound in
    let done : Sound w.farm w.flights (first.flush ∷ first.others) None (sliced_entry first.flush.number ∷ w.log) = sound-sliced w.farm (call_conditions m false) w.flights first.flush first.others w.slicing w.log here in
    subst (λ n. Sound w.farm w.flights w.flushes None (sliced_entry n ∷ w.log)) first.number (subst (λ flushes. Sound w.farm w.flights flushes None (sliced_entry first.flush.number ∷ w.log)) (sym first.is) done)

ending-sound : (under : CallConditions) (w : RunState) (v : ℕ) (outcome : FlushOutcome) (response : Response) → Allowed w.farm under (Ended v outcome) w.log → IsSound w → (at : Option Flushing) → (IsSound (state_after_ending w v outcome response at))
ending-sound under w v outcome response allowed sound None = sound
ending-sound under w v outcome response allowed sound (Some flush) = sound-ended w.farm under w.flights w.flushes w.slicing w.log v outcome allowed sound

failed-under : (m : Conditions) (failure : Failure) → MayFail m failure → (under : CallConditions) × (HasFallenShort under ⊎ IsTrue under.restarts)
failed-under m Disk may = (call_conditions m false, inl (inl may))
failed-under m NoMemory may = (call_conditions m false, inl (inr may))
failed-under m cut_off may = (call_conditions m true, inr refl)

-- ---- notes that tell of a flight
landing-sound : (under : CallConditions) (w : RunState) (n : ℕ) (fate : Fate) (f : Flying) → flying_at n w.flights ≡ Some f → Allowed w.farm under (Landed n (key_of w f.request) (answer_in (Some f)) fate) w.log → IsSound w
    → IsSound (state_after_landing w n fate (flying_at n w.flights))
landing-sound under w n fate f at allowed sound = rw at (sound-over w.farm under w.flights w.flushes w.slicing w.log n (Landed n (key_of w f.request) (answer_in (Some f)) fate) (asked_same fate) refl (λ k key. refl) (λ v inv. refl) allowed sound)
  where
    asked_same : (fate : Fate) → flights_asked (Landed n (key_of w f.request) (answer_in (Some f)) fate ∷ w.log) ≡ flights_asked w.log
    asked_same fate = refl

pub answered-in : (f : Flying) (answer : Answer) → f.rendered ≡ Some answer → answer_in (Some f) ≡ answer
answered-in f answer is = rw is refl

note-kept : (m : Conditions) (w : RunState) (n : ℕ) (key : PageKey) → IsSound w → LandingComes w n (λ k answer. (k ≡ Some key) × MayStore w.farm w.log n (Some key) answer) → IsSound (state_after_landing w n kept_fate (flying_at n w.flights))
note-kept m w n key sound comes =
    let may : MayStore w.farm w.log n (key_of w comes.flight.request) (answer_in (Some comes.flight)) = rw (answered-in comes.flight comes.answer comes.rendered) (subst (λ k. MayStore w.farm w.log n k comes.answer) (sym comes.may.0) comes.may.1) in
    landing-sound (call_conditions m false) w n kept_fate comes.flight comes.at (sound.flown n comes.flight comes.at, may) sound

note-unkept : (m : Conditions) (w : RunState) (n : ℕ) → IsSound w → LandingComes w n (λ k answer. MayStore w.farm w.log n k answer × HasFallenShort (call_conditions m false)) → IsSound (state_after_landing w n unkept_fate (flying_at n w.flights))
note-unkept m w n sound comes =
    let may : MayStore w.farm w.log n (key_of w comes.flight.request) (answer_in (Some comes.flight)) = rw (answered-in comes.flight comes.answer comes.rendered) comes.may.0 in
    landing-sound (call_conditions m false) w n unkept_fate comes.flight comes.at (sound.flown n comes.flight comes.at, may, comes.may.1) sound

note-passed : (m : Conditions) (w : RunState) (n : ℕ) → IsSound w → LandingComes w n (λ k answer. MayStore w.farm w.log n k answer → ⊥) → IsSound (state_after_landing w n passed_fate (flying_at n w.flights))
note-passed m w n sound comes =
    let may : MayStore w.farm w.log n (key_of w comes.flight.request) (answer_in (Some comes.flight)) → ⊥ = rw (answered-in comes.flight comes.answer comes.rendered) comes.may in
    landing-sound (call_conditions m false) w n passed_fate comes.flight comes.at (sound.flown n comes.flight comes.at, may) sound

note-lost : (m : Conditions) (w : RunState) (n : ℕ) (answer : Answer) → IsSound w → LossComes w n → IsSound (over_with w n answer (lost_entry n) (flying_at n w.flights))
note-lost m w n answer sound comes = rw comes.at (sound-over w.farm (call_conditions m false) w.flights w.flushes w.slicing w.log n (lost_entry n) refl refl (λ k key. refl) (λ v inv. refl) (key_of w comes.flight.request, sound.flown n comes.flight comes.at) sound)

-- ---- any note
pub note-sound : (m : Conditions) (w : RunState) (note : Note) → IsSound w → Comes m w note → IsSound (state_after_note w note)
note-sound m w (asked number c key) sound comes = note-asked m w number c key sound comes.0 (treated_request (due_of_connection w c)) refl
note-sound m w (Hit c key) sound comes = note-hit m w c key sound comes (treated_request (due_of_connection w c))
note-sound m w (Local c status) sound comes = sound
note-sound m w (Flush v c inv) sound comes = note-flush m w v c inv sound comes.1 comes.0 (treated_request (due_of_connection w c))
note-sound m w (Sliced v) sound comes = note-sliced m w v sound comes
note-sound m w (Done v) sound comes = ending-sound (call_conditions m false) w v done_outcome _ (first-oldest w v sound comes) sound (flush_at v w.flushes)
note-sound m w (Failed v failure) sound comes =
    let under = failed-under m failure comes.1 in
    ending-sound under.0 w v failed_outcome _ (first-oldest w v sound comes.0, under.1) sound (flush_at v w.flushes)
note-sound m w (Rendered n answer) sound comes = sound-rendered w.farm w.flights w.flushes w.slicing w.log n answer sound
note-sound m w (Kept n key) sound comes = note-kept m w n key sound comes
note-sound m w (Unkept n) sound comes = note-unkept m w n sound comes
note-sound m w (Passed n) sound comes = note-passed m w n sound comes
note-sound m w (Lost n) sound comes = note-lost m w n _ sound comes
note-sound m w (Sent c bytes) sound comes = sound
note-sound m w (Shut c) sound comes = sound
note-sound m w (Up epoch) sound comes = sound-entry w.farm (call_conditions m true) w.flights w.flushes w.slicing w.log (up_entry epoch) refl refl (λ n k. refl) (λ v inv. refl) comes sound
note-sound m w Down sound comes = sound-entry w.farm (call_conditions m true) w.flights w.flushes w.slicing w.log down_entry refl refl (λ n k. refl) (λ v inv. refl) comes sound
note-sound m w note sound comes = sound

pub notes-sound : (m : Conditions) (w : RunState) (notes : List Note) → IsSound w → AllCome m w notes → IsSound (state_after_notes w notes)
notes-sound m w [] sound comes = sound
notes-sound m w (note ∷ notes) sound comes = notes-sound m (state_after_note w note) notes (note-sound m w note sound comes.0) comes.1

pub serves-come : (m : Conditions) (w : RunState) (c : ℕ) (notes : List Note) → IsSound w → Serves m w c notes → AllCome m w notes
serves-come m w c [] sound serves = tt
serves-come m w c (note ∷ notes) sound serves =
    let comes = next-comes m w c w.slicing note refl sound serves.0 in
    (comes, serves-come m (state_after_note w note) c notes (note-sound m w note sound comes) serves.1)
