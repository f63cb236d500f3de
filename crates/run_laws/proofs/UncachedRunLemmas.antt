-- A run that asks for no page of the cache and for no invalidation leaves no choice, event by event.
use Rattle.std.proofs.Common.{◌≡◌, ◌∙◌, ℕ, ◌+◌, ◌<◌, ◌≤◌, ◌++◌, true, false, List, [], ◌∷◌, Option, Some, None, length, map, refl, ap, sym, inl, inr, ⊎_elim, arith}
use Rattle.std.specs.List.{AllByRecursion}
use Rattle.sp_base.specs.Limits.{greatest_u64}
use Rattle.sp_base.specs.declared.answer.Answer.{Answer}
use Rattle.sp_base.specs.Requests.{Request}
use Rattle.any_config.specs.declared.farm.Farm.{Farm}
use Rattle.cover_rules.specs.declared.page.PageKey.{PageKey}
use Rattle.cover_rules.specs.declared.invalidation.Invalidation.{Invalidation}
use Rattle.cache_log.specs.Entries.{LogEntry, FlushOutcome, downs_since, last_epoch}
use Rattle.cache_log.specs.Rules.{HasFallenShort}
use Rattle.connections.specs.Slots.{Response}
use Rattle.run_events.specs.declared.conditions.Conditions.{Conditions}
use Rattle.run_events.specs.declared.flying.Flying.{Flying}
use Rattle.run_events.specs.declared.flying.Flushing.{Flushing}
use Rattle.run_events.specs.declared.note.Failure.TheVariants.{Restart as cut_off}
use Rattle.run_events.specs.declared.note.Note.{Note}
use Rattle.run_events.specs.declared.note.Note.TheVariants.{Ask as asked, Hit, Local, Flush, Sliced, Done, Failed, Rendered, Kept, Unkept, Passed, Lost, Sent, Shut, Up, Down}
use Rattle.run_events.specs.declared.step.Step.{Step}
use Rattle.run_events.specs.declared.step.Step.TheVariants as step
use Rattle.run_events.specs.States.{RunState, start_of}
use Rattle.run_events.specs.Points.{call_conditions}
use Rattle.run_events.specs.Moves.{due_of_connection, flying_at, flush_at, over_with, state_after_ask, state_after_ending, state_after_flush, state_after_hit, state_after_note, state_after_notes, treated_request}
use Rattle.run_events.specs.Restarts.{EndsRestart, Restarts, cut_notes, without_connections}
use Rattle.run_events.specs.Events.{Event, HappensBy, Run, after_event, state_before_notes}
use Rattle.run_events.proofs.NoteLemmas.{notes_append}
use Rattle.run_laws.specs.Determined.{AreDetermined, LeavesNoChoice, event_steps}
use Rattle.run_laws.specs.Brought.{AreUnhindered, IsUnhindered, StepsAskNoCache, TurnsAskNoCache, UncachedRunsLeaveNoChoice}
use Rattle.run_laws.proofs.BroughtLemmas.{begun_read, coming_by, later-bring}
use Rattle.run_laws.proofs.EachNoteLemmas.{AllIn, IsOfEach, step-all}
use Rattle.run_laws.proofs.EntryLemmas.{begun-log}
use Rattle.run_laws.proofs.FormLemmas.{slice-form}
use Rattle.run_laws.proofs.LogLemmas.{begun-farm}
use Rattle.run_laws.proofs.UncachedLemmas.{AddsNoEpoch, IsFree, Unasking, Uncached, landing-free, next-free, slice-free, uncached-note}

-- ---- epochs
-- the epoch to which the restarts of a log may have come
abbrev reach : List LogEntry → ℕ
reach log = last_epoch log + downs_since log

ask-reach : (w : RunState) (n c : ℕ) (key : Option PageKey) (at : Option Request) → reach (state_after_ask w n c key at).log ≡ reach w.log
ask-reach w n c key None = refl
ask-reach w n c key (Some request) = refl

hit-reach : (w : RunState) (c : ℕ) (key : PageKey) (at : Option Request) → reach (state_after_hit w c key at).log ≡ reach w.log
hit-reach w c key None = refl
hit-reach w c key (Some request) = refl

flush-reach : (w : RunState) (v c : ℕ) (inv : Invalidation) (at : Option Request) → reach (state_after_flush w v c inv at).log ≡ reach w.log
flush-reach w v c inv None = refl
flush-reach w v c inv (Some request) = refl

ending-reach : (w : RunState) (v : ℕ) (outcome : FlushOutcome) (response : Response) (at : Option Flushing) → reach (state_after_ending w v outcome response at).log ≡ reach w.log
ending-reach w v outcome response None = refl
ending-reach w v outcome response (Some flush) = refl

over-reach : (w : RunState) (n : ℕ) (answer : Answer) (entry : LogEntry) (at : Option Flying) → reach (entry ∷ w.log) ≡ reach w.log → reach (over_with w n answer entry at).log ≡ reach w.log
over-reach w n answer entry None same = refl
over-reach w n answer entry (Some f) same = same

note-reach : (w : RunState) (note : Note) → AddsNoEpoch note → reach (state_after_note w note).log ≡ reach w.log
note-reach w (asked n c key) none = ask-reach w n c key (treated_request (due_of_connection w c))
note-reach w (Hit c key) none = hit-reach w c key (treated_request (due_of_connection w c))
note-reach w (Local c status) none = refl
note-reach w (Flush v c inv) none = flush-reach w v c inv (treated_request (due_of_connection w c))
note-reach w (Sliced v) none = refl
note-reach w (Done v) none = ending-reach w v _ _ (flush_at v w.flushes)
note-reach w (Failed v failure) none = ending-reach w v _ _ (flush_at v w.flushes)
note-reach w (Rendered n answer) none = refl
note-reach w (Kept n key) none = over-reach w n _ _ (flying_at n w.flights) refl
note-reach w (Unkept n) none = over-reach w n _ _ (flying_at n w.flights) refl
note-reach w (Passed n) none = over-reach w n _ _ (flying_at n w.flights) refl
note-reach w (Lost n) none = over-reach w n _ _ (flying_at n w.flights) refl
note-reach w (Sent c bytes) none = refl
note-reach w (Shut c) none = refl
note-reach w (Up epoch) none = absurd none
note-reach w Down none = absurd none
note-reach w note none = refl

notes-reach : (w : RunState) (notes : List Note) → AllByRecursion IsFree notes → reach (state_after_notes w notes).log ≡ reach w.log
notes-reach w [] free = refl
notes-reach w (note ∷ notes) free = notes-reach (state_after_note w note) notes free.1 ∙ note-reach w note free.0.1

-- ---- notes of an event
-- they leave no choice, and the epochs come no further than by one
pub record LeavesNone (w v : RunState) (notes : List Note) : Type 0 where
  pub no_choice : AllByRecursion LeavesNoChoice notes
  pub near : reach v.log ≤ reach w.log + 1

no-choices : (notes : List Note) → AllByRecursion IsFree notes → AllByRecursion LeavesNoChoice notes
no-choices [] free = tt
no-choices (note ∷ notes) free = (free.0.0, no-choices notes free.1)

-- the note is free, where it comes in a state in which nothing is asked of the cache
abbrev FreeIn : Farm → (ℕ → List ℕ) → RunState → Note → Type 0
FreeIn farm coming w note = Uncached farm coming w → IsFree note

each-free : (farm : Farm) (coming : ℕ → List ℕ) (s : Step) → (s ≡ step.Restart → ⊥) → IsOfEach (FreeIn farm coming) s
each-free farm coming s other = record {
  due = λ m w c note gives uncached. next-free farm coming m w c w.slicing note uncached gives;
  slice = λ m w v note gives uncached. slice-free v note (slice-form m v note gives);
  landing = λ w n note is uncached. landing-free n note is;
  lost = λ w n uncached. (tt, tt);
  idle = λ w uncached. (tt, tt);
  answer = λ w answer uncached. (tt, tt);
  rendered = λ w n answer uncached. (tt, tt);
  refused = λ w c opens uncached. (tt, tt);
  cut = λ is w note cut. absurd (other is);
}

all-free : (farm : Farm) (coming : ℕ → List ℕ) (w : RunState) (notes : List Note) → AllIn (FreeIn farm coming) w notes → Uncached farm coming w → AllByRecursion IsFree notes
all-free farm coming w [] all uncached = tt
all-free farm coming w (note ∷ notes) all uncached = (all.0 uncached, all-free farm coming (state_after_note w note) notes all.1 (uncached-note farm coming w note uncached))

step-free : (farm : Farm) (coming : ℕ → List ℕ) (w : RunState) (e : Event) (s : Step) → (s ≡ step.Restart → ⊥) → Uncached farm coming (state_before_notes w e s) → HappensBy w e s → LeavesNone w (state_after_notes (state_before_notes w e s) e.body) e.body
step-free farm coming w e s other uncached happens =
    let free : AllByRecursion IsFree e.body = all-free farm coming (state_before_notes w e s) e.body (step-all (FreeIn farm coming) w e s (each-free farm coming s other) happens) uncached in
    let same : reach (state_after_notes (state_before_notes w e s) e.body).log ≡ reach w.log = notes-reach (state_before_notes w e s) e.body free ∙ ap reach (begun-log w e s) in
    record { no_choice = no-choices e.body free; near = omega (arith, same) }

-- ---- a restart
free-append : (a b : List Note) → AllByRecursion IsFree a → AllByRecursion IsFree b → AllByRecursion IsFree (a ++ b)
free-append [] b free others = others
free-append (note ∷ a) b free others = (free.0, free-append a b free.1 others)

losses-free : (flights : List Flying) → AllByRecursion IsFree (map (λ (f : Flying). Lost f.number) flights)
losses-free [] = tt
losses-free (f ∷ flights) = ((tt, tt), losses-free flights)

failures-free : (flushes : List Flushing) → AllByRecursion IsFree (map (λ (f : Flushing). Failed f.number cut_off) flushes)
failures-free [] = tt
failures-free (f ∷ flushes) = ((tt, tt), failures-free flushes)

shuts-free : (connections : List ℕ) → AllByRecursion IsFree (map (λ (c : ℕ). Shut c) connections)
shuts-free [] = tt
shuts-free (c ∷ connections) = ((tt, tt), shuts-free connections)

cuts-free : (w : RunState) (connections : List ℕ) → AllByRecursion IsFree (cut_notes w connections)
cuts-free w connections =
    free-append (map (λ (f : Flying). Lost f.number) w.flights) (map (λ (f : Flushing). Failed f.number cut_off) w.flushes ++ map (λ (c : ℕ). Shut c) connections) (losses-free w.flights)
    (free-append (map (λ (f : Flushing). Failed f.number cut_off) w.flushes) (map (λ (c : ℕ). Shut c) connections) (failures-free w.flushes) (shuts-free connections))

no-choice-append : (a b : List Note) → AllByRecursion LeavesNoChoice a → AllByRecursion LeavesNoChoice b → AllByRecursion LeavesNoChoice (a ++ b)
no-choice-append [] b none others = others
no-choice-append (note ∷ a) b none others = (none.0, no-choice-append a b none.1 others)

never-short : (m : Conditions) → m.disk_failed ≡ false → m.out_of_memory ≡ false → HasFallenShort (call_conditions m true) → ⊥
never-short m disk memory (inl failed) = let both : true ≡ false = sym failed ∙ disk in let never : ⊥ = cc in never
never-short m disk memory (inr ran_out) = let both : true ≡ false = sym ran_out ∙ memory in let never : ⊥ = cc in never

-- how it ends
last-free : (m : Conditions) (w : RunState) (note : Note) → m.disk_failed ≡ false → m.out_of_memory ≡ false → reach w.log < greatest_u64 → EndsRestart w m note → LeavesNoChoice note × (reach (state_after_note w note).log ≤ reach w.log + 1)
last-free m w note disk memory room (inl up) = rw up.1 (tt, omega (arith, up.2.4))
last-free m w note disk memory room (inr down) = absurd (⊎_elim (never-short m disk memory) (λ out. let never : ⊥ = omega (arith, out, room) in never) down.1.2)

restart-free : (w : RunState) (e : Event) → IsUnhindered e → reach w.log < greatest_u64 → Restarts w e.conditions e.body → LeavesNone w (state_after_notes (without_connections w) e.body) e.body
restart-free w e unhindered room restarts =
    let v : RunState = state_after_notes (without_connections w) (cut_notes w restarts.connections) in
    let cuts = cuts-free w restarts.connections in
    let same : reach v.log ≡ reach w.log = notes-reach (without_connections w) (cut_notes w restarts.connections) cuts in
    let last = last-free e.conditions v restarts.last unhindered.disk_worked unhindered.not_out_of_memory (omega (arith, same, room)) restarts.ends in
    let state : state_after_notes (without_connections w) e.body ≡ state_after_note v restarts.last = ap (state_after_notes (without_connections w)) restarts.notes_are ∙ notes_append (without_connections w) (cut_notes w restarts.connections) (restarts.last ∷ []) in
    record {
      no_choice = rw restarts.notes_are (no-choice-append (cut_notes w restarts.connections) (restarts.last ∷ []) (no-choices (cut_notes w restarts.connections) cuts) (last.0, tt));
      near = rw state (omega (arith, same, last.1));
    }

-- ---- an event
notes-uncached : (farm : Farm) (coming : ℕ → List ℕ) (w : RunState) (notes : List Note) → Uncached farm coming w → Uncached farm coming (state_after_notes w notes)
notes-uncached farm coming w [] uncached = uncached
notes-uncached farm coming w (note ∷ notes) uncached = notes-uncached farm coming (state_after_note w note) notes (uncached-note farm coming w note uncached)

begun-uncached : (farm : Farm) (steps : List Step) (w : RunState) (e : Event) (s : Step) → StepsAskNoCache farm (s ∷ steps) → HappensBy w e s → Uncached farm (coming_by (s ∷ steps)) w → Uncached farm (coming_by steps) (state_before_notes w e s)
begun-uncached farm steps w e s asks happens uncached = record {
  farm_is = (begun-farm w e s).farm ∙ uncached.farm_is;
  all = begun_read (TurnsAskNoCache farm) (Unasking farm) tt (λ stream turns is. is) steps w e s asks happens uncached.all;
}

event-free : (farm : Farm) (coming : ℕ → List ℕ) (w : RunState) (e : Event) (s : Step) → Uncached farm coming (state_before_notes w e s) → IsUnhindered e → reach w.log < greatest_u64 → HappensBy w e s → LeavesNone w (state_after_notes (state_before_notes w e s) e.body) e.body
event-free farm coming w e (step.Opened d peer) uncached unhindered room happens = step-free farm coming w e (step.Opened d peer) (λ is. let never : ⊥ = cc in never) uncached happens
event-free farm coming w e (step.Piece d bytes) uncached unhindered room happens = step-free farm coming w e (step.Piece d bytes) (λ is. let never : ⊥ = cc in never) uncached happens
event-free farm coming w e (step.Gone d) uncached unhindered room happens = step-free farm coming w e (step.Gone d) (λ is. let never : ⊥ = cc in never) uncached happens
event-free farm coming w e (step.Direct target) uncached unhindered room happens = step-free farm coming w e (step.Direct target) (λ is. let never : ⊥ = cc in never) uncached happens
event-free farm coming w e (step.Render pick) uncached unhindered room happens = step-free farm coming w e (step.Render pick) (λ is. let never : ⊥ = cc in never) uncached happens
event-free farm coming w e (step.Deliver pick) uncached unhindered room happens = step-free farm coming w e (step.Deliver pick) (λ is. let never : ⊥ = cc in never) uncached happens
event-free farm coming w e (step.Lose pick) uncached unhindered room happens = step-free farm coming w e (step.Lose pick) (λ is. let never : ⊥ = cc in never) uncached happens
event-free farm coming w e step.Purge uncached unhindered room happens = step-free farm coming w e step.Purge (λ is. let never : ⊥ = cc in never) uncached happens
event-free farm coming w e step.Restart uncached unhindered room happens = restart-free w e unhindered room happens

-- ---- a run
run-free : (farm : Farm) (w : RunState) (events : List Event) → Uncached farm (coming_by (event_steps events)) w → StepsAskNoCache farm (event_steps events) → reach w.log + length events ≤ greatest_u64 → AreUnhindered events → Run w events → AreDetermined events
run-free farm w [] uncached asks room unhindered run = tt
run-free farm w (e ∷ events) uncached asks room unhindered run =
    let steps : List Step = event_steps events in
    let begun = begun-uncached farm steps w e e.step asks run.0.0 uncached in
    let free = event-free farm (coming_by steps) w e e.step begun unhindered.0 (omega (arith, room)) run.0.0 in
    let later : StepsAskNoCache farm steps = later-bring (Unasking farm) e.step steps asks in (
      record { disk_worked = unhindered.0.disk_worked; not_out_of_memory = unhindered.0.not_out_of_memory; no_choice = free.no_choice },
      run-free farm (after_event w e) events (notes-uncached farm (coming_by steps) (state_before_notes w e e.step) e.body begun) later (omega (arith, room, free.near)) unhindered.1 run.1,
    )

pub uncached-runs : UncachedRunsLeaveNoChoice
uncached-runs s events begins run asks room unhindered =
    let none : downs_since s.log ≡ 0 = ap downs_since begins.log_is in
    run-free s.farm (start_of s) events (record { farm_is = refl; all = λ c k some. absurd (let never : ⊥ = cc in never) }) asks (omega (arith, none, room)) unhindered run
