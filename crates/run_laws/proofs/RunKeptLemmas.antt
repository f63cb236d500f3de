-- What happens to one connection in a whole run.
use Rattle.std.proofs.Common.{◌≡◌, ◌≢◌, ℕ, ◌++◌, ◌&&◌, Bool, List, [], ◌∷◌, Option, Some, None, refl, ap, sym, subst, ◌∙◌, arith, inl, inr, ⊎_elim, append-nil}
use Rattle.std.specs.Prelude.{nat_eq}
use Rattle.std.specs.List.{find}
use Rattle.std.specs.Map.{update}
use Rattle.std.specs.Option.{option_map}
use Rattle.std.proofs.lemmas.Map.{update_apart, update_here}
use Rattle.std.proofs.lemmas.Bool.{cases_eq}
use Rattle.sp_base.specs.declared.answer.Answer.{Answer}
use Rattle.error_answers.specs.Errors.{error_answer}
use Rattle.cache_log.specs.Entries.{LogEntry, Lost as lost_entry, FlushOutcome, Done as done_outcome, Failed as failed_outcome}
use Rattle.connections.specs.declared.awaited.Awaited.TheVariants.{Flight as flight_awaited, Flush as flush_awaited}
use Rattle.connections.specs.Slots.{Response, Says}
use Rattle.connections.specs.Connections.{Connection, fresh, with_end}
use Rattle.connections.specs.declared.sending.Sending.{Sending}
use Rattle.run_events.specs.declared.conditions.Conditions.{Conditions}
use Rattle.run_events.specs.declared.flying.Flying.{Flying}
use Rattle.run_events.specs.declared.flying.Flushing.{Flushing}
use Rattle.run_events.specs.declared.note.Note.{Note}
use Rattle.run_events.specs.declared.note.Note.TheVariants.{Failed, Lost, Sent, Shut, Up, Down}
use Rattle.run_events.specs.declared.step.Step.{Step}
use Rattle.run_events.specs.declared.step.Step.TheVariants as step
use Rattle.run_events.specs.States.{RunState, Start, start_of}
use Rattle.run_events.specs.Moves.{failure_status, flying_at, flush_at, over_with, state_after_ending, state_after_note, state_after_notes}
use Rattle.run_events.specs.Restarts.{Restarts, without_connections}
use Rattle.run_events.specs.Events.{DeliverAs, DeliverTo, Event, HappensBy, LoseTo, PurgeTo, Run, after_event, is_any, is_picked, is_rendered, is_unrendered, picked_flight, state_after_events, state_before_notes}
use Rattle.run_laws.specs.Histories.{came_after, sent_after, sent_by, sent_in}
use Rattle.run_laws.proofs.AskLemmas.{Numbered, picked-there, step-numbered}
use Rattle.run_laws.proofs.FormLemmas.{AreCutNotes, IsCutNote, IsSliceNote, landing-form, restart-cut, slice-form}
use Rattle.run_laws.proofs.PastLemmas.{Last, last-now, past-fresh}
use Rattle.run_laws.proofs.HistoryLemmas.{Held, held-none, slice-held}
use Rattle.run_laws.proofs.NumberedLemmas.{at-here}
use Rattle.run_laws.proofs.SoundLemmas.{flush_number}
use Rattle.run_laws.proofs.KeptLemmas.{IsStill, Kept, KeptBy, came-none, gone-kept, gone-last, idle-kept, kept-same, landing-takes, leads-kept, opened-kept, piece-kept, render-kept, slice-apart, still-same, takes-kept, then_came, then_sent}

deliver-kept : (w : RunState) (e : Event) (c : ℕ) (came : List ℕ) (sent : List Sending) (f : Flying) (answer : Option Answer) → flying_at f.number w.flights ≡ Some f → Kept w c came sent → Numbered (state_after_notes w e.body) → DeliverAs w e f answer → Kept (state_after_notes w e.body) c came (sent ++ sent_in c e.conditions e.body)
deliver-kept w e c came sent f None at kept numbered is = idle-kept e.conditions w w c came sent e.body refl kept.numbered kept.unsliced kept is
deliver-kept w e c came sent f (Some answer) at kept numbered to = takes-kept e.conditions w to.0 c came sent f e.body (landing-takes w f.number to.0 (landing-form w e.conditions f answer to.0 to.1)) at kept numbered to.2

delivers-kept : (w : RunState) (e : Event) (c : ℕ) (came : List ℕ) (sent : List Sending) (flying : Option Flying) → ((f : Flying) → flying ≡ Some f → flying_at f.number w.flights ≡ Some f) → Kept w c came sent → Numbered (state_after_notes w e.body) → DeliverTo w e flying
    → Kept (state_after_notes w e.body) c came (sent ++ sent_in c e.conditions e.body)
delivers-kept w e c came sent None there kept numbered is = idle-kept e.conditions w w c came sent e.body refl kept.numbered kept.unsliced kept is
delivers-kept w e c came sent (Some f) there kept numbered to = deliver-kept w e c came sent f f.rendered (there f refl) kept numbered to

loses-kept : (w : RunState) (e : Event) (c : ℕ) (came : List ℕ) (sent : List Sending) (flying : Option Flying) → ((f : Flying) → flying ≡ Some f → flying_at f.number w.flights ≡ Some f) → Kept w c came sent → Numbered (state_after_notes w e.body) → LoseTo w e flying
    → Kept (state_after_notes w e.body) c came (sent ++ sent_in c e.conditions e.body)
loses-kept w e c came sent None there kept numbered is = idle-kept e.conditions w w c came sent e.body refl kept.numbered kept.unsliced kept is
loses-kept w e c came sent (Some f) there kept numbered to = takes-kept e.conditions w (Lost f.number) c came sent f e.body (record { answer = _; entry = _; is = refl; silent = λ d m. refl }) (there f refl) kept numbered to

-- ---- a slice
pub ending-slicing : (w : RunState) (v : ℕ) (outcome : FlushOutcome) (response : Response) (at : Option Flushing) → w.slicing ≡ None → (state_after_ending w v outcome response at).slicing ≡ None
ending-slicing w v outcome response None none = none
ending-slicing w v outcome response (Some f) none = refl

pub slice-slicing : (w : RunState) (v : ℕ) (note : Note) → w.slicing ≡ None → IsSliceNote v note → (state_after_note w note).slicing ≡ None
slice-slicing w v note none (inl done) = rw done (ending-slicing w v done_outcome (Says (error_answer 200)) (flush_at v w.flushes) none)
slice-slicing w v note none (inr (inl sliced)) = rw sliced refl
slice-slicing w v note none (inr (inr failed)) = rw failed.1 (ending-slicing w v failed_outcome (Says (error_answer (failure_status failed.0))) (flush_at v w.flushes) none)

purges-kept : (w : RunState) (e : Event) (c : ℕ) (came : List ℕ) (sent : List Sending) (flushes : List Flushing) → w.flushes ≡ flushes → Kept w c came sent → Numbered (state_after_notes w e.body) → PurgeTo w e flushes → Kept (state_after_notes w e.body) c came (sent ++ sent_in c e.conditions e.body)
purges-kept w e c came sent [] first kept numbered is = idle-kept e.conditions w w c came sent e.body refl kept.numbered kept.unsliced kept is
purges-kept w e c came sent (flush ∷ flushes) first kept numbered to = leads-kept e.conditions w to.0 c flush.connection came sent e.body held still none numbered to.2
  where
    form : IsSliceNote flush.number to.0
    form = slice-form e.conditions flush.number to.0 to.1

    there : (f : Flushing) → flush_at flush.number w.flushes ≡ Some f → f.connection ≡ flush.connection
    there f is =
        let same : Some flush ≡ Some f = sym (ap (flush_at flush.number) first ∙ at-here flush_number flush flushes) ∙ is in
        let one : flush ≡ f = cc same in
        ap (λ (x : Flushing). x.connection) (sym one)

    held : Held (state_after_note w to.0) c came (sent ++ sent_by c e.conditions to.0)
    held = slice-held e.conditions w c flush.number came sent to.0 kept.held form

    still : c ≢ flush.connection → IsStill (state_after_note w to.0) c
    still apart = still-same w (state_after_note w to.0) c (slice-apart e.conditions w c flush.number flush.connection to.0 apart there form).connection kept.still

    none : (state_after_note w to.0).slicing ≡ None
    none = slice-slicing w flush.number to.0 kept.unsliced form

-- ---- a restart
-- no connection is open
abbrev pub NoneOpen : RunState → Type 0
NoneOpen w = (c : ℕ) → w.connection c ≡ None

none-update : (w : RunState) (d : ℕ) (change : Connection → Connection) → NoneOpen w → (c : ℕ) → update nat_eq w.connection d (option_map change (w.connection d)) c ≡ None
none-update w d change none c = ⊎_elim
    (λ same. subst (λ x. update nat_eq w.connection d (option_map change (w.connection d)) x ≡ None) same (update_here w.connection d (option_map change (w.connection d)) ∙ ap (option_map change) (none d)))
    (λ apart. update_apart w.connection d (option_map change (w.connection d)) c (λ e. apart (sym e)) ∙ none c)
    (cases_eq d c)

none-shut : (w : RunState) (d : ℕ) → NoneOpen w → (c : ℕ) → update nat_eq w.connection d None c ≡ None
none-shut w d none c = ⊎_elim
    (λ same. subst (λ x. update nat_eq w.connection d None x ≡ None) same (update_here w.connection d None))
    (λ apart. update_apart w.connection d None c (λ e. apart (sym e)) ∙ none c)
    (cases_eq d c)

-- what a cut leaves
pub record CutLeaves (w v : RunState) : Type 0 where
  pub none : NoneOpen v
  pub unsliced : w.slicing ≡ None → v.slicing ≡ None

over-leaves : (w : RunState) (n : ℕ) (answer : Answer) (entry : LogEntry) (at : Option Flying) → NoneOpen w → CutLeaves w (over_with w n answer entry at)
over-leaves w n answer entry None none = record { none = none; unsliced = λ e. e }
over-leaves w n answer entry (Some f) none = record { none = none-update w f.connection (with_end (flight_awaited n) (Says answer)) none; unsliced = λ e. e }

ending-leaves : (w : RunState) (v : ℕ) (outcome : FlushOutcome) (response : Response) (at : Option Flushing) → NoneOpen w → CutLeaves w (state_after_ending w v outcome response at)
ending-leaves w v outcome response None none = record { none = none; unsliced = λ e. e }
ending-leaves w v outcome response (Some f) none = record { none = none-update w f.connection (with_end (flush_awaited v) response) none; unsliced = λ e. refl }

pub cut-leaves : (w : RunState) (note : Note) → IsCutNote note → NoneOpen w → CutLeaves w (state_after_note w note)
cut-leaves w (Lost n) is none = over-leaves w n (error_answer 502) (lost_entry n) (flying_at n w.flights) none
cut-leaves w (Failed v failure) is none = ending-leaves w v failed_outcome (Says (error_answer (failure_status failure))) (flush_at v w.flushes) none
cut-leaves w (Shut c) is none = record { none = none-shut w c none; unsliced = λ e. e }
cut-leaves w (Up epoch) is none = record { none = none; unsliced = λ e. e }
cut-leaves w Down is none = record { none = none; unsliced = λ e. e }
cut-leaves w note is none = absurd is

pub cuts-leave : (w : RunState) (notes : List Note) → AreCutNotes notes → NoneOpen w → CutLeaves w (state_after_notes w notes)
cuts-leave w [] are none = record { none = none; unsliced = λ e. e }
cuts-leave w (note ∷ notes) are none =
    let one = cut-leaves w note are.0 none in
    let rest = cuts-leave (state_after_note w note) notes are.1 one.none in
    record { none = rest.none; unsliced = λ e. rest.unsliced (one.unsliced e) }

cut-silent : (c : ℕ) (m : Conditions) (note : Note) → IsCutNote note → sent_by c m note ≡ []
cut-silent c m (Sent d bytes) is = absurd is
cut-silent c m note is = refl

pub cuts-silent : (c : ℕ) (m : Conditions) (notes : List Note) → AreCutNotes notes → sent_in c m notes ≡ []
cuts-silent c m [] are = refl
cuts-silent c m (note ∷ notes) are = ap (λ xs. xs ++ sent_in c m notes) (cut-silent c m note are.0) ∙ cuts-silent c m notes are.1

pub last-held : (w : RunState) (c : ℕ) (came : List ℕ) (sent : List Sending) (at : Option Connection) → w.connection c ≡ at → Kept w c came sent → Last came (sent ++ [])
last-held w c came sent None is kept = subst (λ xs. Last came xs) (sym (append-nil sent)) (kept.held.over is)
last-held w c came sent (Some k) is kept = gone-last w c came sent k is kept

restart-kept : (w : RunState) (e : Event) (c : ℕ) (came : List ℕ) (sent : List Sending) → Kept w c came sent → Numbered (state_after_notes (without_connections w) e.body) → Restarts w e.conditions e.body → Kept (state_after_notes (without_connections w) e.body) c came (sent ++ sent_in c e.conditions e.body)
restart-kept w e c came sent kept numbered restarts =
    let are = restart-cut w e.conditions e.body restarts in
    let left = cuts-leave (without_connections w) e.body are (λ d. refl) in
    let v = state_after_notes (without_connections w) e.body in
    record {
      held = held-none v c came (sent ++ sent_in c e.conditions e.body) (left.none c) (subst (λ xs. Last came (sent ++ xs)) (sym (cuts-silent c e.conditions e.body are)) (last-held w c came sent (w.connection c) refl kept));
      still = λ d some. absurd (let none : None ≡ Some d = sym (left.none c) ∙ some in let never : ⊥ = cc in never);
      numbered = numbered;
      unsliced = left.unsliced kept.unsliced;
    }

-- ---- an event
pub by-step : (w : RunState) (e : Event) (c : ℕ) (came : List ℕ) (sent : List Sending) (s : Step) → Kept w c came sent → HappensBy w e s → KeptBy w e c came sent s (state_before_notes w e s)
by-step w e c came sent s kept happens = by_kind s happens (step-numbered w e s kept.numbered happens)
  where
    there : (test : Flying → Bool) (f : Flying) → find test w.flights ≡ Some f → flying_at f.number w.flights ≡ Some f
    there test f found = picked-there w test f kept.numbered found

    by_kind : (s : Step) → HappensBy w e s → Numbered (state_after_notes (state_before_notes w e s) e.body) → KeptBy w e c came sent s (state_before_notes w e s)
    by_kind (step.Opened d peer) is numbered = opened-kept w e c d peer came sent (w.connection d) refl kept is
    by_kind (step.Piece d bytes) to numbered = piece-kept w e c d bytes came sent (w.connection d) refl kept numbered to
    by_kind (step.Gone d) is numbered = came-none _ c came _ (gone-kept w e c d came sent (w.connection d) refl kept is)
    by_kind (step.Direct target) to numbered = came-none _ c came _ (rw to.2 (kept-same w w c came sent refl kept.numbered kept.unsliced kept))
    by_kind (step.Render pick) to numbered = came-none _ c came _ (render-kept w e c came sent (picked_flight pick is_unrendered w.flights) kept to)
    by_kind (step.Deliver pick) to numbered = came-none _ c came _ (delivers-kept w e c came sent (picked_flight pick is_rendered w.flights) (λ f found. there (λ flying. is_picked pick flying && is_rendered flying) f found) kept numbered to)
    by_kind (step.Lose pick) to numbered = came-none _ c came _ (loses-kept w e c came sent (picked_flight pick is_any w.flights) (λ f found. there (λ flying. is_picked pick flying && is_any flying) f found) kept numbered to)
    by_kind step.Purge to numbered = came-none _ c came _ (purges-kept w e c came sent w.flushes refl kept numbered to)
    by_kind step.Restart to numbered = came-none _ c came _ (restart-kept w e c came sent kept numbered to)

pub run-kept : (w : RunState) (events : List Event) (c : ℕ) (came : List ℕ) (sent : List Sending) → Kept w c came sent → Run w events → Kept (state_after_events w events) c (came_after c came events) (sent_after c sent events)
run-kept w [] c came sent kept run = kept
run-kept w (e ∷ events) c came sent kept run = run-kept (after_event w e) events c (then_came c came e e.step) (then_sent c sent e e.step) (by-step w e c came sent e.step kept run.0.0) run.1

pub start-kept : (s : Start) (c : ℕ) → Kept (start_of s) c [] []
start-kept s c = record {
  held = held-none (start_of s) c [] [] refl (last-now (fresh []) [] [] (past-fresh []) tt);
  still = λ d some. absurd (let never : ⊥ = cc in never);
  numbered = omega arith;
  unsliced = refl;
}
