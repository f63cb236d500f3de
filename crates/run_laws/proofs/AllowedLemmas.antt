-- Each entry of an event is allowed by the log before it, under what the event ran under.
use Rattle.std.proofs.Common.{◌≡◌, ◌∙◌, ◌⊎◌, ℕ, ◌++◌, Bool, true, false, List, [], ◌∷◌, Option, Some, None, IsTrue, refl, ap, sym, subst, inl, inr, append_assoc}
use Rattle.sp_base.specs.declared.answer.Answer.{Answer}
use Rattle.sp_base.specs.Requests.{Request}
use Rattle.any_config.specs.declared.farm.Farm.{Farm}
use Rattle.cover_rules.specs.declared.page.PageKey.{PageKey}
use Rattle.cover_rules.specs.declared.invalidation.Invalidation.{Invalidation}
use Rattle.cache_log.specs.Entries.{Fate, Kept as kept_fate, Unkept as unkept_fate, Passed as passed_fate, FlushOutcome, Done as done_outcome, Failed as failed_outcome, LogEntry, Landed, Lost as lost_entry, Ended}
use Rattle.cache_log.specs.Rules.{AllAllowed, Allowed, CallConditions, HasFallenShort, MayStore}
use Rattle.connections.specs.Connections.{Due, Send, Treat, Refuse, Close, Nothing}
use Rattle.connections.specs.Slots.{Response}
use Rattle.http_front.specs.declared.turn.Turn.TheVariants.{Continue, Whole}
use Rattle.run_events.specs.declared.conditions.Conditions.{Conditions}
use Rattle.run_events.specs.declared.flying.Flying.{Flying}
use Rattle.run_events.specs.declared.flying.Flushing.{Flushing}
use Rattle.run_events.specs.declared.note.Failure.{Failure}
use Rattle.run_events.specs.declared.note.Failure.TheVariants.{Disk, NoMemory, Restart as cut_off}
use Rattle.run_events.specs.declared.note.Note.{Note}
use Rattle.run_events.specs.declared.note.Note.TheVariants.{Ask as asked, Hit, Local, Flush, Sliced, Done, Failed, Rendered, Kept, Unkept, Passed, Lost, Sent, Shut, Up, Down}
use Rattle.run_events.specs.declared.step.Step.{Step}
use Rattle.run_events.specs.declared.step.Step.TheVariants as step
use Rattle.run_events.specs.States.{RunState, start_of}
use Rattle.run_events.specs.Points.{call_conditions, key_of}
use Rattle.run_events.specs.Moves.{GivesDue, GivesNext, GivesSlice, answer_in, due_of_connection, flying_at, flush_at, over_with, state_after_ask, state_after_ending, state_after_flush, state_after_hit, state_after_landing, state_after_note, state_after_notes, treated_request}
use Rattle.run_events.specs.Events.{Event, HappensBy, state_after_events, state_before_notes}
use Rattle.run_laws.specs.Logs.{AddsAllowed, EventsAddWhatIsAllowed, is_restart}
use Rattle.run_laws.proofs.ComesLemmas.{AllCome, AskComes, Comes, FlushComes, HitComes, IsSound, LandingComes, LossComes, MayFail}
use Rattle.run_laws.proofs.EachNoteLemmas.{AllIn, IsOfEach, step-all}
use Rattle.run_laws.proofs.EntryLemmas.{begun-log}
use Rattle.run_laws.proofs.FormLemmas.{IsLandingNote, IsRequestNote, treated-form}
use Rattle.run_laws.proofs.LogLemmas.{begun-farm, note-farm, run-farm, start-sound}
use Rattle.run_laws.proofs.SoundEventLemmas.{begun-sound, run-sound, step-come}
use Rattle.run_laws.proofs.SoundRunLemmas.{answered-in, first-oldest, note-sound}

-- ---- logs
adds-none : (farm : Farm) (under : CallConditions) (log : List LogEntry) → AddsAllowed farm under log log
adds-none farm under log = record { added = []; after_is = refl; allowed = tt }

adds-one : (farm : Farm) (under : CallConditions) (entry : LogEntry) (log : List LogEntry) → Allowed farm under entry log → AddsAllowed farm under log (entry ∷ log)
adds-one farm under entry log allowed = record { added = entry ∷ []; after_is = refl; allowed = (allowed, tt) }

allowed-append : (farm : Farm) (under : CallConditions) (more first log : List LogEntry) → AllAllowed farm under more (first ++ log) → AllAllowed farm under first log → AllAllowed farm under (more ++ first) log
allowed-append farm under [] first log later earlier = earlier
allowed-append farm under (entry ∷ more) first log later earlier = (subst (Allowed farm under entry) (sym (append_assoc more first log)) later.0, allowed-append farm under more first log later.1 earlier)

adds-then : (farm : Farm) (under : CallConditions) (a b c : List LogEntry) → AddsAllowed farm under a b → AddsAllowed farm under b c → AddsAllowed farm under a c
adds-then farm under a b c one two = record {
  added = two.added ++ one.added;
  after_is = two.after_is ∙ ap (λ log. two.added ++ log) one.after_is ∙ sym (append_assoc two.added one.added a);
  allowed = allowed-append farm under two.added one.added a (subst (AllAllowed farm under two.added) one.after_is two.allowed) one.allowed;
}

-- ---- notes
-- the note may come in a restart, or in another event
abbrev FitsCall : Bool → Note → Type 0
FitsCall false (Up epoch) = ⊥
FitsCall false Down = ⊥
FitsCall false (Failed v cut_off) = ⊥
FitsCall _ _ = Unit {0}

-- what the note adds is allowed
abbrev Adds : Conditions → Bool → RunState → RunState → Type 0
Adds m restarts w v = AddsAllowed w.farm (call_conditions m restarts) w.log v.log

ask-adds : (m : Conditions) (restarts : Bool) (w : RunState) (n c : ℕ) (key : Option PageKey) → AskComes m w n c key → (at : Option Request) → Adds m restarts w (state_after_ask w n c key at)
ask-adds m restarts w n c key comes None = adds-none _ _ _
ask-adds m restarts w n c key comes (Some request) = adds-one _ _ _ _ (comes.up, comes.next, comes.unowed)

hit-adds : (m : Conditions) (restarts : Bool) (w : RunState) (c : ℕ) (key : PageKey) → HitComes w c key → (at : Option Request) → Adds m restarts w (state_after_hit w c key at)
hit-adds m restarts w c key comes None = adds-none _ _ _
hit-adds m restarts w c key comes (Some request) = adds-one _ _ _ _ (comes.up, comes.permitted)

flush-adds : (m : Conditions) (restarts : Bool) (w : RunState) (v c : ℕ) (inv : Invalidation) → FlushComes w v c inv → (at : Option Request) → Adds m restarts w (state_after_flush w v c inv at)
flush-adds m restarts w v c inv comes None = adds-none _ _ _
flush-adds m restarts w v c inv comes (Some request) = adds-one _ _ _ _ (comes.up, comes.next)

ending-adds : (m : Conditions) (restarts : Bool) (w : RunState) (v : ℕ) (outcome : FlushOutcome) (response : Response) → Allowed w.farm (call_conditions m restarts) (Ended v outcome) w.log → (at : Option Flushing) → Adds m restarts w (state_after_ending w v outcome response at)
ending-adds m restarts w v outcome response allowed None = adds-none _ _ _
ending-adds m restarts w v outcome response allowed (Some flush) = adds-one _ _ _ _ allowed

failing : (m : Conditions) (restarts : Bool) (v : ℕ) (failure : Failure) → FitsCall restarts (Failed v failure) → MayFail m failure → HasFallenShort (call_conditions m restarts) ⊎ IsTrue restarts
failing m restarts v Disk fits may = inl (inl may)
failing m restarts v NoMemory fits may = inl (inr may)
failing m true v cut_off fits may = inr refl
failing m false v cut_off fits may = absurd fits

landing-adds : (m : Conditions) (restarts : Bool) (w : RunState) (n : ℕ) (fate : Fate) (f : Flying) → flying_at n w.flights ≡ Some f → Allowed w.farm (call_conditions m restarts) (Landed n (key_of w f.request) (answer_in (Some f)) fate) w.log
    → Adds m restarts w (state_after_landing w n fate (flying_at n w.flights))
landing-adds m restarts w n fate f at allowed = rw at (adds-one _ _ _ _ allowed)

kept-adds : (m : Conditions) (restarts : Bool) (w : RunState) (n : ℕ) (key : PageKey) → IsSound w → LandingComes w n (λ k answer. (k ≡ Some key) × MayStore w.farm w.log n (Some key) answer) → Adds m restarts w (state_after_landing w n kept_fate (flying_at n w.flights))
kept-adds m restarts w n key sound comes =
    let may : MayStore w.farm w.log n (key_of w comes.flight.request) (answer_in (Some comes.flight)) = rw (answered-in comes.flight comes.answer comes.rendered) (subst (λ k. MayStore w.farm w.log n k comes.answer) (sym comes.may.0) comes.may.1) in
    landing-adds m restarts w n kept_fate comes.flight comes.at (sound.flown n comes.flight comes.at, may)

unkept-adds : (m : Conditions) (restarts : Bool) (w : RunState) (n : ℕ) → IsSound w → LandingComes w n (λ k answer. MayStore w.farm w.log n k answer × HasFallenShort (call_conditions m false)) → Adds m restarts w (state_after_landing w n unkept_fate (flying_at n w.flights))
unkept-adds m restarts w n sound comes =
    let may : MayStore w.farm w.log n (key_of w comes.flight.request) (answer_in (Some comes.flight)) = rw (answered-in comes.flight comes.answer comes.rendered) comes.may.0 in
    landing-adds m restarts w n unkept_fate comes.flight comes.at (sound.flown n comes.flight comes.at, may, comes.may.1)

passed-adds : (m : Conditions) (restarts : Bool) (w : RunState) (n : ℕ) → IsSound w → LandingComes w n (λ k answer. MayStore w.farm w.log n k answer → ⊥) → Adds m restarts w (state_after_landing w n passed_fate (flying_at n w.flights))
passed-adds m restarts w n sound comes =
    let may : MayStore w.farm w.log n (key_of w comes.flight.request) (answer_in (Some comes.flight)) → ⊥ = rw (answered-in comes.flight comes.answer comes.rendered) comes.may in
    landing-adds m restarts w n passed_fate comes.flight comes.at (sound.flown n comes.flight comes.at, may)

lost-adds : (m : Conditions) (restarts : Bool) (w : RunState) (n : ℕ) (answer : Answer) → IsSound w → LossComes w n → Adds m restarts w (over_with w n answer (lost_entry n) (flying_at n w.flights))
lost-adds m restarts w n answer sound comes = rw comes.at (adds-one _ _ _ _ (key_of w comes.flight.request, sound.flown n comes.flight comes.at))

note-adds : (m : Conditions) (restarts : Bool) (w : RunState) (note : Note) → IsSound w → Comes m w note → FitsCall restarts note → Adds m restarts w (state_after_note w note)
note-adds m restarts w (asked n c key) sound comes fits = ask-adds m restarts w n c key comes.0 (treated_request (due_of_connection w c))
note-adds m restarts w (Hit c key) sound comes fits = hit-adds m restarts w c key comes (treated_request (due_of_connection w c))
note-adds m restarts w (Local c status) sound comes fits = adds-none _ _ _
note-adds m restarts w (Flush v c inv) sound comes fits = flush-adds m restarts w v c inv comes.0 (treated_request (due_of_connection w c))
note-adds m restarts w (Sliced v) sound comes fits = adds-one _ _ _ _ (first-oldest w v sound comes)
note-adds m restarts w (Done v) sound comes fits = ending-adds m restarts w v done_outcome _ (first-oldest w v sound comes) (flush_at v w.flushes)
note-adds m restarts w (Failed v failure) sound comes fits = ending-adds m restarts w v failed_outcome _ (first-oldest w v sound comes.0, failing m restarts v failure fits comes.1) (flush_at v w.flushes)
note-adds m restarts w (Rendered n answer) sound comes fits = adds-none _ _ _
note-adds m restarts w (Kept n key) sound comes fits = kept-adds m restarts w n key sound comes
note-adds m restarts w (Unkept n) sound comes fits = unkept-adds m restarts w n sound comes
note-adds m restarts w (Passed n) sound comes fits = passed-adds m restarts w n sound comes
note-adds m restarts w (Lost n) sound comes fits = lost-adds m restarts w n _ sound comes
note-adds m restarts w (Sent c bytes) sound comes fits = adds-none _ _ _
note-adds m restarts w (Shut c) sound comes fits = adds-none _ _ _
note-adds m true w (Up epoch) sound comes fits = adds-one _ _ _ _ comes
note-adds m false w (Up epoch) sound comes fits = absurd fits
note-adds m true w Down sound comes fits = adds-one _ _ _ _ comes
note-adds m false w Down sound comes fits = absurd fits
note-adds m restarts w note sound comes fits = adds-none _ _ _

notes-add : (m : Conditions) (restarts : Bool) (w : RunState) (notes : List Note) → IsSound w → AllCome m w notes → AllIn (λ v note. FitsCall restarts note) w notes → Adds m restarts w (state_after_notes w notes)
notes-add m restarts w [] sound come fit = adds-none _ _ _
notes-add m restarts w (note ∷ notes) sound come fit =
    let v = state_after_note w note in
    let rest : AddsAllowed v.farm (call_conditions m restarts) v.log (state_after_notes v notes).log = notes-add m restarts v notes (note-sound m w note sound come.0) come.1 fit.1 in
    adds-then w.farm (call_conditions m restarts) w.log v.log (state_after_notes v notes).log (note-adds m restarts w note sound come.0 fit.0)
    (subst (λ farm. AddsAllowed farm (call_conditions m restarts) v.log (state_after_notes v notes).log) (note-farm w note).farm rest)

-- ---- which notes may come
request-fits : (w : RunState) (c : ℕ) (note : Note) → IsRequestNote w c note → FitsCall false note
request-fits w c note (inl local) = rw local.1 tt
request-fits w c note (inr (inl ask)) = rw ask.1 tt
request-fits w c note (inr (inr (inl hit))) = rw hit.1 tt
request-fits w c note (inr (inr (inr flush))) = rw flush.1 tt

slice-fits : (m : Conditions) (v : ℕ) (note : Note) → GivesSlice m v note → FitsCall false note
slice-fits m v note (inl done) = rw done tt
slice-fits m v note (inr (inl sliced)) = rw sliced tt
slice-fits m v note (inr (inr (inl disk))) = rw disk.0 tt
slice-fits m v note (inr (inr (inr memory))) = rw memory.0 tt

landing-fits : (n : ℕ) (note : Note) → IsLandingNote n note → FitsCall false note
landing-fits n note (inl kept) = rw kept.1 tt
landing-fits n note (inr (inl unkept)) = rw unkept tt
landing-fits n note (inr (inr passed)) = rw passed tt

gives-fits : (m : Conditions) (w : RunState) (c : ℕ) (owed : Due) (note : Note) → GivesDue m w c owed note → FitsCall false note
gives-fits m w c (Send slot) note gives = rw gives.1 tt
gives-fits m w c (Treat Continue) note gives = absurd gives
gives-fits m w c (Treat (Whole request)) note gives = request-fits w c note (treated-form m w c request note gives)
gives-fits m w c (Refuse fault) note gives = rw gives tt
gives-fits m w c Close note gives = rw gives tt
gives-fits m w c Nothing note gives = absurd gives

next-fits : (m : Conditions) (w : RunState) (c : ℕ) (slicing : Option ℕ) (note : Note) → GivesNext m w c slicing note → FitsCall false note
next-fits m w c None note gives = gives-fits m w c (due_of_connection w c) note gives
next-fits m w c (Some v) note gives = slice-fits m v note gives

each-fits : (s : Step) → is_restart s ≡ false → IsOfEach (λ w note. FitsCall false note) s
each-fits s other = record {
  due = λ m w c note gives. next-fits m w c w.slicing note gives;
  slice = λ m w v note gives. slice-fits m v note gives;
  landing = λ w n note is. landing-fits n note is;
  lost = λ w n. tt;
  idle = λ w. tt;
  answer = λ w answer. tt;
  rendered = λ w n answer. tt;
  refused = λ w c opens. tt;
  cut = λ is w note cut. absurd (let both : true ≡ false = sym (ap is_restart is) ∙ other in let never : ⊥ = cc in never);
}

all-fit : (w : RunState) (notes : List Note) → AllIn (λ v note. FitsCall true note) w notes
all-fit w [] = tt
all-fit w (note ∷ notes) = (tt, all-fit (state_after_note w note) notes)

step-fits : (w : RunState) (e : Event) (s : Step) (restarts : Bool) → is_restart s ≡ restarts → HappensBy w e s → AllIn (λ v note. FitsCall restarts note) (state_before_notes w e s) e.body
step-fits w e s true is happens = all-fit (state_before_notes w e s) e.body
step-fits w e s false is happens = step-all (λ v note. FitsCall false note) w e s (each-fits s is) happens

-- ---- an event
event-adds : (w : RunState) (e : Event) (s : Step) → IsSound w → HappensBy w e s → AddsAllowed w.farm (call_conditions e.conditions (is_restart s)) w.log (state_after_notes (state_before_notes w e s) e.body).log
event-adds w e s sound happens =
    let v = state_before_notes w e s in
    let under : CallConditions = call_conditions e.conditions (is_restart s) in
    let adds : AddsAllowed v.farm under v.log (state_after_notes v e.body).log = notes-add e.conditions (is_restart s) v e.body (begun-sound w e s sound) (step-come w e s sound happens) (step-fits w e s (is_restart s) refl happens) in
    subst (λ log. AddsAllowed w.farm under log (state_after_notes v e.body).log) (begun-log w e s) (subst (λ farm. AddsAllowed farm under v.log (state_after_notes v e.body).log) (begun-farm w e s).farm adds)

pub events-add : EventsAddWhatIsAllowed
events-add s events e begins run happens =
    let w : RunState = state_after_events (start_of s) events in
    subst (λ farm. AddsAllowed farm (call_conditions e.conditions (is_restart e.step)) w.log (state_after_notes (state_before_notes w e e.step) e.body).log) (run-farm (start_of s) events).farm
    (event-adds w e e.step (run-sound (start_of s) events (start-sound s begins) run) happens.0)
