-- Each hit of a connection is an entry of the log.
use Rattle.std.proofs.Common.{◌≡◌, ℕ, ◌+◌, ◌++◌, Bool, true, false, List, [], ◌∷◌, Option, Some, None, refl, ap, sym, subst, ◌∙◌, ⊎_elim, append_assoc}
use Rattle.std.specs.Prelude.{if◌then◌else◌, nat_eq, nat_le}
use Rattle.std.specs.List.{AllByRecursion, Contains}
use Rattle.std.specs.Map.{update}
use Rattle.sp_base.specs.declared.answer.Answer.{Answer}
use Rattle.sp_base.specs.Requests.{Request}
use Rattle.cover_rules.specs.declared.page.PageKey.{PageKey}
use Rattle.cover_rules.specs.declared.invalidation.Invalidation.{Invalidation}
use Rattle.cache_log.specs.Entries.{LogEntry, Asked, Begun, Ended, Hit as hit_entry, Sliced as sliced_entry, Up as up_entry, Down as down_entry, FlushOutcome}
use Rattle.cache_log.proofs.PlaceLemmas.{none-within, within}
use Rattle.connections.specs.Connections.{Connection, fresh}
use Rattle.connections.specs.Slots.{Response}
use Rattle.run_events.specs.declared.conditions.Conditions.{Conditions}
use Rattle.run_events.specs.declared.flying.Flying.{Flying}
use Rattle.run_events.specs.declared.flying.Flushing.{Flushing}
use Rattle.run_events.specs.declared.note.Note.{Note}
use Rattle.run_events.specs.declared.note.Note.TheVariants.{Ask as asked, Hit, Local, Flush, Sliced, Done, Failed, Rendered, Kept, Unkept, Passed, Lost, Sent, Shut, Up, Down}
use Rattle.run_events.specs.declared.step.Step.{Step}
use Rattle.run_events.specs.declared.step.Step.TheVariants as step
use Rattle.run_events.specs.Moves.{due_of_connection, flying_at, flush_at, over_with, state_after_ask, state_after_ending, state_after_flush, state_after_hit, state_after_note, state_after_notes, treated_request}
use Rattle.run_events.specs.Events.{Event, HappensBy, Run, after_event, most_connections, state_after_events, state_after_going, state_after_opening, state_before_notes}
use Rattle.run_events.specs.States.{RunState, start_of}
use Rattle.run_laws.specs.Histories.{opens_connection}
use Rattle.run_laws.specs.Owned.{ByFlight, ByFlush, ByHit, ByStatus, HitsAreEntries, Treating, treated_after, treated_by, treated_in, treated_since_opened}
use Rattle.run_laws.proofs.ComesLemmas.{AllCome, Comes, IsSound}
use Rattle.run_laws.proofs.LogLemmas.{SameFarm, begun-farm, note-farm, run-farm, start-sound}
use Rattle.run_laws.proofs.SoundEventLemmas.{event-sound, step-come}

-- ---- the log grows
-- this came to be of the log
record Grows (w v : RunState) : Type 0 where
  more : List LogEntry
  is : v.log ≡ more ++ w.log

grows-same : (w v : RunState) → v.log ≡ w.log → Grows w v
grows-same w v same = record { more = []; is = same }

grows-asked : (w : RunState) (n c : ℕ) (key : Option PageKey) (request : Option Request) → Grows w (state_after_ask w n c key request)
grows-asked w n c key None = grows-same w w refl
grows-asked w n c key (Some request) = record { more = Asked n key ∷ []; is = refl }

grows-hit : (w : RunState) (c : ℕ) (key : PageKey) (request : Option Request) → Grows w (state_after_hit w c key request)
grows-hit w c key None = grows-same w w refl
grows-hit w c key (Some request) = record { more = hit_entry key ∷ []; is = refl }

grows-flush : (w : RunState) (v c : ℕ) (inv : Invalidation) (request : Option Request) → Grows w (state_after_flush w v c inv request)
grows-flush w v c inv None = grows-same w w refl
grows-flush w v c inv (Some request) = record { more = Begun v inv ∷ []; is = refl }

grows-ending : (w : RunState) (v : ℕ) (outcome : FlushOutcome) (response : Response) (at : Option Flushing) → Grows w (state_after_ending w v outcome response at)
grows-ending w v outcome response None = grows-same w w refl
grows-ending w v outcome response (Some f) = record { more = Ended v outcome ∷ []; is = refl }

grows-over : (w : RunState) (n : ℕ) (answer : Answer) (entry : LogEntry) (at : Option Flying) → Grows w (over_with w n answer entry at)
grows-over w n answer entry None = grows-same w w refl
grows-over w n answer entry (Some f) = record { more = entry ∷ []; is = refl }

grows-note : (w : RunState) (note : Note) → Grows w (state_after_note w note)
grows-note w (asked n c key) = grows-asked w n c key (treated_request (due_of_connection w c))
grows-note w (Hit c key) = grows-hit w c key (treated_request (due_of_connection w c))
grows-note w (Local c status) = record { more = []; is = refl }
grows-note w (Flush v c inv) = grows-flush w v c inv (treated_request (due_of_connection w c))
grows-note w (Sliced v) = record { more = sliced_entry v ∷ []; is = refl }
grows-note w (Done v) = grows-ending w v _ _ (flush_at v w.flushes)
grows-note w (Failed v failure) = grows-ending w v _ _ (flush_at v w.flushes)
grows-note w (Rendered n answer) = record { more = []; is = refl }
grows-note w (Kept n key) = grows-over w n _ _ (flying_at n w.flights)
grows-note w (Unkept n) = grows-over w n _ _ (flying_at n w.flights)
grows-note w (Passed n) = grows-over w n _ _ (flying_at n w.flights)
grows-note w (Lost n) = grows-over w n _ _ (flying_at n w.flights)
grows-note w (Sent c bytes) = record { more = []; is = refl }
grows-note w (Shut c) = record { more = []; is = refl }
grows-note w (Up epoch) = record { more = up_entry epoch ∷ []; is = refl }
grows-note w Down = record { more = down_entry ∷ []; is = refl }
grows-note w note = grows-same w w refl

opened-log : (w : RunState) (c : ℕ) (peer : List ℕ) (at : Option Connection) → (state_after_opening w c peer at).log ≡ w.log
opened-log w c peer (Some k) = refl
opened-log w c peer None = by_room (nat_le most_connections w.connection_count)
  where
    by_room : (full : Bool) → (if full then w else record w { connection = update nat_eq w.connection c (Some (fresh peer)); connection_count = w.connection_count + 1 }).log ≡ w.log
    by_room true = refl
    by_room false = refl

gone-log : (w : RunState) (c : ℕ) (at : Option Connection) → (state_after_going w c at).log ≡ w.log
gone-log w c None = refl
gone-log w c (Some k) = refl

pub begun-log : (w : RunState) (e : Event) (s : Step) → (state_before_notes w e s).log ≡ w.log
begun-log w e (step.Opened c peer) = opened-log w c peer (w.connection c)
begun-log w e (step.Piece c bytes) = refl
begun-log w e (step.Gone c) = gone-log w c (w.connection c)
begun-log w e step.Restart = refl
begun-log w e s = refl

-- ---- hits that are entries
abbrev IsEntry : RunState → Treating → Type 0
IsEntry w (ByHit farm log key) = (farm ≡ w.farm) × ((later : List LogEntry) × (w.log ≡ later ++ hit_entry key ∷ log))
IsEntry w _ = Unit {0}

abbrev AreEntries : RunState → List Treating → Type 0
AreEntries w treatings = AllByRecursion (IsEntry w) treatings

entry-grows : (w v : RunState) (treating : Treating) → SameFarm w v → Grows w v → IsEntry w treating → IsEntry v treating
entry-grows w v (ByHit farm log key) same grows is = (is.0 ∙ sym same.farm, (grows.more ++ is.1.0, grows.is ∙ ap (λ xs. grows.more ++ xs) is.1.1 ∙ sym (append_assoc grows.more is.1.0 (hit_entry key ∷ log))))
entry-grows w v (ByFlight n) same grows is = tt
entry-grows w v (ByFlush u) same grows is = tt
entry-grows w v (ByStatus status) same grows is = tt

entries-grow : (w v : RunState) (treatings : List Treating) → SameFarm w v → Grows w v → AreEntries w treatings → AreEntries v treatings
entries-grow w v [] same grows are = tt
entries-grow w v (t ∷ treatings) same grows are = (entry-grows w v t same grows are.0, entries-grow w v treatings same grows are.1)

entries-append : (w : RunState) (xs ys : List Treating) → AreEntries w xs → AreEntries w ys → AreEntries w (xs ++ ys)
entries-append w [] ys are others = others
entries-append w (x ∷ xs) ys are others = (are.0, entries-append w xs ys are.1 others)

-- a hit is the newest entry once it has come
hit-entry : (m : Conditions) (w : RunState) (d : ℕ) (key : PageKey) → Comes m w (Hit d key) → IsEntry (state_after_note w (Hit d key)) (ByHit w.farm w.log key)
hit-entry m w d key comes = (sym (note-farm w (Hit d key)).farm, ([], ap (λ r. (state_after_hit w d key r).log) comes.treated))

treated-entries : (m : Conditions) (w : RunState) (c : ℕ) (note : Note) → Comes m w note → AreEntries (state_after_note w note) (treated_by w c note)
treated-entries m w c (asked n d key) comes = by_test (nat_eq d c)
  where
    by_test : (b : Bool) → AreEntries (state_after_note w (asked n d key)) (if b then ByFlight n ∷ [] else [])
    by_test true = (tt, tt)
    by_test false = tt
treated-entries m w c (Hit d key) comes = by_test (nat_eq d c)
  where
    by_test : (b : Bool) → AreEntries (state_after_note w (Hit d key)) (if b then ByHit w.farm w.log key ∷ [] else [])
    by_test true = (hit-entry m w d key comes, tt)
    by_test false = tt
treated-entries m w c (Flush v d inv) comes = by_test (nat_eq d c)
  where
    by_test : (b : Bool) → AreEntries (state_after_note w (Flush v d inv)) (if b then ByFlush v ∷ [] else [])
    by_test true = (tt, tt)
    by_test false = tt
treated-entries m w c (Local d status) comes = by_test (nat_eq d c)
  where
    by_test : (b : Bool) → AreEntries (state_after_note w (Local d status)) (if b then ByStatus status ∷ [] else [])
    by_test true = (tt, tt)
    by_test false = tt
treated-entries m w c note comes = tt

notes-entries : (m : Conditions) (w : RunState) (c : ℕ) (treatings : List Treating) (notes : List Note) → AllCome m w notes → AreEntries w treatings → AreEntries (state_after_notes w notes) (treatings ++ treated_in w c notes)
notes-entries m w c treatings [] come are = entries-append w treatings [] are tt
notes-entries m w c treatings (note ∷ notes) come are =
    let v = state_after_note w note in
    let one = entries-append v treatings (treated_by w c note) (entries-grow w v treatings (note-farm w note) (grows-note w note) are) (treated-entries m w c note come.0) in
    subst (AreEntries (state_after_notes v notes)) (append_assoc treatings (treated_by w c note) (treated_in v c notes)) (notes-entries m v c (treatings ++ treated_by w c note) notes come.1 one)

event-entries : (w : RunState) (e : Event) (c : ℕ) (treatings : List Treating) → IsSound w → HappensBy w e e.step → AreEntries w treatings → AreEntries (after_event w e) (if opens_connection c e.step e.body then [] else treatings ++ treated_in (state_before_notes w e e.step) c e.body)
event-entries w e c treatings sound happens are = by_opening (opens_connection c e.step e.body)
  where
    v : RunState
    v = state_before_notes w e e.step

    begun : AreEntries v treatings
    begun = entries-grow w v treatings (begun-farm w e e.step) (grows-same w v (begun-log w e e.step)) are

    by_opening : (b : Bool) → AreEntries (after_event w e) (if b then [] else treatings ++ treated_in v c e.body)
    by_opening true = tt
    by_opening false = notes-entries e.conditions v c treatings e.body (step-come w e e.step sound happens) begun

run-entries : (w : RunState) (events : List Event) (c : ℕ) (treatings : List Treating) → IsSound w → Run w events → AreEntries w treatings → AreEntries (state_after_events w events) (treated_after w c treatings events)
run-entries w [] c treatings sound run are = are
run-entries w (e ∷ events) c treatings sound run are = run-entries (after_event w e) events c _ (event-sound w e sound run.0.0) run.1 (event-entries w e c treatings sound run.0.0 are)

-- ---- the law
all-within : (w : RunState) (treatings : List Treating) (treating : Treating) → AreEntries w treatings → Contains treatings treating → IsEntry w treating
all-within w [] treating are there = absurd (none-within there)
all-within w (t ∷ treatings) treating are there = ⊎_elim (λ same. subst (IsEntry w) same are.0) (λ later. all-within w treatings treating are.1 later) (within t treatings treating there)

pub hits-entries : HitsAreEntries
hits-entries s events c begins run farm log key there =
    let w = state_after_events (start_of s) events in
    let is = all-within w (treated_since_opened s c events) (ByHit farm log key) (run-entries (start_of s) events c [] (start-sound s begins) run tt) there in
    (is.0 ∙ (run-farm (start_of s) events).farm, is.1)
