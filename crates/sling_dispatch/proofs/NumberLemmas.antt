-- In every session the numbers in the notes fit, as long as it has fewer than 2^64 - 1 events.
use Rattle.std.proofs.Common.{◌≡◌, ◌+◌, ◌<◌, ◌≤◌, ◌++◌, ◌||◌, ◌&&◌, ℕ, Bool, true, false, not, cond, List, [], ◌∷◌, Option, Some, None, Result, Ok, Err, map, length, refl, subst, sym, ◌∙◌, ap, arith, inl, inr, ⊎_elim, eq-eqb}
use Rattle.std.specs.Prelude.{nat_eq, nat_le, if◌then◌else◌, is_some}
use Rattle.std.specs.List.{find}
use Rattle.std.specs.Map.{update}
use Rattle.std.specs.Option.{option_map}
use Rattle.std.proofs.lemmas.Map.{update_apart, update_here}
use Rattle.std.proofs.lemmas.Bool.{both_ways, cases_eq, or_left, or_right}
use Rattle.sp_base.specs.declared.answer.Answer.{Answer}
use Rattle.sp_base.specs.declared.answer.Ask.{Ask}
use Rattle.sp_base.specs.Requests.{Request}
use Rattle.resource_tree.specs.Content.{Content}
use Rattle.error_answers.specs.Errors.{error_answer}
use Rattle.any_config.specs.declared.farm.Farm.{Farm}
use Rattle.publisher.specs.Rendering.{answer_to_request}
use Rattle.cover_rules.specs.declared.page.PageKey.{PageKey}
use Rattle.cover_rules.specs.declared.invalidation.Invalidation.{Invalidation}
use Rattle.dispatch_rules.specs.Asking.{publisher_ask}
use Rattle.http_front.specs.Faults.{fault_status}
use Rattle.http_front.specs.declared.fault.InFault.{InFault}
use Rattle.http_front.specs.declared.fault.InFault.TheVariants as fault
use Rattle.http_front.specs.declared.target.Target.{Target}
use Rattle.http_front.specs.Targets.{target_of}
use Rattle.http_front.specs.declared.turn.Turn.TheVariants.{Continue, Whole}
use Rattle.cache_log.specs.Entries.{LogEntry, FlushOutcome, downs_since, flights_asked, flushes_begun, last_epoch, stamps_drawn}
use Rattle.connections.specs.Slots.{Response}
use Rattle.connections.specs.Connections.{Connection, Due, Send, Treat, Refuse, Close, Nothing, fresh, with_piece}
use Rattle.run_events.specs.declared.conditions.Conditions.{Conditions}
use Rattle.run_events.specs.declared.flying.Flying.{Flying}
use Rattle.run_events.specs.declared.flying.Flushing.{Flushing}
use Rattle.run_events.specs.declared.note.Failure.{Failure}
use Rattle.run_events.specs.declared.note.Failure.TheVariants.{Disk, NoMemory, Restart as cut_off}
use Rattle.run_events.specs.declared.note.Note.{Note}
use Rattle.run_events.specs.declared.note.Note.TheVariants.{Answer as answered, Ask as asked, Hit, Local, Flush, Done, Failed, Rendered, Kept, Unkept, Passed, Lost, Sent, Shut, Refused, Idle, Up, Hurt, OutOfMemory}
use Rattle.run_events.specs.declared.step.Pick.{Pick}
use Rattle.run_events.specs.declared.step.Step.{Step}
use Rattle.run_events.specs.declared.step.Step.TheVariants as step
use Rattle.run_events.specs.Events.{DeliverAs, DeliverTo, Event, HappensBy, IsOrFixed, LeadsNotes, LoseTo, MayLand, PieceTo, PurgeTo, RenderTo, Run, after_event, condition_notes, going, is_any, is_picked, is_rendered, is_unrendered, most_connections, notes_of, opening, picked_flight, state_after_going, state_after_opening, state_before_notes}
use Rattle.run_events.specs.Moves.{GivesDue, GivesNext, GivesSlice, Serves, due_of_connection, first_sliced, flying_at, flush_at, has_number, is_flush, on_connection, over_with, state_after_ask, state_after_ending, state_after_flush, state_after_hit, state_after_note, state_after_notes, treated_request, with_rendered_at, air_without, without_flush}
use Rattle.run_events.specs.Points.{AnswersFlush, AnswersInvalidation, BeginsFlush, IsFirstPoint, is_full_of_flushes, points}
use Rattle.run_events.specs.Publishers.{answer_to, direct_answer, get_of}
use Rattle.run_events.specs.Restarts.{EndsRestart, Restarts, cut_notes, without_connections}
use Rattle.run_events.specs.States.{AreOpen, RunState, is_among}
use Rattle.replay_text.specs.Transcript.{IsConnectionNumber, IsFlightNumber, IsStatus}
use Rattle.sling_dispatch.specs.Runs.{sling_publisher}

-- ---- notes
-- the numbers of the note fit
abbrev pub NumbersFit : Note → Type 0
NumbersFit (answered a) = IsStatus a.status
NumbersFit (asked n c key) = IsFlightNumber n × IsConnectionNumber c
NumbersFit (Hit c key) = IsConnectionNumber c
NumbersFit (Local c status) = IsConnectionNumber c × IsStatus status
NumbersFit (Flush v c inv) = IsFlightNumber v
NumbersFit (Done v) = IsFlightNumber v
NumbersFit (Failed v why) = IsFlightNumber v
NumbersFit (Rendered n a) = IsFlightNumber n × IsStatus a.status
NumbersFit (Kept n key) = IsFlightNumber n
NumbersFit (Unkept n) = IsFlightNumber n
NumbersFit (Passed n) = IsFlightNumber n
NumbersFit (Lost n) = IsFlightNumber n
NumbersFit (Sent c bytes) = IsConnectionNumber c
NumbersFit (Shut c) = IsConnectionNumber c
NumbersFit (Refused c) = IsConnectionNumber c
NumbersFit (Up epoch) = IsFlightNumber epoch
NumbersFit _ = Unit {0}

abbrev pub AllNumbersFit : List Note → Type 0
AllNumbersFit [] = Unit {0}
AllNumbersFit (note ∷ notes) = NumbersFit note × AllNumbersFit notes

abbrev pub EventsFit : List (List Note) → Type 0
EventsFit [] = Unit {0}
EventsFit (notes ∷ events) = AllNumbersFit notes × EventsFit events

both-fit : (a b : List Note) → AllNumbersFit a → AllNumbersFit b → AllNumbersFit (a ++ b)
both-fit [] b first second = second
both-fit (note ∷ a) b first second = (first.0, both-fit a b first.1 second)

conditions-fit : (m : Conditions) → AllNumbersFit (condition_notes m)
conditions-fit m = by_both m.disk_failed m.out_of_memory
  where
    by_both : (a b : Bool) → AllNumbersFit ((if a then Hurt ∷ [] else []) ++ (if b then OutOfMemory ∷ [] else []))
    by_both true true = (tt, (tt, tt))
    by_both true false = (tt, tt)
    by_both false true = (tt, tt)
    by_both false false = tt

-- ---- flights and flushes
pub record Fits (f : Flying) : Type 0 where
  pub number : f.number ≤ 9223372036854775808
  pub connection : f.connection < 4294967296

abbrev AllFit : List Flying → Type 0
AllFit [] = Unit {0}
AllFit (f ∷ flights) = Fits f × AllFit flights

all-push : (flights : List Flying) (f : Flying) → AllFit flights → Fits f → AllFit (flights ++ f ∷ [])
all-push [] f all fits = (fits, tt)
all-push (g ∷ flights) f all fits = (all.0, all-push flights f all.1 fits)

all-air_without : (n : ℕ) (flights : List Flying) → AllFit flights → AllFit (air_without n flights)
all-air_without n [] all = tt
all-air_without n (f ∷ flights) all = by_test (has_number n f) (all-air_without n flights all.1)
  where
    by_test : (b : Bool) → AllFit (air_without n flights) → AllFit (cond (not b) (f ∷ air_without n flights) (air_without n flights))
    by_test true rest = rest
    by_test false rest = (all.0, rest)

all-rendered : (n : ℕ) (a : Answer) (flights : List Flying) → AllFit flights → AllFit (map (with_rendered_at n a) flights)
all-rendered n a [] all = tt
all-rendered n a (f ∷ flights) all = (by_test (has_number n f), all-rendered n a flights all.1)
  where
    by_test : (b : Bool) → Fits (if b then record f { rendered = Some a } else f)
    by_test true = record { number = all.0.number; connection = all.0.connection }
    by_test false = all.0

found-fits : (test : Flying → Bool) (flights : List Flying) (f : Flying) → AllFit flights → find test flights ≡ Some f → Fits f
found-fits test [] f all e = absurd (let no : ⊥ = cc in no)
found-fits test (g ∷ flights) f all e = by_test (test g) refl (found-fits test flights f all.1)
  where
    by_test : (b : Bool) → test g ≡ b → (find test flights ≡ Some f → Fits f) → Fits f
    by_test true passes rest = let some : Some g ≡ Some f = rw passes at e in let same : g ≡ f = cc in subst Fits same all.0
    by_test false passes rest = rest (rw passes at e)

pub record FlushFits (f : Flushing) : Type 0 where
  pub number : f.number ≤ 9223372036854775808
  pub connection : f.connection < 4294967296

abbrev FlushesFit : List Flushing → Type 0
FlushesFit [] = Unit {0}
FlushesFit (f ∷ flushes) = FlushFits f × FlushesFit flushes

flushes-push : (flushes : List Flushing) (f : Flushing) → FlushesFit flushes → FlushFits f → FlushesFit (flushes ++ f ∷ [])
flushes-push [] f all fits = (fits, tt)
flushes-push (g ∷ flushes) f all fits = (all.0, flushes-push flushes f all.1 fits)

flushes-air_without : (n : ℕ) (flushes : List Flushing) → FlushesFit flushes → FlushesFit (without_flush n flushes)
flushes-air_without n [] all = tt
flushes-air_without n (f ∷ flushes) all = by_test (is_flush n f) (flushes-air_without n flushes all.1)
  where
    by_test : (b : Bool) → FlushesFit (without_flush n flushes) → FlushesFit (cond (not b) (f ∷ without_flush n flushes) (without_flush n flushes))
    by_test true rest = rest
    by_test false rest = (all.0, rest)

abbrev SlicingFits : Option ℕ → Type 0
SlicingFits None = Unit {0}
SlicingFits (Some v) = v ≤ 9223372036854775808

first-sliced : (flushes : List Flushing) (v : ℕ) → v ≤ 9223372036854775808 → SlicingFits (first_sliced flushes v)
first-sliced [] v fits = fits
first-sliced (f ∷ flushes) v fits = tt

-- ---- connections
abbrev OpenFit : (ℕ → Option Connection) → Type 0
OpenFit connection = (c : ℕ) → is_some (connection c) ≡ true → c < 4294967296

update-fits : (connection : ℕ → Option Connection) (c : ℕ) (now : Option Connection) → OpenFit connection → (is_some now ≡ true → c < 4294967296) → OpenFit (update nat_eq connection c now)
update-fits connection c now fits here q there = ⊎_elim
    (λ same. subst (λ x. x < 4294967296) same (here (sym (ap is_some (subst (λ x. update nat_eq connection c now x ≡ now) same (update_here connection c now))) ∙ there)))
    (λ apart. fits q (sym (ap is_some (update_apart connection c now q (λ x. apart (sym x)))) ∙ there))
    (cases_eq c q)

map-fits : (connection : ℕ → Option Connection) (c : ℕ) (f : Connection → Connection) → OpenFit connection → OpenFit (update nat_eq connection c (option_map f (connection c)))
map-fits connection c f fits = update-fits connection c (option_map f (connection c)) fits (λ there. fits c (sym (some-map (connection c)) ∙ there))
  where
    some-map : (o : Option Connection) → is_some (option_map f o) ≡ is_some o
    some-map None = refl
    some-map (Some k) = refl

none-fits : (connection : ℕ → Option Connection) (c : ℕ) → OpenFit connection → OpenFit (update nat_eq connection c None)
none-fits connection c fits = update-fits connection c None fits (λ there. absurd (let never : ⊥ = cc in never))

-- ---- states
-- the greatest epoch that a restart may come up with, less one
abbrev epochs : List LogEntry → ℕ
epochs log = last_epoch log + downs_since log

pub record StateFits (top : ℕ) (w : RunState) : Type 0 where
  pub stamps_are : stamps_drawn w.log ≤ 9223372036854775808
  pub epochs_are : epochs w.log ≤ top
  pub flights : AllFit w.flights
  pub flushes : FlushesFit w.flushes
  pub slicing : SlicingFits w.slicing
  pub open_fit : OpenFit w.connection
  pub publishing_is : w.publishing ≡ sling_publisher

-- one more epoch is nothing against it
higher : (top : ℕ) (w : RunState) → StateFits top w → StateFits (top + 1) w
higher top w fits = record { stamps_are = fits.stamps_are; epochs_are = omega (arith, fits.epochs_are); flights = fits.flights; flushes = fits.flushes; slicing = fits.slicing; open_fit = fits.open_fit; publishing_is = fits.publishing_is }

-- the entry counts for neither
record CountsFor (entry : LogEntry) (log : List LogEntry) : Type 0 where
  stamps : stamps_drawn (entry ∷ log) ≡ stamps_drawn log
  none : epochs (entry ∷ log) ≡ epochs log

over-fits : (top : ℕ) (w : RunState) (n : ℕ) (a : Answer) (entry : LogEntry) (at : Option Flying) → StateFits top w → CountsFor entry w.log → StateFits top (over_with w n a entry at)
over-fits top w n a entry None fits same = fits
over-fits top w n a entry (Some f) fits same = record { stamps_are = rw same.stamps fits.stamps_are; epochs_are = rw same.none fits.epochs_are; flights = all-air_without n w.flights fits.flights; flushes = fits.flushes; slicing = fits.slicing; open_fit = map-fits w.connection f.connection _ fits.open_fit; publishing_is = fits.publishing_is }

ending-fits : (top : ℕ) (w : RunState) (v : ℕ) (outcome : FlushOutcome) (response : Response) (at : Option Flushing) → StateFits top w → StateFits top (state_after_ending w v outcome response at)
ending-fits top w v outcome response None fits = fits
ending-fits top w v outcome response (Some f) fits = record { stamps_are = fits.stamps_are; epochs_are = fits.epochs_are; flights = fits.flights; flushes = flushes-air_without v w.flushes fits.flushes; slicing = tt; open_fit = map-fits w.connection f.connection _ fits.open_fit; publishing_is = fits.publishing_is }

ask-fits : (top : ℕ) (w : RunState) (n c : ℕ) (key : Option PageKey) (at : Option Request) → StateFits top w → stamps_drawn w.log < 9223372036854775808 → n ≤ 9223372036854775808 → c < 4294967296 → StateFits top (state_after_ask w n c key at)
ask-fits top w n c key None fits room most small = fits
ask-fits top w n c key (Some request) fits room most small = record { stamps_are = omega (arith, room); epochs_are = fits.epochs_are; flights = all-push w.flights _ fits.flights (record { number = most; connection = small }); flushes = fits.flushes; slicing = fits.slicing; open_fit = map-fits w.connection c _ fits.open_fit; publishing_is = fits.publishing_is }

hit-fits : (top : ℕ) (w : RunState) (c : ℕ) (key : PageKey) (at : Option Request) → StateFits top w → StateFits top (state_after_hit w c key at)
hit-fits top w c key None fits = fits
hit-fits top w c key (Some request) fits = record { stamps_are = fits.stamps_are; epochs_are = fits.epochs_are; flights = fits.flights; flushes = fits.flushes; slicing = fits.slicing; open_fit = map-fits w.connection c _ fits.open_fit; publishing_is = fits.publishing_is }

flush-fits : (top : ℕ) (w : RunState) (v c : ℕ) (inv : Invalidation) (at : Option Request) → StateFits top w → stamps_drawn w.log < 9223372036854775808 → v ≤ 9223372036854775808 → c < 4294967296 → StateFits top (state_after_flush w v c inv at)
flush-fits top w v c inv None fits room most small = fits
flush-fits top w v c inv (Some request) fits room most small = record { stamps_are = omega (arith, room); epochs_are = fits.epochs_are; flights = fits.flights; flushes = flushes-push w.flushes _ fits.flushes (record { number = most; connection = small }); slicing = first-sliced w.flushes v most; open_fit = map-fits w.connection c _ fits.open_fit; publishing_is = fits.publishing_is }

on-fits : (top : ℕ) (w : RunState) (c : ℕ) (change : Connection → Connection) → StateFits top w → StateFits top (on_connection w c change)
on-fits top w c change fits = record { stamps_are = fits.stamps_are; epochs_are = fits.epochs_are; flights = fits.flights; flushes = fits.flushes; slicing = fits.slicing; open_fit = map-fits w.connection c change fits.open_fit; publishing_is = fits.publishing_is }

-- ---- a note, and the state after it
pub record NoteFits (top : ℕ) (w : RunState) (note : Note) : Type 0 where
  pub numbers : NumbersFit note
  pub state : StateFits top (state_after_note w note)

pub record NotesFit (top : ℕ) (w : RunState) (notes : List Note) : Type 0 where
  pub numbers : AllNumbersFit notes
  pub state : StateFits top (state_after_notes w notes)

local-fits : (top : ℕ) (w : RunState) (c status : ℕ) → StateFits top w → c < 4294967296 → status < 65536 → NoteFits top w (Local c status)
local-fits top w c status fits small short = record { numbers = (small, short); state = on-fits top w c _ fits }

lost-fits : (top : ℕ) (w : RunState) (n : ℕ) → StateFits top w → n ≤ 9223372036854775808 → NoteFits top w (Lost n)
lost-fits top w n fits most = record { numbers = omega (arith, most); state = over-fits top w n _ _ (flying_at n w.flights) fits (record { stamps = refl; none = refl }) }

failed-fits : (top : ℕ) (w : RunState) (v : ℕ) (failure : Failure) → StateFits top w → v ≤ 9223372036854775808 → NoteFits top w (Failed v failure)
failed-fits top w v failure fits most = record { numbers = omega (arith, most); state = ending-fits top w v _ _ (flush_at v w.flushes) fits }

shut-fits : (top : ℕ) (w : RunState) (c : ℕ) → StateFits top w → c < 4294967296 → NoteFits top w (Shut c)
shut-fits top w c fits small = record { numbers = small; state = record { stamps_are = fits.stamps_are; epochs_are = fits.epochs_are; flights = fits.flights; flushes = fits.flushes; slicing = fits.slicing; open_fit = none-fits w.connection c fits.open_fit; publishing_is = fits.publishing_is } }

slice-fits : (top : ℕ) (m : Conditions) (w : RunState) (v : ℕ) (note : Note) → StateFits top w → v ≤ 9223372036854775808 → GivesSlice m v note → NoteFits top w note
slice-fits top m w v note fits most (inl done) = rw done (record { numbers = omega (arith, most); state = ending-fits top w v _ _ (flush_at v w.flushes) fits })
slice-fits top m w v note fits most (inr (inl sliced)) = rw sliced (record { numbers = tt; state = record { stamps_are = fits.stamps_are; epochs_are = fits.epochs_are; flights = fits.flights; flushes = fits.flushes; slicing = tt; open_fit = fits.open_fit; publishing_is = fits.publishing_is } })
slice-fits top m w v note fits most (inr (inr (inl disk))) = rw disk.0 (failed-fits top w v Disk fits most)
slice-fits top m w v note fits most (inr (inr (inr memory))) = rw memory.0 (failed-fits top w v NoMemory fits most)

-- ---- a request
fault-short : (f : InFault) → fault_status f < 65536
fault-short fault.BadHead = omega arith
fault-short fault.ManyHeaders = omega arith
fault-short fault.BadTarget = omega arith
fault-short fault.NoLength = omega arith
fault-short fault.BadLength = omega arith
fault-short fault.LongBody = omega arith
fault-short fault.LongHead = omega arith
fault-short fault.NoMemory = omega arith

or-none : (a b : Bool) → ((a || b) ≡ true → ⊥) → b ≡ false
or-none true b never = absurd (never refl)
or-none false true never = absurd (never refl)
or-none false false never = refl

begins-fits : (top : ℕ) (w : RunState) (c : ℕ) (full : Bool) (inv : Invalidation) (note : Note) → is_full_of_flushes w ≡ full → StateFits top w → c < 4294967296 → BeginsFlush full w c inv note → NoteFits top w note
begins-fits top w c true inv note full fits small gives = rw gives (local-fits top w c 503 fits small (omega arith))
begins-fits top w c false inv note full fits small gives =
    let room : nat_le 9223372036854775808 (stamps_drawn w.log) ≡ false = or-none (nat_le 256 (length w.flushes)) _ (both_ways _ full) in
    let drawn : stamps_drawn w.log < 9223372036854775808 = grind (arith, room) in
    let most : flushes_begun w.log + 1 ≤ 9223372036854775808 = omega (arith, drawn) in
    rw gives (record { numbers = omega (arith, most); state = flush-fits top w (flushes_begun w.log + 1) c inv (treated_request (due_of_connection w c)) fits drawn most small })

flushes-fit : (top : ℕ) (w : RunState) (c : ℕ) (read : Result Invalidation _) (note : Note) → StateFits top w → c < 4294967296 → AnswersFlush w c read note → NoteFits top w note
flushes-fit top w c (Err fault) note fits small gives = rw gives (local-fits top w c 400 fits small (omega arith))
flushes-fit top w c (Ok inv) note fits small gives = begins-fits top w c (is_full_of_flushes w) inv note refl fits small gives

invalidation-fits : (top : ℕ) (w : RunState) (c : ℕ) (request : Request) (may : Bool) (note : Note) → StateFits top w → c < 4294967296 → AnswersInvalidation may w c request note → NoteFits top w note
invalidation-fits top w c request false note fits small gives = rw gives (local-fits top w c 403 fits small (omega arith))
invalidation-fits top w c request true note fits small gives = flushes-fit top w c _ note fits small gives

first-fits : (top : ℕ) (m : Conditions) (w : RunState) (c : ℕ) (request : Request) (note : Note) → StateFits top w → c < 4294967296 → IsFirstPoint m w c request note points → NoteFits top w note
first-fits top m w c request note fits small (inl crowded) = rw crowded.1 (local-fits top w c 503 fits small (omega arith))
first-fits top m w c request note fits small (inr (_, inl fallen)) = rw fallen.1 (local-fits top w c 503 fits small (omega arith))
first-fits top m w c request note fits small (inr (_, inr (_, inl inv))) = invalidation-fits top w c request _ note fits small inv.1
first-fits top m w c request note fits small (inr (_, inr (_, inr (_, inl hidden)))) = rw hidden.1 (local-fits top w c 404 fits small (omega arith))
first-fits top m w c request note fits small (inr (_, inr (_, inr (_, inr (_, inl held))))) =
    rw held.1.2 (record { numbers = small; state = hit-fits top w c held.1.0 (treated_request (due_of_connection w c)) fits })
first-fits top m w c request note fits small (inr (_, inr (_, inr (_, inr (_, inr (_, inl full)))))) = rw full.1 (local-fits top w c 503 fits small (omega arith))
first-fits top m w c request note fits small (inr (_, inr (_, inr (_, inr (_, inr (_, inr (free, inl ask))))))) =
    let room : nat_le 9223372036854775808 (stamps_drawn w.log) ≡ false = or-none (nat_le 256 (length w.flights)) _ free in
    let drawn : stamps_drawn w.log < 9223372036854775808 = grind (arith, room) in
    let most : flights_asked w.log + 1 ≤ 9223372036854775808 = omega (arith, drawn) in
    rw ask.1 (record { numbers = (omega (arith, most), small); state = ask-fits top w (flights_asked w.log + 1) c _ (treated_request (due_of_connection w c)) fits drawn most small })
first-fits top m w c request note fits small (inr (_, inr (_, inr (_, inr (_, inr (_, inr (_, inr (never, _)))))))) = absurd never

gives-fits : (top : ℕ) (m : Conditions) (w : RunState) (c : ℕ) (owed : Due) (note : Note) → StateFits top w → c < 4294967296 → GivesDue m w c owed note → NoteFits top w note
gives-fits top m w c (Send slot) note fits small gives = rw gives.1 (record { numbers = small; state = on-fits top w c _ fits })
gives-fits top m w c (Treat Continue) note fits small gives = absurd gives
gives-fits top m w c (Treat (Whole request)) note fits small (inl first) = first-fits top m w c request note fits small first
gives-fits top m w c (Treat (Whole request)) note fits small (inr out_of_memory) = rw out_of_memory.1 (local-fits top w c 507 fits small (omega arith))
gives-fits top m w c (Refuse f) note fits small gives = rw gives (local-fits top w c (fault_status f) fits small (fault-short f))
gives-fits top m w c Close note fits small gives = rw gives (shut-fits top w c fits small)
gives-fits top m w c Nothing note fits small gives = absurd gives

next-fits : (top : ℕ) (m : Conditions) (w : RunState) (c : ℕ) (slicing : Option ℕ) (note : Note) → SlicingFits slicing → StateFits top w → c < 4294967296 → GivesNext m w c slicing note → NoteFits top w note
next-fits top m w c None note slices fits small gives = gives-fits top m w c (due_of_connection w c) note fits small gives
next-fits top m w c (Some v) note slices fits small gives = slice-fits top m w v note fits slices gives

serves-fit : (top : ℕ) (m : Conditions) (w : RunState) (c : ℕ) (notes : List Note) → StateFits top w → c < 4294967296 → Serves m w c notes → NotesFit top w notes
serves-fit top m w c [] fits small serves = record { numbers = tt; state = fits }
serves-fit top m w c (note ∷ notes) fits small serves =
    let one = next-fits top m w c w.slicing note fits.slicing fits small serves.0 in
    let rest = serves-fit top m (state_after_note w note) c notes one.state small serves.1 in
    record { numbers = (one.numbers, rest.numbers); state = rest.state }

idle-fits : (top : ℕ) (w : RunState) (notes : List Note) → StateFits top w → notes ≡ Idle ∷ [] → NotesFit top w notes
idle-fits top w notes fits is = rw is (record { numbers = (tt, tt); state = fits })

leads-fit : (top : ℕ) (w : RunState) (m : Conditions) (first : Note) (c : ℕ) (notes : List Note) → NoteFits top w first → c < 4294967296 → LeadsNotes w m first c notes → NotesFit top w notes
leads-fit top w m first c notes one small leads =
    let rest = serves-fit top m (state_after_note w first) c leads.rest one.state small leads.settles.serves in
    rw leads.begins (record { numbers = (one.numbers, rest.numbers); state = rest.state })

-- ---- a restart
both-notes : (top : ℕ) (w : RunState) (a b : List Note) → NotesFit top w a → NotesFit top (state_after_notes w a) b → NotesFit top w (a ++ b)
both-notes top w [] b first second = second
both-notes top w (note ∷ a) b first second =
    let rest = both-notes top (state_after_note w note) a b (record { numbers = first.numbers.1; state = first.state }) second in
    record { numbers = (first.numbers.0, rest.numbers); state = rest.state }

losses-fit : (top : ℕ) (w : RunState) (flights : List Flying) → AllFit flights → StateFits top w → NotesFit top w (map (λ (f : Flying). Lost f.number) flights)
losses-fit top w [] all fits = record { numbers = tt; state = fits }
losses-fit top w (f ∷ flights) all fits =
    let one = lost-fits top w f.number fits all.0.number in
    let rest = losses-fit top (state_after_note w (Lost f.number)) flights all.1 one.state in
    record { numbers = (one.numbers, rest.numbers); state = rest.state }

failures-fit : (top : ℕ) (w : RunState) (flushes : List Flushing) → FlushesFit flushes → StateFits top w → NotesFit top w (map (λ (f : Flushing). Failed f.number cut_off) flushes)
failures-fit top w [] all fits = record { numbers = tt; state = fits }
failures-fit top w (f ∷ flushes) all fits =
    let one = failed-fits top w f.number cut_off fits all.0.number in
    let rest = failures-fit top (state_after_note w (Failed f.number cut_off)) flushes all.1 one.state in
    record { numbers = (one.numbers, rest.numbers); state = rest.state }

abbrev NumbersAreShort : List ℕ → Type 0
NumbersAreShort [] = Unit {0}
NumbersAreShort (c ∷ numbers) = (c < 4294967296) × NumbersAreShort numbers

shuts-fit : (top : ℕ) (w : RunState) (numbers : List ℕ) → NumbersAreShort numbers → StateFits top w → NotesFit top w (map (λ (c : ℕ). Shut c) numbers)
shuts-fit top w [] all fits = record { numbers = tt; state = fits }
shuts-fit top w (c ∷ numbers) all fits =
    let one = shut-fits top w c fits all.0 in
    let rest = shuts-fit top (state_after_note w (Shut c)) numbers all.1 one.state in
    record { numbers = (one.numbers, rest.numbers); state = rest.state }

-- the numbers of open connections
each-short : (numbers : List ℕ) → ((c : ℕ) → is_among c numbers ≡ true → c < 4294967296) → NumbersAreShort numbers
each-short [] all = tt
each-short (c ∷ numbers) all = (all c (or_left (nat_eq c c) (is_among c numbers) (eq-eqb c c refl)), each-short numbers (λ d there. all d (or_right (nat_eq c d) (is_among d numbers) there)))

open-short : (w : RunState) (numbers : List ℕ) → OpenFit w.connection → AreOpen w numbers → NumbersAreShort numbers
open-short w numbers fits open_ = each-short numbers (λ c there. fits c (open_.each c ∙ there))

cut-fit : (top : ℕ) (w : RunState) (numbers : List ℕ) → StateFits top w → AreOpen w numbers → NotesFit top (without_connections w) (cut_notes w numbers)
cut-fit top w numbers fits open_ =
    let cleared : StateFits top (without_connections w) = record { stamps_are = fits.stamps_are; epochs_are = fits.epochs_are; flights = fits.flights; flushes = fits.flushes; slicing = fits.slicing; open_fit = λ c there. absurd (let never : ⊥ = cc in never); publishing_is = fits.publishing_is } in
    let losses = losses-fit top (without_connections w) w.flights fits.flights cleared in
    let failures = failures-fit top _ w.flushes fits.flushes losses.state in
    let shuts = shuts-fit top _ numbers (open-short w numbers fits.open_fit open_) failures.state in
    both-notes top (without_connections w) _ _ losses (both-notes top _ _ _ failures shuts)

ends-fit : (top : ℕ) (w : RunState) (m : Conditions) (note : Note) → top + 1 < 18446744073709551616 → StateFits top w → EndsRestart w m note → NoteFits (top + 1) w note
ends-fit top w m note room fits (inl up) =
    let most : up.0 ≤ top + 1 = omega (arith, up.2.4, fits.epochs_are) in
    rw up.1 (record {
      numbers = omega (arith, most, room);
      state = record { stamps_are = fits.stamps_are; epochs_are = omega (arith, most); flights = fits.flights; flushes = fits.flushes; slicing = fits.slicing; open_fit = fits.open_fit; publishing_is = fits.publishing_is };
    })
ends-fit top w m note room fits (inr down) =
    rw down.0 (record {
      numbers = tt;
      state = record { stamps_are = fits.stamps_are; epochs_are = omega (arith, fits.epochs_are); flights = fits.flights; flushes = fits.flushes; slicing = fits.slicing; open_fit = fits.open_fit; publishing_is = fits.publishing_is };
    })

highers : (top : ℕ) (w : RunState) (notes : List Note) → NotesFit top w notes → NotesFit (top + 1) w notes
highers top w notes fit = record { numbers = fit.numbers; state = higher top (state_after_notes w notes) fit.state }

restart-fits : (top : ℕ) (w : RunState) (m : Conditions) (notes : List Note) → top + 1 < 18446744073709551616 → StateFits top w → Restarts w m notes → NotesFit (top + 1) (without_connections w) notes
restart-fits top w m notes room fits restarts =
    let cut = cut-fit top w restarts.connections fits restarts.are_open in
    let last = ends-fit top _ m restarts.last room cut.state restarts.ends in
    rw restarts.notes_are (both-notes (top + 1) (without_connections w) (cut_notes w restarts.connections) (restarts.last ∷ []) (highers top (without_connections w) (cut_notes w restarts.connections) cut) (record { numbers = (last.numbers, tt); state = last.state }))

-- ---- events
-- the step names a connection that fits, if it names one
abbrev pub StepFits : Step → Type 0
StepFits (step.Opened c peer) = c < 4294967296
StepFits (step.Piece c bytes) = c < 4294967296
StepFits (step.Gone c) = c < 4294967296
StepFits _ = Unit {0}

abbrev pub StepsFit : List Step → Type 0
StepsFit [] = Unit {0}
StepsFit (s ∷ steps) = StepFits s × StepsFit steps

opened-fits : (top : ℕ) (w : RunState) (c : ℕ) (peer : List ℕ) (notes : List Note) (at : Option Connection) → StateFits top w → c < 4294967296 → notes ≡ opening c w.connection_count at → NotesFit top (state_after_opening w c peer at) notes
opened-fits top w c peer notes (Some k) fits small is = idle-fits top w notes fits is
opened-fits top w c peer notes None fits small is = by_test (nat_le most_connections w.connection_count) is
  where
    by_test : (full : Bool) → notes ≡ (if full then Refused c ∷ [] else []) → NotesFit top (if full then w else record w { connection = update nat_eq w.connection c (Some (fresh peer)); connection_count = w.connection_count + 1 }) notes
    by_test true is = rw is (record { numbers = (small, tt); state = fits })
    by_test false is = rw is (record { numbers = tt; state = record { stamps_are = fits.stamps_are; epochs_are = fits.epochs_are; flights = fits.flights; flushes = fits.flushes; slicing = fits.slicing; open_fit = update-fits w.connection c (Some (fresh peer)) fits.open_fit (λ there. small); publishing_is = fits.publishing_is } })

gone-fits : (top : ℕ) (w : RunState) (c : ℕ) (notes : List Note) (at : Option Connection) → StateFits top w → notes ≡ going at → NotesFit top (state_after_going w c at) notes
gone-fits top w c notes None fits is = idle-fits top w notes fits is
gone-fits top w c notes (Some k) fits is = rw is (record { numbers = tt; state = record { stamps_are = fits.stamps_are; epochs_are = fits.epochs_are; flights = fits.flights; flushes = fits.flushes; slicing = fits.slicing; open_fit = none-fits w.connection c fits.open_fit; publishing_is = fits.publishing_is } })

piece-fits : (top : ℕ) (w : RunState) (e : Event) (c : ℕ) (bytes : List ℕ) (at : Option Connection) → StateFits top w → c < 4294967296 → PieceTo w e c bytes at → NotesFit top (on_connection w c (with_piece bytes e.turns e.ends)) e.body
piece-fits top w e c bytes None fits small is = idle-fits top _ e.body (on-fits top w c _ fits) is
piece-fits top w e c bytes (Some k) fits small feeds = serves-fit top e.conditions _ c e.body (on-fits top w c _ fits) small feeds.settles.serves

landing-fits : (top : ℕ) (w : RunState) (m : Conditions) (f : Flying) (answer : Answer) (note : Note) → Fits f → StateFits top w → MayLand w m f answer note → NoteFits top w note
landing-fits top w m f answer note here fits (inl kept) = rw kept.2 (record { numbers = omega (arith, here.number); state = over-fits top w f.number _ _ (flying_at f.number w.flights) fits (record { stamps = refl; none = refl }) })
landing-fits top w m f answer note here fits (inr (inl unkept)) = rw unkept.0 (record { numbers = omega (arith, here.number); state = over-fits top w f.number _ _ (flying_at f.number w.flights) fits (record { stamps = refl; none = refl }) })
landing-fits top w m f answer note here fits (inr (inr passed)) = rw passed.0 (record { numbers = omega (arith, here.number); state = over-fits top w f.number _ _ (flying_at f.number w.flights) fits (record { stamps = refl; none = refl }) })

deliver-fits : (top : ℕ) (w : RunState) (e : Event) (f : Flying) (answer : Option Answer) → StateFits top w → Fits f → DeliverAs w e f answer → NotesFit top w e.body
deliver-fits top w e f None fits here is = idle-fits top w e.body fits is
deliver-fits top w e f (Some answer) fits here lands = leads-fit top w e.conditions lands.0 f.connection e.body (landing-fits top w e.conditions f answer lands.0 here fits lands.1) here.connection lands.2

delivers-fit : (top : ℕ) (w : RunState) (e : Event) (flying : Option Flying) → StateFits top w → ((f : Flying) → flying ≡ Some f → Fits f) → DeliverTo w e flying → NotesFit top w e.body
delivers-fit top w e None fits each is = idle-fits top w e.body fits is
delivers-fit top w e (Some f) fits each to = deliver-fits top w e f f.rendered fits (each f refl) to

loses-fit : (top : ℕ) (w : RunState) (e : Event) (flying : Option Flying) → StateFits top w → ((f : Flying) → flying ≡ Some f → Fits f) → LoseTo w e flying → NotesFit top w e.body
loses-fit top w e None fits each is = idle-fits top w e.body fits is
loses-fit top w e (Some f) fits each to =
    let here = each f refl in
    leads-fit top w e.conditions (Lost f.number) f.connection e.body (lost-fits top w f.number fits here.number) here.connection to

purges-fit : (top : ℕ) (w : RunState) (e : Event) (flushes : List Flushing) → FlushesFit flushes → StateFits top w → PurgeTo w e flushes → NotesFit top w e.body
purges-fit top w e [] all fits is = idle-fits top w e.body fits is
purges-fit top w e (flush ∷ flushes) all fits to = leads-fit top w e.conditions to.0 flush.connection e.body (slice-fits top e.conditions w flush.number to.0 fits all.0.number to.1) all.0.connection to.2

picked-fits : (pick : Pick) (can : Flying → Bool) (flights : List Flying) → AllFit flights → (f : Flying) → picked_flight pick can flights ≡ Some f → Fits f
picked-fits pick can flights all f found = found-fits (λ flying. is_picked pick flying && can flying) flights f all found

module _ (short : (tree : Content) (ask : Ask) → (answer_to_request tree ask).status < 1000) (error : (status : ℕ) → (error_answer status).status ≡ status) where
  answer_short : (farm : Farm) (content : Content) (target : Option Target) → (answer_to sling_publisher farm content target).status < 65536
  answer_short farm content (Some target) = omega (arith, short content (get_of farm target))
  answer_short farm content None = omega (arith, error 400)

  or_fixed_short : (m : Conditions) (answer wanted : Answer) → wanted.status < 65536 → IsOrFixed m answer wanted → answer.status < 65536
  or_fixed_short m answer wanted small (inl is) = subst (λ (a : Answer). a.status < 65536) (sym is.0) small
  or_fixed_short m answer wanted small (inr fixed) = subst (λ (a : Answer). a.status < 65536) (sym fixed.0) (omega arith)

  render_fits : (top : ℕ) (w : RunState) (e : Event) (flying : Option Flying) → StateFits top w → ((f : Flying) → flying ≡ Some f → Fits f) → RenderTo w e flying → NotesFit top w e.body
  render_fits top w e None fits each is = idle-fits top w e.body fits is
  render_fits top w e (Some f) fits each to =
      let here = each f refl in
      let wanted : (w.publishing w.content (publisher_ask w.farm f.request)).answer.status < 65536 = rw fits.publishing_is (omega (arith, short w.content (publisher_ask w.farm f.request))) in
      rw to.2 (record {
        numbers = ((omega (arith, here.number), or_fixed_short e.conditions to.0 _ wanted to.1), tt);
        state = record { stamps_are = fits.stamps_are; epochs_are = fits.epochs_are; flights = all-rendered f.number to.0 w.flights fits.flights; flushes = fits.flushes; slicing = fits.slicing; open_fit = fits.open_fit; publishing_is = fits.publishing_is };
      })

  by_step : (top : ℕ) (w : RunState) (e : Event) (s : Step) → top + 1 < 18446744073709551616 → StateFits top w → StepFits s → HappensBy w e s → NotesFit (top + 1) (state_before_notes w e s) e.body
  by_step top w e (step.Opened c peer) room fits small is = highers top _ e.body (opened-fits top w c peer e.body (w.connection c) fits small is)
  by_step top w e (step.Piece c bytes) room fits small to = highers top _ e.body (piece-fits top w e c bytes (w.connection c) fits small to)
  by_step top w e (step.Gone c) room fits small is = highers top _ e.body (gone-fits top w c e.body (w.connection c) fits is)
  by_step top w e (step.Direct target) room fits small to =
      let wanted : (direct_answer w.publishing w.farm w.content target).status < 65536 = rw fits.publishing_is (answer_short w.farm w.content (target_of target)) in
      rw to.2 (record { numbers = (or_fixed_short e.conditions to.0 _ wanted to.1, tt); state = higher top w fits })
  by_step top w e (step.Render pick) room fits small to = highers top w e.body (render_fits top w e (picked_flight pick is_unrendered w.flights) fits (picked-fits pick is_unrendered w.flights fits.flights) to)
  by_step top w e (step.Deliver pick) room fits small to = highers top w e.body (delivers-fit top w e (picked_flight pick is_rendered w.flights) fits (picked-fits pick is_rendered w.flights fits.flights) to)
  by_step top w e (step.Lose pick) room fits small to = highers top w e.body (loses-fit top w e (picked_flight pick is_any w.flights) fits (picked-fits pick is_any w.flights fits.flights) to)
  by_step top w e step.Purge room fits small to = highers top w e.body (purges-fit top w e w.flushes fits.flushes fits to)
  by_step top w e step.Restart room fits small to = restart-fits top w e.conditions e.body room fits to

  pub run_fits : (top : ℕ) (w : RunState) (events : List Event) → top + length events < 18446744073709551616 → StateFits top w → StepsFit (map (λ (e : Event). e.step) events) → Run w events → EventsFit (map notes_of events)
  run_fits top w [] room fits steps run = tt
  run_fits top w (e ∷ events) room fits steps run =
      let one = by_step top w e e.step (omega (arith, room)) fits steps.0 run.0.0 in
      (both-fit e.body (condition_notes e.conditions) one.numbers (conditions-fit e.conditions), run_fits (top + 1) (after_event w e) events (omega (arith, room)) one.state steps.1 run.1)
