-- The log of the cache in every run.
use Rattle.std.proofs.Common.{◌≡◌, ℕ, ◌+◌, ◌++◌, Bool, true, false, List, [], ◌∷◌, Option, Some, None, refl, sym, subst, ap, ◌∙◌, arith, inl, inr, ⊎_elim, append_assoc}
use Rattle.std.specs.Prelude.{◌↔◌, if◌then◌else◌, nat_eq, nat_le}
use Rattle.std.specs.Map.{update}
use Rattle.std.specs.List.{Contains}
use Rattle.sp_base.specs.declared.answer.Answer.{Answer}
use Rattle.sp_base.specs.Requests.{Request}
use Rattle.sp_base.proofs.ListLemmas.{contains_first}
use Rattle.any_config.specs.declared.farm.Farm.{Farm}
use Rattle.cover_rules.specs.declared.page.PageKey.{PageKey}
use Rattle.cover_rules.specs.declared.invalidation.Invalidation.{Invalidation}
use Rattle.cache_log.specs.Entries.{Fate, Kept as kept_fate, Unkept as unkept_fate, Passed as passed_fate, FlushOutcome, Done as done_outcome, LogEntry, Asked, Landed, Begun, Ended, Hit as hit_entry, Session}
use Rattle.cache_log.specs.Flown.{IsLanding, IsPermittedBy, IsPermittedHit, IsUnfinishedFlush, since_asking}
use Rattle.cache_log.specs.Hits.{Covers, IsClear, MayHit}
use Rattle.cache_log.specs.Rules.{Allowed, CallConditions, IsIdle, IsLegal, KeepsBound}
use Rattle.cache_log.proofs.LegalLemmas.{legal-place}
use Rattle.cache_log.proofs.PlaceLemmas.{rest-within}
use Rattle.connections.specs.Connections.{Connection, fresh}
use Rattle.connections.specs.Slots.{Response}
use Rattle.run_events.specs.declared.flying.Flying.{Flying}
use Rattle.run_events.specs.declared.flying.Flushing.{Flushing}
use Rattle.run_events.specs.declared.note.Note.{Note}
use Rattle.run_events.specs.declared.note.Note.TheVariants.{Ask as asked, Hit, Local, Flush, Sliced, Done, Failed, Rendered, Kept, Unkept, Passed, Lost, Sent, Shut, Up, Down}
use Rattle.run_events.specs.declared.step.Step.{Step}
use Rattle.run_events.specs.declared.step.Step.TheVariants as step
use Rattle.run_events.specs.States.{RunState, Start, start_of}
use Rattle.run_events.specs.Moves.{due_of_connection, flying_at, flush_at, over_with, state_after_ask, state_after_ending, state_after_flush, state_after_hit, state_after_note, state_after_notes, treated_request}
use Rattle.run_events.specs.Events.{Event, Run, after_event, most_connections, state_after_events, state_after_going, state_after_opening, state_before_notes}
use Rattle.run_laws.specs.Logs.{HitsAreFresh, IsBeginning, RepliesInFlightAreNotStored, log_after}
use Rattle.run_laws.proofs.SoundLemmas.{sound-begins}
use Rattle.run_laws.proofs.ComesLemmas.{IsSound}
use Rattle.run_laws.proofs.SoundEventLemmas.{run-sound}

-- ---- the farm stays, and what was found
pub record SameFarm (w v : RunState) : Type 0 where
  pub farm : v.farm ≡ w.farm
  pub found : v.found ≡ w.found

same : (w : RunState) → SameFarm w w
same w = record { farm = refl; found = refl }

chain : (u v w : RunState) → SameFarm u v → SameFarm v w → SameFarm u w
chain u v w f g = record { farm = g.farm ∙ f.farm; found = g.found ∙ f.found }

asked-farm : (w : RunState) (n c : ℕ) (key : Option PageKey) (request : Option Request) → SameFarm w (state_after_ask w n c key request)
asked-farm w n c key None = same w
asked-farm w n c key (Some request) = record { farm = refl; found = refl }

hit-farm : (w : RunState) (c : ℕ) (key : PageKey) (request : Option Request) → SameFarm w (state_after_hit w c key request)
hit-farm w c key None = same w
hit-farm w c key (Some request) = record { farm = refl; found = refl }

flush-farm : (w : RunState) (v c : ℕ) (inv : Invalidation) (request : Option Request) → SameFarm w (state_after_flush w v c inv request)
flush-farm w v c inv None = same w
flush-farm w v c inv (Some request) = record { farm = refl; found = refl }

ending-farm : (w : RunState) (v : ℕ) (outcome : FlushOutcome) (response : Response) (flush : Option Flushing) → SameFarm w (state_after_ending w v outcome response flush)
ending-farm w v outcome response None = same w
ending-farm w v outcome response (Some f) = record { farm = refl; found = refl }

over-farm : (w : RunState) (n : ℕ) (answer : Answer) (entry : LogEntry) (flying : Option Flying) → SameFarm w (over_with w n answer entry flying)
over-farm w n answer entry None = same w
over-farm w n answer entry (Some f) = record { farm = refl; found = refl }

pub note-farm : (w : RunState) (note : Note) → SameFarm w (state_after_note w note)
note-farm w (asked n c key) = asked-farm w n c key (treated_request (due_of_connection w c))
note-farm w (Hit c key) = hit-farm w c key (treated_request (due_of_connection w c))
note-farm w (Local c status) = record { farm = refl; found = refl }
note-farm w (Flush v c inv) = flush-farm w v c inv (treated_request (due_of_connection w c))
note-farm w (Sliced v) = record { farm = refl; found = refl }
note-farm w (Done v) = ending-farm w v _ _ (flush_at v w.flushes)
note-farm w (Failed v failure) = ending-farm w v _ _ (flush_at v w.flushes)
note-farm w (Rendered n answer) = record { farm = refl; found = refl }
note-farm w (Kept n key) = over-farm w n _ _ (flying_at n w.flights)
note-farm w (Unkept n) = over-farm w n _ _ (flying_at n w.flights)
note-farm w (Passed n) = over-farm w n _ _ (flying_at n w.flights)
note-farm w (Lost n) = over-farm w n _ _ (flying_at n w.flights)
note-farm w (Sent c bytes) = record { farm = refl; found = refl }
note-farm w (Shut c) = record { farm = refl; found = refl }
note-farm w (Up epoch) = record { farm = refl; found = refl }
note-farm w Down = record { farm = refl; found = refl }
note-farm w note = same w

pub notes-farm : (w : RunState) (notes : List Note) → SameFarm w (state_after_notes w notes)
notes-farm w [] = same w
notes-farm w (note ∷ notes) = chain w (state_after_note w note) (state_after_notes (state_after_note w note) notes) (note-farm w note) (notes-farm (state_after_note w note) notes)

opened-farm : (w : RunState) (c : ℕ) (peer : List ℕ) (at : Option Connection) → SameFarm w (state_after_opening w c peer at)
opened-farm w c peer (Some k) = same w
opened-farm w c peer None = by_room (nat_le most_connections w.connection_count)
  where
    by_room : (full : Bool) → SameFarm w (if full then w else record w { connection = update nat_eq w.connection c (Some (fresh peer)); connection_count = w.connection_count + 1 })
    by_room true = same w
    by_room false = record { farm = refl; found = refl }

gone-farm : (w : RunState) (c : ℕ) (at : Option Connection) → SameFarm w (state_after_going w c at)
gone-farm w c None = same w
gone-farm w c (Some k) = record { farm = refl; found = refl }

pub begun-farm : (w : RunState) (e : Event) (s : Step) → SameFarm w (state_before_notes w e s)
begun-farm w e (step.Opened c peer) = opened-farm w c peer (w.connection c)
begun-farm w e (step.Piece c bytes) = record { farm = refl; found = refl }
begun-farm w e (step.Gone c) = gone-farm w c (w.connection c)
begun-farm w e step.Restart = record { farm = refl; found = refl }
begun-farm w e s = same w

pub event-farm : (w : RunState) (e : Event) → SameFarm w (after_event w e)
event-farm w e = chain w (state_before_notes w e e.step) (after_event w e) (begun-farm w e e.step) (notes-farm (state_before_notes w e e.step) e.body)

pub run-farm : (w : RunState) (events : List Event) → SameFarm w (state_after_events w events)
run-farm w [] = same w
run-farm w (e ∷ events) = chain w (after_event w e) (state_after_events (after_event w e) events) (event-farm w e) (run-farm (after_event w e) events)

-- ---- the log is legal
session-idle : (farm : Farm) (epoch : ℕ) (earlier : List LogEntry) → IsLegal farm (Session epoch ∷ earlier) → IsIdle (Session epoch ∷ earlier)
session-idle farm epoch earlier legal = legal.0.1.0

pub start-sound : (s : Start) → IsBeginning s → IsSound (start_of s)
start-sound s begins =
    let idle : IsIdle s.log = subst IsIdle (sym begins.log_is) (session-idle s.farm begins.epoch begins.earlier (subst (IsLegal s.farm) begins.log_is begins.legal)) in
    sound-begins s.farm s.log begins.legal idle

pub log-legal : (s : Start) (events : List Event) → IsBeginning s → Run (start_of s) events → IsLegal s.farm (log_after s events)
log-legal s events begins run = subst (λ farm. IsLegal farm (log_after s events)) (run-farm (start_of s) events).farm (run-sound (start_of s) events (start-sound s begins) run).legal

-- ---- its slices are few
run-bound : (w : RunState) (events : List Event) → KeepsBound w.farm w.found w.log → Run w events → KeepsBound w.farm w.found (state_after_events w events).log
run-bound w [] keeps run = keeps
run-bound w (e ∷ events) keeps run =
    let v = after_event w e in
    let still = event-farm w e in
    let now : KeepsBound v.farm v.found v.log = subst (λ n. KeepsBound v.farm n v.log) (sym still.found) (subst (λ farm. KeepsBound farm w.found v.log) (sym still.farm) run.0.2) in
    let rest : KeepsBound v.farm v.found (state_after_events v events).log = run-bound v events now run.1 in
    subst (λ n. KeepsBound w.farm n (state_after_events v events).log) still.found (subst (λ farm. KeepsBound farm v.found (state_after_events v events).log) still.farm rest)

session-bound : (farm : Farm) (found epoch : ℕ) (earlier : List LogEntry) → KeepsBound farm found (Session epoch ∷ earlier)
session-bound farm found epoch earlier flush = omega arith

pub log-bound : (s : Start) (events : List Event) → IsBeginning s → Run (start_of s) events → KeepsBound s.farm s.found (log_after s events)
log-bound s events begins run = run-bound (start_of s) events (subst (KeepsBound s.farm s.found) (sym begins.log_is) (session-bound s.farm s.found begins.epoch begins.earlier)) run

-- ---- hits are fresh
-- a hit may be answered exactly where it is permitted
abbrev pub Permits : Type 0
Permits = (farm : Farm) (log : List LogEntry) (key : PageKey) (answer : Answer) → IsLegal farm log → MayHit farm log key answer ↔ IsPermittedHit farm log key answer

-- what permits it was asked for after each flush
abbrev pub AsksAfter : Type 0
AsksAfter = (farm : Farm) (log : List LogEntry) (key : PageKey) (fate : Fate) (answer : Answer) (hit : IsPermittedBy farm log key fate answer) (since : List LogEntry) (flush : ℕ) (inv : Invalidation) (before : List LogEntry)
    → log ≡ since ++ Ended flush done_outcome ∷ before → IsUnfinishedFlush before flush inv → Covers farm inv key → (more : List LogEntry) × (since ≡ since_asking hit.landing ++ Asked hit.landing.flight (Some key) ∷ more)

-- so its landing stands among the entries since then
landing-since : AsksAfter → (farm : Farm) (log : List LogEntry) (key : PageKey) (fate : Fate) (answer : Answer) → IsPermittedBy farm log key fate answer → (since : List LogEntry) (flush : ℕ) (inv : Invalidation) (before : List LogEntry)
    → log ≡ since ++ Ended flush done_outcome ∷ before → IsUnfinishedFlush before flush inv → Covers farm inv key → IsLanding since key fate answer
landing-since after farm log key fate answer hit since flush inv before place unfinished covers =
    let asking = after farm log key fate answer hit since flush inv before place unfinished covers in
    record {
      flight = hit.landing.flight;
      given = hit.landing.given;
      since = hit.landing.since;
      in_flight = hit.landing.in_flight;
      before = asking.0;
      place = asking.1;
      none_asked = hit.landing.none_asked;
      stored_is = hit.landing.stored_is;
    }

legal-rest : (farm : Farm) (later log : List LogEntry) → IsLegal farm (later ++ log) → IsLegal farm log
legal-rest farm [] log legal = legal
legal-rest farm (e ∷ later) log legal = legal-rest farm later log legal.1

pub hits-fresh : Permits → AsksAfter → HitsAreFresh
hits-fresh permits after s events begins run later key log is answer hit since flush inv before place unfinished covers =
    let legal : IsLegal s.farm (hit_entry key ∷ log) = legal-rest s.farm later (hit_entry key ∷ log) (subst (IsLegal s.farm) is (log-legal s events begins run)) in
    let permitted : IsPermittedHit s.farm log key answer = (permits s.farm log key answer legal.1).0 hit.0 in
    ⊎_elim
    (λ kept. inl (landing-since after s.farm log key kept_fate answer kept since flush inv before place unfinished covers))
    (λ unkept. inr (landing-since after s.farm log key unkept_fate answer unkept since flush inv before place unfinished covers))
    permitted

-- ---- replies in flight
clear-begun : (farm : Farm) (flush : ℕ) (inv : Invalidation) (before : List LogEntry) (n : ℕ) (key : PageKey) (earlier : List LogEntry) → ((other : Option PageKey) → Contains earlier (Asked n other) → ⊥) → Covers farm inv key → IsClear farm (earlier ++ Begun flush inv ∷ before) n key → ⊥
clear-begun farm flush inv before n key [] none covers clear = clear.0 covers
clear-begun farm flush inv before n key (Asked m k ∷ earlier) none covers (inl here) = none k (subst (λ x. Contains (Asked m k ∷ earlier) (Asked x k)) here.0 (contains_first (Asked m k) earlier))
clear-begun farm flush inv before n key (Asked m k ∷ earlier) none covers (inr clear) = clear-begun farm flush inv before n key earlier (λ other h. none other (rest-within (Asked m k) earlier (Asked n other) h)) covers clear.1
clear-begun farm flush inv before n key (Begun v i ∷ earlier) none covers clear = clear-begun farm flush inv before n key earlier (λ other h. none other (rest-within (Begun v i) earlier (Asked n other) h)) covers clear.1
clear-begun farm flush inv before n key (e ∷ earlier) none covers clear = clear-begun farm flush inv before n key earlier (λ other h. none other (rest-within e earlier (Asked n other) h)) covers clear

passed-only : (farm : Farm) (under : CallConditions) (log : List LogEntry) (n : ℕ) (key : PageKey) (given : Answer) (fate : Fate) → (IsClear farm log n key → ⊥) → Allowed farm under (Landed n (Some key) given fate) log → fate ≡ passed_fate
passed-only farm under log n key given kept_fate unclear allowed = absurd (unclear allowed.1.1)
passed-only farm under log n key given unkept_fate unclear allowed = absurd (unclear allowed.1.1)
passed-only farm under log n key given passed_fate unclear allowed = refl

pub replies-passed : RepliesInFlightAreNotStored
replies-passed s events begins run since flush inv before is later n key given fate earlier landed covers none =
    let place : log_after s events ≡ later ++ Landed n (Some key) given fate ∷ (earlier ++ Begun flush inv ∷ before) = is ∙ ap (λ xs. xs ++ Begun flush inv ∷ before) landed ∙ append_assoc later (Landed n (Some key) given fate ∷ earlier) (Begun flush inv ∷ before) in
    let here = legal-place s.farm later (Landed n (Some key) given fate) (earlier ++ Begun flush inv ∷ before) (subst (IsLegal s.farm) place (log-legal s events begins run)) in
    passed-only s.farm here.0.0 (earlier ++ Begun flush inv ∷ before) n key given fate (clear-begun s.farm flush inv before n key earlier none covers) here.0.1
