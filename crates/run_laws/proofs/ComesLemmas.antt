-- What is known of each note of an event, in the state in which it comes.
use Rattle.std.proofs.Common.{◌≡◌, ℕ, ◌+◌, Bool, true, false, List, [], ◌∷◌, Option, Some, None, Result, Ok, Err, IsTrue, refl, subst, ap, inl, inr}
use Rattle.std.proofs.lemmas.Bool.{true_from_ne_false}
use Rattle.sp_base.specs.declared.answer.Answer.{Answer}
use Rattle.sp_base.specs.Requests.{Request}
use Rattle.cover_rules.specs.declared.page.PageKey.{PageKey}
use Rattle.cover_rules.specs.declared.invalidation.Invalidation.{Invalidation}
use Rattle.http_front.specs.declared.turn.Turn.TheVariants.{Continue, Whole}
use Rattle.glob_rules.specs.Rules.{allows}
use Rattle.invalidation.specs.Invalidations.{invalidation_of}
use Rattle.invalidation.specs.declared.inv_fault.InvFault.{InvFault}
use Rattle.cache_log.specs.Entries.{Up as up_entry, Down as down_entry, flights_asked, flushes_begun, is_up}
use Rattle.cache_log.specs.Rules.{Allowed, HasFallenShort, IsOwed, MayStore}
use Rattle.connections.specs.Connections.{Due, Send, Treat, Refuse, Close, Nothing}
use Rattle.run_events.specs.declared.conditions.Conditions.{Conditions}
use Rattle.run_events.specs.declared.flying.Flying.{Flying}
use Rattle.run_events.specs.declared.flying.Flushing.{Flushing}
use Rattle.run_events.specs.declared.note.Failure.{Failure}
use Rattle.run_events.specs.declared.note.Failure.TheVariants.{Disk, NoMemory, Restart as cut_off}
use Rattle.run_events.specs.declared.note.Note.{Note}
use Rattle.run_events.specs.declared.note.Note.TheVariants.{Ask as asked, Hit, Flush, Sliced, Done, Failed, Kept, Unkept, Passed, Lost, Up, Down}
use Rattle.run_events.specs.States.{RunState}
use Rattle.run_events.specs.Points.{AnswersFlush, AnswersInvalidation, BeginsFlush, IsFirstPoint, IsPermitted, call_conditions, is_full_of_flushes, key_of, peer_of, points}
use Rattle.run_events.specs.Moves.{GivesDue, GivesNext, GivesSlice, due_of_connection, flying_at, state_after_note, treated_request}
use Rattle.run_laws.proofs.SoundLemmas.{IsSlicing, Sound}

-- the state of the run is sound
abbrev pub IsSound : RunState → Type 0
IsSound w = Sound w.farm w.flights w.flushes w.slicing w.log

-- the flush is the first that is unfinished
pub record IsFirstFlush (flushes : List Flushing) (v : ℕ) : Type 0 where
  pub flush : Flushing
  pub others : List Flushing
  pub is : flushes ≡ flush ∷ others
  pub number : flush.number ≡ v

-- why a flush may fail
abbrev pub MayFail : Conditions → Failure → Type 0
MayFail m Disk = IsTrue m.disk_failed
MayFail m NoMemory = IsTrue m.out_of_memory
MayFail m cut_off = Unit {0}

-- the request that is treated
pub record IsTreated (w : RunState) (c : ℕ) (request : Request) : Type 0 where
  pub is : treated_request (due_of_connection w c) ≡ Some request

pub record AskComes (m : Conditions) (w : RunState) (number c : ℕ) (key : Option PageKey) : Type 0 where
  pub request : Request
  pub treated : treated_request (due_of_connection w c) ≡ Some request
  pub up : IsTrue (is_up w.log)
  pub next : number ≡ flights_asked w.log + 1
  pub key_is : key ≡ key_of w request
  pub unowed : IsOwed w.farm w.log key → IsTrue m.disk_failed

pub record HitComes (w : RunState) (c : ℕ) (key : PageKey) : Type 0 where
  pub request : Request
  pub treated : treated_request (due_of_connection w c) ≡ Some request
  pub up : IsTrue (is_up w.log)
  pub key_is : key_of w request ≡ Some key
  pub permitted : IsPermitted w (Some key)

pub record FlushComes (w : RunState) (v c : ℕ) (inv : Invalidation) : Type 0 where
  pub request : Request
  pub treated : treated_request (due_of_connection w c) ≡ Some request
  pub up : IsTrue (is_up w.log)
  pub next : v ≡ flushes_begun w.log + 1

-- a flight that was rendered lands
pub record LandingComes (w : RunState) (n : ℕ) (May : Option PageKey → Answer → Type 0) : Type 0 where
  pub flight : Flying
  pub at : flying_at n w.flights ≡ Some flight
  pub answer : Answer
  pub rendered : flight.rendered ≡ Some answer
  pub may : May (key_of w flight.request) answer

pub record LossComes (w : RunState) (n : ℕ) : Type 0 where
  pub flight : Flying
  pub at : flying_at n w.flights ≡ Some flight

abbrev pub Comes : Conditions → RunState → Note → Type 0
Comes m w (asked number c key) = AskComes m w number c key × (w.slicing ≡ None)
Comes m w (Hit c key) = HitComes w c key
Comes m w (Flush v c inv) = FlushComes w v c inv × (w.slicing ≡ None)
Comes m w (Sliced v) = IsFirstFlush w.flushes v
Comes m w (Done v) = IsFirstFlush w.flushes v
Comes m w (Failed v failure) = IsFirstFlush w.flushes v × MayFail m failure
Comes m w (Kept n key) = LandingComes w n (λ k answer. (k ≡ Some key) × MayStore w.farm w.log n (Some key) answer)
Comes m w (Unkept n) = LandingComes w n (λ k answer. MayStore w.farm w.log n k answer × HasFallenShort (call_conditions m false))
Comes m w (Passed n) = LandingComes w n (λ k answer. MayStore w.farm w.log n k answer → ⊥)
Comes m w (Lost n) = LossComes w n
Comes m w (Up epoch) = Allowed w.farm (call_conditions m true) (up_entry epoch) w.log
Comes m w Down = Allowed w.farm (call_conditions m true) down_entry w.log
Comes m w _ = Unit {0}

-- each of these comes so, one after another
abbrev pub AllCome : Conditions → RunState → List Note → Type 0
AllCome m w [] = Unit {0}
AllCome m w (note ∷ notes) = Comes m w note × AllCome m (state_after_note w note) notes

-- ---- a request
begins-comes : (m : Conditions) (w : RunState) (c : ℕ) (request : Request) (full : Bool) (inv : Invalidation) (note : Note) → w.slicing ≡ None → treated_request (due_of_connection w c) ≡ Some request → IsTrue (is_up w.log) → BeginsFlush full w c inv note → Comes m w note
begins-comes m w c request true inv note none treated up is = rw is tt
begins-comes m w c request false inv note none treated up is = rw is (record { request = request; treated = treated; up = up; next = refl }, none)

flush-comes : (m : Conditions) (w : RunState) (c : ℕ) (request : Request) (named : Result Invalidation InvFault) (note : Note) → w.slicing ≡ None → treated_request (due_of_connection w c) ≡ Some request → IsTrue (is_up w.log) → AnswersFlush w c named note → Comes m w note
flush-comes m w c request (Err fault) note none treated up is = rw is tt
flush-comes m w c request (Ok inv) note none treated up is = begins-comes m w c request (is_full_of_flushes w) inv note none treated up is

invalidation-comes : (m : Conditions) (w : RunState) (c : ℕ) (request : Request) (may : Bool) (note : Note) → w.slicing ≡ None → treated_request (due_of_connection w c) ≡ Some request → IsTrue (is_up w.log) → AnswersInvalidation may w c request note → Comes m w note
invalidation-comes m w c request false note none treated up is = rw is tt
invalidation-comes m w c request true note none treated up is = flush-comes m w c request (invalidation_of request) note none treated up is

permitted-key : (w : RunState) (k : Option PageKey) (key : PageKey) → k ≡ Some key → IsPermitted w k → IsPermitted w (Some key)
permitted-key w k key same permitted = subst (IsPermitted w) same permitted

first-comes : (m : Conditions) (w : RunState) (c : ℕ) (request : Request) (note : Note) → w.slicing ≡ None → treated_request (due_of_connection w c) ≡ Some request → IsFirstPoint m w c request note points → Comes m w note
first-comes m w c request note none treated (inl crowded) = rw crowded.1 tt
first-comes m w c request note none treated (inr (_, inl fallen)) = rw fallen.1 tt
first-comes m w c request note none treated (inr (_, inr (up, inl inv))) = invalidation-comes m w c request (allows w.farm.clients (peer_of (w.connection c))) note none treated (true_from_ne_false (is_up w.log) up) inv.1
first-comes m w c request note none treated (inr (_, inr (up, inr (_, inl hidden)))) = rw hidden.1 tt
first-comes m w c request note none treated (inr (_, inr (up, inr (_, inr (_, inl held))))) =
    rw held.1.2 (record { request = request; treated = treated; up = true_from_ne_false (is_up w.log) up; key_is = held.1.1; permitted = permitted-key w (key_of w request) held.1.0 held.1.1 held.0 })
first-comes m w c request note none treated (inr (_, inr (up, inr (_, inr (_, inr (owed, inl full)))))) = rw full.1 tt
first-comes m w c request note none treated (inr (_, inr (up, inr (_, inr (_, inr (owed, inr (_, inl free))))))) =
    rw free.1 (record { request = request; treated = treated; up = true_from_ne_false (is_up w.log) up; next = refl; key_is = refl; unowed = owed }, none)
first-comes m w c request note none treated (inr (_, inr (up, inr (_, inr (_, inr (owed, inr (_, inr (never, _)))))))) = absurd never

-- ---- a note that is due
gives-comes : (m : Conditions) (w : RunState) (c : ℕ) (owed : Due) (note : Note) → w.slicing ≡ None → due_of_connection w c ≡ owed → GivesDue m w c owed note → Comes m w note
gives-comes m w c (Send slot) note none is gives = rw gives.1 tt
gives-comes m w c (Treat Continue) note none is gives = absurd gives
gives-comes m w c (Treat (Whole request)) note none is (inl first) = first-comes m w c request note none (ap treated_request is) first
gives-comes m w c (Treat (Whole request)) note none is (inr out_of_memory) = rw out_of_memory.1 tt
gives-comes m w c (Refuse fault) note none is gives = rw gives tt
gives-comes m w c Close note none is gives = rw gives tt
gives-comes m w c Nothing note none is gives = absurd gives

pub slice-comes : (m : Conditions) (w : RunState) (v : ℕ) (note : Note) → IsFirstFlush w.flushes v → GivesSlice m v note → Comes m w note
slice-comes m w v note first (inl done) = rw done first
slice-comes m w v note first (inr (inl sliced)) = rw sliced first
slice-comes m w v note first (inr (inr (inl disk))) = rw disk.0 (first, disk.1)
slice-comes m w v note first (inr (inr (inr memory))) = rw memory.0 (first, memory.1)

slicing-first : (v : ℕ) (flushes : List Flushing) → IsSlicing (Some v) flushes → IsFirstFlush flushes v
slicing-first v [] is = absurd is
slicing-first v (flush ∷ flushes) is = record { flush = flush; others = flushes; is = refl; number = is }

pub next-comes : (m : Conditions) (w : RunState) (c : ℕ) (slicing : Option ℕ) (note : Note) → w.slicing ≡ slicing → IsSound w → GivesNext m w c slicing note → Comes m w note
next-comes m w c None note is sound gives = gives-comes m w c (due_of_connection w c) note is refl gives
next-comes m w c (Some v) note is sound gives = slice-comes m w v note (slicing-first v w.flushes (subst (λ o. IsSlicing o w.flushes) is sound.first)) gives
