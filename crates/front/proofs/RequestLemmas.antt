-- What a request gets of the cache.
use Rattle.std.proofs.Common.{◌≡◌, ℕ, ◌+◌, ◌++◌, ◌||◌, Bool, true, false, suc, List, [], ◌∷◌, Option, Some, None, length, refl, ap, sym, subst, ◌∙◌, arith, ◌⊎◌, inl, inr}
use Rattle.std.specs.Prelude.{IsTrue, not}
use Rattle.std.proofs.lemmas.List.{length-map}
use Rattle.sp_base.specs.Requests.{Request}
use Rattle.sp_outside.specs.Files.{Files}
use Rattle.glob_rules.specs.Rules.{allows}
use Rattle.any_config.specs.declared.farm.Farm.{Farm}
use Rattle.dispatch_rules.specs.Admission.{admits}
use Rattle.dispatch_rules.specs.Caching.{cache_key}
use Rattle.invalidation.specs.Invalidations.{is_invalidation}
use Rattle.cache_log.specs.Entries.{LogEntry, flights_asked, flushes_begun, is_up, stamps_drawn}
use Rattle.cache_log.specs.Rules.{IsOwed}
use Rattle.coherence_core.specs.Cores.{ExtendsCore, KeepsFarm, CoreStandsFor, drawn_of, flight_labels, flights_of, flush_numbers, flushes_of}
use Rattle.coherence_core.specs.Requests.{GotAs, ReachesCache, got_entries, got_flushes, got_labels, requested_under}
use Rattle.coherence_core.specs.declared.answers.Got.{Got}
use Rattle.coherence_core.specs.declared.answers.Requested.{Requested}
use Rattle.coherence_core.specs.declared.answers.Got.TheVariants as got
use Rattle.coherence_core.specs.declared.core_state.Core.{Core}
use Rattle.coherence_core.specs.declared.pending.Pending.{Pending}
use Rattle.run_events.specs.declared.conditions.Conditions.{Conditions}
use Rattle.run_events.specs.declared.flying.Flying.{Flying}
use Rattle.run_events.specs.declared.flying.Flushing.{Flushing}
use Rattle.run_events.specs.declared.note.Note.{Note}
use Rattle.run_events.specs.declared.note.Note.TheVariants.{Local}
use Rattle.run_events.specs.Causes.{IsHitOwedTo, Spoils}
use Rattle.run_events.specs.Points.{AnswersInvalidation, Fallen, Invalidating, Hidden, Held, Full, Free, IsFirstPoint, IsHitOwed, is_crowded_if_open, is_front_full, peer_of, points}
use Rattle.run_events.specs.Moves.{due_if_open, due_of_connection, treated_request}
use Rattle.run_events.specs.States.{AirRises, RunState}
use Rattle.front.specs.Caches.{AreFlushesRising, AsksCache, Behind, BehindStandsFor, behind, flushing_numbers, flying_labels}
use Rattle.sp_outside.specs.Causes.{IsDiskFailure}

-- what the core's answer says of it
pub record CoreGot (old : Behind) (core : Core) (files : Option Files) (faults : ℕ) (request : Request) (peer : List ℕ) (disk_failed : Bool) (out : Got) : Type 0 where
  pub log : ExtendsCore old.files old.cache.core files core (requested_under (record { got = out; disk_failed = disk_failed })) (got_entries out)
  pub cause : (found : ℕ) (log : List LogEntry) → CoreStandsFor found old.files old.cache.core log → GotAs old.cache.core log request peer disk_failed out
  pub disk : IsDiskFailure old.faults faults disk_failed
  pub labels : flight_labels (flights_of core) ≡ flight_labels (flights_of old.cache.core) ++ got_labels out
  pub flushes : flushes_of core ≡ flushes_of old.cache.core ++ got_flushes out
  pub kept : KeepsFarm old.cache.core core

pub core-got : (old : Behind) (core : Core) (files : Option Files) (faults : ℕ) (request : Request) (peer : List ℕ) (r : Requested) (out : Got) → r.got ≡ out
    → ExtendsCore old.files old.cache.core files core (requested_under r) (got_entries r.got)
    → ((found : ℕ) (log : List LogEntry) → CoreStandsFor found old.files old.cache.core log → GotAs old.cache.core log request peer r.disk_failed r.got)
    → IsDiskFailure old.faults faults r.disk_failed → flight_labels (flights_of core) ≡ flight_labels (flights_of old.cache.core) ++ got_labels r.got → flushes_of core ≡ flushes_of old.cache.core ++ got_flushes r.got → KeepsFarm old.cache.core core
    → CoreGot old core files faults request peer r.disk_failed out
core-got old core files faults request peer r out is log cause disk labels flushes kept = subst (CoreGot old core files faults request peer r.disk_failed) is (record { log = log; cause = cause; disk = disk; labels = labels; flushes = flushes; kept = kept })

pub told-failure : (before after : ℕ) (disk_failed : Bool) → IsDiskFailure before after disk_failed → IsDiskFailure before after disk_failed
told-failure before after true rose = rose
told-failure before after false same = same

-- ---- what standing for the log says
pub down-is : (found : ℕ) (files : Option Files) (core : Core) (log : List LogEntry) → CoreStandsFor found files core log → core.down ≡ not (is_up log)
down-is found None core log stands = absurd stands
down-is found (Some files) core log stands = stands.down_is

pub drawn-is : (found : ℕ) (files : Option Files) (core : Core) (log : List LogEntry) → CoreStandsFor found files core log → drawn_of core ≡ stamps_drawn log
drawn-is found None core log stands = absurd stands
drawn-is found (Some files) core log stands = stands.stands.counts.stamps

pub up-is : (down up : Bool) → down ≡ not up → down ≡ false → up ≡ true
up-is down true is no_down = refl
up-is down false is no_down = absurd (let no : ⊥ = cc in no)

pub fallen-is : (down up : Bool) → down ≡ not up → down ≡ true → up ≡ false
fallen-is down true is fell = absurd (let no : ⊥ = cc in no)
fallen-is down false is fell = refl

-- ---- lists
pub queue-length : (ps : List Pending) → length (flush_numbers ps) ≡ length ps
queue-length [] = refl
queue-length (p ∷ ps) = ap suc (queue-length ps)

pub flights-many : (b : Behind) (w : RunState) → BehindStandsFor b w → length (flights_of b.cache.core) ≡ length w.flights
flights-many b w tied = sym (length-map (flights_of b.cache.core) _) ∙ ap length tied.flights_are ∙ length-map b.cache.flying _ ∙ ap length tied.flying_is

pub flushes-many : (b : Behind) (w : RunState) → BehindStandsFor b w → length b.cache.core.queue.items ≡ length w.flushes
flushes-many b w tied = sym (queue-length b.cache.core.queue.items) ∙ ap length tied.flushes_are ∙ length-map b.cache.flushes _ ∙ ap length tied.flushing_is

-- ---- what is behind the connections then
pub behind-after : (old : Behind) (core : Core) (files : Option Files) (faults : ℕ) (request : Request) (peer : List ℕ) (disk_failed : Bool) (out : Got) → CoreGot old core files faults request peer disk_failed out → (w v : RunState) (flying : List Flying) (flushes : List Flushing)
    → BehindStandsFor old w → v.found ≡ w.found → v.farm ≡ w.farm → v.log ≡ got_entries out ++ w.log
    → flying ≡ v.flights → AirRises 0 flying (flights_asked v.log) → flying_labels w.farm flying ≡ flying_labels w.farm old.cache.flying ++ got_labels out
    → flushes ≡ v.flushes → AreFlushesRising 0 flushes (flushes_begun v.log) → flushing_numbers flushes ≡ flushing_numbers old.cache.flushes ++ got_flushes out
    → BehindStandsFor (behind (record { core = core; flying = flying; flushes = flushes }) files faults) v
behind-after old core files faults request peer disk_failed out g w v flying flushes tied found farm log flying_is rising labels flushing_is rise numbers = record {
  core_is = rw (found, log) ((g.log w.found).stands w.log tied.core_is);
  farm_is = farm ∙ tied.farm_is ∙ sym g.kept.farm;
  flying_is = flying_is;
  rising = rising;
  flights_are = rw farm (g.labels ∙ ap (λ ls. ls ++ got_labels out) tied.flights_are ∙ sym labels);
  flushing_is = flushing_is;
  flushes_are = g.flushes ∙ ap (λ ns. ns ++ got_flushes out) tied.flushes_are ∙ sym numbers;
  flushes_rise = rise;
}

-- ---- the point that applies
-- a request that isn't turned away before the cache is asked whether it is up
pub crowd-is : (w : RunState) (c : ℕ) (request : Request) (peer : List ℕ) (b : Behind) → AsksCache w c request peer b → is_crowded_if_open (w.connection c) ≡ false
crowd-is w c request peer b asks = ap is_crowded_if_open asks.open_is ∙ asks.room

pub past-crowded : (m : Conditions) (w : RunState) (c : ℕ) (request : Request) (note : Note) → is_crowded_if_open (w.connection c) ≡ false → IsFirstPoint m w c request note (Fallen ∷ Invalidating ∷ Hidden ∷ Held ∷ Full ∷ Free ∷ []) → IsFirstPoint m w c request note points
past-crowded m w c request note room later = inr (λ is. let no : ⊥ = cc in no, later)

pub past-fallen : (m : Conditions) (w : RunState) (c : ℕ) (request : Request) (note : Note) → is_crowded_if_open (w.connection c) ≡ false → is_up w.log ≡ true → IsFirstPoint m w c request note (Invalidating ∷ Hidden ∷ Held ∷ Full ∷ Free ∷ [])
    → IsFirstPoint m w c request note points
past-fallen m w c request note room up later = past-crowded m w c request note room (inr (λ is. let no : ⊥ = cc in no, later))

pub past-flush : (m : Conditions) (w : RunState) (c : ℕ) (request : Request) (note : Note) → is_crowded_if_open (w.connection c) ≡ false → is_up w.log ≡ true → is_invalidation request ≡ false → IsFirstPoint m w c request note (Hidden ∷ Held ∷ Full ∷ Free ∷ [])
    → IsFirstPoint m w c request note points
past-flush m w c request note room up page later = past-fallen m w c request note room up (inr (λ is. let no : ⊥ = cc in no, later))

pub past-hidden : (m : Conditions) (w : RunState) (c : ℕ) (request : Request) (note : Note) → is_crowded_if_open (w.connection c) ≡ false → is_up w.log ≡ true → is_invalidation request ≡ false → admits w.farm request ≡ true
    → IsFirstPoint m w c request note (Held ∷ Full ∷ Free ∷ []) → IsFirstPoint m w c request note points
past-hidden m w c request note room up page admitted later = past-flush m w c request note room up page (inr (λ is. let no : ⊥ = cc in no, later))

-- ---- what the causes of an answer say of the state
pub record Reaches (w : RunState) (c : ℕ) (request : Request) : Type 0 where
  pub room : is_crowded_if_open (w.connection c) ≡ false
  pub up : is_up w.log ≡ true
  pub page : is_invalidation request ≡ false
  pub admitted : admits w.farm request ≡ true

pub up-from : (w : RunState) (c : ℕ) (request : Request) (peer : List ℕ) (b : Behind) → AsksCache w c request peer b → b.cache.core.down ≡ false → is_up w.log ≡ true
up-from w c request peer b asks down = up-is b.cache.core.down (is_up w.log) (down-is w.found b.files b.cache.core w.log asks.behind_is.core_is) down

pub reaches : (w : RunState) (c : ℕ) (request : Request) (peer : List ℕ) (b : Behind) → AsksCache w c request peer b → ReachesCache b.cache.core request → Reaches w c request
reaches w c request peer b asks cache = record {
  room = crowd-is w c request peer b asks;
  up = up-from w c request peer b asks cache.up;
  page = cache.page;
  admitted = ap (λ f. admits f request) asks.behind_is.farm_is ∙ cache.admitted;
}

-- ---- its note, by its cause
-- the note is that of the first point that applies, and what it spoils needs a failing disk
pub record IsNoteOf (disk_failed : Bool) (w : RunState) (c : ℕ) (request : Request) (note : Note) : Type 0 where
  pub first : (m : Conditions) → (IsTrue disk_failed → IsTrue m.disk_failed) → IsFirstPoint m w c request note points
  pub spoils : Spoils w note → IsTrue disk_failed

pub owed-is : (w : RunState) (c : ℕ) (request : Request) (peer : List ℕ) (b : Behind) → AsksCache w c request peer b → treated_request (due_of_connection w c) ≡ Some request
owed-is w c request peer b asks = ap (λ o. treated_request (due_if_open o)) asks.open_is ∙ ap treated_request asks.due_is

-- the front's own answer spoils what is owed alone
pub local-spoils : (w : RunState) (c status : ℕ) (request : Request) (peer : List ℕ) (b : Behind) (disk_failed : Bool) → AsksCache w c request peer b → (IsHitOwed w c request → IsTrue disk_failed) → Spoils w (Local c status) → IsTrue disk_failed
local-spoils w c status request peer b disk_failed asks only spoils = only (subst (IsHitOwedTo w c) (owed-is w c request peer b asks) spoils.1)

pub farm-key : (w : RunState) (b : Behind) (request : Request) → BehindStandsFor b w → cache_key w.farm request ≡ cache_key b.cache.core.farm request
farm-key w b request tied = ap (λ f. cache_key f request) tied.farm_is

-- what isn't owed of the core isn't owed of the state
pub owed-from : (w : RunState) (b : Behind) (request : Request) (disk_failed : Bool) → BehindStandsFor b w → (IsOwed b.cache.core.farm w.log (cache_key b.cache.core.farm request) → IsTrue disk_failed) → IsOwed w.farm w.log (cache_key w.farm request) → IsTrue disk_failed
owed-from w b request disk_failed tied only owed = only (subst (λ f. IsOwed f w.log (cache_key f request)) tied.farm_is owed)

pub full-of : (flights stamps : Bool) → IsTrue flights ⊎ IsTrue stamps → IsTrue (flights || stamps)
full-of true stamps is = refl
full-of false stamps (inl is) = absurd (let no : ⊥ = cc in no)
full-of false stamps (inr is) = is

pub down-note : (w : RunState) (c : ℕ) (request : Request) (peer : List ℕ) (b : Behind) (disk_failed : Bool) → AsksCache w c request peer b → b.cache.core.down ≡ true → IsNoteOf disk_failed w c request (Local c 503)
down-note w c request peer b disk_failed asks fell =
    let down : is_up w.log ≡ false = fallen-is b.cache.core.down (is_up w.log) (down-is w.found b.files b.cache.core w.log asks.behind_is.core_is) fell in
    record {
      first = λ m allows. past-crowded m w c request (Local c 503) (crowd-is w c request peer b asks) (inl (down, refl));
      spoils = local-spoils w c 503 request peer b disk_failed asks (λ owed. let up : is_up w.log ≡ true = owed.up in absurd (let no : ⊥ = cc in no));
    }

pub hidden-note : (w : RunState) (c : ℕ) (request : Request) (peer : List ℕ) (b : Behind) (disk_failed : Bool) → AsksCache w c request peer b → b.cache.core.down ≡ false → is_invalidation request ≡ false → admits b.cache.core.farm request ≡ false → IsNoteOf disk_failed w c request (Local c 404)
hidden-note w c request peer b disk_failed asks down page denied =
    let hidden : admits w.farm request ≡ false = ap (λ f. admits f request) asks.behind_is.farm_is ∙ denied in
    record {
      first = λ m allows. past-flush m w c request (Local c 404) (crowd-is w c request peer b asks) (up-from w c request peer b asks down) page (inl (hidden, refl));
      spoils = λ spoils. let wrong : 404 ≡ 503 = spoils.0 in absurd (omega (arith, wrong));
    }

-- a request for an invalidation is answered so
pub flush-note : (w : RunState) (c : ℕ) (request : Request) (peer : List ℕ) (b : Behind) (disk_failed : Bool) (note : Note) → AsksCache w c request peer b → b.cache.core.down ≡ false → is_invalidation request ≡ true
    → AnswersInvalidation (allows b.cache.core.farm.clients peer) w c request note → (Spoils w note → IsTrue disk_failed) → IsNoteOf disk_failed w c request note
flush-note w c request peer b disk_failed note asks down flush answers spoils =
    let may : allows w.farm.clients (peer_of (w.connection c)) ≡ allows b.cache.core.farm.clients peer = ap (λ (f : Farm). allows f.clients (peer_of (w.connection c))) asks.behind_is.farm_is ∙ ap (λ o. allows b.cache.core.farm.clients (peer_of o)) asks.open_is ∙ ap (allows b.cache.core.farm.clients) (sym asks.peer_is) in
    record {
      first = λ m allows_m. past-fallen m w c request note (crowd-is w c request peer b asks) (up-from w c request peer b asks down) (inl (flush, subst (λ x. AnswersInvalidation x w c request note) (sym may) answers));
      spoils = spoils;
    }

pub full-note : (w : RunState) (c : ℕ) (request : Request) (peer : List ℕ) (b : Behind) (disk_failed : Bool) → AsksCache w c request peer b → ReachesCache b.cache.core request → (IsOwed b.cache.core.farm w.log (cache_key b.cache.core.farm request) → IsTrue disk_failed) → IsTrue (is_front_full w)
    → IsNoteOf disk_failed w c request (Local c 503)
full-note w c request peer b disk_failed asks cache only full =
    let r = reaches w c request peer b asks cache in
    record {
      first = λ m allows. past-hidden m w c request (Local c 503) r.room r.up r.page r.admitted (inr (λ owed. allows (owed-from w b request disk_failed asks.behind_is only owed), inl (full, refl)));
      spoils = local-spoils w c 503 request peer b disk_failed asks (λ owed. owed-from w b request disk_failed asks.behind_is only owed.owed);
    }
