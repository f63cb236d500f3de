-- Where a request gets its answer: from the cache, or from the publisher behind it.
use Rattle.std.specs.Prelude.{◌≡◌, ◌+◌, ◌||◌, ◌⊎◌, ℕ, Bool, true, false, nat_le, List, [], ◌∷◌, Option, Some, None, Result, Ok, Err, IsTrue, length}
use Rattle.sp_base.specs.declared.answer.Answer.{Answer}
use Rattle.sp_base.specs.Requests.{Request}
use Rattle.glob_rules.specs.Rules.{allows}
use Rattle.cover_rules.specs.declared.page.PageKey.{PageKey}
use Rattle.cover_rules.specs.declared.invalidation.Invalidation.{Invalidation}
use Rattle.dispatch_rules.specs.Admission.{admits}
use Rattle.dispatch_rules.specs.Caching.{cache_key}
use Rattle.cache_log.specs.Entries.{flights_asked, flushes_begun, is_up, stamps_drawn}
use Rattle.cache_log.specs.Hits.{MayHit}
use Rattle.cache_log.specs.Rules.{CallConditions, IsOwed}
use Rattle.invalidation.specs.Invalidations.{invalidation_of, is_invalidation}
use Rattle.invalidation.specs.declared.inv_fault.InvFault.{InvFault}
use Rattle.connections.specs.Connections.{Connection, is_crowded}
use Rattle.connections.specs.Ids.{ConnectionId}
use Rattle.run_events.specs.declared.conditions.Conditions.{Conditions}
use Rattle.run_events.specs.declared.note.Note.{Note}
use Rattle.run_events.specs.declared.note.Note.TheVariants.{Ask as asked, Hit, Local, Flush}
use Rattle.run_events.specs.States.{RunState}
use Rattle.cache_log.specs.Limits.{most_flushes, most_stamps}
use Rattle.flights.specs.Flights.{most_flights}

-- a call of the cache that ran under all of it, and whether it is a restart's
abbrev pub call_conditions : Conditions → Bool → CallConditions
call_conditions m restarts = record { disk_failed = m.disk_failed; out_of_memory = m.out_of_memory; restarts = restarts }

-- Where a request may get its answer, the first that applies: the answers to too many requests of its connection are unsent; the cache is
-- down; it asks for an invalidation; the farm doesn't admit it; the cache has its page; too many flights are in the air, or too many stamps
-- were drawn; else the publisher is asked.
pub data Point : Type 0 where
  Crowded : Point
  Fallen : Point
  Invalidating : Point
  Hidden : Point
  Held : Point
  Full : Point
  Free : Point

-- the points in their order
abbrev pub points : List Point
points = Crowded ∷ Fallen ∷ Invalidating ∷ Hidden ∷ Held ∷ Full ∷ Free ∷ []

-- ---- limits

-- the connection is there, and the answers to too many of its requests are unsent
abbrev pub is_crowded_if_open : Option Connection → Bool
is_crowded_if_open None = false
is_crowded_if_open (Some c) = is_crowded c

-- no further stamp is drawn
abbrev pub are_stamps_drawn : RunState → Bool
are_stamps_drawn w = nat_le most_stamps (stamps_drawn w.log)

-- no further flight is asked
abbrev pub is_front_full : RunState → Bool
is_front_full w = nat_le most_flights (length w.flights) || are_stamps_drawn w

-- no further flush begins
abbrev pub is_full_of_flushes : RunState → Bool
is_full_of_flushes w = nat_le most_flushes (length w.flushes) || are_stamps_drawn w

-- ---- when a point applies

-- the page of the cache that a request has, if it has one
abbrev pub key_of : RunState → Request → Option PageKey
key_of w request = cache_key w.farm request

-- the cache may answer a request with this key by a page
abbrev pub IsPermitted : RunState → Option PageKey → Type 0
IsPermitted w None = ⊥
IsPermitted w (Some key) = (answer : Answer) × MayHit w.farm w.log key answer

-- the point may answer a request
abbrev pub PointApplies : RunState → ConnectionId → Request → Point → Type 0
PointApplies w c request Crowded = IsTrue (is_crowded_if_open (w.connection c))
PointApplies w c request Fallen = is_up w.log ≡ false
PointApplies w c request Invalidating = IsTrue (is_invalidation request)
PointApplies w c request Hidden = admits w.farm request ≡ false
PointApplies w c request Held = IsPermitted w (key_of w request)
PointApplies w c request Full = IsTrue (is_front_full w)
PointApplies w c request Free = Unit {0}

-- A later point may answer it instead. What the cache may answer may be asked for again, unless a hit is owed and the disk didn't fail.
abbrev pub MayPass : Conditions → RunState → ConnectionId → Request → Point → Type 0
MayPass m w c request Held = IsOwed w.farm w.log (key_of w request) → IsTrue m.disk_failed
MayPass m w c request Free = ⊥
MayPass m w c request point = PointApplies w c request point → ⊥

-- ---- what a point answers

-- the address of the client
abbrev pub peer_of : Option Connection → List ℕ
peer_of None = []
peer_of (Some c) = c.peer

-- Service Unavailable (RFC 9110, section 15.6.4) where no further flush begins, else a flush with the next number
abbrev pub BeginsFlush : Bool → RunState → ConnectionId → Invalidation → Note → Type 0
BeginsFlush true w c inv note = note ≡ Local c 503
BeginsFlush false w c inv note = note ≡ Flush (flushes_begun w.log + 1) c inv

-- Bad Request (RFC 9110, section 15.5.1) where a request names no invalidation, else a flush
abbrev pub AnswersFlush : RunState → ConnectionId → Result Invalidation InvFault → Note → Type 0
AnswersFlush w c (Err fault) note = note ≡ Local c 400
AnswersFlush w c (Ok inv) note = BeginsFlush (is_full_of_flushes w) w c inv note

-- Forbidden (RFC 9110, section 15.5.4) where the client may not invalidate, else by the invalidation that it names
abbrev pub AnswersInvalidation : Bool → RunState → ConnectionId → Request → Note → Type 0
AnswersInvalidation false w c request note = note ≡ Local c 403
AnswersInvalidation true w c request note = AnswersFlush w c (invalidation_of request) note

-- what a point answers: Service Unavailable, Not Found (RFC 9110, section 15.5.5), a page of the cache, or a flight with the next number
abbrev pub AnswersPoint : RunState → ConnectionId → Request → Point → Note → Type 0
AnswersPoint w c request Crowded note = note ≡ Local c 503
AnswersPoint w c request Fallen note = note ≡ Local c 503
AnswersPoint w c request Invalidating note = AnswersInvalidation (allows w.farm.clients (peer_of (w.connection c))) w c request note
AnswersPoint w c request Hidden note = note ≡ Local c 404
AnswersPoint w c request Held note = (key : PageKey) × (key_of w request ≡ Some key) × (note ≡ Hit c key)
AnswersPoint w c request Full note = note ≡ Local c 503
AnswersPoint w c request Free note = note ≡ asked (flights_asked w.log + 1) c (key_of w request)

-- the note is that of the first of these points which applies
abbrev pub IsFirstPoint : Conditions → RunState → ConnectionId → Request → Note → List Point → Type 0
IsFirstPoint m w c request note [] = ⊥
IsFirstPoint m w c request note (point ∷ later) = (PointApplies w c request point × AnswersPoint w c request point note) ⊎ (MayPass m w c request point × IsFirstPoint m w c request note later)

-- ---- what is owed to a request

-- a hit is owed to the request: no point before the cache applies to it, and the log owes a hit on its page
pub record IsHitOwed (w : RunState) (c : ConnectionId) (request : Request) : Type 0 where
  pub not_crowded : is_crowded_if_open (w.connection c) ≡ false
  pub up : IsTrue (is_up w.log)
  pub no_invalidation : is_invalidation request ≡ false
  pub admitted : IsTrue (admits w.farm request)
  pub owed : IsOwed w.farm w.log (key_of w request)
