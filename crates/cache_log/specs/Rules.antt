-- What may be added to the log of a cache.
use Rattle.std.specs.Prelude.{◌≡◌, ◌⊎◌, ◌<◌, ◌≤◌, ◌+◌, ◌*◌, ◌++◌, ℕ, Bool, IsTrue, List, [], ◌∷◌, Option, Some, None}
use Rattle.sp_base.specs.Limits.{greatest_u64}
use Rattle.sp_base.specs.declared.answer.Answer.{Answer}
use Rattle.any_config.specs.declared.farm.Farm.{Farm}
use Rattle.cover_rules.specs.declared.page.PageKey.{PageKey}
use Rattle.cover_rules.specs.declared.invalidation.Invalidation.{Invalidation}
use Rattle.dispatch_rules.specs.Caching.{is_storable}
use Rattle.cache_ids.specs.Ids.{FlightId, FlushId}
use Rattle.cache_log.specs.Entries.{Kept, Unkept, Passed, Done, Failed, LogEntry, Asked, Landed, Lost, Begun, Sliced, Ended, Hit, Up, Down, Session, flights_asked, flushes_begun, last_epoch, downs_since, is_up, slices_made, landings_stored}
use Rattle.cache_log.specs.Hits.{Unfinished, InAir, IsClear, MayHit, MustHit}

-- what a call of the cache ran under: whether the disk failed in it, whether memory ran out, and whether it is a restart's
pub record CallConditions : Type 0 where
  pub disk_failed : Bool
  pub out_of_memory : Bool
  pub restarts : Bool

-- the disk failed in the call, or memory ran out
abbrev pub HasFallenShort : CallConditions → Type 0
HasFallenShort under = IsTrue under.disk_failed ⊎ IsTrue under.out_of_memory

-- a hit is owed to a request with this key
abbrev pub IsOwed : Farm → List LogEntry → Option PageKey → Type 0
IsOwed farm log None = ⊥
IsOwed farm log (Some key) = (answer : Answer) × MustHit farm log key answer

-- the answer of a flight may be stored (RFC 9111, section 3): it is storable, and the flight is for a page and clear
abbrev pub MayStore : Farm → List LogEntry → FlightId → Option PageKey → Answer → Type 0
MayStore farm log flight None answer = ⊥
MayStore farm log flight (Some key) answer = IsTrue (is_storable answer) × IsClear farm log flight key

-- the flush is unfinished, and none that is has a lower number
abbrev pub IsOldest : List LogEntry → FlushId → Type 0
IsOldest log flush = ((inv : Invalidation) × Unfinished log flush inv) × ((other : FlushId) (inv : Invalidation) → Unfinished log other inv → flush ≤ other)

-- no flight is in the air, and no flush is unfinished
abbrev pub IsIdle : List LogEntry → Type 0
IsIdle log = ((flight : FlightId) (key : Option PageKey) → InAir log flight key → ⊥) × ((flush : FlushId) (inv : Invalidation) → Unfinished log flush inv → ⊥)

-- the epoch is above each that a session began with or a restart came up with
abbrev pub IsAboveAll : ℕ → List LogEntry → Type 0
IsAboveAll epoch [] = Unit {0}
IsAboveAll epoch (Up other ∷ log) = (other < epoch) × IsAboveAll epoch log
IsAboveAll epoch (Session other ∷ log) = (other < epoch) × IsAboveAll epoch log
IsAboveAll epoch (_ ∷ log) = IsAboveAll epoch log

-- What an entry asks of the log before it, in a call under these conditions:
abbrev pub Allowed : Farm → CallConditions → LogEntry → List LogEntry → Type 0
-- the publisher is asked by a cache that is up, for what is owed only where the disk failed; each flight has the next number;
Allowed farm under (Asked flight key) log = IsTrue (is_up log) × (flight ≡ flights_asked log + 1) × (IsOwed farm log key → IsTrue under.disk_failed)
-- a hit is permitted;
Allowed farm under (Hit key) log = IsTrue (is_up log) × ((answer : Answer) × MayHit farm log key answer)
-- a flight in the air lands; its answer is kept where it may be stored, or unkept where the disk failed or memory ran out, and else passed;
Allowed farm under (Landed flight key answer Kept) log = InAir log flight key × MayStore farm log flight key answer
Allowed farm under (Landed flight key answer Unkept) log = InAir log flight key × MayStore farm log flight key answer × HasFallenShort under
Allowed farm under (Landed flight key answer Passed) log = InAir log flight key × (MayStore farm log flight key answer → ⊥)
-- or it is lost;
Allowed farm under (Lost flight) log = (key : Option PageKey) × InAir log flight key
-- a flush begins in a cache that is up, with the next number;
Allowed farm under (Begun flush inv) log = IsTrue (is_up log) × (flush ≡ flushes_begun log + 1)
-- the oldest is sliced and ends done; one fails only where the disk failed, memory ran out, or a restart cuts it off;
Allowed farm under (Sliced flush) log = IsOldest log flush
Allowed farm under (Ended flush Done) log = IsOldest log flush
Allowed farm under (Ended flush Failed) log = IsOldest log flush × (HasFallenShort under ⊎ IsTrue under.restarts)
-- a restart, for which nothing is left in the air or unfinished, comes up with an epoch above all before it, and above the last by at most
-- one more than the restarts that went down since;
Allowed farm under (Up epoch) log = IsTrue under.restarts × IsIdle log × IsAboveAll epoch log × (last_epoch log < epoch) × (epoch ≤ last_epoch log + downs_since log + 1)
-- or it goes down, where the disk failed, memory ran out, or the epochs are at their end;
Allowed farm under Down log = IsTrue under.restarts × IsIdle log × (HasFallenShort under ⊎ (greatest_u64 ≤ last_epoch log + downs_since log))
-- and a session begins, where nothing is in the air or unfinished, with an epoch above all before it.
Allowed farm under (Session epoch) log = IsIdle log × IsAboveAll epoch log

-- each entry that a call adds is allowed, the newest first
abbrev pub AllAllowed : Farm → CallConditions → List LogEntry → List LogEntry → Type 0
AllAllowed farm under [] log = Unit {0}
AllAllowed farm under (entry ∷ entries) log = Allowed farm under entry (entries ++ log) × AllAllowed farm under entries log

-- a legal log: each entry was allowed, in a call under some conditions
abbrev pub IsLegal : Farm → List LogEntry → Type 0
IsLegal farm [] = Unit {0}
IsLegal farm (entry ∷ log) = ((under : CallConditions) × Allowed farm under entry log) × IsLegal farm log

-- The bound on the slices that leave a flush unfinished, 64 names a slice: no more names stand in its way than the files that were there
-- when the session began, two for each landing that was kept or unkept, a .stat file for each folder down to the level of each flush, and
-- the file of the epoch.
abbrev pub KeepsBound : Farm → ℕ → List LogEntry → Type 0
KeepsBound farm files log = (flush : FlushId) → 64 * slices_made flush log ≤ files + 2 * landings_stored log + (farm.level + 1) * flushes_begun log + 1
