-- The log of a cache, its newest entry first: what was asked of the publisher, what landed and was stored (RFC 9111, section 3), what was
-- answered from the store (section 4), what was flushed (Adobe Dispatcher manual, "Invalidating Cached Pages From AEM"), and the sessions.
use Rattle.std.specs.Prelude.{◌+◌, ◌==◌, ℕ, Bool, true, false, if◌then◌else◌, List, [], ◌∷◌, Option}
use Rattle.sp_base.specs.declared.answer.Answer.{Answer}
use Rattle.cover_rules.specs.declared.page.PageKey.{PageKey}
use Rattle.cover_rules.specs.declared.invalidation.Invalidation.{Invalidation}
use Rattle.cache_ids.specs.Ids.{FlightId, FlushId}

-- What became of a landing: its answer was stored (kept); it may have been stored, since the disk failed or memory ran out (unkept); or it
-- was only passed on.
pub data Fate : Type 0 where
  Kept : Fate
  Unkept : Fate
  Passed : Fate

-- how a flush ended: all that it deletes is gone and all that it touches is touched (done), or maybe not (failed)
pub data FlushOutcome : Type 0 where
  Done : FlushOutcome
  Failed : FlushOutcome

-- An entry. A flight is asked, for a page if it has a key, and lands with an answer or is lost. A flush begins with its invalidation, and
-- each slice of it leaves more to do (sliced) or ends it. A page is answered from the store (hit). A restart comes up with an epoch, or goes
-- down. A session begins with its first epoch, and its flights and flushes are numbered from 1.
pub data LogEntry : Type 0 where
  Asked : (number : FlightId) (key : Option PageKey) → LogEntry
  Landed : (number : FlightId) (key : Option PageKey) (answer : Answer) (fate : Fate) → LogEntry
  Lost : (number : FlightId) → LogEntry
  Begun : (number : FlushId) (inv : Invalidation) → LogEntry
  Sliced : (number : FlushId) → LogEntry
  Ended : (number : FlushId) (outcome : FlushOutcome) → LogEntry
  Hit : (key : PageKey) → LogEntry
  Up : (epoch : ℕ) → LogEntry
  Down : LogEntry
  Session : (epoch : ℕ) → LogEntry

-- ---- counts

-- how many flights were asked in the session
abbrev pub flights_asked : List LogEntry → ℕ
flights_asked [] = 0
flights_asked (Asked number key ∷ log) = flights_asked log + 1
flights_asked (Session epoch ∷ log) = 0
flights_asked (_ ∷ log) = flights_asked log

-- how many flushes began in the session
abbrev pub flushes_begun : List LogEntry → ℕ
flushes_begun [] = 0
flushes_begun (Begun number inv ∷ log) = flushes_begun log + 1
flushes_begun (Session epoch ∷ log) = 0
flushes_begun (_ ∷ log) = flushes_begun log

-- how many stamps were drawn in the session: one for each flight and one for each flush
abbrev pub stamps_drawn : List LogEntry → ℕ
stamps_drawn log = flights_asked log + flushes_begun log

-- the last epoch: that of the last restart that came up, or the first of the session
abbrev pub last_epoch : List LogEntry → ℕ
last_epoch [] = 0
last_epoch (Up epoch ∷ log) = epoch
last_epoch (Session epoch ∷ log) = epoch
last_epoch (_ ∷ log) = last_epoch log

-- how many restarts went down since that epoch
abbrev pub downs_since : List LogEntry → ℕ
downs_since [] = 0
downs_since (Down ∷ log) = downs_since log + 1
downs_since (Up epoch ∷ log) = 0
downs_since (Session epoch ∷ log) = 0
downs_since (_ ∷ log) = downs_since log

-- the cache is up: a session began or a restart came up, and no restart went down since
abbrev pub is_up : List LogEntry → Bool
is_up [] = false
is_up (Up epoch ∷ log) = true
is_up (Session epoch ∷ log) = true
is_up (Down ∷ log) = false
is_up (_ ∷ log) = is_up log

-- how many slices of the flush left more to do
abbrev pub slices_made : FlushId → List LogEntry → ℕ
slices_made flush [] = 0
slices_made flush (Sliced number ∷ log) = if number == flush then slices_made flush log + 1 else slices_made flush log
slices_made flush (Session epoch ∷ log) = 0
slices_made flush (_ ∷ log) = slices_made flush log

-- how many landings of the session were kept or unkept
abbrev pub landings_stored : List LogEntry → ℕ
landings_stored [] = 0
landings_stored (Landed number key answer Kept ∷ log) = landings_stored log + 1
landings_stored (Landed number key answer Unkept ∷ log) = landings_stored log + 1
landings_stored (Session epoch ∷ log) = 0
landings_stored (_ ∷ log) = landings_stored log
