-- What the parts of a request make of a core.
use Rattle.std.specs.Prelude.{◌≡◌, ◌⊎◌, ◌<◌, ◌≤◌, ◌+◌, ◌++◌, ℕ, Bool, true, false, List, [], ◌∷◌, Option, Some, None, IfSome, Ok, Err, length, map}
use Rattle.std.specs.List.{list_any}
use Rattle.sp_base.specs.Requests.{Request}
use Rattle.sp_base.specs.Texts.{Text}
use Rattle.sp_base.specs.declared.answer.Answer.{Answer}
use Rattle.sp_outside.specs.Files.{Files}
use Rattle.any_config.specs.declared.farm.Farm.{Farm}
use Rattle.cover_rules.specs.Pages.{IsPageKey}
use Rattle.dispatch_rules.specs.Admission.{admits}
use Rattle.dispatch_rules.specs.Caching.{cache_key, is_auto}
use Rattle.cache_files.specs.Pages.{page_at}
use Rattle.stat_files.specs.Stamps.{stamp_at}
use Rattle.glob_rules.specs.Rules.{allows}
use Rattle.cover_rules.specs.declared.page.PageKey.{PageKey}
use Rattle.cover_rules.specs.declared.stamp.Stamp.{Stamp}
use Rattle.cover_rules.specs.declared.invalidation.Invalidation.{Invalidation}
use Rattle.flights.specs.declared.flight.Flight.{Flight}
use Rattle.flights.specs.Flights.{after_invalidation, covers_page, most_flights}
use Rattle.invalidation.specs.Invalidations.{invalidation_of, is_invalidation}
use Rattle.invalidation.specs.declared.inv_fault.InvFault.{InvFault}
use Rattle.invalidation.specs.declared.inv_fault.InvFault.TheVariants as inv_fault
use Rattle.coherence_core.specs.Requests.{ReachesCache, GotAs}
use Rattle.coherence_core.specs.Served.{serves_page}
use Rattle.coherence_core.specs.declared.answers.Requested.{Requested}
use Rattle.cache_ids.specs.Ids.{FlushId}
use Rattle.coherence_core.specs.Cores.{drawn_of, CoreStandsFor}
use Rattle.coherence_core.specs.Notes.{HoldsStill, KnowsDisk, KnowsDiskWith, with_notes}
use Rattle.page_index.specs.Agreement.{HasNoneCovered}
use Rattle.page_index.specs.declared.index.PageIndex.{PageIndex}
use Rattle.coherence_core.specs.declared.answers.Got.{Got}
use Rattle.coherence_core.specs.declared.answers.Got.TheVariants as got
use Rattle.coherence_core.specs.declared.core_state.Core.{Core}
use Rattle.coherence_core.specs.declared.pending.Pending.{Pending}
use Rattle.cache_log.specs.Limits.{most_flushes, most_stamps}
use Rattle.cache_log.specs.Entries.{LogEntry}

-- nothing that a core stands for has changed
pub record IsSameCore (old new : Core) : Type 0 where
  pub farm : new.farm ≡ old.farm
  pub flights : new.flights ≡ old.flights
  pub queue : new.queue.items ≡ old.queue.items
  pub asked : new.asked ≡ old.asked
  pub begun : new.begun ≡ old.begun
  pub epoch : new.epoch ≡ old.epoch
  pub down : new.down ≡ old.down
  pub pages : new.pages ≡ old.pages

-- the stamp that is drawn next
abbrev pub next_stamp : Core → Stamp
next_stamp core = record { epoch = core.epoch; count = drawn_of core }

-- ---- flights

-- an unfinished flush covers the page, if there is one
abbrev pub is_barred : ℕ → Bool → Option PageKey → List Pending → Bool
is_barred level auto key queue = list_any (λ (p : Pending). covers_page level auto p.purge.inv key) queue

-- the flight that is asked next, for this page or for none
abbrev pub next_flight : Core → Option PageKey → Bool → Flight
next_flight core key auto = record { number = core.asked + 1; key = key; auto = auto; stamp = next_stamp core; voided = is_barred core.farm.level auto key core.queue.items }

-- the core once it is asked
abbrev pub core_asking : Core → Option PageKey → Bool → Core
core_asking core key auto = record core { flights = core.flights ++ next_flight core key auto ∷ []; asked = core.asked + 1 }

-- What asking for a page, or for none, came to: too many flights are in the air; no stamp is left; the flight is asked; or memory ran out.
abbrev pub AskedAs : Core → Core → Option PageKey → Bool → Got → Type 0
AskedAs old new key auto got.FullAir = (new ≡ old) × (most_flights ≤ length old.flights)
AskedAs old new key auto got.Worn = (new ≡ old) × (length old.flights < most_flights) × (most_stamps ≤ drawn_of old)
AskedAs old new key auto (got.Asked ticket own) = (new ≡ core_asking old key auto) × (length old.flights < most_flights) × (drawn_of old < most_stamps) × (ticket ≡ old.asked + 1) × (own ≡ key)
AskedAs old new key auto got.NoMemory = new ≡ old
AskedAs old new key auto _ = ⊥

-- ---- flushes

-- The flush has begun with this invalidation: it voids the flights whose page it covers, and joins the queue with the next number and stamp.
-- Nothing is noted any more that it covers.
pub record HasBegunFlush (old new : Core) (flush : FlushId) (inv : Invalidation) : Type 0 where
  pub last : Pending
  pub number : last.number ≡ flush
  pub level : last.purge.level ≡ old.farm.level
  pub inv_is : last.purge.inv ≡ inv
  pub stamp : last.purge.stamp ≡ next_stamp old
  pub place : last.purge.place ≡ None
  pub next : flush ≡ old.begun + 1
  pub queue : new.queue.items ≡ old.queue.items ++ last ∷ []
  pub flights : new.flights ≡ map (after_invalidation old.farm.level inv) old.flights
  pub farm : new.farm ≡ old.farm
  pub asked : new.asked ≡ old.asked
  pub begun : new.begun ≡ old.begun + 1
  pub epoch : new.epoch ≡ old.epoch
  pub down : new.down ≡ old.down
  pub notes : HoldsStill old.pages new.pages
  pub forgotten : HasNoneCovered old.farm.level inv new.pages

-- What beginning a flush came to: it has begun, or memory ran out.
abbrev pub BegunAs : Core → Core → Invalidation → Got → Type 0
BegunAs old new inv (got.Flush flush own) = HasBegunFlush old new flush inv × (own ≡ inv)
BegunAs old new inv got.NoMemory = IsSameCore old new
BegunAs old new inv _ = ⊥

-- What a request for an invalidation came to: the client may not; it names none; too many are unfinished; no stamp is left; it has begun; or
-- memory ran out.
abbrev pub FlushedAs : Core → Core → Request → Text → Got → Type 0
FlushedAs old new req peer got.FlushForbidden = IsSameCore old new × (allows old.farm.clients peer ≡ false)
FlushedAs old new req peer (got.FlushRefused fault) = IsSameCore old new × (allows old.farm.clients peer ≡ true) × (invalidation_of req ≡ Err fault)
FlushedAs old new req peer got.FullPurge = IsSameCore old new × (allows old.farm.clients peer ≡ true) × ((inv : Invalidation) × (invalidation_of req ≡ Ok inv)) × (most_flushes ≤ length old.queue.items)
FlushedAs old new req peer got.Worn = IsSameCore old new × (allows old.farm.clients peer ≡ true) × ((inv : Invalidation) × (invalidation_of req ≡ Ok inv)) × (length old.queue.items < most_flushes) × (most_stamps ≤ drawn_of old)
FlushedAs old new req peer (got.Flush flush inv) = HasBegunFlush old new flush inv × (allows old.farm.clients peer ≡ true) × (invalidation_of req ≡ Ok inv) × (length old.queue.items < most_flushes) × (drawn_of old < most_stamps)
FlushedAs old new req peer got.NoMemory = IsSameCore old new
FlushedAs old new req peer _ = ⊥

-- the answer to a request whose invalidation can't be read
abbrev pub refusal : InvFault → Got
refusal inv_fault.NoMemory = got.NoMemory
refusal fault = got.FlushRefused fault

-- ---- pages

-- the answer that the files of a disk give for a page, where it tells them, is this
abbrev pub IsLookedUp : Option Files → Farm → PageKey → Option Answer → Type 0
IsLookedUp told farm key answer = IfSome told (λ files. serves_page farm (page_at files) (stamp_at files) key ≡ answer)

-- What a page that may be kept was found to be, by a core that had noted what is so, and has noted this then: a hit with the answer that the
-- files give; memory ran out; or the publisher is asked, where the files give none or the disk failed.
abbrev pub FoundAs : Option Files → Core → PageIndex → Core → PageKey → Got → Bool → Type 0
FoundAs told old notes new key (got.Hit own answer) disk_failed = (new ≡ with_notes old notes) × (own ≡ key) × (disk_failed ≡ false) × (KnowsDisk told old → IsLookedUp told old.farm key (Some answer))
FoundAs told old notes new key got.NoMemory disk_failed = new ≡ with_notes old notes
FoundAs told old notes new key other disk_failed = AskedAs (with_notes old notes) new (Some key) (is_auto old.farm key) other × (disk_failed ≡ false → KnowsDisk told old → IsLookedUp told old.farm key None)

-- What a request for a page that may be kept came to: what it was found to be, with what was noted meanwhile.
abbrev pub KeyedAs : Option Files → Core → Core → PageKey → Got → Bool → Type 0
KeyedAs told old new key got disk_failed = (notes : PageIndex) × (KnowsDiskWith told old notes × FoundAs told old notes new key got disk_failed)

-- ---- requests

-- memory ran out before anything was done
abbrev pub IsRequestOutOfMemory : Core → Core → Requested → Type 0
IsRequestOutOfMemory old new requested = (new ≡ old) × (requested.got ≡ got.NoMemory) × (requested.disk_failed ≡ false)

-- the cache is down
abbrev pub IsDownRequest : Core → Core → Requested → Type 0
IsDownRequest old new requested = (old.down ≡ true) × (new ≡ old) × (requested.got ≡ got.Down) × (requested.disk_failed ≡ false)

-- an invalidation is asked for
abbrev pub IsFlushRequest : Core → Core → Request → Text → Requested → Type 0
IsFlushRequest old new req peer requested = (old.down ≡ false) × (is_invalidation req ≡ true) × FlushedAs old new req peer requested.got × (requested.disk_failed ≡ false)

-- the farm doesn't admit the request
abbrev pub IsDeniedRequest : Core → Core → Request → Requested → Type 0
IsDeniedRequest old new req requested = (old.down ≡ false) × (is_invalidation req ≡ false) × (admits old.farm req ≡ false) × (new ≡ old) × (requested.got ≡ got.Denied) × (requested.disk_failed ≡ false)

-- the request is for no page that may be kept
abbrev pub IsUnkeyedRequest : Core → Core → Request → Requested → Type 0
IsUnkeyedRequest old new req requested = ReachesCache old req × (cache_key old.farm req ≡ None) × AskedAs old new None false requested.got × (requested.disk_failed ≡ false)

-- the request is for a page that may be kept
abbrev pub IsKeyedRequest : Option Files → Core → Core → Request → Requested → Type 0
IsKeyedRequest told old new req requested = ReachesCache old req × ((key : PageKey) × ((cache_key old.farm req ≡ Some key) × IsPageKey key × KeyedAs told old new key requested.got requested.disk_failed))

-- what a request came to
abbrev pub RequestedAs : Option Files → Core → Core → Request → Text → Requested → Type 0
RequestedAs told old new req peer requested = IsRequestOutOfMemory old new requested ⊎ (IsDownRequest old new requested ⊎ (IsFlushRequest old new req peer requested ⊎ (IsDeniedRequest old new req requested ⊎ (IsUnkeyedRequest old new req requested ⊎ IsKeyedRequest told old new req requested))))

-- in each session and for each log that a core and a disk stand for, what is got has its cause in the log
abbrev pub HasCauseInEachLog : Option Files → Core → Request → Text → Requested → Type 0
HasCauseInEachLog told core req peer requested = (found : ℕ) (log : List LogEntry) → CoreStandsFor found told core log → GotAs core log req peer requested.disk_failed requested.got
