-- What a slice of the oldest flush comes to (Adobe Dispatcher manual, "Invalidating Cached Pages From AEM").
use Rattle.std.specs.Prelude.{◌≡◌, ◌⊎◌, true, false, List, [], ◌∷◌, Option, drop}
use Rattle.sp_outside.specs.Files.{Files}
use Rattle.docroot_changes.specs.Changes.{Told}
use Rattle.invalidation.specs.declared.purge.Purge.{Purge}
use Rattle.invalidation.specs.declared.purge.PurgeStep.{PurgeStep}
use Rattle.invalidation.specs.declared.purge.PurgeStep.TheVariants.{More, Done as step_done, DiskFailed, NoMemory}
use Rattle.invalidation.specs.Slices.{IsSamePurge, IsSlice}
use Rattle.cache_ids.specs.Ids.{FlushId}
use Rattle.cache_log.specs.Entries.{LogEntry, Sliced, Ended, Done, Failed}
use Rattle.cache_log.specs.Rules.{CallConditions}
use Rattle.coherence_core.specs.Cores.{conditions_of_call}
use Rattle.coherence_core.specs.declared.answers.Purged.{Purged}
use Rattle.coherence_core.specs.declared.answers.Purged.TheVariants as purged
use Rattle.coherence_core.specs.declared.pending.Pending.{Pending}

-- what it adds to the log
abbrev pub purged_entries : Purged → List LogEntry
purged_entries purged.Idle = []
purged_entries (purged.More flush) = Sliced flush ∷ []
purged_entries (purged.Done flush) = Ended flush Done ∷ []
purged_entries (purged.Failed flush) = Ended flush Failed ∷ []
purged_entries (purged.NoMemory flush) = Ended flush Failed ∷ []

-- what the call ran under
abbrev pub purged_under : Purged → CallConditions
purged_under (purged.Failed flush) = conditions_of_call true false
purged_under (purged.NoMemory flush) = conditions_of_call false true
purged_under _ = conditions_of_call false false

-- Which flush it was of, and which are unfinished before and after: none was; the oldest, which is the oldest still; or the oldest, which ended.
abbrev pub PurgedAs : Purged → List FlushId → List FlushId → Type 0
PurgedAs purged.Idle old new = (old ≡ []) × (new ≡ [])
PurgedAs (purged.More flush) old new = (new ≡ old) × ((rest : List FlushId) × (old ≡ flush ∷ rest))
PurgedAs (purged.Done flush) old new = old ≡ flush ∷ new
PurgedAs (purged.Failed flush) old new = old ≡ flush ∷ new
PurgedAs (purged.NoMemory flush) old new = old ≡ flush ∷ new

-- ---- the oldest flush

-- what a slice of this flush came to
abbrev pub outcome_of : FlushId → PurgeStep → Purged
outcome_of flush More = purged.More flush
outcome_of flush step_done = purged.Done flush
outcome_of flush DiskFailed = purged.Failed flush
outcome_of flush NoMemory = purged.NoMemory flush

-- A slice was made of the oldest flush, which is as far then as it says; the others are as they were.
pub record IsFirstSliced (told new : Option Files) (queue after : List Pending) (result : Purged) : Type 0 where
  pub first : Pending
  pub rest : List Pending
  pub purge : Purge
  pub step : PurgeStep
  pub queue_is : queue ≡ first ∷ rest
  pub after_is : after ≡ record { number = first.number; purge = purge } ∷ rest
  pub result_is : result ≡ outcome_of first.number step
  pub same : IsSamePurge first.purge purge
  pub slice : Told (IsSlice first.purge purge step) told new

-- the queue without its oldest flush, where that has ended
abbrev pub flushes_left_by : Purged → List Pending → List Pending
flushes_left_by purged.Idle queue = queue
flushes_left_by (purged.More flush) queue = queue
flushes_left_by _ queue = drop 1 queue

-- One step made at most one slice: none where no flush is unfinished, and then nothing changed; else one of the oldest flush, which left the queue
-- where that slice ended it.
abbrev pub MakesOneSlice : Option Files → Option Files → List Pending → List Pending → Purged → Type 0
MakesOneSlice told new queue left result =
    ((queue ≡ []) × ((result ≡ purged.Idle) × ((left ≡ queue) × (new ≡ told))))
    ⊎ ((after : List Pending) × (IsFirstSliced told new queue after result × (left ≡ flushes_left_by result after)))
