-- What a core has noted of the files, so that it needn't ask the disk for it again.
use Rattle.std.specs.Prelude.{◌≡◌, ℕ, List, Option, IfSome}
use Rattle.std.specs.List.{AllByRecursion}
use Rattle.sp_outside.specs.Files.{Files}
use Rattle.cover_rules.specs.declared.invalidation.Invalidation.{Invalidation}
use Rattle.docroot_changes.specs.Changes.{Told}
use Rattle.page_index.specs.Agreement.{Agrees, HasNoneCovered}
use Rattle.page_index.specs.declared.index.PageIndex.{PageIndex}
use Rattle.coherence_core.specs.declared.core_state.Core.{Core}
use Rattle.coherence_core.specs.declared.pending.Pending.{Pending}

-- no flush of the queue covers what is noted
abbrev pub AreNotesUncovered : ℕ → PageIndex → List Pending → Type 0
AreNotesUncovered level notes queue = AllByRecursion (λ (p : Pending). (p.purge.level ≡ level) × HasNoneCovered level p.purge.inv notes) queue

-- What is noted is what the files say, and no unfinished flush covers it.
pub record KnowsFiles (files : Files) (core : Core) : Type 0 where
  pub agree : Agrees core.pages files
  pub apart : AreNotesUncovered core.farm.level core.pages core.queue.items

-- the same of a disk, where it tells its files
abbrev pub KnowsDisk : Option Files → Core → Type 0
KnowsDisk told core = IfSome told (λ files. KnowsFiles files core)

-- what was so of the notes is so still: that they agree with the files, and that an invalidation covers none of what is noted
pub record StaysKnown (files after : Files) (old new : PageIndex) : Type 0 where
  pub agree : Agrees old files → Agrees new after
  pub apart : (level : ℕ) (inv : Invalidation) → HasNoneCovered level inv old → HasNoneCovered level inv new

-- the same, whatever the files are
abbrev pub HoldsStill : PageIndex → PageIndex → Type 0
HoldsStill old new = (files : Files) → StaysKnown files files old new

-- the same of a disk before and after a call, where it tells its files
abbrev pub StaysTold : PageIndex → PageIndex → Option Files → Option Files → Type 0
StaysTold old new told next = Told (λ files after. StaysKnown files after old new) told next

-- the core with these notes
abbrev pub with_notes : Core → PageIndex → Core
with_notes core notes = record core { pages = notes }

-- What is known of the files stays known, where the notes of the core are these.
abbrev pub KnowsDiskWith : Option Files → Core → PageIndex → Type 0
KnowsDiskWith told core notes = KnowsDisk told core → KnowsDisk told (with_notes core notes)
