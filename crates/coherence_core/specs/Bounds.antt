-- How many names of files may stand in the way of flushes, 64 of which a slice looks at.
use Rattle.std.specs.Prelude.{◌≡◌, ◌<◌, ◌≤◌, ◌+◌, ◌*◌, ◌↔◌, ℕ, List, [], ◌∷◌}
use Rattle.std.specs.List.{AllByRecursion}
use Rattle.sp_outside.specs.Files.{Files}
use Rattle.any_config.specs.declared.farm.Farm.{Farm}
use Rattle.invalidation.specs.Slices.{HasBegun, most_added, names_ahead}
use Rattle.cache_ids.specs.Ids.{FlushId}
use Rattle.cache_log.specs.Entries.{LogEntry, flushes_begun, landings_stored, slices_made}
use Rattle.cache_log.specs.Rules.{KeepsBound}
use Rattle.coherence_core.specs.Holds.{files_counted}
use Rattle.coherence_core.specs.declared.pending.Pending.{Pending}

-- The files that a session may have had: those that it found, two for each landing that was stored, a .stat file for each folder down to the
-- level of each flush, and the file of the epoch.
abbrev pub most_files : Farm → ℕ → List LogEntry → ℕ
most_files farm found log = found + 2 * landings_stored log + (farm.level + 1) * flushes_begun log + 1

-- how many names the slices to come may still add
abbrev pub names_to_come : List Pending → ℕ
names_to_come [] = 0
names_to_come (p ∷ ps) = most_added p.purge + names_to_come ps

-- the flush has begun exactly where the log has a slice that left more of it to do
abbrev pub HasBegunInLog : Pending → List LogEntry → Type 0
HasBegunInLog p log = HasBegun p.purge ↔ (0 < slices_made p.number log)

-- The oldest flush has looked at as many names, and has as many ahead, as the session may have had, and has begun where a slice of it is in
-- the log; the others have made no slice.
abbrev pub HasNamesLeft : ℕ → Files → List Pending → List LogEntry → Type 0
HasNamesLeft most files [] log = Unit {0}
HasNamesLeft most files (p ∷ ps) log = (64 * slices_made p.number log + names_ahead p.purge files + names_to_come (p ∷ ps) ≤ most) × AllByRecursion (λ (q : Pending). slices_made q.number log ≡ 0) ps × HasBegunInLog p log

-- The bound on slices, and what keeps it.
pub record BoundsSlices (farm : Farm) (found : ℕ) (files : Files) (queue : List Pending) (log : List LogEntry) : Type 0 where
  pub bound : KeepsBound farm found log
  pub files_left : files_counted files + names_to_come queue ≤ most_files farm found log
  pub names_left : HasNamesLeft (most_files farm found log) files queue log
  pub unbegun : (flush : FlushId) → flushes_begun log < flush → slices_made flush log ≡ 0
