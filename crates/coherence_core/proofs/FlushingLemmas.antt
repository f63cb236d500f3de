-- What a slice of the oldest flush makes of what is stood for.
use Rattle.std.proofs.Common.{◌≡◌, ◌≤◌, ◌++◌, ℕ, not, List, ◌∷◌, Option, Some, None, inl, inr, refl, sym, ◌∙◌, subst, arith, ⊎_elim}
use Rattle.sp_outside.specs.Files.{Files}
use Rattle.cache_files.specs.Epochs.{epoch_held}
use Rattle.cache_files.specs.HeldStamps.{HasNoLaterStamp}
use Rattle.cache_files.specs.Pages.{head_at, page_at}
use Rattle.stat_files.specs.Stamps.{stamp_at}
use Rattle.docroot_changes.specs.Changes.{Told}
use Rattle.invalidation.specs.declared.purge.Purge.{Purge}
use Rattle.invalidation.specs.declared.purge.PurgeStep.{PurgeStep}
use Rattle.invalidation.specs.declared.purge.PurgeStep.TheVariants.{More, Done as step_done, DiskFailed, NoMemory}
use Rattle.invalidation.specs.Slices.{IsSamePurge, IsSlice, IsStatOf, IsTakenFrom, Progress, folders_of}
use Rattle.cache_ids.specs.Ids.{FlushId}
use Rattle.cache_log.specs.Entries.{LogEntry, Done, Ended, Failed, FlushOutcome, Sliced, is_up}
use Rattle.cache_log.specs.Rules.{AllAllowed, IsOldest}
use Rattle.coherence_core.specs.Bounds.{BoundsSlices}
use Rattle.coherence_core.specs.Cores.{ExtendsLogs, CoreStandsFor, StandsOver, drawn_of, flush_numbers}
use Rattle.coherence_core.specs.Facts.{CoverageFacts}
use Rattle.coherence_core.specs.Flushes.{IsFirstSliced, PurgedAs, flushes_left_by, outcome_of, purged_entries, purged_under}
use Rattle.coherence_core.specs.Holds.{AreStatsFormed, IsNumbered}
use Rattle.coherence_core.specs.Notes.{AreNotesUncovered, KnowsDisk}
use Rattle.cover_rules.specs.declared.invalidation.Invalidation.{Invalidation}
use Rattle.page_index.specs.Agreement.{Agrees, ChangesCovered, HasNoneCovered}
use Rattle.page_index.specs.declared.index.PageIndex.{PageIndex}
use Rattle.coherence_core.specs.Stands.{AreHeadsBefore, CoreStands, stamp}
use Rattle.coherence_core.specs.declared.answers.Purged.{Purged}
use Rattle.coherence_core.specs.declared.core_state.Core.{Core}
use Rattle.coherence_core.specs.declared.pending.Pending.{Pending}
use Rattle.coherence_core.proofs.NoteLemmas.{apart_first}
use Rattle.coherence_core.proofs.StampLemmas.{epoch_below, heads_changed}
use Rattle.coherence_core.proofs.FlushLemmas.{oldest}
use Rattle.coherence_core.proofs.SliceBounds.{names_end, names_go_on}
use Rattle.coherence_core.proofs.SliceSteps.{done, failed, sliced, went_on}
use Rattle.coherence_core.proofs.CallLemmas.{extends, numbered_same}
use Rattle.coherence_core.proofs.StatFileLemmas.{TextLaws, flush_reads, slice_formed}
use Rattle.cache_log.specs.Limits.{most_stamps}

-- the queue after it
abbrev pub queue_after : PurgeStep → FlushId → Purge → List Pending → List Pending
queue_after More flush purge rest = record { number = flush; purge = purge } ∷ rest
queue_after step_done flush purge rest = rest
queue_after DiskFailed flush purge rest = rest
queue_after NoMemory flush purge rest = rest

-- all but the queue is as it was
pub record KeepsBeside (old new : Core) : Type 0 where
  pub farm : new.farm ≡ old.farm
  pub flights : new.flights ≡ old.flights
  pub asked : new.asked ≡ old.asked
  pub begun : new.begun ≡ old.begun
  pub epoch : new.epoch ≡ old.epoch
  pub down : new.down ≡ old.down
  pub pages : new.pages ≡ old.pages

-- Notes agree with files still that changed only in what an invalidation covers, where that covers none of what is noted.
abbrev pub CoveredIsForgotten : Type 0
CoveredIsForgotten = (notes : PageIndex) (level : ℕ) (inv : Invalidation) (files after : Files) → ChangesCovered level inv files after → HasNoneCovered level inv notes → Agrees notes files → Agrees notes after

-- a slice changes only what its invalidation covers
slice_changes : (before left : Purge) (step : PurgeStep) (files after : Files) → IsSlice before left step files after → ChangesCovered before.level before.inv files after
slice_changes before left step files after slice = record {
  pages = λ key good. ⊎_elim (λ same. inl same) (λ gone. inr gone.0) (slice.sliced.drops key good);
  heads = λ key good. ⊎_elim (λ same. inl same) (λ gone. inr gone.0) (slice.heads key good);
  stamps = λ folder good. ⊎_elim (λ same. inl same) (λ set. inr set.0) (slice.sliced.touches folder good);
}

-- so notes of which its flush covers none agree with the files still
slice_agrees : CoveredIsForgotten → (level : ℕ) (notes : PageIndex) (before left : Purge) (step : PurgeStep) (files after : Files) → IsSlice before left step files after → (before.level ≡ level) × HasNoneCovered level before.inv notes → Agrees notes files → Agrees notes after
slice_agrees keeps level notes before left step files after slice apart agree =
    keeps notes before.level before.inv files after (slice_changes before left step files after slice) (subst (λ (l : ℕ). HasNoneCovered l before.inv notes) (sym apart.0) apart.1) agree

-- a core with these parts stands for the log
pub stands_with : (found : ℕ) (files : Files) (old new : Core) (queue : List Pending) (log : List LogEntry) → KeepsBeside old new → new.queue.items ≡ queue
    → CoreStands old.farm (page_at files) (stamp_at files) (epoch_held files) old.flights queue old.asked old.begun old.epoch (drawn_of old) log → IsNumbered files → HasNoLaterStamp files → AreStatsFormed files → AreHeadsBefore (head_at files) (stamp old.epoch (drawn_of old)) → old.down ≡ not (is_up log) → drawn_of old ≤ most_stamps → BoundsSlices old.farm found files queue log → Agrees old.pages files → AreNotesUncovered old.farm.level old.pages queue → StandsOver found files new log
stands_with found files old new queue log kept is stands numbered order formed heads down few slices agree apart = record {
  stands = rw (kept.farm, kept.flights, is, kept.asked, kept.begun, kept.epoch) stands;
  numbered = numbered;
  order = order;
  formed = formed;
  heads = rw (kept.asked, kept.begun, kept.epoch) heads;
  down_is = kept.down ∙ down;
  few = rw (kept.asked, kept.begun) few;
  slices = rw (kept.farm, is) slices;
  knows = record { agree = rw (kept.pages) agree; apart = rw (kept.farm, kept.pages, is) apart };
}

module _ (found : ℕ) (core next : Core) (facts : CoverageFacts core.farm) (p : Pending) (rest : List Pending) (items : core.queue.items ≡ p ∷ rest) (kept : KeepsBeside core next) (q : Purge) (same : IsSamePurge p.purge q) (files after : Files) (keeps : CoveredIsForgotten) (texts : TextLaws) (log : List LogEntry) (s : StandsOver found files core log) where
  here : CoreStands core.farm (page_at files) (stamp_at files) (epoch_held files) core.flights (p ∷ rest) core.asked core.begun core.epoch (drawn_of core) log
  here = subst (λ (l : List Pending). CoreStands core.farm (page_at files) (stamp_at files) (epoch_held files) core.flights l core.asked core.begun core.epoch (drawn_of core) log) items s.stands

  bounds : BoundsSlices core.farm found files (p ∷ rest) log
  bounds = subst (λ (l : List Pending). BoundsSlices core.farm found files l log) items s.slices

  low : p.purge.stamp.epoch ≤ epoch_held files
  low = let le : p.purge.stamp.epoch ≤ core.epoch = epoch_below p.purge.stamp core.epoch (drawn_of core) here.flushing.each.0.drawn in omega (arith, le, s.stands.epochs.current)

  apart : AreNotesUncovered core.farm.level core.pages (p ∷ rest)
  apart = subst (λ (l : List Pending). AreNotesUncovered core.farm.level core.pages l) items s.knows.apart

  -- what is noted, no slice of this flush changes
  agree : (step : PurgeStep) → IsSlice p.purge q step files after → Agrees core.pages after
  agree step slice = slice_agrees keeps core.farm.level core.pages p.purge q step files after slice apart.0 s.knows.agree

  -- each .stat file is of its form: what the flush writes reads
  formed : (step : PurgeStep) → IsSlice p.purge q step files after → AreStatsFormed after
  formed step slice = slice_formed (IsTakenFrom p.purge.inv p.purge.place) (IsStatOf (folders_of p.purge.level p.purge.inv p.purge.place)) p.purge.stamp files after
      (flush_reads texts files p.purge.stamp (drawn_of core) log p.number p.purge.inv low here.tied.flushing.0 s.stands.counts.stamps s.few) slice.files s.formed

  -- it takes heads away, and sets none
  heads : (step : PurgeStep) → IsSlice p.purge q step files after → AreHeadsBefore (head_at after) (stamp core.epoch (drawn_of core))
  heads step slice = heads_changed (head_at files) (head_at after) (stamp core.epoch (drawn_of core)) (λ key good. ⊎_elim (λ same. inl same) (λ gone. inr (λ h is. absurd (cc (gone.1, is)))) (slice.heads key good)) s.heads

  first : IsOldest log p.number
  first = ((p.purge.inv, here.flushing.each.0.unfinished), λ w inv u. oldest p rest w inv here.flushing.each.1 (here.flushing.all w inv u))

  -- the files after a slice, whatever came of it, for a flush that is as far as this
  moved : (step : PurgeStep) → IsSlice p.purge q step files after → (r : Purge) → IsSamePurge p.purge r → Progress r (page_at after) (stamp_at after) → CoreStands core.farm (page_at after) (stamp_at after) (epoch_held after) core.flights (record { number = p.number; purge = r } ∷ rest) core.asked core.begun core.epoch (drawn_of core) log
  moved step slice r one progress = subst (λ (e : ℕ). CoreStands core.farm (page_at after) (stamp_at after) e core.flights (record { number = p.number; purge = r } ∷ rest) core.asked core.begun core.epoch (drawn_of core) log) (sym slice.number.held)
      (sliced core.farm facts (page_at files) (stamp_at files) (epoch_held files) core.flights p rest core.asked core.begun core.epoch (drawn_of core) log here (page_at after) (stamp_at after) r one slice.sliced progress)

  -- of a flush that failed it isn't said how far it is
  abbrev forgotten : Purge
  forgotten = record p.purge { place = None }

  none_behind : Progress forgotten (page_at after) (stamp_at after)
  none_behind = record { touched = λ begun. absurd (cc begun); gone = λ k good del behind. absurd behind }

  ended : (step : PurgeStep) (outcome : FlushOutcome) → IsSlice p.purge q step files after → next.queue.items ≡ rest → CoreStands core.farm (page_at after) (stamp_at after) (epoch_held after) core.flights rest core.asked core.begun core.epoch (drawn_of core) (Ended p.number outcome ∷ log) → StandsOver found after next (Ended p.number outcome ∷ log)
  ended step outcome slice is stands = stands_with found after core next rest (Ended p.number outcome ∷ log) kept is stands (numbered_same files after slice.number s.numbered) (slice.order low s.order) (formed step slice) (heads step slice) s.down_is s.few (names_end core.farm found files after p rest log slice.names bounds here.flushing.each.1 outcome) (agree step slice) apart.1

  fell : (step : PurgeStep) → IsSlice p.purge q step files after → next.queue.items ≡ rest → StandsOver found after next (Ended p.number Failed ∷ log)
  fell step slice is = ended step Failed slice is (failed core.farm facts (page_at after) (stamp_at after) (epoch_held after) core.flights (record { number = p.number; purge = forgotten }) rest core.asked core.begun core.epoch (drawn_of core) log (moved step slice forgotten (record { level = refl; inv = refl; stamp = refl }) none_behind))

  pub purged_over : (step : PurgeStep) → IsSlice p.purge q step files after → next.queue.items ≡ queue_after step p.number q rest → AllAllowed core.farm (purged_under (outcome_of p.number step)) (purged_entries (outcome_of p.number step)) log × StandsOver found after next (purged_entries (outcome_of p.number step) ++ log)
  purged_over More slice is =
      let left = slice.left in
      let progress : Progress q (page_at after) (stamp_at after) = left.1 here.flushing.head.progress in (
        (first, tt),
        stands_with found after core next (record { number = p.number; purge = q } ∷ rest) (Sliced p.number ∷ log) kept is
            (went_on core.farm facts (page_at after) (stamp_at after) (epoch_held after) core.flights (record { number = p.number; purge = q }) rest core.asked core.begun core.epoch (drawn_of core) log (moved More slice q same progress))
            (numbered_same files after slice.number s.numbered) (slice.order low s.order) (formed More slice) (heads More slice) s.down_is s.few
            (names_go_on core.farm found files after p rest log slice.names bounds q left.0 left.2 here.flushing.each.1 (subst (λ (x : ℕ). p.number ≤ x) s.stands.counts.flushes here.flushing.each.0.below))
            (agree More slice) (apart_first core.farm.level core.pages p (record { number = p.number; purge = q }) rest same apart),
      )
  purged_over step_done slice is =
      let left = slice.left here.flushing.head.progress in
      let progress : Progress q (page_at after) (stamp_at after) = record { touched = λ begun. left.0; gone = λ k good del behind. left.1 k good del } in (
        (first, tt),
        ended step_done Done slice is (done core.farm facts (page_at after) (stamp_at after) (epoch_held after) core.flights (record { number = p.number; purge = q }) rest core.asked core.begun core.epoch (drawn_of core) log (moved step_done slice q same progress) left.0 left.1),
      )
  purged_over DiskFailed slice is = (((first, inl (inl refl)), tt), fell DiskFailed slice is)
  purged_over NoMemory slice is = (((first, inl (inr refl)), tt), fell NoMemory slice is)

pub purged_told : (found : ℕ) (core next : Core) (facts : CoverageFacts core.farm) (p : Pending) (rest : List Pending) (items : core.queue.items ≡ p ∷ rest) (kept : KeepsBeside core next) (q : Purge) (same : IsSamePurge p.purge q) (step : PurgeStep) (told new : Option Files) → CoveredIsForgotten → TextLaws
    → Told (IsSlice p.purge q step) told new → next.queue.items ≡ queue_after step p.number q rest → ExtendsLogs core.farm (CoreStandsFor found told core) (CoreStandsFor found new next) (purged_under (outcome_of p.number step)) (purged_entries (outcome_of p.number step))
purged_told found core next facts p rest items kept q same step None new keeps texts t is = extends (λ log s. absurd s)
purged_told found core next facts p rest items kept q same step (Some files) None keeps texts t is = absurd t
purged_told found core next facts p rest items kept q same step (Some files) (Some after) keeps texts t is = extends (λ log s. purged_over found core next facts p rest items kept q same files after keeps texts log s step t is)

-- ---- the whole call

queue_left : (step : PurgeStep) (flush : FlushId) (q : Purge) (rest queue : List Pending) → queue ≡ flushes_left_by (outcome_of flush step) (record { number = flush; purge = q } ∷ rest) → queue ≡ queue_after step flush q rest
queue_left More flush q rest queue is = is
queue_left step_done flush q rest queue is = is
queue_left DiskFailed flush q rest queue is = is
queue_left NoMemory flush q rest queue is = is

apart_after : (step : PurgeStep) (p : Pending) (q : Purge) (rest : List Pending) (level : ℕ) (notes : PageIndex) → IsSamePurge p.purge q → AreNotesUncovered level notes (p ∷ rest) → AreNotesUncovered level notes (queue_after step p.number q rest)
apart_after More p q rest level notes same all = apart_first level notes p (record { number = p.number; purge = q }) rest same all
apart_after step_done p q rest level notes same all = all.1
apart_after DiskFailed p q rest level notes same all = all.1
apart_after NoMemory p q rest level notes same all = all.1

numbers_left : (step : PurgeStep) (p : Pending) (q : Purge) (rest : List Pending) → PurgedAs (outcome_of p.number step) (flush_numbers (p ∷ rest)) (flush_numbers (queue_after step p.number q rest))
numbers_left More p q rest = (refl, (flush_numbers rest, refl))
numbers_left step_done p q rest = refl
numbers_left DiskFailed p q rest = refl
numbers_left NoMemory p q rest = refl

module _ (core next : Core) (told new : Option Files) (queue : List Pending) (result : Purged) (kept : KeepsBeside core next) (made : IsFirstSliced told new core.queue.items queue result) (left : next.queue.items ≡ flushes_left_by result queue) where
  next_is : next.queue.items ≡ queue_after made.step made.first.number made.purge made.rest
  next_is = queue_left made.step made.first.number made.purge made.rest next.queue.items (left ∙ (λ i. flushes_left_by (made.result_is i) (made.after_is i)))

  pub step_log : CoverageFacts core.farm → CoveredIsForgotten → TextLaws → (found : ℕ) → ExtendsLogs core.farm (CoreStandsFor found told core) (CoreStandsFor found new next) (purged_under result) (purged_entries result)
  step_log facts keeps texts found = subst (λ (r : Purged). ExtendsLogs core.farm (CoreStandsFor found told core) (CoreStandsFor found new next) (purged_under r) (purged_entries r)) (sym made.result_is)
      (purged_told found core next facts made.first made.rest made.queue_is kept made.purge made.same made.step told new keeps texts made.slice next_is)

  pub step_flushes : PurgedAs result (flush_numbers core.queue.items) (flush_numbers next.queue.items)
  step_flushes = rw (made.result_is, made.queue_is, next_is) (numbers_left made.step made.first made.purge made.rest)

  -- what is known of the files, whichever log there is
  pub step_known : CoveredIsForgotten → KnowsDisk told core → KnowsDisk new next
  step_known keeps k = by_told told new made.slice k
    where
      queue_known : (queue : List Pending) (files after : Files) → queue ≡ made.first ∷ made.rest → IsSlice made.first.purge made.purge made.step files after → AreNotesUncovered core.farm.level core.pages queue → Agrees core.pages files → (left : List Pending) → left ≡ queue_after made.step made.first.number made.purge made.rest → (Agrees core.pages after) × AreNotesUncovered core.farm.level core.pages left
      queue_known queue files after is slice apart agree left left_is =
          let all : AreNotesUncovered core.farm.level core.pages (made.first ∷ made.rest) = subst (λ (l : List Pending). AreNotesUncovered core.farm.level core.pages l) is apart in
          (slice_agrees keeps core.farm.level core.pages made.first.purge made.purge made.step files after slice all.0 agree, subst (λ (l : List Pending). AreNotesUncovered core.farm.level core.pages l) (sym left_is) (apart_after made.step made.first made.purge made.rest core.farm.level core.pages made.same all))

      by_told : (t n : Option Files) → Told (IsSlice made.first.purge made.purge made.step) t n → KnowsDisk t core → KnowsDisk n next
      by_told None None slice k = tt
      by_told None (Some after) slice k = absurd (cc slice)
      by_told (Some files) None slice k = tt
      by_told (Some files) (Some after) slice k = let both = queue_known core.queue.items files after made.queue_is slice k.apart k.agree next.queue.items next_is in
          record { agree = rw (kept.pages) both.0; apart = rw (kept.farm, kept.pages) both.1 }
