-- What a restart and the beginning of a session make of what is stood for.
use Rattle.std.proofs.Common.{◌≡◌, ◌≢◌, ◌⊎◌, ◌<◌, ◌≤◌, ◌+◌, ◌++◌, append_assoc, ℕ, true, false, not, List, [], ◌∷◌, Option, Some, None, inl, inr, refl, sym, ◌∙◌, ap, subst, arith, eq-eqb, ne_eqb, ⊎_elim}
use Rattle.std.specs.Prelude.{Ok, Err, IfSome}
use Rattle.std.proofs.lemmas.Bool.{cases_eq}
use Rattle.sp_base.specs.Limits.{greatest_u64}
use Rattle.sp_outside.specs.Files.{Files}
use Rattle.any_config.specs.declared.farm.Farm.{Farm}
use Rattle.cache_files.specs.declared.epoch.OpenFault.{OpenFault}
use Rattle.cache_files.specs.declared.epoch.OpenFault.TheVariants as open_fault
use Rattle.cache_files.specs.Epochs.{after_epoch, epoch_held, greatest_epoch as greatest_epoch, next_epoch}
use Rattle.cache_files.specs.HeldStamps.{HasNoLaterStamp}
use Rattle.cache_files.specs.Pages.{head_at, page_at}
use Rattle.stat_files.specs.Stamps.{stamp_at}
use Rattle.docroot_changes.specs.Changes.{AddsNames, IsNextNumber, MayOpen, NumberSet, Told}
use Rattle.flights.specs.declared.flight.Flight.{Flight}
use Rattle.cache_log.specs.Entries.{LogEntry, Down, Ended, Failed, Up, downs_since, is_up, last_epoch}
use Rattle.cache_log.specs.Rules.{AllAllowed, CallConditions, HasFallenShort, IsAboveAll, IsIdle}
use Rattle.coherence_core.specs.Bounds.{BoundsSlices}
use Rattle.coherence_core.specs.Cores.{ExtendsLogs, CoreStandsFor, StandsOver, drawn_of, flush_numbers}
use Rattle.coherence_core.specs.Facts.{CoverageFacts}
use Rattle.coherence_core.specs.Holds.{IsNumbered, KeepsStatFiles}
use Rattle.coherence_core.specs.Sessions.{failed_entries, restarted_entries, restarted_under}
use Rattle.coherence_core.specs.Stands.{AreHeadsBefore, CoreStands, stamp}
use Rattle.page_index.specs.Agreement.{Agrees}
use Rattle.coherence_core.specs.declared.core_state.Core.{Core}
use Rattle.coherence_core.specs.declared.pending.Pending.{Pending}
use Rattle.coherence_core.proofs.FlushLemmas.{oldest}
use Rattle.coherence_core.proofs.SliceBounds.{names_end, names_stay}
use Rattle.coherence_core.proofs.SliceSteps.{failed}
use Rattle.coherence_core.proofs.StampLemmas.{before_epoch}
use Rattle.coherence_core.proofs.RestartSteps.{down, same_files, up}
use Rattle.coherence_core.proofs.CallLemmas.{allowed_append, extends, numbered_same}
use Rattle.coherence_core.proofs.StatFileLemmas.{kept_formed}

-- ---- flushes that are cut off

some_added : (n : ℕ) (files : Files) → AddsNames n files files
some_added n files = λ is_counted. omega arith

module _ (found : ℕ) (farm : Farm) (facts : CoverageFacts farm) (files : Files) (asked begun epoch drawn : ℕ) (under : CallConditions) (restarts : under.restarts ≡ true) where
  abbrev StandsWith : List Pending → List LogEntry → Type 0
  StandsWith queue log = CoreStands farm (page_at files) (stamp_at files) (epoch_held files) [] queue asked begun epoch drawn log × BoundsSlices farm found files queue log

  pub all_failed : (ps : List Pending) (log : List LogEntry) → StandsWith ps log → AllAllowed farm under (failed_entries (flush_numbers ps)) log × StandsWith [] (failed_entries (flush_numbers ps) ++ log) × (is_up (failed_entries (flush_numbers ps) ++ log) ≡ is_up log)
  all_failed [] log s = (tt, s, refl)
  all_failed (p ∷ ps) log s =
      let rest = all_failed ps (Ended p.number Failed ∷ log) (failed farm facts (page_at files) (stamp_at files) (epoch_held files) [] p ps asked begun epoch drawn log s.0, names_end farm found files files p ps log (some_added _ files) s.1 s.0.flushing.each.1 Failed) in
      let same : (failed_entries (flush_numbers ps) ++ Ended p.number Failed ∷ []) ++ log ≡ failed_entries (flush_numbers ps) ++ Ended p.number Failed ∷ log = append_assoc (failed_entries (flush_numbers ps)) (Ended p.number Failed ∷ []) log in (
        allowed_append farm under (failed_entries (flush_numbers ps)) (Ended p.number Failed ∷ []) log
            ((((p.purge.inv, s.0.flushing.each.0.unfinished), (λ w inv u. oldest p ps w inv s.0.flushing.each.1 (s.0.flushing.all w inv u))), inr restarts), tt) rest.0,
        subst (λ (l : List LogEntry). StandsWith [] l) (sym same) rest.1,
        ap is_up same ∙ rest.2,
      )

-- ---- the number of the session

end_held : (held : ℕ) → after_epoch (Some held) ≡ Err open_fault.EpochEnd → held ≡ greatest_u64
end_held held is = ⊎_elim
    (λ (same : held ≡ greatest_epoch). same)
    (λ (ne : held ≢ greatest_epoch). absurd (cc (rw (ne_eqb held greatest_epoch ne) at is)))
    (cases_eq held greatest_epoch)

not_foreign : (held : ℕ) → after_epoch (Some held) ≡ Err open_fault.Foreign → ⊥
not_foreign held is = ⊎_elim
    (λ (same : held ≡ greatest_epoch). cc (rw (eq-eqb held greatest_epoch same) at is))
    (λ (ne : held ≢ greatest_epoch). cc (rw (ne_eqb held greatest_epoch ne) at is))
    (cases_eq held greatest_epoch)

pub numbered_next : (epoch : ℕ) (f g : Files) → IsNextNumber epoch f g → IsNumbered g
numbered_next epoch f g is = is.next ∙ ap (λ (e : ℕ). after_epoch (Some e)) (sym is.held)

-- ---- a restart

-- the parts of a core that a restart keeps
pub record KeepsCounts (old new : Core) : Type 0 where
  pub farm : new.farm ≡ old.farm
  pub flights : new.flights ≡ old.flights
  pub queue : new.queue.items ≡ []
  pub asked : new.asked ≡ old.asked
  pub begun : new.begun ≡ old.begun
  pub pages : (files : Files) → Agrees new.pages files

module _ (found : ℕ) (core next : Core) (facts : CoverageFacts core.farm) (air : core.flights ≡ []) (kept : KeepsCounts core next) (f g : Files) (keeps : KeepsStatFiles f g) (log : List LogEntry) (s : StandsOver found f core log) where
  abbrev LastLog : List LogEntry
  LastLog = failed_entries (flush_numbers core.queue.items) ++ log

  module _ (under : CallConditions) (restarts : under.restarts ≡ true) where
    quiet : AllAllowed core.farm under (failed_entries (flush_numbers core.queue.items)) log × (CoreStands core.farm (page_at f) (stamp_at f) (epoch_held f) [] [] core.asked core.begun core.epoch (drawn_of core) LastLog × BoundsSlices core.farm found f [] LastLog) × (is_up LastLog ≡ is_up log)
    quiet = all_failed found core.farm facts f core.asked core.begun core.epoch (drawn_of core) under restarts core.queue.items log
        (subst (λ (l : List Flight). CoreStands core.farm (page_at f) (stamp_at f) (epoch_held f) l core.queue.items core.asked core.begun core.epoch (drawn_of core) log) air s.stands, s.slices)

    idle : IsIdle LastLog
    idle = (λ n k a. quiet.1.0.flying.all n k a, λ v inv u. quiet.1.0.flushing.all v inv u)

  over : (epoch : ℕ) (last : List LogEntry) → next.epoch ≡ epoch → CoreStands core.farm (page_at g) (stamp_at g) (epoch_held g) [] [] core.asked core.begun epoch (drawn_of core) last → IsNumbered g → HasNoLaterStamp g → AreHeadsBefore (head_at g) (stamp epoch (drawn_of core)) → next.down ≡ not (is_up last) → BoundsSlices core.farm found g [] last → StandsOver found g next last
  over epoch last epoch_is stands numbered order heads down slices = record {
    stands = rw (kept.farm, kept.flights ∙ air, kept.queue, kept.asked, kept.begun, epoch_is) stands;
    numbered = numbered;
    order = order;
    formed = kept_formed f g keeps s.formed;
    heads = rw (kept.asked, kept.begun, epoch_is) heads;
    down_is = down;
    few = rw (kept.asked, kept.begun) s.few;
    slices = rw (kept.farm, kept.queue) slices;
    knows = record { agree = kept.pages g; apart = rw (kept.queue) tt };
  }

  -- it comes up
  pub up_over : (e : ℕ) → NumberSet e f g → next.epoch ≡ e → next.down ≡ false → AllAllowed core.farm (restarted_under (Ok e)) (restarted_entries (flush_numbers core.queue.items) (Ok e)) log × StandsOver found g next (restarted_entries (flush_numbers core.queue.items) (Ok e) ++ log)
  up_over e set epoch_is down_is =
      let q = quiet (restarted_under (Ok e)) refl in
      let risen = up core.farm (page_at f) (stamp_at f) (epoch_held f) core.asked core.begun core.epoch (drawn_of core) LastLog q.1.0 in
      let moved = same_files core.farm facts (page_at f) (page_at g) (stamp_at f) (stamp_at g) (λ k good. (set.beside.pages k good).page) (λ d good. set.beside.stamps d good.bytes) (epoch_held f + 1) [] [] core.asked core.begun (epoch_held f + 1) (drawn_of core) (Up (epoch_held f + 1) ∷ LastLog) risen in
      let at_e : CoreStands core.farm (page_at g) (stamp_at g) (epoch_held g) [] [] core.asked core.begun e (drawn_of core) (Up e ∷ LastLog) =
      subst (λ (x : ℕ). CoreStands core.farm (page_at g) (stamp_at g) x [] [] core.asked core.begun e (drawn_of core) (Up e ∷ LastLog)) (sym set.here.held)
      (subst (λ (x : ℕ). CoreStands core.farm (page_at g) (stamp_at g) x [] [] core.asked core.begun x (drawn_of core) (Up x ∷ LastLog)) (sym set.here.more) moved) in
      let a : last_epoch LastLog ≡ core.epoch = q.1.0.epochs.last in
      let b : core.epoch ≤ epoch_held f = q.1.0.epochs.current in
      let c : epoch_held f ≤ core.epoch + downs_since LastLog = q.1.0.epochs.risen in
      let d : 0 < core.epoch = q.1.0.epochs.first in (
        ((refl, idle (restarted_under (Ok e)) refl, subst (λ (x : ℕ). IsAboveAll x LastLog) (sym set.here.more) q.1.0.epochs.above, omega (arith, a, b, set.here.more), omega (arith, a, c, set.here.more)), q.0),
        over e (Up e ∷ LastLog) epoch_is at_e (numbered_next e f g set.here) (set.order s.order)
            (λ key h good is. before_epoch h.stamp core.epoch (drawn_of core) e (drawn_of core) (s.heads key h good (sym (set.beside.pages key good).head ∙ is)) (omega (arith, b, set.here.more))) down_is
            (names_stay core.farm found 0 f g [] LastLog (Up e ∷ LastLog) (set.again (omega (arith, b, d))) (omega arith) (λ v. refl) refl q.1.1),
      )

  -- it goes down
  module _ (fault : OpenFault) (may : MayOpen fault f g) (known : fault ≢ open_fault.NoMemory → fault ≢ open_fault.Disk → next_epoch f ≡ Err fault) where
    reason : (x : OpenFault) → (x ≢ open_fault.NoMemory → x ≢ open_fault.Disk → next_epoch f ≡ Err x) → HasFallenShort (restarted_under (Err x)) ⊎ (greatest_u64 ≤ last_epoch LastLog + downs_since LastLog)
    reason open_fault.Disk is = inl (inl refl)
    reason open_fault.NoMemory is = inl (inr refl)
    reason open_fault.Foreign is = absurd (not_foreign (epoch_held f) (sym s.numbered ∙ is (λ e. cc e) (λ e. cc e)))
    reason open_fault.EpochEnd is =
        let q = quiet (restarted_under (Err open_fault.EpochEnd)) refl in
        let end : epoch_held f ≡ greatest_u64 = end_held (epoch_held f) (sym s.numbered ∙ is (λ e. cc e) (λ e. cc e)) in
        let a : last_epoch LastLog ≡ core.epoch = q.1.0.epochs.last in
        let c : epoch_held f ≤ core.epoch + downs_since LastLog = q.1.0.epochs.risen in
        inr (omega (arith, end, a, c))

    numbered_left : IsNumbered g
    numbered_left = ⊎_elim (λ same. numbered_same f g same s.numbered) (λ h. numbered_next (epoch_held f + 1) f g h.1) may.here

    not_below : epoch_held f ≤ epoch_held g
    not_below = ⊎_elim (λ same. let is : epoch_held g ≡ epoch_held f = same.held in omega (arith, is)) (λ h. let is : epoch_held g ≡ epoch_held f + 1 = h.1.held in omega (arith, is)) may.here

    at_most : epoch_held g ≤ epoch_held f + 1
    at_most = ⊎_elim (λ same. let is : epoch_held g ≡ epoch_held f = same.held in omega (arith, is)) (λ h. let is : epoch_held g ≡ epoch_held f + 1 = h.1.held in omega (arith, is)) may.here

    pub down_over : next.epoch ≡ core.epoch → next.down ≡ true → AllAllowed core.farm (restarted_under (Err fault)) (restarted_entries (flush_numbers core.queue.items) (Err fault)) log × StandsOver found g next (restarted_entries (flush_numbers core.queue.items) (Err fault) ++ log)
    down_over epoch_is down_is =
        let q = quiet (restarted_under (Err fault)) refl in
        let fallen = down core.farm (page_at f) (stamp_at f) (epoch_held f) core.asked core.begun core.epoch (drawn_of core) LastLog q.1.0 (epoch_held g) not_below at_most in
        let moved = same_files core.farm facts (page_at f) (page_at g) (stamp_at f) (stamp_at g) (λ k good. (may.beside.pages k good).page) (λ d good. may.beside.stamps d good.bytes) (epoch_held g) [] [] core.asked core.begun core.epoch (drawn_of core) (Down ∷ LastLog) fallen in
        let b : core.epoch ≤ epoch_held f = q.1.0.epochs.current in
        let d : 0 < core.epoch = q.1.0.epochs.first in (
          ((refl, idle (restarted_under (Err fault)) refl, reason fault known), q.0),
          over core.epoch (Down ∷ LastLog) epoch_is moved numbered_left (may.order s.order) (λ key h good is. s.heads key h good (sym (may.beside.pages key good).head ∙ is)) down_is
              (names_stay core.farm found 0 f g [] LastLog (Down ∷ LastLog) (may.again (omega (arith, b, d))) (omega arith) (λ v. refl) refl q.1.1),
        )

-- ---- the same of a disk

pub comes_up : (found : ℕ) (core next : Core) → CoverageFacts core.farm → core.flights ≡ [] → KeepsCounts core next → (e : ℕ) → next.epoch ≡ e → next.down ≡ false → (told new : Option Files) → Told (NumberSet e) told new → Told KeepsStatFiles told new → ExtendsLogs core.farm (CoreStandsFor found told core) (CoreStandsFor found new next) (restarted_under (Ok e)) (restarted_entries (flush_numbers core.queue.items) (Ok e))
comes_up found core next facts air kept e epoch_is down_is None new t keeps = extends (λ log s. absurd s)
comes_up found core next facts air kept e epoch_is down_is (Some f) None t keeps = absurd t
comes_up found core next facts air kept e epoch_is down_is (Some f) (Some g) t keeps = extends (λ log s. up_over found core next facts air kept f g keeps log s e t epoch_is down_is)

pub goes_down : (found : ℕ) (core next : Core) → CoverageFacts core.farm → core.flights ≡ [] → KeepsCounts core next → (fault : OpenFault) → next.epoch ≡ core.epoch → next.down ≡ true → (told new : Option Files) → Told (MayOpen fault) told new → Told KeepsStatFiles told new
    → (fault ≢ open_fault.NoMemory → fault ≢ open_fault.Disk → IfSome told (λ f. next_epoch f ≡ Err fault)) → ExtendsLogs core.farm (CoreStandsFor found told core) (CoreStandsFor found new next) (restarted_under (Err fault)) (restarted_entries (flush_numbers core.queue.items) (Err fault))
goes_down found core next facts air kept fault epoch_is down_is None new t keeps known = extends (λ log s. absurd s)
goes_down found core next facts air kept fault epoch_is down_is (Some f) None t keeps known = absurd t
goes_down found core next facts air kept fault epoch_is down_is (Some f) (Some g) t keeps known = extends (λ log s. down_over found core next facts air kept f g keeps log s fault t known epoch_is down_is)
