-- What a session leaves, wherever it ends.
use Rattle.std.proofs.Common.{◌≡◌, ◌++◌, append_assoc, ℕ, true, false, List, [], ◌∷◌, refl, sym, ◌∙◌, ap, subst, arith, eq-eqb}
use Rattle.sp_outside.specs.Files.{Files}
use Rattle.any_config.specs.declared.farm.Farm.{Farm}
use Rattle.cache_files.specs.Epochs.{epoch_held}
use Rattle.cache_files.specs.Pages.{page_at}
use Rattle.stat_files.specs.Stamps.{stamp_at}
use Rattle.flights.specs.declared.flight.Flight.{Flight}
use Rattle.flights.specs.Flights.{AreRising, numbers_of, without}
use Rattle.cache_log.specs.Entries.{LogEntry, Lost}
use Rattle.cache_log.specs.Rules.{AllAllowed, CallConditions}
use Rattle.coherence_core.specs.Bounds.{BoundsSlices}
use Rattle.coherence_core.specs.Cores.{StandsOver, drawn_of, flushes_of}
use Rattle.coherence_core.specs.Facts.{CoverageFacts}
use Rattle.coherence_core.specs.Holds.{HoldsClosed}
use Rattle.coherence_core.specs.Sessions.{closing_entries, failed_entries, lost_entries}
use Rattle.coherence_core.specs.Stands.{CoreStands}
use Rattle.coherence_core.specs.declared.core_state.Core.{Core}
use Rattle.coherence_core.specs.declared.pending.Pending.{Pending}
use Rattle.coherence_core.proofs.CallLemmas.{allowed_append}
use Rattle.coherence_core.proofs.LandingSteps.{lost}
use Rattle.coherence_core.proofs.SessionLemmas.{all_failed}
use Rattle.coherence_core.proofs.SliceBounds.{adds_none, names_stay}

-- ---- flights that are lost

without_first : (f : Flight) (fs : List Flight) → without f.number (f ∷ fs) ≡ fs
without_first f fs = (rw (eq-eqb f.number f.number refl))

module _ (found : ℕ) (farm : Farm) (files : Files) (queue : List Pending) (asked begun epoch drawn : ℕ) (under : CallConditions)
    (left : (least number most : ℕ) (flights : List Flight) → AreRising least flights most → AreRising least (without number flights) most) where
  abbrev StandsFlying : List Flight → List LogEntry → Type 0
  StandsFlying flights log = CoreStands farm (page_at files) (stamp_at files) (epoch_held files) flights queue asked begun epoch drawn log × BoundsSlices farm found files queue log

  one_lost : (f : Flight) (fs : List Flight) (log : List LogEntry) → StandsFlying (f ∷ fs) log → StandsFlying fs (Lost f.number ∷ log)
  one_lost f fs log s = (
    subst (λ (l : List Flight). CoreStands farm (page_at files) (stamp_at files) (epoch_held files) l queue asked begun epoch drawn (Lost f.number ∷ log)) (without_first f fs)
        (lost farm (page_at files) (stamp_at files) (epoch_held files) (f ∷ fs) queue asked begun epoch drawn log s.0 f.number (left 0 f.number asked (f ∷ fs) s.0.flying.rising)),
    names_stay farm found 0 files files queue log (Lost f.number ∷ log) (adds_none files) (omega arith) (λ v. refl) refl s.1,
  )

  pub all_lost : (fs : List Flight) (log : List LogEntry) → StandsFlying fs log → AllAllowed farm under (lost_entries (numbers_of fs)) log × StandsFlying [] (lost_entries (numbers_of fs) ++ log)
  all_lost [] log s = (tt, s)
  all_lost (f ∷ fs) log s =
      let rest = all_lost fs (Lost f.number ∷ log) (one_lost f fs log s) in
      let same : (lost_entries (numbers_of fs) ++ Lost f.number ∷ []) ++ log ≡ lost_entries (numbers_of fs) ++ Lost f.number ∷ log = append_assoc (lost_entries (numbers_of fs)) (Lost f.number ∷ []) log in (
        allowed_append farm under (lost_entries (numbers_of fs)) (Lost f.number ∷ []) log ((f.key, s.0.flying.each.0.in_air), tt) rest.0,
        subst (λ (l : List LogEntry). StandsFlying [] l) (sym same) rest.1,
      )

-- ---- the end of a session

module _ (found : ℕ) (files : Files) (core : Core) (log : List LogEntry) (s : StandsOver found files core log) (facts : CoverageFacts core.farm)
    (left : (least number most : ℕ) (flights : List Flight) → AreRising least flights most → AreRising least (without number flights) most) where
  abbrev lost_of : List LogEntry
  lost_of = lost_entries (numbers_of core.flights)

  abbrev failed_of : List LogEntry
  failed_of = failed_entries (flushes_of core)

  abbrev StandsClosed : List LogEntry → Type 0
  StandsClosed l = CoreStands core.farm (page_at files) (stamp_at files) (epoch_held files) [] [] core.asked core.begun core.epoch (drawn_of core) l

  module _ (under : CallConditions) (restarts : under.restarts ≡ true) where
    landed : AllAllowed core.farm under lost_of log × (CoreStands core.farm (page_at files) (stamp_at files) (epoch_held files) [] core.queue.items core.asked core.begun core.epoch (drawn_of core) (lost_of ++ log) × BoundsSlices core.farm found files core.queue.items (lost_of ++ log))
    landed = all_lost found core.farm files core.queue.items core.asked core.begun core.epoch (drawn_of core) under left core.flights log (s.stands, s.slices)

    pub closing_allowed : AllAllowed core.farm under (closing_entries core) log
    closing_allowed = allowed_append core.farm under failed_of lost_of log landed.0 (all_failed found core.farm facts files core.asked core.begun core.epoch (drawn_of core) under restarts core.queue.items (lost_of ++ log) landed.1).0

    closing_stands : StandsClosed (closing_entries core ++ log)
    closing_stands = subst StandsClosed (sym (append_assoc failed_of lost_of log)) (all_failed found core.farm facts files core.asked core.begun core.epoch (drawn_of core) under restarts core.queue.items (lost_of ++ log) landed.1).1.0

  pub closed : HoldsClosed core.farm files (closing_entries core ++ log)
  closed =
      let end = closing_stands (record { disk_failed = false; out_of_memory = false; restarts = true }) refl in
      record {
        holds = record { pages = end.holds; numbered = s.numbered; above = end.epochs.above; order = s.order; formed = s.formed };
        idle = (λ n k air. end.flying.all n k air, λ v inv u. end.flushing.all v inv u);
      }

  pub closed_landed : core.flights ≡ [] → HoldsClosed core.farm files (failed_of ++ log)
  closed_landed air = subst (λ (l : List LogEntry). HoldsClosed core.farm files l)
      (append_assoc failed_of lost_of log ∙ ap (λ (l : List Flight). failed_of ++ (lost_entries (numbers_of l) ++ log)) air)
      closed
