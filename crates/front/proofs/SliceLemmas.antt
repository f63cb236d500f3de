-- A slice of the oldest unfinished flush: what it leaves behind the connections.
use Rattle.std.proofs.Common.{◌≡◌, ℕ, ◌<◌, ◌≤◌, Bool, true, false, List, [], ◌∷◌, Option, Some, None, get_or, nat_eq, refl, ap, sym, subst, ◌∙◌, inl, inr, arith}
use Rattle.std.specs.Prelude.{◌==◌, IfSome, if◌then◌else◌, length}
use Rattle.std.specs.Option.{option_map}
use Rattle.std.proofs.lemmas.Bool.Decides.{nat_tests}
use Rattle.sp_base.proofs.ListLemmas.{cons_parts}
use Rattle.sp_base.proofs.NatLemmas.{nat_eq_itself}
use Rattle.error_answers.specs.Errors.{error_answer}
use Rattle.http_front.specs.Faults.{insufficient_storage}
use Rattle.sp_outside.specs.Files.{Files}
use Rattle.cache_log.specs.Entries.{Done as done_outcome, Ended as ended_entry, Failed as failed_outcome, FlushOutcome, Sliced as sliced_entry, flushes_begun}
use Rattle.cache_log.specs.Rules.{CallConditions}
use Rattle.coherence_core.specs.Cores.{ExtendsCore, KeepsFarm, flight_labels, flights_of, flushes_of}
use Rattle.coherence_core.specs.Flushes.{PurgedAs, purged_entries, purged_under}
use Rattle.coherence_core.specs.declared.answers.Purged.{Purged}
use Rattle.coherence_core.specs.declared.answers.Purged.TheVariants as purged
use Rattle.coherence_core.specs.declared.core_state.Core.{Core}
use Rattle.connections.specs.Connections.{Connection, with_end}
use Rattle.connections.specs.Slots as model
use Rattle.connections.specs.declared.awaited.Awaited.TheVariants.{Flush as flush_awaited}
use Rattle.connections.specs.declared.place.Reply.TheVariants.{Own}
use Rattle.run_events.specs.declared.conditions.Conditions.{Conditions}
use Rattle.run_events.specs.declared.flying.Flying.{Flying}
use Rattle.run_events.specs.declared.flying.Flushing.{Flushing}
use Rattle.run_events.specs.declared.note.Failure.TheVariants.{Disk, NoMemory}
use Rattle.run_events.specs.declared.note.Note.{Note}
use Rattle.run_events.specs.declared.note.Note.TheVariants as note
use Rattle.run_events.specs.Moves.{GivesSlice, flush_at, state_after_ending, state_after_note, without_flush}
use Rattle.run_events.specs.States.{RunState}
use Rattle.front.specs.Caches.{Allows, AreFlushesRising, BehindStandsFor, HasNoteCause, IsPurging, behind, flushing_numbers, left_after, only_disk, slice_end_of, with_end_if}
use Rattle.front.specs.declared.answered.Ended.{Ended}
use Rattle.front.proofs.EndingLemmas.{ending-in, no-false, updated-with}
use Rattle.sp_outside.specs.Causes.{IsDiskFailure}

-- ---- numbers of flushes
pub rising-lower : (a b : ℕ) (fs : List Flushing) (most : ℕ) → b ≤ a → AreFlushesRising a fs most → AreFlushesRising b fs most
rising-lower a b [] most l rising = omega (arith, l, rising)
rising-lower a b (f ∷ fs) most l rising = (omega (arith, l, rising.0), rising.1)

-- those with higher numbers stay
apart-flushes : (n least : ℕ) (fs : List Flushing) (most : ℕ) → n ≤ least → AreFlushesRising least fs most → without_flush n fs ≡ fs
apart-flushes n least [] most l rising = refl
apart-flushes n least (f ∷ fs) most l rising =
    let above : n < f.number = omega (arith, l, rising.0) in
    let no : nat_eq f.number n ≡ false = grind (arith, nat_tests, above) in
    rw no (ap (λ gs. f ∷ gs) (apart-flushes n f.number fs most (omega (arith, above)) rising.1))

pub without-first : (f : Flushing) (fs : List Flushing) (most : ℕ) → AreFlushesRising 0 (f ∷ fs) most → without_flush f.number (f ∷ fs) ≡ fs
without-first f fs most rising = rw (nat_eq_itself f.number) (apart-flushes f.number f.number fs most (omega arith) rising.1)

pub at-first : (f : Flushing) (fs : List Flushing) → flush_at f.number (f ∷ fs) ≡ Some f
at-first f fs = rw (nat_eq_itself f.number) refl

-- ---- what a slice leaves
-- what is known before the slice of the oldest flush
record IsSliced (core after_ : Core) (gs : List Flying) (f : Flushing) (fs : List Flushing) (files later : Option Files) (faults : ℕ) (w : RunState) : Type 0 where
  stands : BehindStandsFor (behind (record { core = core; flying = gs; flushes = f ∷ fs }) files faults) w
  flights : flights_of after_ ≡ flights_of core
  farm : KeepsFarm core after_

-- the flush goes on
slice-more : (core after_ : Core) (gs : List Flying) (f : Flushing) (fs : List Flushing) (files later : Option Files) (faults after_faults : ℕ) (w : RunState) (v : ℕ) → IsSliced core after_ gs f fs files later faults w
    → PurgedAs (purged.More v) (flushes_of core) (flushes_of after_) → ExtendsCore files core later after_ (purged_under (purged.More v)) (sliced_entry v ∷ []) → after_faults ≡ faults
    → IsPurging w (record { note = note.Sliced f.number; conditions = only_disk false; connection = f.connection; awaited = flush_awaited f.number; reply = None })
    (behind (record { core = core; flying = gs; flushes = f ∷ fs }) files faults) (behind (record { core = after_; flying = gs; flushes = f ∷ fs }) later after_faults)
slice-more core after_ gs f fs files later faults after_faults w v is purge log told =
    let stands = is.stands in
    let number : v ≡ f.number = (cons_parts v f.number purge.1.0 (flushing_numbers fs) (sym purge.1.1 ∙ stands.flushes_are)).0 in
    let extends = subst (λ n. ExtendsCore files core later after_ (purged_under (purged.More v)) (sliced_entry n ∷ [])) number log w.found in
    record {
      flush = f;
      later = fs;
      flushes_are = sym stands.flushing_is;
      waits = refl;
      gives = λ m allows. inr (inl refl);
      ending = ending-in w (record { note = note.Sliced f.number; conditions = only_disk false; connection = f.connection; awaited = flush_awaited f.number; reply = None }) faults (behind (record { core = after_; flying = gs; flushes = f ∷ fs }) later after_faults)
          (record w { slicing = None; log = sliced_entry f.number ∷ w.log }) refl (record { disk = told; spoils = λ no. absurd no; shows = λ ran_out. no-false ran_out })
          (record {
            core_is = extends.stands w.log stands.core_is;
            farm_is = stands.farm_is ∙ sym is.farm.farm;
            flying_is = stands.flying_is;
            rising = stands.rising;
            flights_are = ap flight_labels is.flights ∙ stands.flights_are;
            flushing_is = stands.flushing_is;
            flushes_are = purge.0 ∙ stands.flushes_are;
            flushes_rise = stands.flushes_rise;
          })
          refl None tt (λ q. unchanged (nat_eq q f.connection) (w.connection q)) refl;
    }
  where
    unchanged : (b : Bool) (o : Option Connection) → o ≡ (if b then option_map (with_end_if (flush_awaited f.number) None) o else o)
    unchanged true None = refl
    unchanged true (Some x) = refl
    unchanged false o = refl

-- the flush has ended, and its connection has the answer of this status
slice-last : (core after_ : Core) (gs : List Flying) (f : Flushing) (fs : List Flushing) (files later : Option Files) (faults after_faults : ℕ) (w : RunState) (v status : ℕ) (outcome : FlushOutcome) (under : CallConditions) (told : Conditions) (n : Note) → IsSliced core after_ gs f fs files later faults w
    → flushes_of core ≡ v ∷ flushes_of after_ → ExtendsCore files core later after_ under (ended_entry v outcome ∷ []) → HasNoteCause faults after_faults told w n
    → state_after_note w n ≡ state_after_ending w f.number outcome (model.Says (error_answer status)) (flush_at f.number w.flushes) → ((m : Conditions) → Allows told m → GivesSlice m f.number n)
    → IsPurging w (record { note = n; conditions = told; connection = f.connection; awaited = flush_awaited f.number; reply = Some (Own status) })
    (behind (record { core = core; flying = gs; flushes = f ∷ fs }) files faults) (behind (record { core = after_; flying = gs; flushes = fs }) later after_faults)
slice-last core after_ gs f fs files later faults after_faults w v status outcome under told n is purge log cause state gives =
    let stands = is.stands in
    let numbers = cons_parts v f.number (flushes_of after_) (flushing_numbers fs) (sym purge ∙ stands.flushes_are) in
    let extends = subst (λ k. ExtendsCore files core later after_ under (ended_entry k outcome ∷ [])) numbers.0 log w.found in
    let found : flush_at f.number w.flushes ≡ Some f = ap (flush_at f.number) (sym stands.flushing_is) ∙ at-first f fs in
    let left : without_flush f.number w.flushes ≡ fs = ap (without_flush f.number) (sym stands.flushing_is) ∙ without-first f fs (flushes_begun w.log) stands.flushes_rise in
    record {
      flush = f;
      later = fs;
      flushes_are = sym stands.flushing_is;
      waits = refl;
      gives = gives;
      ending = ending-in w (record { note = n; conditions = told; connection = f.connection; awaited = flush_awaited f.number; reply = Some (Own status) }) faults (behind (record { core = after_; flying = gs; flushes = fs }) later after_faults)
          (state_after_ending w f.number outcome (model.Says (error_answer status)) (Some f)) (state ∙ ap (state_after_ending w f.number outcome (model.Says (error_answer status))) found) cause
          (record {
            core_is = extends.stands w.log stands.core_is;
            farm_is = stands.farm_is ∙ sym is.farm.farm;
            flying_is = stands.flying_is;
            rising = stands.rising;
            flights_are = ap flight_labels is.flights ∙ stands.flights_are;
            flushing_is = sym left;
            flushes_are = numbers.1;
            flushes_rise = rising-lower f.number 0 fs (flushes_begun w.log) (omega arith) stands.flushes_rise.1;
          })
          refl (Some (model.Says (error_answer status))) refl
          (λ q. updated-with w.connection (with_end (flush_awaited f.number) (model.Says (error_answer status))) (with_end_if (flush_awaited f.number) (Some (model.Says (error_answer status)))) f.connection q (λ x. refl)) refl;
    }

-- a slice of the oldest flush
by-purged : (core after_ : Core) (gs : List Flying) (f : Flushing) (fs : List Flushing) (files later : Option Files) (faults after_faults : ℕ) (w : RunState) (out : Purged) → IsSliced core after_ gs f fs files later faults w
    → PurgedAs out (flushes_of core) (flushes_of after_) → ExtendsCore files core later after_ (purged_under out) (purged_entries out) → IsDiskFailure faults after_faults (purged_under out).disk_failed
    → IfSome (slice_end_of f out) (λ ended. IsPurging w ended (behind (record { core = core; flying = gs; flushes = f ∷ fs }) files faults) (behind (record { core = after_; flying = gs; flushes = left_after out (f ∷ fs) }) later after_faults))
by-purged core after_ gs f fs files later faults after_faults w purged.Idle is purge log told = tt
by-purged core after_ gs f fs files later faults after_faults w (purged.More v) is purge log told = slice-more core after_ gs f fs files later faults after_faults w v is purge log told
by-purged core after_ gs f fs files later faults after_faults w (purged.Done v) is purge log told =
    slice-last core after_ gs f fs files later faults after_faults w v 200 done_outcome (purged_under (purged.Done v)) (only_disk false) (note.Done f.number) is purge log (record { disk = told; spoils = λ no. absurd no; shows = λ ran_out. no-false ran_out }) refl (λ m allows. inl refl)
by-purged core after_ gs f fs files later faults after_faults w (purged.Failed v) is purge log told =
    slice-last core after_ gs f fs files later faults after_faults w v 500 failed_outcome (purged_under (purged.Failed v)) (only_disk true) (note.Failed f.number Disk) is purge log (record { disk = told; spoils = λ spoilt. refl; shows = λ ran_out. no-false ran_out }) refl
    (λ m allows. inr (inr (inl (refl, allows.disk_failed refl))))
by-purged core after_ gs f fs files later faults after_faults w (purged.NoMemory v) is purge log told =
    slice-last core after_ gs f fs files later faults after_faults w v insufficient_storage failed_outcome (purged_under (purged.NoMemory v)) (record { disk_failed = false; out_of_memory = true }) (note.Failed f.number NoMemory) is purge log
    (record { disk = told; spoils = λ spoilt. absurd (let no : ⊥ = cc in no); shows = λ ran_out. refl }) refl (λ m allows. inr (inr (inr (refl, allows.out_of_memory refl))))

-- of each state that is stood for
pub slice-ends : (core after_ : Core) (gs : List Flying) (flushes : List Flushing) (f : Flushing) (files later : Option Files) (faults after_faults : ℕ) (out : Purged) → f ≡ get_or flushes 0 f → (flushes ≡ [] → ⊥) → flights_of after_ ≡ flights_of core → KeepsFarm core after_
    → PurgedAs out (flushes_of core) (flushes_of after_) → ExtendsCore files core later after_ (purged_under out) (purged_entries out) → IsDiskFailure faults after_faults (purged_under out).disk_failed
    → IfSome (slice_end_of f out) (λ ended. (w : RunState) → BehindStandsFor (behind (record { core = core; flying = gs; flushes = flushes }) files faults) w → IsPurging w ended (behind (record { core = core; flying = gs; flushes = flushes }) files faults) (behind (record { core = after_; flying = gs; flushes = left_after out flushes }) later after_faults))
slice-ends core after_ gs [] f files later faults after_faults out first some flights farm purge log told = absurd (some refl)
slice-ends core after_ gs (g ∷ fs) f files later faults after_faults out first some flights farm purge log told = by_end (slice_end_of f out) refl
  where
    one : (w : RunState) → BehindStandsFor (behind (record { core = core; flying = gs; flushes = g ∷ fs }) files faults) w
        → IfSome (slice_end_of f out) (λ ended. IsPurging w ended (behind (record { core = core; flying = gs; flushes = g ∷ fs }) files faults) (behind (record { core = after_; flying = gs; flushes = left_after out (g ∷ fs) }) later after_faults))
    one w stands = subst (λ h. IfSome (slice_end_of h out) (λ ended. IsPurging w ended (behind (record { core = core; flying = gs; flushes = g ∷ fs }) files faults) (behind (record { core = after_; flying = gs; flushes = left_after out (g ∷ fs) }) later after_faults))) (sym first)
        (by-purged core after_ gs g fs files later faults after_faults w out (record { stands = stands; flights = flights; farm = farm }) purge log told)

    by_end : (o : Option Ended) → slice_end_of f out ≡ o
        → IfSome o (λ ended. (w : RunState) → BehindStandsFor (behind (record { core = core; flying = gs; flushes = g ∷ fs }) files faults) w → IsPurging w ended (behind (record { core = core; flying = gs; flushes = g ∷ fs }) files faults) (behind (record { core = after_; flying = gs; flushes = left_after out (g ∷ fs) }) later after_faults))
    by_end None is = tt
    by_end (Some ended) is = λ w stands. subst (λ o. IfSome o (λ (e : Ended). IsPurging w e (behind (record { core = core; flying = gs; flushes = g ∷ fs }) files faults) (behind (record { core = after_; flying = gs; flushes = left_after out (g ∷ fs) }) later after_faults))) is (one w stands)

pub some-flushes : (flushes : List Flushing) → (length flushes == 0) ≡ false → flushes ≡ [] → ⊥
some-flushes flushes some none = let empty : (length flushes == 0) ≡ true = rw none refl in let no : ⊥ = cc in no
