-- A restart cuts off each unfinished flush, and goes on or down.
use Rattle.std.proofs.Common.{◌≡◌, ℕ, ◌++◌, Bool, true, false, List, [], ◌∷◌, Option, Some, None, Result, Ok, Err, nat_eq, refl, ap, sym, subst, ◌∙◌, inl, inr, append_assoc, arith}
use Rattle.std.specs.Prelude.{if◌then◌else◌}
use Rattle.std.specs.Option.{option_map}
use Rattle.std.specs.Map.{update}
use Rattle.error_answers.specs.Errors.{error_answer}
use Rattle.sp_outside.specs.Files.{Files}
use Rattle.cache_files.specs.Epochs.{HasOpenCause}
use Rattle.cache_files.specs.declared.epoch.OpenFault.{OpenFault}
use Rattle.cache_files.specs.declared.epoch.OpenFault.TheVariants as open_fault
use Rattle.cache_log.specs.Entries.{Down as down_entry, Ended, Failed as failed_outcome, LogEntry, Up as up_entry, flights_asked, flushes_begun}
use Rattle.cache_log.specs.Rules.{Allowed, CallConditions}
use Rattle.coherence_core.specs.Cores.{ExtendsCore, CoreStandsFor, flight_labels, flights_of, flushes_of}
use Rattle.coherence_core.specs.Sessions.{failed_entries, restarted_entries, restarted_under}
use Rattle.coherence_core.specs.declared.core_state.Core.{Core}
use Rattle.connections.specs.Connections.{Connection, with_end}
use Rattle.connections.specs.Slots as model
use Rattle.connections.specs.declared.awaited.Awaited.TheVariants.{Flush as flush_awaited}
use Rattle.run_events.specs.declared.flying.Flying.{Flying}
use Rattle.run_events.specs.declared.flying.Flushing.{Flushing}
use Rattle.run_events.specs.declared.note.Note.TheVariants.{Failed}
use Rattle.run_events.specs.declared.note.Failure.TheVariants.{Restart as cut_off}
use Rattle.run_events.specs.Moves.{failure_status, flush_at, state_after_ending, state_after_note, state_after_notes, without_flush}
use Rattle.run_events.specs.States.{AirRises, RunState}
use Rattle.front.specs.Caches.{AreFlushesRising, BehindStandsFor, behind, flushing_numbers, flying_labels}
use Rattle.front.specs.Restarts.{IsReopened, IsShut, failed_notes, reopened_by}
use Rattle.front.proofs.EndingLemmas.{no-false, updated-with}
use Rattle.front.proofs.SliceLemmas.{at-first, rising-lower, without-first}

-- what the cut off flushes leave
record AreCutOff (w s : RunState) (fs : List Flushing) : Type 0 where
  log : s.log ≡ failed_entries (flushing_numbers fs) ++ w.log
  flushes : s.flushes ≡ []
  flights : s.flights ≡ w.flights
  farm : s.farm ≡ w.farm
  found : s.found ≡ w.found
  shut : IsShut s

cut-all : (w : RunState) (fs : List Flushing) (most : ℕ) → w.flushes ≡ fs → AreFlushesRising 0 fs most → IsShut w → AreCutOff w (state_after_notes w (failed_notes fs)) fs
cut-all w [] most is rising shut = record { log = refl; flushes = is; flights = refl; farm = refl; found = refl; shut = shut }
cut-all w (f ∷ fs) most is rising shut =
    let response = model.Says (error_answer (failure_status cut_off)) in
    let u = state_after_ending w f.number failed_outcome response (Some f) in
    let here : state_after_note w (Failed f.number cut_off) ≡ u = ap (state_after_ending w f.number failed_outcome response) (ap (flush_at f.number) is ∙ at-first f fs) in
    let rest = cut-all u fs most (ap (without_flush f.number) is ∙ without-first f fs most rising) (rising-lower f.number 0 fs most (omega arith) rising.1) (record { connections = λ q. closed q; count = shut.count; slicing_is = refl }) in
    subst (λ v. AreCutOff w (state_after_notes v (failed_notes fs)) (f ∷ fs)) (sym here) (record {
      log = rest.log ∙ sym (append_assoc (failed_entries (flushing_numbers fs)) (Ended f.number failed_outcome ∷ []) w.log);
      flushes = rest.flushes;
      flights = rest.flights;
      farm = rest.farm;
      found = rest.found;
      shut = rest.shut;
    })
  where
    none : (b : Bool) (o : Option Connection) → o ≡ None → (if b then option_map (with_end (flush_awaited f.number) (model.Says (error_answer (failure_status cut_off)))) o else o) ≡ None
    none true o e = rw e refl
    none false o e = e

    closed : (q : ℕ) → update nat_eq w.connection f.connection (option_map (with_end (flush_awaited f.number) (model.Says (error_answer (failure_status cut_off)))) (w.connection f.connection)) q ≡ None
    closed q = updated-with w.connection _ (with_end (flush_awaited f.number) (model.Says (error_answer (failure_status cut_off)))) f.connection q (λ x. refl) ∙ none (nat_eq q f.connection) (w.connection q) (shut.connections q)

no-labels : (w : RunState) (gs : List Flying) → [] ≡ flying_labels w.farm gs → gs ≡ []
no-labels w [] e = refl
no-labels w (g ∷ gs) e = absurd (let no : ⊥ = cc in no)

-- what a restart adds to the log, of a state that is stood for
record AreAdded (core after_ : Core) (gs : List Flying) (fs : List Flushing) (later : Option Files) (after_faults : ℕ) (w : RunState) (under : CallConditions) (entry : LogEntry) : Type 0 where
  stands : BehindStandsFor (behind (record { core = after_; flying = gs; flushes = [] }) later after_faults) (record (state_after_notes w (failed_notes fs)) { log = entry ∷ (state_after_notes w (failed_notes fs)).log })
  allowed : Allowed (state_after_notes w (failed_notes fs)).farm under entry (state_after_notes w (failed_notes fs)).log

added : (core after_ : Core) (gs : List Flying) (fs : List Flushing) (files later : Option Files) (faults after_faults : ℕ) (under : CallConditions) (entry : LogEntry) → flights_of core ≡ [] → flights_of after_ ≡ [] → flushes_of after_ ≡ [] → after_.farm ≡ core.farm
    → ExtendsCore files core later after_ under (entry ∷ failed_entries (flushes_of core)) → (w : RunState) → BehindStandsFor (behind (record { core = core; flying = gs; flushes = fs }) files faults) w → IsShut w → AreAdded core after_ gs fs later after_faults w under entry
added core after_ gs fs files later faults after_faults under entry empty flights flushes farm log w stands shut =
    let s = state_after_notes w (failed_notes fs) in
    let cut = cut-all w fs (flushes_begun w.log) (sym stands.flushing_is) stands.flushes_rise shut in
    let extends = log w.found in
    let log_is : failed_entries (flushes_of core) ++ w.log ≡ s.log = ap (λ ns. failed_entries ns ++ w.log) stands.flushes_are ∙ sym cut.log in
    let none : gs ≡ [] = no-labels w gs (sym (ap flight_labels empty) ∙ stands.flights_are) in
    record {
      stands = record {
        core_is = subst (λ n. CoreStandsFor n later after_ (entry ∷ s.log)) (sym cut.found) (subst (λ l. CoreStandsFor w.found later after_ (entry ∷ l)) log_is (extends.stands w.log stands.core_is));
        farm_is = cut.farm ∙ stands.farm_is ∙ sym farm;
        flying_is = stands.flying_is ∙ sym cut.flights;
        rising = subst (λ hs. AirRises 0 hs (flights_asked (entry ∷ s.log))) (sym none) (omega arith);
        flights_are = ap flight_labels flights ∙ sym (ap (flying_labels s.farm) none);
        flushing_is = sym cut.flushes;
        flushes_are = flushes;
        flushes_rise = omega arith;
      };
      allowed = subst (λ f. Allowed f under entry s.log) (sym (cut.farm ∙ stands.farm_is)) (subst (λ l. Allowed core.farm under entry l) log_is (extends.allowed w.log stands.core_is).0);
    }

pub reopened : (core after_ : Core) (gs : List Flying) (fs : List Flushing) (files later : Option Files) (faults after_faults : ℕ) (opened : Result ℕ OpenFault) → flights_of core ≡ [] → flights_of after_ ≡ [] → flushes_of after_ ≡ [] → after_.farm ≡ core.farm
    → ExtendsCore files core later after_ (restarted_under opened) (restarted_entries (flushes_of core) opened) → HasOpenCause faults after_faults opened
    → IsReopened (behind (record { core = core; flying = gs; flushes = fs }) files faults) (behind (record { core = after_; flying = gs; flushes = [] }) later after_faults) (reopened_by opened)
reopened core after_ gs fs files later faults after_faults (Ok epoch) empty flights flushes farm log cause =
    let one = added core after_ gs fs files later faults after_faults (restarted_under (Ok epoch)) (up_entry epoch) empty flights flushes farm log in
    record { stands = λ w stands shut. (one w stands shut).stands; ends = λ w stands shut. inl (epoch, refl, (one w stands shut).allowed); disk = cause; shows = λ w ran_out. no-false ran_out }
reopened core after_ gs fs files later faults after_faults (Err open_fault.Disk) empty flights flushes farm log cause =
    let one = added core after_ gs fs files later faults after_faults (restarted_under (Err open_fault.Disk)) down_entry empty flights flushes farm log in
    record { stands = λ w stands shut. (one w stands shut).stands; ends = λ w stands shut. inr (refl, (one w stands shut).allowed); disk = cause; shows = λ w ran_out. no-false ran_out }
reopened core after_ gs fs files later faults after_faults (Err open_fault.NoMemory) empty flights flushes farm log cause =
    let one = added core after_ gs fs files later faults after_faults (restarted_under (Err open_fault.NoMemory)) down_entry empty flights flushes farm log in
    record { stands = λ w stands shut. (one w stands shut).stands; ends = λ w stands shut. inr (refl, (one w stands shut).allowed); disk = cause; shows = λ w ran_out. tt }
reopened core after_ gs fs files later faults after_faults (Err open_fault.Foreign) empty flights flushes farm log cause =
    let one = added core after_ gs fs files later faults after_faults (restarted_under (Err open_fault.Foreign)) down_entry empty flights flushes farm log in
    record { stands = λ w stands shut. (one w stands shut).stands; ends = λ w stands shut. inr (refl, (one w stands shut).allowed); disk = cause; shows = λ w ran_out. no-false ran_out }
reopened core after_ gs fs files later faults after_faults (Err open_fault.EpochEnd) empty flights flushes farm log cause =
    let one = added core after_ gs fs files later faults after_faults (restarted_under (Err open_fault.EpochEnd)) down_entry empty flights flushes farm log in
    record { stands = λ w stands shut. (one w stands shut).stands; ends = λ w stands shut. inr (refl, (one w stands shut).allowed); disk = cause; shows = λ w ran_out. no-false ran_out }
