use Rattle.std.proofs.Common.{◌++◌, ℕ, List, sym, ap, subst, ◌∙◌}
use Rattle.cache_log.specs.Entries.{LogEntry}
use Rattle.cache_log.specs.Rules.{AllAllowed, KeepsBound}
use Rattle.coherence_core.specs.Holds.{Holds, HoldsClosed}
use Rattle.coherence_core.specs.Sessions.{failed_entries}
use Rattle.front.specs.Caches.{flushing_numbers}
use Rattle.front.specs.Endings.{closed_log, closing_entries_of}
use Rattle.front.proofs.OpeningLemmas.{closing-is, no-flights-left}
use Rattle.front.proofs.laws.the_files_of_a_front_hold_its_log.Goals as goal

pub returns-clause-held : goal.returns-clause-held
returns-clause-held c = λ publishing content board files faults w s.
    let b = s.board_is.behind_is in
    subst (λ farm. Holds farm files w.log) (sym b.farm_is) (c.the_files_hold_what_stands.ensures.holds w.found files board.cache.core w.log b.core_is)

pub returns-clause-holds : goal.returns-clause-holds
returns-clause-holds c = λ publishing content board files faults w s.
    let b = s.board_is.behind_is in
    let core = board.cache.core in
    let holds = c.a_session_may_end_at_any_time.ensures.closed w.found files core w.log b.core_is in
    subst (λ farm. HoldsClosed farm files (closed_log w)) (sym b.farm_is) (subst (λ (entries : List LogEntry). HoldsClosed core.farm files (entries ++ w.log)) (closing-is _ board faults w b) holds)

pub returns-clause-allowed : goal.returns-clause-allowed
returns-clause-allowed c = λ publishing content board files faults w under s restarts.
    let b = s.board_is.behind_is in
    let core = board.cache.core in
    let allowed = c.a_session_may_end_at_any_time.ensures.allowed w.found files core w.log under b.core_is restarts in
    subst (λ farm. AllAllowed farm under (closing_entries_of w) w.log) (sym b.farm_is) (subst (λ (entries : List LogEntry). AllAllowed core.farm under entries w.log) (closing-is _ board faults w b) allowed)

pub returns-clause-bound : goal.returns-clause-bound
returns-clause-bound c = λ publishing content board files faults w s.
    let b = s.board_is.behind_is in
    subst (λ farm. KeepsBound farm w.found w.log) (sym b.farm_is) (c.the_files_hold_what_stands.ensures.bound w.found files board.cache.core w.log b.core_is)

pub returns-clause-landed : goal.returns-clause-landed
returns-clause-landed c = λ publishing content board files faults w s none.
    let b = s.board_is.behind_is in
    let core = board.cache.core in
    let holds = c.a_session_may_end_at_any_time.ensures.landed w.found files core w.log b.core_is (no-flights-left w core board.cache.flying b.flights_are (b.flying_is ∙ none)) in
    subst (λ farm. HoldsClosed farm files (failed_entries (flushing_numbers w.flushes) ++ w.log)) (sym b.farm_is) (subst (λ (numbers : List ℕ). HoldsClosed core.farm files (failed_entries numbers ++ w.log)) (b.flushes_are ∙ ap flushing_numbers b.flushing_is) holds)
