use Rattle.std.proofs.Common.{refl}
use Rattle.std.specs.Prelude.{Err, Ok}
use Rattle.docroot_changes.specs.Changes.{BesideNumber, NumberSet}
use Rattle.coherence_core.proofs.CallLemmas.{told_map}
use Rattle.coherence_core.proofs.NoteLemmas.{bare_known}
use Rattle.coherence_core.proofs.SessionLemmas.{comes_up, goes_down}
use Rattle.coherence_core.proofs.core_state.Core.restart.Goals as goal

pub returns-in-Ok-clause-log : goal.returns-in-Ok-clause-log
returns-in-Ok-clause-log g c = λ found. comes_up found c.args.self.now _ (c.coverage_by_three_facts.ensures c.args.self.now.farm) c.requires (record { farm = refl; flights = refl; queue = c.clear.ensures.items; asked = refl; begun = refl; pages = λ files. c.no_notes_agree_with_any_files.ensures.agrees _ files c.forget_all.ensures }) c.in-Ok.epoch refl refl _ _ (c.what_an_opening_sets.ensures.opened (Ok c.in-Ok.epoch) _ _ c.in-Ok.ensures.ok c.in-Ok.ensures.after) (c.puts_and_openings_keep_stat_files.ensures.opened _ _ c.in-Ok.epoch c.in-Ok.ensures.after)

pub returns-in-Ok-clause-files : goal.returns-in-Ok-clause-files
returns-in-Ok-clause-files g c = told_map (NumberSet c.in-Ok.epoch) BesideNumber _ _ (λ f h set. set.beside) (c.what_an_opening_sets.ensures.opened (Ok c.in-Ok.epoch) _ _ c.in-Ok.ensures.ok c.in-Ok.ensures.after)

pub returns-in-Err-clause-log : goal.returns-in-Err-clause-log
returns-in-Err-clause-log g c = λ found. goes_down found c.args.self.now _ (c.coverage_by_three_facts.ensures c.args.self.now.farm) c.requires (record { farm = refl; flights = refl; queue = c.clear.ensures.items; asked = refl; begun = refl; pages = λ files. c.no_notes_agree_with_any_files.ensures.agrees _ files c.forget_all.ensures }) c.in-Err.fault refl refl _ _ (c.what_an_opening_sets.ensures.stopped (Err c.in-Err.fault) _ _ _ _ c.in-Err.ensures.left) (c.puts_and_openings_keep_stat_files.ensures.opening_failed _ _ _ _ c.in-Err.fault c.in-Err.ensures.left) c.in-Err.ensures.err

pub returns-in-Ok-clause-knows : goal.returns-in-Ok-clause-knows
returns-in-Ok-clause-knows g c = bare_known _ _ c.no_notes_agree_with_any_files.ensures.agrees c.clear.ensures.items c.forget_all.ensures

pub returns-in-Err-clause-knows : goal.returns-in-Err-clause-knows
returns-in-Err-clause-knows g c = bare_known _ _ c.no_notes_agree_with_any_files.ensures.agrees c.clear.ensures.items c.forget_all.ensures
