use Rattle.std.proofs.lemmas.Result.{err_from_is_err_and}
use Rattle.std.proofs.Common.{◌≡◌, subst}
use Rattle.std.specs.Prelude.{⊤, Err}
use Rattle.cover_rules.specs.Coverage.{stat_folder}
use Rattle.sp_base.specs.Texts.{Segments}
use Rattle.coherence_core.specs.LookCalls.{AreRead, folder_file}
use Rattle.coherence_core.proofs.page_parts.is_outdated.Goals as goal

pub folder_stamp-requires-clause-stamp : goal.folder_stamp-requires-clause-stamp
folder_stamp-requires-clause-stamp g c = rw (c.in_ok-folder.ensures, c.stat_depth.ensures) ((c.coverage_by_three_facts.ensures c.args.look.now.farm.now).folder c.args.look.now.key.now c.requires.look.page)

pub returns-in_err-stat-clause-asks : goal.returns-in_err-stat-clause-asks
returns-in_err-stat-clause-asks g c =
    let p = err_from_is_err_and c.from_residual-in_err-stat.result c.from_residual-in_err-stat.ensures.1 in
    let same : c.in_ok-folder.folder ≡ stat_folder c.args.look.now.farm.now.level c.args.look.now.key.now = rw (c.in_ok-folder.ensures, c.stat_depth.ensures) in
    rw (p.1, p.2) (subst (λ (folder : Segments). AreRead {T = ⊤} (g.D.Disk.calls c.args.disk.now) (g.D.Disk.calls c.folder_stamp.new.disk) (folder_file c.args.pages.now folder) (Err c.in_err-stat.field-0.0)) same c.in_err-stat.ensures.asks)
