use Rattle.std.proofs.Common.{sym, rules}
use Rattle.std.specs.Prelude.{⊤, Err, Ok, true, false}
use Rattle.std.proofs.lemmas.Result.{err_from_is_err_and}
use Rattle.coherence_core.proofs.CallsOfLooks.{look_body, look_headfault, look_stale, look_statfault, outdated_before, stat_before}
use Rattle.coherence_core.proofs.LookLemmas.{notes_then, notes_with_body}
use Rattle.coherence_core.proofs.lookup.look_in_files.Goals as goal

pub returns-in_err-is_stale-clause-reads : goal.returns-in_err-is_stale-clause-reads
returns-in_err-is_stale-clause-reads g c = record { files = search rules; cause = search rules; calls = c.docroot_calls_add_up.ensures.more _ _ _ c.head_of.ensures.reads.calls c.is_stale.ensures.reads.calls }

pub returns-then-branch-clause-notes : goal.returns-then-branch-clause-notes
returns-then-branch-clause-notes g c = notes_then c.args.look.now (g.D.Disk.files c.args.disk.now) c.args.pages.now c.head_of.new.pages c.is_stale.new.pages c.head_of.ensures.notes (rw (sym c.head_of.ensures.reads.files) c.is_stale.ensures.notes)

pub returns-then-branch-clause-reads : goal.returns-then-branch-clause-reads
returns-then-branch-clause-reads g c = record { files = search rules; cause = search rules; calls = c.docroot_calls_add_up.ensures.more _ _ _ c.head_of.ensures.reads.calls c.is_stale.ensures.reads.calls }

pub returns-clause-notes : goal.returns-clause-notes
returns-clause-notes g c = notes_with_body c.args.look.now (g.D.Disk.files c.args.disk.now) c.args.pages.now c.head_of.new.pages c.is_stale.new.pages c.read_body.new.pages c.in-Some.head (rw (c.in-Some.is) at c.in_ok-head.ensures.value) c.head_of.ensures.notes
    (rw (sym c.head_of.ensures.reads.files) c.is_stale.ensures.notes) (rw (sym c.head_of.ensures.reads.files, sym c.is_stale.ensures.reads.files) c.read_body.ensures.agree) c.read_body.ensures.apart

pub returns-clause-reads : goal.returns-clause-reads
returns-clause-reads g c = record { files = search rules; cause = search rules; calls = c.docroot_calls_add_up.ensures.more _ _ _ c.head_of.ensures.reads.calls (c.docroot_calls_add_up.ensures.more _ _ _ c.is_stale.ensures.reads.calls c.read_body.ensures.reads.calls) }

pub returns-in_err-head-clause-asks : goal.returns-in_err-head-clause-asks
returns-in_err-head-clause-asks g c =
    let p = err_from_is_err_and c.from_residual.result c.from_residual.ensures.1 in
    rw (p.1, p.2) (look_headfault (g.D.Disk.files c.args.disk.now) _ _ c.args.pages.now c.args.look.now.farm.now c.args.look.now.key.now _ c.in_err-head.ensures.asks)

pub returns-in_err-is_stale-clause-asks : goal.returns-in_err-is_stale-clause-asks
returns-in_err-is_stale-clause-asks g c =
    let p = err_from_is_err_and c.from_residual-in_err-is_stale.result c.from_residual-in_err-is_stale.ensures.1 in
    rw (p.1, p.2) (look_statfault (g.D.Disk.files c.args.disk.now) _ _ _ c.args.pages.now c.args.look.now.farm.now c.args.look.now.key.now c.in-Some.head _ c.in_ok-head.ensures.asks (rw (c.in-Some.is) at c.in_ok-head.ensures.value) (stat_before {A = ⊤} (Err c.in_err-is_stale.field-0.0) c.args.pages.now c.head_of.new.pages c.args.look.now.farm.now c.args.look.now.key.now _ _ c.head_of.ensures.stamps c.in_err-is_stale.ensures.asks))

pub returns-then-branch-clause-asks : goal.returns-then-branch-clause-asks
returns-then-branch-clause-asks g c = look_stale (g.D.Disk.files c.args.disk.now) _ _ _ c.args.pages.now c.args.look.now.farm.now c.args.look.now.key.now c.in-Some.head _ c.in_ok-head.ensures.asks (rw (c.in-Some.is) at c.in_ok-head.ensures.value) (stat_before (Ok c.in_ok-is_stale.field-0) c.args.pages.now c.head_of.new.pages c.args.look.now.farm.now c.args.look.now.key.now _ _ c.head_of.ensures.stamps c.in_ok-is_stale.ensures.asks) (outdated_before c.args.look.now c.requires.look (g.D.Disk.files c.args.disk.now) (g.D.Disk.files c.head_of.new.disk) c.head_of.ensures.reads.files c.args.pages.now c.head_of.new.pages c.head_of.ensures.notes c.in-Some.head true (rw (c.if-branch.true) at c.in_ok-is_stale.ensures.value))

pub returns-clause-asks : goal.returns-clause-asks
returns-clause-asks g c = look_body (g.D.Disk.files c.args.disk.now) _ _ _ _ c.args.pages.now c.args.look.now.farm.now c.args.look.now.key.now c.in-Some.head c.read_body.result c.in_ok-head.ensures.asks (rw (c.in-Some.is) at c.in_ok-head.ensures.value) (stat_before (Ok c.in_ok-is_stale.field-0) c.args.pages.now c.head_of.new.pages c.args.look.now.farm.now c.args.look.now.key.now _ _ c.head_of.ensures.stamps c.in_ok-is_stale.ensures.asks) (outdated_before c.args.look.now c.requires.look (g.D.Disk.files c.args.disk.now) (g.D.Disk.files c.head_of.new.disk) c.head_of.ensures.reads.files c.args.pages.now c.head_of.new.pages c.head_of.ensures.notes c.in-Some.head false (rw (c.if-branch.false) at c.in_ok-is_stale.ensures.value)) c.requires.unknown c.read_body.ensures.asks
