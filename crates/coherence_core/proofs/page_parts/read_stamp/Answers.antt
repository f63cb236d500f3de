use Rattle.std.proofs.Common.{◌∙◌, sym, rules}
use Rattle.std.proofs.lemmas.Bool.{not-true}
use Rattle.std.proofs.lemmas.Result.{err_from_is_err_and}
use Rattle.coherence_core.proofs.CallsOfLooks.{err_read_once}
use Rattle.coherence_core.proofs.LookLemmas.{noted_stamp, stamp_read}
use Rattle.coherence_core.proofs.page_parts.read_stamp.Goals as goal

pub returns-in_err-stamp-clause-reads : goal.returns-in_err-stamp-clause-reads
returns-in_err-stamp-clause-reads g c = record { files = search rules; cause = search rules; calls = c.stamps_take_docroot_calls.ensures.read c.stamp_of.result _ _ _ c.requires.path c.stamp_of.ensures.made }

pub returns-then-may_be_noted-clause-notes : goal.returns-then-may_be_noted-clause-notes
returns-then-may_be_noted-clause-notes g c = noted_stamp c.args.look.now (c.coverage_by_three_facts.ensures c.args.look.now.farm.now) c.requires.look c.requires.auto (g.D.Disk.files c.args.disk.now) c.args.folder.now c.requires.folder c.in_ok-stamp.stamp c.args.pages.now c.note_stamp.new.pages (not-true _ (sym c.may_be_noted.ensures ∙ c.if-may_be_noted.true)) c.note_stamp.ensures (stamp_read (g.D.Disk.files c.args.disk.now) c.args.folder.now c.in_ok-stamp.stamp c.in_ok-stamp.ensures.value)

pub returns-then-may_be_noted-clause-reads : goal.returns-then-may_be_noted-clause-reads
returns-then-may_be_noted-clause-reads g c = record { files = search rules; cause = search rules; calls = c.stamps_take_docroot_calls.ensures.read c.stamp_of.result _ _ _ c.requires.path c.stamp_of.ensures.made }

pub returns-else-may_be_noted-clause-reads : goal.returns-else-may_be_noted-clause-reads
returns-else-may_be_noted-clause-reads g c = record { files = search rules; cause = search rules; calls = c.stamps_take_docroot_calls.ensures.read c.stamp_of.result _ _ _ c.requires.path c.stamp_of.ensures.made }

pub returns-in_err-stamp-clause-asks : goal.returns-in_err-stamp-clause-asks
returns-in_err-stamp-clause-asks g c =
    let p = err_from_is_err_and c.from_residual.result c.from_residual.ensures.1 in
    rw (p.1, p.2) (err_read_once _ _ _ _ c.in_err-stamp.ensures.made)
