use Rattle.std.proofs.Common.{◌∙◌, sym, rules}
use Rattle.std.proofs.lemmas.Bool.{not-true}
use Rattle.std.proofs.lemmas.Result.{err_from_is_err_and}
use Rattle.coherence_core.proofs.CallsOfLooks.{err_read}
use Rattle.coherence_core.proofs.LookLemmas.{head_read, noted_head}
use Rattle.coherence_core.proofs.page_parts.read_head.Goals as goal

pub returns-in_err-head-clause-reads : goal.returns-in_err-head-clause-reads
returns-in_err-head-clause-reads g c = record { files = search rules; cause = search rules; calls = c.pages_take_docroot_calls.ensures.head c.get_head.result _ _ c.args.look.now.key.now c.requires.page c.get_head.ensures.made c.get_head.ensures.left }

pub returns-then-not-may_be_noted-clause-reads : goal.returns-then-not-may_be_noted-clause-reads
returns-then-not-may_be_noted-clause-reads g c = record { files = search rules; cause = search rules; calls = c.pages_take_docroot_calls.ensures.head c.get_head.result _ _ c.args.look.now.key.now c.requires.page c.get_head.ensures.made c.get_head.ensures.left }

pub returns-clause-notes : goal.returns-clause-notes
returns-clause-notes g c = noted_head c.args.look.now (g.D.Disk.files c.args.disk.now) c.in_ok-head.head c.args.pages.now c.note_head.new.pages (not-true _ (sym c.may_be_noted.ensures ∙ c.if-not-may_be_noted.false)) c.note_head.ensures.notes (head_read (g.D.Disk.files c.args.disk.now) c.args.look.now.key.now c.in_ok-head.head c.in_ok-head.ensures.value)

pub returns-clause-reads : goal.returns-clause-reads
returns-clause-reads g c = record { files = search rules; cause = search rules; calls = c.pages_take_docroot_calls.ensures.head c.get_head.result _ _ c.args.look.now.key.now c.requires.page c.get_head.ensures.made c.get_head.ensures.left }

pub returns-in_err-head-clause-asks : goal.returns-in_err-head-clause-asks
returns-in_err-head-clause-asks g c =
    let p = err_from_is_err_and c.from_residual.result c.from_residual.ensures.1 in
    rw (p.1, p.2) (err_read _ _ _ _ c.in_err-head.ensures.left)
