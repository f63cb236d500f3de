use Rattle.std.proofs.Common.{rules}
use Rattle.std.proofs.lemmas.Result.{err_from_is_err_and}
use Rattle.coherence_core.proofs.CallsOfLooks.{err_read}
use Rattle.coherence_core.proofs.page_parts.read_body.Goals as goal

pub returns-in_err-page-clause-reads : goal.returns-in_err-page-clause-reads
returns-in_err-page-clause-reads g c = record { files = search rules; cause = search rules; calls = c.pages_take_docroot_calls.ensures.known c.get_known.result _ _ c.args.key.now c.requires c.get_known.ensures.made c.get_known.ensures.left }

pub returns-in_default-clause-reads : goal.returns-in_default-clause-reads
returns-in_default-clause-reads g c = record { files = search rules; cause = search rules; calls = c.pages_take_docroot_calls.ensures.known c.get_known.result _ _ c.args.key.now c.requires c.get_known.ensures.made c.get_known.ensures.left }

pub returns-clause-reads : goal.returns-clause-reads
returns-clause-reads g c = record { files = search rules; cause = search rules; calls = c.pages_take_docroot_calls.ensures.known c.get_known.result _ _ c.args.key.now c.requires c.get_known.ensures.made c.get_known.ensures.left }

pub returns-in_err-page-clause-asks : goal.returns-in_err-page-clause-asks
returns-in_err-page-clause-asks g c =
    let p = err_from_is_err_and c.from_residual.result c.from_residual.ensures.1 in
    rw (p.1, p.2) (err_read _ _ _ _ c.in_err-page.ensures.left)
