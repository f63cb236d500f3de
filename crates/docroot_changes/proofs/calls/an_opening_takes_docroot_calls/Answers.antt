use Rattle.docroot_changes.proofs.CacheCalls.{open_made}
use Rattle.docroot_changes.proofs.calls.an_opening_takes_docroot_calls.Goals as goal

pub returns : goal.returns
returns c = open_made c.names_lie_in_the_docroot.ensures.epoch
