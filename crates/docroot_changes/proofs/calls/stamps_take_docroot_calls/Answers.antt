use Rattle.std.proofs.Common.{inr}
use Rattle.sp_outside.specs.Calls.{Get, Put}
use Rattle.docroot_format.specs.Names.{stat_name}
use Rattle.docroot_changes.proofs.MadeCalls.{one_made}
use Rattle.docroot_changes.proofs.calls.stamps_take_docroot_calls.Goals as goal

pub returns-clause-touched : goal.returns-clause-touched
returns-clause-touched c = λ result asked made folder bytes path.
    one_made (Put (stat_name folder) bytes) (λ answered. (inr (inr (c.names_tell_their_files.ensures.stat folder path)), c.names_lie_in_the_docroot.ensures.stat folder path)) result asked made

pub returns-clause-read : goal.returns-clause-read
returns-clause-read c = λ result asked made folder path.
    one_made (Get (stat_name folder)) (λ answered. (inr (inr (c.names_tell_their_files.ensures.stat folder path)), c.names_lie_in_the_docroot.ensures.stat folder path)) result asked made
