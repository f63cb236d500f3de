use Rattle.std.proofs.Common.{refl}
use Rattle.docroot_format.proofs.InDocroot.{body_lies, head_lies, stat_lies}
use Rattle.docroot_format.proofs.laws.names_lie_in_the_docroot.Goals as goal

pub returns-clause-body : goal.returns-clause-body
returns-clause-body c = body_lies

pub returns-clause-head : goal.returns-clause-head
returns-clause-head c = head_lies

pub returns-clause-stat : goal.returns-clause-stat
returns-clause-stat c = stat_lies

pub returns-clause-epoch : goal.returns-clause-epoch
returns-clause-epoch c = refl
