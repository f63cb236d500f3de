use Rattle.docroot_format.proofs.FileRoles.{body_not_beside, epoch_not_beside, head_not_beside, stat_not_beside}
use Rattle.docroot_format.proofs.laws.no_name_ends_as_one_beside.Goals as goal

pub returns-clause-body : goal.returns-clause-body
returns-clause-body c = body_not_beside

pub returns-clause-head : goal.returns-clause-head
returns-clause-head c = head_not_beside

pub returns-clause-stat : goal.returns-clause-stat
returns-clause-stat c = stat_not_beside

pub returns-clause-epoch : goal.returns-clause-epoch
returns-clause-epoch c = epoch_not_beside
