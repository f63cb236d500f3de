use Rattle.docroot_format.proofs.ReadBack.{head_read, stat_read, epoch_read}
use Rattle.docroot_format.proofs.laws.texts_are_read_back.Goals as goal

pub returns-clause-head : goal.returns-clause-head
returns-clause-head c = head_read

pub returns-clause-stat : goal.returns-clause-stat
returns-clause-stat c = stat_read

pub returns-clause-epoch : goal.returns-clause-epoch
returns-clause-epoch c = epoch_read
