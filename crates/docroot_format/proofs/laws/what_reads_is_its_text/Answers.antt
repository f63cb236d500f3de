use Rattle.docroot_format.proofs.Spelled.{head_spelled, stat_spelled, epoch_spelled, epoch_most}
use Rattle.docroot_format.proofs.laws.what_reads_is_its_text.Goals as goal

pub returns-clause-head : goal.returns-clause-head
returns-clause-head c = head_spelled

pub returns-clause-stat : goal.returns-clause-stat
returns-clause-stat c = stat_spelled

pub returns-clause-epoch : goal.returns-clause-epoch
returns-clause-epoch c = epoch_spelled

pub returns-clause-fits : goal.returns-clause-fits
returns-clause-fits c = epoch_most
