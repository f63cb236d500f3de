use Rattle.rule_laws.proofs.TouchedLemmas.{touched_folders, touched_in_order}
use Rattle.rule_laws.proofs.laws.touched_folders_are_above_the_handle.Goals as goal

pub returns-clause-folders : goal.returns-clause-folders
returns-clause-folders c = touched_folders

pub returns-clause-order : goal.returns-clause-order
returns-clause-order c = touched_in_order
