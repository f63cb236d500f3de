use Rattle.docroot_changes.proofs.MadeCalls.{makes_more, makes_none, makes_one, makes_told}
use Rattle.docroot_changes.proofs.calls.docroot_calls_add_up.Goals as goal

pub returns-clause-none : goal.returns-clause-none
returns-clause-none c = makes_none

pub returns-clause-one : goal.returns-clause-one
returns-clause-one c = makes_one

pub returns-clause-more : goal.returns-clause-more
returns-clause-more c = makes_more

pub returns-clause-told : goal.returns-clause-told
returns-clause-told c = makes_told
