use Rattle.glob_rules.proofs.SpellingLemmas.{spelled_read, fault_read}
use Rattle.glob_rules.proofs.glob.Glob.read.Goals as goal

pub returns-clause-spelled : goal.returns-clause-spelled
returns-clause-spelled c = spelled_read c.args.text.now c.pieces_of.result c.utf8.text c.pieces_of.ensures.ok

pub returns-clause-fault : goal.returns-clause-fault
returns-clause-fault c = fault_read c.args.text.now c.pieces_of.result c.utf8.text c.pieces_of.ensures.err
