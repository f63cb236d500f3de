use Rattle.regex_rules.proofs.TreeLemmas.{read_is_pattern, pattern_is_read, read_is_fault}
use Rattle.regex_rules.proofs.laws.the_pattern_reading_is_the_grammar.Goals as goal

pub returns-clause-found : goal.returns-clause-found
returns-clause-found c = read_is_pattern

pub returns-clause-only : goal.returns-clause-only
returns-clause-only c = pattern_is_read

pub returns-clause-fault : goal.returns-clause-fault
returns-clause-fault c = read_is_fault
