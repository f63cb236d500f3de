use Rattle.htl_text.proofs.Spelled.{spelled_is_read, first_is_read, read_is_spelled, fault_is_first}
use Rattle.htl_text.proofs.laws.the_pieces_are_the_text.Goals as goal

pub returns-clause-found : goal.returns-clause-found
returns-clause-found c = let law = c.the_template_reading_is_the_grammar.ensures in read_is_spelled law.found law.only

pub returns-clause-only : goal.returns-clause-only
returns-clause-only c = let law = c.the_template_reading_is_the_grammar.ensures in spelled_is_read law.only

pub returns-clause-fault : goal.returns-clause-fault
returns-clause-fault c = let law = c.the_template_reading_is_the_grammar.ensures in fault_is_first law.found law.only

pub returns-clause-only_fault : goal.returns-clause-only_fault
returns-clause-only_fault c = let law = c.the_template_reading_is_the_grammar.ensures in first_is_read law.found law.only
