use Rattle.htl_blocks.proofs.Spelled.{read_is_spelled, spelled_is_read}
use Rattle.htl_blocks.proofs.FirstFault.{fault_is_first, first_is_told}
use Rattle.htl_blocks.proofs.laws.the_blocks_are_the_text.Goals as goal

pub returns-clause-found : goal.returns-clause-found
returns-clause-found c = read_is_spelled

pub returns-clause-only : goal.returns-clause-only
returns-clause-only c = spelled_is_read

pub returns-clause-fault : goal.returns-clause-fault
returns-clause-fault c = fault_is_first

pub returns-clause-only_fault : goal.returns-clause-only_fault
returns-clause-only_fault c = first_is_told
