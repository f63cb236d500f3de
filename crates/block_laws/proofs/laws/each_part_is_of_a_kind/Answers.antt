use Rattle.block_laws.proofs.PartLemmas.{each_part, only_parts}
use Rattle.block_laws.proofs.laws.each_part_is_of_a_kind.Goals as goal

pub returns-clause-each : goal.returns-clause-each
returns-clause-each c = each_part

pub returns-clause-only : goal.returns-clause-only
returns-clause-only c = only_parts
