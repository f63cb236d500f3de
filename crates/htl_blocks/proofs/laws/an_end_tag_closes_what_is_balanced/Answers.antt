use Rattle.htl_blocks.specs.Markup.{parts}
use Rattle.htl_blocks.proofs.Balance.{found_is_balanced, balanced_is_found}
use Rattle.htl_blocks.proofs.laws.an_end_tag_closes_what_is_balanced.Goals as goal

pub returns-clause-found : goal.returns-clause-found
returns-clause-found c = λ name text n. found_is_balanced name (parts text) n

pub returns-clause-only : goal.returns-clause-only
returns-clause-only c = λ name text n. balanced_is_found name (parts text) n
