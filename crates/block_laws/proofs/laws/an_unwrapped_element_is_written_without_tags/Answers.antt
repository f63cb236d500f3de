use Rattle.block_laws.proofs.Together.{as_without_tags, as_without_unwrap}
use Rattle.block_laws.proofs.laws.an_unwrapped_element_is_written_without_tags.Goals as goal

pub returns-clause-tags : goal.returns-clause-tags
returns-clause-tags c = as_without_tags

pub returns-clause-unwrap : goal.returns-clause-unwrap
returns-clause-unwrap c = as_without_unwrap
