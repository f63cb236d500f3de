use Rattle.block_laws.proofs.ShownLemmas.{shown_once, shown_with_list}
use Rattle.block_laws.proofs.laws.statements_of_a_tag_dont_show.Goals as goal

pub returns-clause-once : goal.returns-clause-once
returns-clause-once c = shown_once

pub returns-clause-list : goal.returns-clause-list
returns-clause-list c = shown_with_list
