use Rattle.regex_rules.proofs.DecidingLemmas.{tree_spelled}
use Rattle.regex_rules.proofs.laws.a_text_spells_the_tree_it_is_read_as.Goals as goal

pub returns : goal.returns
returns c = tree_spelled
