use Rattle.regex_rules.proofs.TreeLemmas.{one_tree, tree_or_fault}
use Rattle.regex_rules.proofs.laws.a_text_and_its_tree.Goals as goal

pub returns-clause-one : goal.returns-clause-one
returns-clause-one c = one_tree

pub returns-clause-either : goal.returns-clause-either
returns-clause-either c = tree_or_fault
