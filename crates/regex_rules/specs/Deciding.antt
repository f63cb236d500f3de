-- Which tree a text spells, as an answer: the law `a_text_spells_the_tree_it_is_read_as` says that it is the grammar's.
use Rattle.std.specs.Prelude.{ℕ, List, Option, Some, None, Result, Ok, Err}
use Rattle.regex_rules.specs.declared.fault.PatternFault.{PatternFault}
use Rattle.regex_rules.specs.declared.place.PatternPlace.{PatternPlace}
use Rattle.regex_rules.specs.Trees.{PatternTree, tree_of}
use Rattle.regex_rules.specs.Spelling.{strict}
use Rattle.regex_rules.specs.Reading.{read_from, unread}

abbrev pub tree_if_read : Result (List PatternPlace) PatternFault → Option PatternTree
tree_if_read (Ok places) = Some (tree_of places)
tree_if_read (Err fault) = None

-- the tree of the pattern that the characters are, if they are one
unfoldable pub pattern_tree : List ℕ → Option PatternTree
pattern_tree cs = tree_if_read (read_from strict 0 unread cs)
