-- The tree that a text is read as is the one that it spells.
use Rattle.std.proofs.Common.{◌≡◌, ◌≢◌, ◌↔◌, ℕ, List, Option, Some, Ok, Err, Result, refl, ap, sym, ◌∙◌}
use Rattle.regex_rules.specs.declared.fault.PatternFault.{PatternFault}
use Rattle.regex_rules.specs.declared.fault.PatternFault.TheVariants.{NoMemory}
use Rattle.regex_rules.specs.declared.place.PatternPlace.{PatternPlace}
use Rattle.regex_rules.specs.Trees.{PatternTree, places_of, tree_of}
use Rattle.regex_rules.specs.Spelling.{IsPattern, strict}
use Rattle.regex_rules.specs.Reading.{read_from, unread}
use Rattle.regex_rules.specs.Deciding.{tree_if_read, pattern_tree}
use Rattle.regex_rules.proofs.LeadLemmas.{whole_read}
use Rattle.regex_rules.proofs.TreeLemmas.{spelled_is, tree_of_places}

abbrev some_tree : PatternTree → Option PatternTree
some_tree tree = Some tree

some_is : (tree other : PatternTree) → some_tree tree ≡ some_tree other → tree ≡ other
some_is tree other e = cc

pub tree_spelled : (cs : List ℕ) (tree : PatternTree) → IsPattern cs tree ↔ pattern_tree cs ≡ Some tree
unfolding pattern_tree
tree_spelled cs tree = (there, back (read_from strict 0 unread cs) refl)
  where
    there : IsPattern cs tree → tree_if_read (read_from strict 0 unread cs) ≡ Some tree
    there spelled = ap tree_if_read (whole_read strict cs tree spelled) ∙ ap some_tree (tree_of_places tree)

    back : (r : Result (List PatternPlace) PatternFault) → read_from strict 0 unread cs ≡ r → tree_if_read r ≡ Some tree → IsPattern cs tree
    back (Ok places) is e = (spelled_is cs places is tree).1 (sym (some_is (tree_of places) tree e))
    back (Err fault) is e = absurd cc

pub none_spelled : (cs : List ℕ) (fault : PatternFault) → (fault ≢ NoMemory → read_from strict 0 unread cs ≡ Err fault) → fault ≢ NoMemory → (tree : PatternTree) → IsPattern cs tree → ⊥
none_spelled cs fault e memory tree spelled = let both : Err fault ≡ Ok (places_of tree) = sym (e memory) ∙ whole_read strict cs tree spelled in cc
