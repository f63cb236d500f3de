-- The places of a tree, and the tree of them.
use Rattle.std.proofs.Common.{◌≡◌, ◌≢◌, ◌↔◌, ◌⊎◌, inl, inr, ℕ, List, [], ◌∷◌, ◌++◌, Ok, Err, Result, refl, ap, sym, ◌∙◌, subst, append_assoc}
use Rattle.std.proofs.lemmas.List.{append-nil}
use Rattle.std.specs.Str.{chars}
use Rattle.regex_rules.specs.declared.place.PatternPlace.{PatternPlace}
use Rattle.regex_rules.specs.declared.place.PatternPlace.TheVariants.{One, Open, Bar, Close}
use Rattle.regex_rules.specs.declared.fault.PatternFault.{PatternFault}
use Rattle.regex_rules.specs.declared.fault.PatternFault.TheVariants.{NoMemory}
use Rattle.regex_rules.specs.Trees.{PatternTree, Empty, Char, Bracket, Or, places_of, tree_of, grown_all, innermost}
use Rattle.regex_rules.specs.Spelling.{IsPattern, strict}
use Rattle.regex_rules.specs.Faults.{IsFault}
use Rattle.regex_rules.specs.Reading.{read_from, unread, pattern_of}
use Rattle.regex_rules.proofs.LeadLemmas.{whole_read}
use Rattle.regex_rules.proofs.FaultLemmas.{Says, read_says}

grows : (tree : PatternTree) (places : List PatternPlace) (around : List PatternTree) → grown_all (places_of tree ++ places) (Empty ∷ around) ≡ grown_all places (tree ∷ around)
grows Empty places around = refl
grows (Char rows one repeat) places around =
    ap (λ (ps : List PatternPlace). grown_all ps (Empty ∷ around)) (append_assoc (places_of rows) (One one repeat ∷ []) places) ∙ grows rows (One one repeat ∷ places) around
grows (Bracket rows inner repeat) places around =
    ap (λ (ps : List PatternPlace). grown_all ps (Empty ∷ around)) (append_assoc (places_of rows) (Open ∷ places_of inner ++ (Close repeat ∷ [])) places ∙ ap (λ (ps : List PatternPlace). places_of rows ++ (Open ∷ ps)) (append_assoc (places_of inner) (Close repeat ∷ []) places))
    ∙ grows rows (Open ∷ (places_of inner ++ (Close repeat ∷ places))) around ∙ grows inner (Close repeat ∷ places) (rows ∷ around)
grows (Or rows) places around = ap (λ (ps : List PatternPlace). grown_all ps (Empty ∷ around)) (append_assoc (places_of rows) (Bar ∷ []) places) ∙ grows rows (Bar ∷ places) around

pub tree_of_places : (tree : PatternTree) → tree_of (places_of tree) ≡ tree
tree_of_places tree = ap (λ (ps : List PatternPlace). innermost (grown_all ps (Empty ∷ []))) (sym (append-nil (places_of tree))) ∙ ap innermost (grows tree [] [])

-- what is read has the places of its tree
pub read_held : (cs : List ℕ) (places : List PatternPlace) → read_from strict 0 unread cs ≡ Ok places → places_of (tree_of places) ≡ places
read_held cs places e =
    let s = read_says cs (Ok places) e in
    ap (λ (ps : List PatternPlace). places_of (tree_of ps)) s.2 ∙ ap places_of (tree_of_places s.0) ∙ sym s.2

abbrev done : List PatternPlace → Result (List PatternPlace) PatternFault
done places = Ok places

ok_is : (xs ys : List PatternPlace) → done xs ≡ done ys → xs ≡ ys
ok_is xs ys e = cc

pub spelled_is : (cs : List ℕ) (places : List PatternPlace) → read_from strict 0 unread cs ≡ Ok places → (tree : PatternTree) → IsPattern cs tree ↔ tree ≡ tree_of places
spelled_is cs places e tree = (
  λ spelled. sym (ap tree_of (sym (ok_is (places_of tree) places (sym (whole_read strict cs tree spelled) ∙ e))) ∙ tree_of_places tree),
  λ same.
      let s = read_says cs (Ok places) e in
      subst (IsPattern cs) (sym (same ∙ ap tree_of s.2 ∙ tree_of_places s.0)) s.1,
)

pub fault_is : (cs : List ℕ) (fault : PatternFault) → (fault ≢ NoMemory → read_from strict 0 unread cs ≡ Err fault) → fault ≢ NoMemory → IsFault fault cs
fault_is cs fault e memory = read_says cs (Err fault) (e memory)

pub one_tree : (cs : List ℕ) (tree other : PatternTree) → IsPattern cs tree → IsPattern cs other → tree ≡ other
one_tree cs tree other s t =
    sym (tree_of_places tree) ∙ ap tree_of (ok_is (places_of tree) (places_of other) (sym (whole_read strict cs tree s) ∙ whole_read strict cs other t)) ∙ tree_of_places other

pub tree_or_fault : (cs : List ℕ) → ((tree : PatternTree) × IsPattern cs tree) ⊎ ((fault : PatternFault) × IsFault fault cs)
tree_or_fault cs = go (read_from strict 0 unread cs) (read_says cs (read_from strict 0 unread cs) refl)
  where
    go : (answer : Result (List PatternPlace) PatternFault) → Says cs answer → ((tree : PatternTree) × IsPattern cs tree) ⊎ ((fault : PatternFault) × IsFault fault cs)
    go (Ok places) s = inl (s.0, s.1)
    go (Err fault) s = inr (fault, s)

-- ---- the places that a text is read as

pub read_is_pattern : (text : List ℕ) (places : List PatternPlace) → pattern_of text ≡ Ok places → IsPattern (chars text) (tree_of places)
unfolding pattern_of
read_is_pattern text places e =
    let s = read_says (chars text) (Ok places) e in
    subst (IsPattern (chars text)) (sym (tree_of_places s.0) ∙ ap tree_of (sym s.2)) s.1

pub pattern_is_read : (text : List ℕ) (tree : PatternTree) → IsPattern (chars text) tree → pattern_of text ≡ Ok (places_of tree)
unfolding pattern_of
pattern_is_read text tree spelled = whole_read strict (chars text) tree spelled

pub read_is_fault : (text : List ℕ) (fault : PatternFault) → pattern_of text ≡ Err fault → IsFault fault (chars text)
unfolding pattern_of
read_is_fault text fault e = read_says (chars text) (Err fault) e
