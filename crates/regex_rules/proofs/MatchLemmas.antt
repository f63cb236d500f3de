-- What a match knows between two characters of a text.
use Rattle.std.proofs.Common.{◌≡◌, ◌↔◌, ℕ, Bool, true, false, ◌||◌, List, [], ◌∷◌, ◌++◌, length, refl, ap, sym, ◌∙◌, subst, append_assoc}
use Rattle.std.specs.Prelude.{replicate}
use Rattle.std.proofs.lemmas.List.{append-nil}
use Rattle.regex_rules.specs.declared.place.PatternPlace.{PatternPlace}
use Rattle.regex_rules.specs.declared.place.PatternPlace.TheVariants.{One, Open, Bar, Close}
use Rattle.regex_rules.specs.declared.walk.Walk.{Walk}
use Rattle.regex_rules.specs.Trees.{PatternTree, Empty, Char, Bracket, Or, places_of, tree_of}
use Rattle.regex_rules.specs.Languages.{Texts, InRow, Last, Earlier, InLanguage}
use Rattle.regex_rules.specs.Walks.{walked, at, begun, walk_answer, takes_nothing}
use Rattle.regex_rules.proofs.TextLemmas.{Reach, Whole, Says, says_or, says_iff, says_false, reach_nothing, reach_or, ends_empty, cons_is_some}
use Rattle.regex_rules.proofs.WalkLemmas.{no_places}
use Rattle.regex_rules.proofs.MarkLemmas.{Right, Steps, steps}

-- ---- before the first character nothing is marked

abbrev falses : List PatternPlace → List Bool
falses [] = []
falses (place ∷ places) = false ∷ falses places

falses_append : (ps qs : List PatternPlace) → falses (ps ++ qs) ≡ falses ps ++ falses qs
falses_append [] qs = refl
falses_append (p ∷ ps) qs = ap (λ (l : List Bool). false ∷ l) (falses_append ps qs)

none_right : (rows : PatternTree) (P : Texts) → Right P rows (falses (places_of rows)) []
none_right Empty P = refl
none_right (Char rows one repeat) P = (falses (places_of rows), false, none_right rows P, says_false (reach_nothing _ _), falses_append (places_of rows) (One one repeat ∷ []))
none_right (Bracket rows inner repeat) P = (
  falses (places_of rows),
  false,
  falses (places_of inner),
  false,
  none_right rows P,
  says_false (λ s. reach_nothing _ _ s.1),
  none_right inner _,
  says_false (reach_nothing _ _),
  falses_append (places_of rows) (Open ∷ places_of inner ++ (Close repeat ∷ [])) ∙ ap (λ (l : List Bool). falses (places_of rows) ++ (false ∷ l)) (falses_append (places_of inner) (Close repeat ∷ [])),
)
none_right (Or rows) P = (falses (places_of rows), false, none_right rows P, falses_append (places_of rows) (Bar ∷ []))

falses_are : (places : List PatternPlace) → falses places ≡ replicate (length places) false
falses_are [] = refl
falses_are (place ∷ places) = ap (λ (l : List Bool). false ∷ l) (falses_are places)

-- ---- between two characters

-- the characters read so far, with the marks of the places, the answer for them, and whether there are none yet
pub record Matched (places : List PatternPlace) (olds : List Bool) (answer enters : Bool) (text rest : List ℕ) : Type 0 where
  pub w : List ℕ
  pub parts : text ≡ w ++ rest
  pub right : Right Whole (tree_of places) olds w
  pub answers : Says answer (InLanguage (tree_of places) w)
  pub begins : Says enters (Whole w)

-- the walk over all places of a tree
whole_walk : (tree : PatternTree) (w : List ℕ) (c : ℕ) (enters : Bool) (olds : List Bool) (s : Steps Whole tree w c enters olds)
    → walked c (places_of tree) olds (at (begun enters) [] []) ≡ at s.level [] s.news
whole_walk tree w c enters olds s =
    ap (λ (ps : List PatternPlace). walked c ps olds (at (begun enters) [] [])) (sym (append-nil (places_of tree)))
    ∙ ap (λ (o : List Bool). walked c (places_of tree ++ []) o (at (begun enters) [] [])) (sym (append-nil olds))
    ∙ s.walks [] [] [] [] ∙ no_places c [] (at s.level [] s.news)

pub reaches_whole : (L : Texts) (v : List ℕ) → ((v ≡ []) → ⊥) → Reach Whole L v ↔ L v
reaches_whole L v some = (there, λ l. ([], v, refl, l, some, refl))
  where
    there : Reach Whole L v → L v
    there (xs, ys, p, l, more, e) = subst L (sym (e ∙ ap (λ (t : List ℕ). t ++ ys) p)) l

pub snoc_is_some : (w : List ℕ) (c : ℕ) → (w ++ c ∷ [] ≡ []) → ⊥
snoc_is_some w c e = cons_is_some c [] (ends_empty w (c ∷ []) (sym e)).1

pub begin_matched : (places : List PatternPlace) (text : List ℕ) → places_of (tree_of places) ≡ places
    → Matched places (replicate (length places) false) (takes_nothing (walked 0 places (replicate (length places) false) (at (begun true) [] []))) true text text
begin_matched places text held =
    let tree = tree_of places in
    let olds = replicate (length places) false in
    let right : Right Whole tree olds [] = subst (λ (l : List Bool). Right Whole tree l []) (ap falses held ∙ falses_are places) (none_right tree Whole) in
    let begins : Says true (Whole []) = (λ e. refl, λ e. refl) in
    let s = steps tree Whole [] 0 true olds right begins in
    let same : walked 0 places olds (at (begun true) [] []) ≡ at s.level [] s.news =
    ap (λ (ps : List PatternPlace). walked 0 ps olds (at (begun true) [] [])) (sym held) ∙ whole_walk tree [] 0 true olds s
    in
    record {
      w = [];
      parts = refl;
      right = right;
      answers = subst (λ (b : Bool). Says b (InLanguage tree [])) (sym (ap (λ (k : Walk). takes_nothing k) same)) (says_or s.level.earlier_lacks s.level.lacks s.knows.earlier_lacks s.knows.lacks);
      begins = begins;
    }

pub more_matched : (places : List PatternPlace) (olds : List Bool) (answer enters : Bool) (text rest : List ℕ) (c : ℕ) → places_of (tree_of places) ≡ places
    → Matched places olds answer enters text (c ∷ rest)
    → Matched places (walked c places olds (at (begun enters) [] [])).marks (walk_answer (walked c places olds (at (begun enters) [] []))) false text rest
more_matched places olds answer enters text rest c held m =
    let tree = tree_of places in
    let v : List ℕ = m.w ++ c ∷ [] in
    let s = steps tree Whole m.w c enters olds m.right m.begins in
    let same : walked c places olds (at (begun enters) [] []) ≡ at s.level [] s.news =
    ap (λ (ps : List PatternPlace). walked c ps olds (at (begun enters) [] [])) (sym held) ∙ whole_walk tree m.w c enters olds s
    in
    let answers : Says (s.level.earlier_arrives || s.level.arrives) (InLanguage tree v) =
    says_iff _ (says_iff _ (says_or s.level.earlier_arrives s.level.arrives s.knows.earlier_arrives s.knows.arrives) (reach_or Whole (InRow Earlier tree) (InRow Last tree) v))
    (reaches_whole (InLanguage tree) v (snoc_is_some m.w c))
    in
    record {
      w = v;
      parts = m.parts ∙ sym (append_assoc m.w (c ∷ []) rest);
      right = subst (λ (k : Walk). Right Whole tree k.marks v) (sym same) s.right;
      answers = subst (λ (k : Walk). Says (walk_answer k) (InLanguage tree v)) (sym same) answers;
      begins = says_false (snoc_is_some m.w c);
    }

pub end_matched : (places : List PatternPlace) (olds : List Bool) (answer enters : Bool) (text : List ℕ) → Matched places olds answer enters text [] → Says answer (InLanguage (tree_of places) text)
end_matched places olds answer enters text m = subst (λ (l : List ℕ). Says answer (InLanguage (tree_of places) l)) (sym (m.parts ∙ append-nil m.w)) m.answers
