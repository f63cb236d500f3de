-- Steps of a walk over the places of a pattern.
use Rattle.std.proofs.Common.{◌≡◌, ◌≤◌, ◌<◌, ℕ, zero, suc, Bool, false, List, [], ◌∷◌, length, drop, get_or, ◌+◌, refl, ap, sym, ◌∙◌, arith, drop-cons, add-one}
use Rattle.std.proofs.Math.Seq.{drop-nil}
use Rattle.regex_rules.specs.declared.place.PatternPlace.{PatternPlace}
use Rattle.regex_rules.specs.declared.walk.Walk.{Walk}
use Rattle.regex_rules.specs.Walks.{walked, past_place}

pub one_walked : (c : ℕ) (place : PatternPlace) (places : List PatternPlace) (old : Bool) (olds : List Bool) (walk : Walk)
    → walked c (place ∷ places) (old ∷ olds) walk ≡ walked c places olds (past_place c place old walk)
unfolding walked
one_walked c place places old olds walk = refl

pub no_places : (c : ℕ) (olds : List Bool) (walk : Walk) → walked c [] olds walk ≡ walk
unfolding walked
no_places c olds walk = refl

no_marks : (c : ℕ) (places : List PatternPlace) (walk : Walk) → walked c places [] walk ≡ walk
unfolding walked
no_marks c [] walk = refl
no_marks c (place ∷ places) walk = refl

pub drop_past : {A : Type 0} (xs : List A) (i : ℕ) → length xs ≤ i → drop i xs ≡ []
drop_past [] i le = drop-nil i
drop_past (x ∷ xs) zero le = absurd (omega arith)
drop_past (x ∷ xs) (suc i) le = drop_past xs i (omega arith)

pub item_at : {A : Type 0} (xs : List A) (i : ℕ) (x other : A) → i < length xs → x ≡ get_or xs i other → drop i xs ≡ x ∷ drop (i + 1) xs
item_at xs i x other lt e =
    rw (add-one)
    (drop-cons xs i other lt ∙ ap (λ y. y ∷ drop (suc i) xs) (sym e))

-- the walk from a place on, past the places
pub over_places : (c : ℕ) (places : List PatternPlace) (olds : List Bool) (i : ℕ) (walk : Walk) → length places ≤ i → walked c (drop i places) (drop i olds) walk ≡ walk
over_places c places olds i walk le = ap (λ (ps : List PatternPlace). walked c ps (drop i olds) walk) (drop_past places i le) ∙ no_places c (drop i olds) walk

-- past the marks
pub over_marks : (c : ℕ) (places : List PatternPlace) (olds : List Bool) (i : ℕ) (walk : Walk) → length olds ≤ i → walked c (drop i places) (drop i olds) walk ≡ walk
over_marks c places olds i walk le = ap (λ (os : List Bool). walked c (drop i places) os walk) (drop_past olds i le) ∙ no_marks c (drop i places) walk

-- one place further
pub place_walked : (c : ℕ) (places : List PatternPlace) (olds : List Bool) (i : ℕ) (place : PatternPlace) (old : Bool) (walk : Walk) → i < length places → i < length olds
    → place ≡ get_or places i place → old ≡ get_or olds i false → walked c (drop i places) (drop i olds) walk ≡ walked c (drop (i + 1) places) (drop (i + 1) olds) (past_place c place old walk)
place_walked c places olds i place old walk lt lo e f =
    ap (λ (ps : List PatternPlace). walked c ps (drop i olds) walk) (item_at places i place place lt e)
    ∙ ap (λ (os : List Bool). walked c (place ∷ drop (i + 1) places) os walk) (item_at olds i old false lo f)
    ∙ one_walked c place (drop (i + 1) places) old (drop (i + 1) olds) walk

-- one place further, where the walk comes from
pub walked_on : (c : ℕ) (places : List PatternPlace) (olds : List Bool) (i : ℕ) (place : PatternPlace) (old : Bool) (walk next whole : Walk) → i < length places → i < length olds
    → place ≡ get_or places i place → old ≡ get_or olds i false → next ≡ past_place c place old walk → walked c (drop i places) (drop i olds) walk ≡ whole
    → walked c (drop (i + 1) places) (drop (i + 1) olds) next ≡ whole
walked_on c places olds i place old walk next whole lt lo e f g h =
    ap (walked c (drop (i + 1) places) (drop (i + 1) olds)) g ∙ sym (place_walked c places olds i place old walk lt lo e f) ∙ h
