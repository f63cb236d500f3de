-- The namings of a request stand in the order of their ranks, each with its weight.
use Rattle.std.proofs.Common.{◌≡◌, ◌+◌, ◌-◌, ◌*◌, ◌<◌, ◌≤◌, ◌++◌, ℕ, zero, suc, Bool, true, false, List, [], ◌∷◌, Some, length, refl, sym, ◌∙◌, ap, subst, ⊎_elim, arith, append_assoc, append-nil}
use Rattle.std.specs.Prelude.{IsTrue, slice_get, if◌then◌else◌}
use Rattle.std.specs.List.{AllByRecursion}
use Rattle.std.proofs.lemmas.Bool.{cases_eq}
use Rattle.std.proofs.lemmas.Option.{same_Some}
use Rattle.sp_base.specs.Paths.{is_empty}
use Rattle.sp_base.proofs.NatLemmas.{not_zero, positive}
use Rattle.url_split.specs.declared.decompose.Parts.{Parts}
use Rattle.script_rank.specs.declared.naming.Naming.{Naming}
use Rattle.script_rank.specs.declared.naming.Naming.TheVariants.{SelectorsAndExtension, Selectors, LabelAndExtension, Extension, Label, Method}
use Rattle.script_rank.specs.Ranking.{IsOffered, IsAbove, IsLessInTurn, selectors_in, has_extension, has_label, is_html}
use Rattle.script_rank.specs.Search.{most_selectors, namings, with_selectors, without_selectors}

-- ---- the weight of a naming

abbrev bit : Bool → ℕ
bit true = 1
bit false = 0

abbrev low : Bool → Bool → ℕ
low extension label = 2 * bit extension + bit label

abbrev pub weight : Naming → ℕ
weight naming = 4 * selectors_in naming + low (has_extension naming) (has_label naming)

low-bound : (a b : Bool) → low a b ≤ 3
low-bound true true = omega arith
low-bound true false = omega arith
low-bound false true = omega arith
low-bound false false = omega arith

low-above : (a b : Bool) → low false b ≤ low true a
low-above true true = omega arith
low-above true false = omega arith
low-above false true = omega arith
low-above false false = omega arith

low-label : (e : Bool) → low e false ≤ low e true
low-label true = omega arith
low-label false = omega arith

above_by_extension : (e f a b : Bool) → IsAbove e f → low f b ≤ low e a
above_by_extension true false a b h = low-above a b
above_by_extension true true a b h = absurd (cc (h.1))
above_by_extension false f a b h = absurd (cc (h.0))

above_by_label : (e f a b : Bool) → e ≡ f → IsAbove a b → low f b ≤ low e a
above_by_label e f true false same h = subst (λ t. low t false ≤ low e true) same (low-label e)
above_by_label e f true true same h = absurd (cc (h.1))
above_by_label e f false b same h = absurd (cc (h.0))

same_low : (e f a b : Bool) → e ≡ f → a ≡ b → low f b ≤ low e a
same_low e f a b p q = let same : low e a ≡ low f b = ap (λ t. low t a) p ∙ ap (low f) q in omega arith

-- the heavier is not the worse
pub better-weight : (k l : Naming) (R : Type 0)
    → IsLessInTurn (selectors_in l < selectors_in k) (selectors_in k ≡ selectors_in l)
    (IsLessInTurn (IsAbove (has_extension k) (has_extension l)) (has_extension k ≡ has_extension l) (IsLessInTurn (IsAbove (has_label k) (has_label l)) (has_label k ≡ has_label l) R))
    → weight l ≤ weight k
better-weight k l R better = ⊎_elim
    (λ (more : selectors_in l < selectors_in k). omega (arith, low-bound (has_extension l) (has_label l), more))
    (λ p. ⊎_elim
    (λ above. let le = above_by_extension (has_extension k) (has_extension l) (has_label k) (has_label l) above in let same : selectors_in k ≡ selectors_in l = p.0 in omega (arith, le, same))
    (λ q. ⊎_elim
    (λ above. let le = above_by_label (has_extension k) (has_extension l) (has_label k) (has_label l) q.0 above in let same : selectors_in k ≡ selectors_in l = p.0 in omega (arith, le, same))
    (λ r. let le = same_low (has_extension k) (has_extension l) (has_label k) (has_label l) q.0 r.0 in let same : selectors_in k ≡ selectors_in l = p.0 in omega (arith, le, same))
    q.1)
    p.1)
    better

-- ---- the namings from the heaviest on

abbrev pub AllBelow : ℕ → List Naming → Type 0
AllBelow n xs = AllByRecursion (λ x. weight x < n) xs

abbrev pub Falls : List Naming → Type 0
Falls [] = Unit {0}
Falls (x ∷ xs) = AllBelow (weight x) xs × Falls xs

below-more : (m n : ℕ) (xs : List Naming) → m ≤ n → AllBelow m xs → AllBelow n xs
below-more m n [] le h = tt
below-more m n (x ∷ xs) le h = (let lt : weight x < m = h.0 in omega (arith, lt, le), below-more m n xs le h.1)

-- the namings of these selectors and what comes after
abbrev from : Bool → ℕ → List Naming → List Naming
from html k rest = with_selectors html k ++ rest

with-below : (html : Bool) (k : ℕ) (rest : List Naming) → AllBelow 4 rest → AllBelow (4 * k + 4) (from html k rest)
unfolding with_selectors
with-below html zero rest h = h
with-below true (suc k) rest h =
    (omega arith, (omega arith, below-more (4 * k + 4) (4 * suc k + 4) (from true k rest) (omega arith) (with-below true k rest h)))
with-below false (suc k) rest h =
    (omega arith, below-more (4 * k + 4) (4 * suc k + 4) (from false k rest) (omega arith) (with-below false k rest h))

with-falls : (html : Bool) (k : ℕ) (rest : List Naming) → AllBelow 4 rest → Falls rest → Falls (from html k rest)
unfolding with_selectors
with-falls html zero rest h f = f
with-falls true (suc k) rest h f =
    let below = with-below true k rest h in
    ((omega arith, below-more (4 * k + 4) (weight (SelectorsAndExtension (suc k))) (from true k rest) (omega arith) below), (below-more (4 * k + 4) (weight (Selectors (suc k))) (from true k rest) (omega arith) below, with-falls true k rest h f))
with-falls false (suc k) rest h f =
    (below-more (4 * k + 4) (weight (SelectorsAndExtension (suc k))) (from false k rest) (omega arith) (with-below false k rest h), with-falls false k rest h f)

without-below : (html : Bool) → AllBelow 4 (without_selectors html)
without-below true = (omega arith, (omega arith, (omega arith, (omega arith, tt))))
without-below false = (omega arith, (omega arith, tt))

without-falls : (html : Bool) → Falls (without_selectors html)
without-falls true = ((omega arith, (omega arith, (omega arith, tt))), ((omega arith, (omega arith, tt)), ((omega arith, tt), (tt, tt))))
without-falls false = ((omega arith, tt), (tt, tt))

pub namings-fall : (parts : Parts) → Falls (namings parts)
namings-fall parts =
    let html = is_html parts in
    elim (is_empty parts.extension) as (λ t. Falls (if t then [] else from html (most_selectors parts) (without_selectors html))) [
      | true ↦ tt
      | false ↦ with-falls html (most_selectors parts) (without_selectors html) (without-below html) (without-falls html)
    ]

below-at : (n : ℕ) (xs : List Naming) (j : ℕ) (s : Naming) → AllBelow n xs → slice_get xs j ≡ Some s → weight s < n
below-at n [] j s h e = absurd (cc)
below-at n (x ∷ xs) zero s h e = subst (λ y. weight y < n) (same_Some x s e) h.0
below-at n (x ∷ xs) (suc j) s h e = below-at n xs j s h.1 e

-- the later is the lighter
pub falls-at : (xs : List Naming) (i j : ℕ) (r s : Naming) → Falls xs → i < j → slice_get xs i ≡ Some r → slice_get xs j ≡ Some s → weight s < weight r
falls-at [] i j r s h less e f = absurd (cc)
falls-at (x ∷ xs) i zero r s h less e f = absurd (omega (arith, less))
falls-at (x ∷ xs) zero (suc j) r s h less e f = subst (λ y. weight s < weight y) (same_Some x r e) (below-at (weight x) xs j s h.0 f)
falls-at (x ∷ xs) (suc i) (suc j) r s h less e f = falls-at xs i j r s h.1 (omega (arith, less)) e f

-- ---- each of them is offered

abbrev AllOffered : Parts → List Naming → Type 0
AllOffered parts xs = AllByRecursion (IsOffered parts) xs

with-offered : (parts : Parts) (html : Bool) (k : ℕ) (rest : List Naming) → (html ≡ true → IsTrue (is_html parts)) → k ≤ length parts.selectors → AllOffered parts rest → AllOffered parts (from html k rest)
unfolding with_selectors
with-offered parts html zero rest serves le h = h
with-offered parts true (suc k) rest serves le h =
    ((omega arith, le), (((omega arith, le), serves refl), with-offered parts true k rest serves (omega (arith, le)) h))
with-offered parts false (suc k) rest serves le h = ((omega arith, le), with-offered parts false k rest serves (omega (arith, le)) h)

without-offered : (parts : Parts) (html : Bool) → (html ≡ true → IsTrue (is_html parts)) → AllOffered parts (without_selectors html)
without-offered parts true serves = (tt, (tt, (serves refl, (serves refl, tt))))
without-offered parts false serves = (tt, (tt, tt))

offered-at : (parts : Parts) (xs : List Naming) (i : ℕ) (r : Naming) → AllOffered parts xs → slice_get xs i ≡ Some r → IsOffered parts r
offered-at parts [] i r h e = absurd (cc)
offered-at parts (x ∷ xs) zero r h e = subst (IsOffered parts) (same_Some x r e) h.0
offered-at parts (x ∷ xs) (suc i) r h e = offered-at parts xs i r h.1 e

-- there is an extension, and the naming is offered
pub sound : (parts : Parts) (i : ℕ) (r : Naming) → slice_get (namings parts) i ≡ Some r → (0 < length parts.extension) × IsOffered parts r
sound parts i r e =
    let html = is_html parts in
    let all = from html (most_selectors parts) (without_selectors html) in
    elim (is_empty parts.extension) as (λ t. is_empty parts.extension ≡ t → slice_get (if t then [] else all) i ≡ Some r → (0 < length parts.extension) × IsOffered parts r) [
      | true ↦ λ none h. absurd (cc)
      | false ↦ λ some h. (
        positive (length parts.extension) some,
        offered-at parts all i r (with-offered parts html (most_selectors parts) (without_selectors html) (λ is. is) (omega arith) (without-offered parts html (λ is. is))) h,
      )
    ] refl e

-- ---- each that is offered is among them

pub record Has (r : Naming) (xs : List Naming) : Type 0 where
  pub at : ℕ
  pub here : slice_get xs at ≡ Some r

first : (r : Naming) (xs : List Naming) → Has r (r ∷ xs)
first r xs = record { at = 0; here = refl }

later : (r x : Naming) (xs : List Naming) → Has r xs → Has r (x ∷ xs)
later r x xs h = record { at = suc h.at; here = h.here }

remainder : (html : Bool) (k : ℕ) (rest : List Naming) (r : Naming) → Has r rest → Has r (from html k rest)
unfolding with_selectors
remainder html zero rest r h = h
remainder true (suc k) rest r h = later r _ _ (later r _ _ (remainder true k rest r h))
remainder false (suc k) rest r h = later r _ _ (remainder false k rest r h)

has_both : (html : Bool) (n : ℕ) (rest : List Naming) (k : ℕ) → 1 ≤ k → k ≤ n → Has (SelectorsAndExtension k) (from html n rest)
unfolding with_selectors
has_both html zero rest k some le = absurd (omega (arith, some, le))
has_both true (suc n) rest k some le = ⊎_elim
    (λ e. subst (λ m. Has (SelectorsAndExtension m) (from true (suc n) rest)) (sym e) (first _ _))
    (λ ne. later _ _ _ (later _ _ _ (has_both true n rest k some (omega (arith, le, ne)))))
    (cases_eq k (suc n))
has_both false (suc n) rest k some le = ⊎_elim
    (λ e. subst (λ m. Has (SelectorsAndExtension m) (from false (suc n) rest)) (sym e) (first _ _))
    (λ ne. later _ _ _ (has_both false n rest k some (omega (arith, le, ne))))
    (cases_eq k (suc n))

has_selectors : (n : ℕ) (rest : List Naming) (k : ℕ) → 1 ≤ k → k ≤ n → Has (Selectors k) (from true n rest)
unfolding with_selectors
has_selectors zero rest k some le = absurd (omega (arith, some, le))
has_selectors (suc n) rest k some le = ⊎_elim
    (λ e. subst (λ m. Has (Selectors m) (from true (suc n) rest)) (sym e) (later _ _ _ (first _ _)))
    (λ ne. later _ _ _ (later _ _ _ (has_selectors n rest k some (omega (arith, le, ne)))))
    (cases_eq k (suc n))

among : (parts : Parts) (html : Bool) (r : Naming) → is_html parts ≡ html → IsOffered parts r → selectors_in r ≤ 64 → Has r (from html (most_selectors parts) (without_selectors html))
among parts html (SelectorsAndExtension k) is h few = has_both html (most_selectors parts) (without_selectors html) k h.0 (omega (arith, h.1, few))
among parts true (Selectors k) is h few = has_selectors (most_selectors parts) (without_selectors true) k h.0.0 (omega (arith, h.0.1, few))
among parts false (Selectors k) is h few = let yes = h.1 in absurd (cc (is, yes))
among parts html LabelAndExtension is h few = remainder html (most_selectors parts) (without_selectors html) _ (first _ _)
among parts html Extension is h few = remainder html (most_selectors parts) (without_selectors html) _ (later _ _ _ (first _ _))
among parts true Label is h few = remainder true (most_selectors parts) (without_selectors true) _ (later _ _ _ (later _ _ _ (first _ _)))
among parts false Label is h few = absurd (cc (is, h))
among parts true Method is h few = remainder true (most_selectors parts) (without_selectors true) _ (later _ _ _ (later _ _ _ (later _ _ _ (first _ _))))
among parts false Method is h few = absurd (cc (is, h))

pub complete : (parts : Parts) (r : Naming) → 0 < length parts.extension → IsOffered parts r → selectors_in r ≤ 64 → Has r (namings parts)
complete parts r asked offered few =
    let html = is_html parts in
    subst (λ t. Has r (if t then [] else from html (most_selectors parts) (without_selectors html))) (sym (not_zero (length parts.extension) asked)) (among parts html r refl offered few)

-- ---- the namings that are added one by one

pub with_selectors-done : (html : Bool) (prefix : List Naming) → prefix ++ with_selectors html 0 ≡ prefix
unfolding with_selectors
with_selectors-done html prefix = append-nil prefix

with_selectors-less : (html : Bool) (n k : ℕ) → n ≡ suc k
    → with_selectors html n ≡ SelectorsAndExtension n ∷ (if html then Selectors n ∷ with_selectors html k else with_selectors html k)
unfolding with_selectors
with_selectors-less html n k e =
    ap (with_selectors html) e
    ∙ sym (ap (λ m. SelectorsAndExtension m ∷ (if html then Selectors m ∷ with_selectors html k else with_selectors html k)) e)

pub with_both : (html : Bool) (prefix : List Naming) (n : ℕ) → html ≡ true → 0 < n
    → ((prefix ++ SelectorsAndExtension n ∷ []) ++ Selectors n ∷ []) ++ with_selectors html (n - 1) ≡ prefix ++ with_selectors html n
with_both html prefix n is some =
    append_assoc (prefix ++ SelectorsAndExtension n ∷ []) (Selectors n ∷ []) (with_selectors html (n - 1))
    ∙ append_assoc prefix (SelectorsAndExtension n ∷ []) (Selectors n ∷ with_selectors html (n - 1))
    ∙ ap (λ more. prefix ++ SelectorsAndExtension n ∷ more)
    (sym (ap (λ t. if t then Selectors n ∷ with_selectors html (n - 1) else with_selectors html (n - 1)) is))
    ∙ ap (λ more. prefix ++ more) (sym (with_selectors-less html n (n - 1) (omega (arith, some))))

pub with_one : (html : Bool) (prefix : List Naming) (n : ℕ) → html ≡ false → 0 < n
    → (prefix ++ SelectorsAndExtension n ∷ []) ++ with_selectors html (n - 1) ≡ prefix ++ with_selectors html n
with_one html prefix n is some =
    append_assoc prefix (SelectorsAndExtension n ∷ []) (with_selectors html (n - 1))
    ∙ ap (λ more. prefix ++ SelectorsAndExtension n ∷ more)
    (sym (ap (λ t. if t then Selectors n ∷ with_selectors html (n - 1) else with_selectors html (n - 1)) is))
    ∙ ap (λ more. prefix ++ more) (sym (with_selectors-less html n (n - 1) (omega (arith, some))))
