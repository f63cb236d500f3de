-- The chain in the subject's words: distinct types, 32 at most before the default type, each the super type of the one before.
use Rattle.std.proofs.Common.{◌≡◌, ◌+◌, ◌<◌, ◌≤◌, ◌⊎◌, ◌++◌, ℕ, zero, suc, Bool, true, false, cond, List, [], ◌∷◌, Option, Some, None, length, refl, sym, ◌∙◌, ap, subst, inl, inr, ⊎_elim, arith, length-append}
use Rattle.std.specs.Prelude.{slice_get}
use Rattle.std.specs.List.{before_first, IsDistinct, AllByRecursion}
use Rattle.std.proofs.lemmas.List.Folds.{list_any-append}
use Rattle.std.proofs.lemmas.Option.{same_Some}
use Rattle.sp_base.specs.declared.value.Value.{Value}
use Rattle.sp_base.proofs.BoolLemmas.{or_first, or_second, or_true}
use Rattle.resource_tree.specs.Content.{Content}
use Rattle.type_chain.specs.declared.type_name.TypeName.{TypeName}
use Rattle.type_chain.specs.Types.{same_type, type_of}
use Rattle.type_chain.specs.Chain.{chain_of, default_type, has_type, until_repeat, line, line_from, own_types, super_of, super_type, type_text, with_default}
use Rattle.type_chain.proofs.ChainLemmas.{before-cons}

-- ---- how many there are

before-length : (p : TypeName → Bool) (xs : List TypeName) → length (before_first p xs) ≤ length xs
before-length p [] = omega arith
before-length p (x ∷ xs) =
    subst (λ ys. length ys ≤ length (x ∷ xs)) (sym (before-cons p x xs))
    (elim (p x) as (λ t. length (cond t [] (x ∷ before_first p xs)) ≤ length (x ∷ xs)) [
      | true ↦ omega arith
      | false ↦ omega (arith, before-length p xs)
    ])

until-length : (xs : List TypeName) → length (until_repeat xs) ≤ length xs
until-length [] = omega arith
until-length (x ∷ xs) = omega (arith, before-length (same_type x) (until_repeat xs), until-length xs)

line-length : (tree : Content) (n : ℕ) (next : Option TypeName) → length (line tree n next) ≤ n
unfolding line
line-length tree zero next = omega arith
line-length tree (suc n) None = omega arith
line-length tree (suc n) (Some type) = omega (arith, line-length tree n (super_type tree type))

from-length : (tree : Content) (own above : Option TypeName) → length (line_from tree own above) ≤ 32
from-length tree None above = line-length tree 32 above
from-length tree (Some own) above = omega (arith, line-length tree 31 above)

own-length : (tree : Content) (props : List (List ℕ × Value)) (own : Option TypeName) → length (own_types tree props own) ≤ 32
own-length tree props own = omega (arith, until-length (line_from tree own (super_of tree props own)), from-length tree own (super_of tree props own))

with-length : (there : Bool) (types : List TypeName) → length types ≤ 32 → length (cond there types (types ++ default_type ∷ [])) ≤ 33
with-length true types h = omega (arith, h)
with-length false types h = omega (arith, h, length-append types (default_type ∷ []))

pub chain-length : (tree : Content) (props : List (List ℕ × Value)) → length (chain_of tree props) ≤ 33
unfolding chain_of
chain-length tree props =
    let types = own_types tree props (type_of (type_text props)) in
    with-length (has_type default_type types) types (own-length tree props (type_of (type_text props)))

-- ---- the default type

with-has : (there : Bool) (types : List TypeName) → has_type default_type types ≡ there → has_type default_type (cond there types (types ++ default_type ∷ [])) ≡ true
with-has true types e = e
with-has false types e = list_any-append (λ other. same_type other default_type) types (default_type ∷ []) ∙ or_true (has_type default_type types)

pub chain-default : (tree : Content) (props : List (List ℕ × Value)) → has_type default_type (chain_of tree props) ≡ true
unfolding chain_of
chain-default tree props =
    let types = own_types tree props (type_of (type_text props)) in
    with-has (has_type default_type types) types refl

-- ---- no repeats

abbrev none_same : TypeName → List TypeName → Type 0
none_same x types = AllByRecursion (λ y. same_type x y ≡ false) types

before-none_same : (x : TypeName) (xs : List TypeName) → none_same x (before_first (same_type x) xs)
before-none_same x [] = tt
before-none_same x (y ∷ xs) =
    subst (none_same x) (sym (before-cons (same_type x) y xs))
    (elim (same_type x y) as (λ t. same_type x y ≡ t → none_same x (cond t [] (y ∷ before_first (same_type x) xs))) [
      | true ↦ λ e. tt
      | false ↦ λ e. (e, before-none_same x xs)
    ] refl)

before-keeps : (x : TypeName) (p : TypeName → Bool) (xs : List TypeName) → none_same x xs → none_same x (before_first p xs)
before-keeps x p [] h = tt
before-keeps x p (y ∷ xs) h =
    subst (none_same x) (sym (before-cons p y xs))
    (elim (p y) as (λ t. none_same x (cond t [] (y ∷ before_first p xs))) [
      | true ↦ tt
      | false ↦ (h.0, before-keeps x p xs h.1)
    ])

before-distinct : (p : TypeName → Bool) (xs : List TypeName) → IsDistinct same_type xs → IsDistinct same_type (before_first p xs)
unfolding IsDistinct
before-distinct p [] h = tt
before-distinct p (y ∷ xs) h =
    subst (IsDistinct same_type) (sym (before-cons p y xs))
    (elim (p y) as (λ t. IsDistinct same_type (cond t [] (y ∷ before_first p xs))) [
      | true ↦ tt
      | false ↦ (before-keeps y p xs h.0, before-distinct p xs h.1)
    ])

until-distinct : (xs : List TypeName) → IsDistinct same_type (until_repeat xs)
unfolding IsDistinct
until-distinct [] = tt
until-distinct (x ∷ xs) = (before-none_same x (until_repeat xs), before-distinct (same_type x) (until_repeat xs) (until-distinct xs))

push-none_same : (x y : TypeName) (xs : List TypeName) → none_same x xs → same_type x y ≡ false → none_same x (xs ++ y ∷ [])
push-none_same x y [] h e = (e, tt)
push-none_same x y (z ∷ xs) h e = (h.0, push-none_same x y xs h.1 e)

push-distinct : (y : TypeName) (xs : List TypeName) → IsDistinct same_type xs → has_type y xs ≡ false → IsDistinct same_type (xs ++ y ∷ [])
unfolding IsDistinct
push-distinct y [] h none = (tt, tt)
push-distinct y (x ∷ xs) h none = (push-none_same x y xs h.0 (or_first _ _ none), push-distinct y xs h.1 (or_second _ _ none))

with-distinct : (there : Bool) (types : List TypeName) → has_type default_type types ≡ there → IsDistinct same_type types → IsDistinct same_type (cond there types (types ++ default_type ∷ []))
with-distinct true types e h = h
with-distinct false types e h = push-distinct default_type types h e

pub chain-distinct : (tree : Content) (props : List (List ℕ × Value)) → IsDistinct same_type (chain_of tree props)
unfolding chain_of
chain-distinct tree props =
    let own = type_of (type_text props) in
    let types = own_types tree props own in
    with-distinct (has_type default_type types) types refl (until-distinct (line_from tree own (super_of tree props own)))

-- ---- each the super type of the one before

before-get : (p : TypeName → Bool) (xs : List TypeName) (k : ℕ) (a : TypeName) → slice_get (before_first p xs) k ≡ Some a → slice_get xs k ≡ Some a
before-get p [] k a e = e
before-get p (x ∷ xs) zero a e =
    elim (p x) as (λ t. slice_get (cond t [] (x ∷ before_first p xs)) zero ≡ Some a → slice_get (x ∷ xs) zero ≡ Some a) [
      | true ↦ λ h. absurd (cc)
      | false ↦ λ h. h
    ] (subst (λ ys. slice_get ys zero ≡ Some a) (before-cons p x xs) e)
before-get p (x ∷ xs) (suc k) a e =
    elim (p x) as (λ t. slice_get (cond t [] (x ∷ before_first p xs)) (suc k) ≡ Some a → slice_get (x ∷ xs) (suc k) ≡ Some a) [
      | true ↦ λ h. absurd (cc)
      | false ↦ λ h. before-get p xs k a h
    ] (subst (λ ys. slice_get ys (suc k) ≡ Some a) (before-cons p x xs) e)

until-get : (xs : List TypeName) (k : ℕ) (a : TypeName) → slice_get (until_repeat xs) k ≡ Some a → slice_get xs k ≡ Some a
until-get [] k a e = e
until-get (x ∷ xs) zero a e = e
until-get (x ∷ xs) (suc k) a e = until-get xs k a (before-get (same_type x) (until_repeat xs) k a e)

line-first : (tree : Content) (n : ℕ) (next : Option TypeName) (b : TypeName) → slice_get (line tree n next) zero ≡ Some b → next ≡ Some b
unfolding line
line-first tree zero next b e = absurd (cc)
line-first tree (suc n) None b e = absurd (cc)
line-first tree (suc n) (Some type) b e = e

line-get : (tree : Content) (n : ℕ) (next : Option TypeName) (k : ℕ) (a b : TypeName) → slice_get (line tree n next) k ≡ Some a → slice_get (line tree n next) (suc k) ≡ Some b
    → super_type tree a ≡ Some b
unfolding line
line-get tree zero next k a b e f = absurd (cc)
line-get tree (suc n) None k a b e f = absurd (cc)
line-get tree (suc n) (Some type) zero a b e f = ap (super_type tree) (sym (same_Some type a e)) ∙ line-first tree n (super_type tree type) b f
line-get tree (suc n) (Some type) (suc k) a b e f = line-get tree n (super_type tree type) k a b e f

from-get : (tree : Content) (own above : Option TypeName) (k : ℕ) (a b : TypeName) → slice_get (line_from tree own above) (suc k) ≡ Some a → slice_get (line_from tree own above) (suc (suc k)) ≡ Some b
    → super_type tree a ≡ Some b
from-get tree None above k a b e f = line-get tree 32 above (suc k) a b e f
from-get tree (Some own) above k a b e f = line-get tree 31 above k a b e f

-- both are of the list, or the second is the one after it
push-pair : (d : TypeName) (types : List TypeName) (k : ℕ) (a b : TypeName) → slice_get (types ++ d ∷ []) k ≡ Some a → slice_get (types ++ d ∷ []) (suc k) ≡ Some b
    → ((slice_get types k ≡ Some a) × (slice_get types (suc k) ≡ Some b)) ⊎ (b ≡ d)
push-pair d [] zero a b e f = absurd (cc)
push-pair d [] (suc k) a b e f = absurd (cc)
push-pair d (x ∷ []) zero a b e f = inr (sym (same_Some d b f))
push-pair d (x ∷ []) (suc zero) a b e f = absurd (cc)
push-pair d (x ∷ []) (suc (suc k)) a b e f = absurd (cc)
push-pair d (x ∷ y ∷ types) zero a b e f = inl (e, f)
push-pair d (x ∷ y ∷ types) (suc k) a b e f = push-pair d (y ∷ types) k a b e f

with-pair : (there : Bool) (types : List TypeName) (k : ℕ) (a b : TypeName) → slice_get (cond there types (types ++ default_type ∷ [])) k ≡ Some a
    → slice_get (cond there types (types ++ default_type ∷ [])) (suc k) ≡ Some b → ((slice_get types k ≡ Some a) × (slice_get types (suc k) ≡ Some b)) ⊎ (b ≡ default_type)
with-pair true types k a b e f = inl (e, f)
with-pair false types k a b e f = push-pair default_type types k a b e f

pub chain-follows : (tree : Content) (props : List (List ℕ × Value)) (k : ℕ) (a b : TypeName) → 0 < k → slice_get (chain_of tree props) k ≡ Some a → slice_get (chain_of tree props) (k + 1) ≡ Some b
    → (super_type tree a ≡ Some b) ⊎ (b ≡ default_type)
unfolding chain_of
chain-follows tree props zero a b more e f = absurd (omega (arith, more))
chain-follows tree props (suc k) a b more e f =
    let own = type_of (type_text props) in
    let from = line_from tree own (super_of tree props own) in
    let types = own_types tree props own in
    let next : suc k + 1 ≡ suc (suc k) = omega arith in
    ⊎_elim
    (λ p. inl (from-get tree own (super_of tree props own) k a b (until-get from (suc k) a p.0) (until-get from (suc (suc k)) b p.1)))
    (λ d. inr d)
    (with-pair (has_type default_type types) types (suc k) a b e (subst (λ n. slice_get (with_default types) n ≡ Some b) next f))

with-first : (there : Bool) (x : TypeName) (xs : List TypeName) → slice_get (cond there (x ∷ xs) ((x ∷ xs) ++ default_type ∷ [])) 0 ≡ Some x
with-first true x xs = refl
with-first false x xs = refl

pub chain-first : (tree : Content) (props : List (List ℕ × Value)) (own : TypeName) → type_of (type_text props) ≡ Some own → slice_get (chain_of tree props) 0 ≡ Some own
unfolding chain_of
chain-first tree props own e =
    ap (λ o. slice_get (with_default (own_types tree props o)) 0) e
    ∙ with-first (has_type default_type (own_types tree props (Some own))) own (before_first (same_type own) (until_repeat (line tree 31 (super_of tree props (Some own)))))
