-- Types up to the first repeat, taken one after another.
use Rattle.std.proofs.Common.{◌≡◌, ◌+◌, ◌-◌, ◌<◌, ◌≤◌, ◌++◌, ℕ, zero, suc, Bool, true, false, not, cond, ◌||◌, List, [], ◌∷◌, Option, Some, None, length, take, refl, sym, ◌∙◌, ap, subst, arith, append_assoc, append-nil, length-append, lit≤}
use Rattle.std.specs.Prelude.{option_and_then}
use Rattle.std.proofs.lemmas.List.Folds.{list_any-append}
use Rattle.std.specs.List.{before_first, position_or_len}
use Rattle.sp_base.specs.declared.value.Value.{Value}
use Rattle.resource_tree.specs.Content.{Content}
use Rattle.type_chain.specs.declared.type_name.TypeName.{TypeName}
use Rattle.type_chain.specs.Types.{same_type, type_of}
use Rattle.type_chain.specs.Chain.{has_type, until_repeat, line, own_types, super_of, super_text, super_type}
use Rattle.type_chain.specs.ScriptPlaces.{only}

-- the types before the first that is among the earlier ones, or repeats one of these
abbrev pub fresh : List TypeName → List TypeName → List TypeName
fresh seen [] = []
fresh seen (type ∷ types) = cond (has_type type seen) [] (type ∷ fresh (seen ++ type ∷ []) types)

take_one_more : (n : ℕ) (x : TypeName) (xs : List TypeName) → take (1 + n) (x ∷ xs) ≡ x ∷ take n xs
take_one_more n x xs = let e : 1 + n ≡ suc n = omega arith in ap (λ k. take k (x ∷ xs)) e

pub before-cons : (p : TypeName → Bool) (x : TypeName) (xs : List TypeName) → before_first p (x ∷ xs) ≡ cond (p x) [] (x ∷ before_first p xs)
before-cons p x xs =
    elim (p x) as (λ t. take (cond (not t) (1 + position_or_len p xs) 0) (x ∷ xs) ≡ cond t [] (x ∷ before_first p xs)) [
      | true ↦ refl
      | false ↦ take_one_more (position_or_len p xs) x xs
    ]

before-before-cons : (a b : Bool) (x : TypeName) (p : TypeName → Bool) (xs more : List TypeName) → p x ≡ a → before_first p xs ≡ more
    → before_first p (cond b [] (x ∷ xs)) ≡ cond (a || b) [] (x ∷ more)
before-before-cons true true x p xs more e h = refl
before-before-cons false true x p xs more e h = refl
before-before-cons true false x p xs more e h = before-cons p x xs ∙ ap (λ t. cond t [] (x ∷ before_first p xs)) e
before-before-cons false false x p xs more e h = before-cons p x xs ∙ ap (λ t. cond t [] (x ∷ before_first p xs)) e ∙ ap (λ ys. x ∷ ys) h

-- before the first of one kind, and of these before the first of another
before-before : (p q : TypeName → Bool) (xs : List TypeName) → before_first p (before_first q xs) ≡ before_first (λ y. p y || q y) xs
before-before p q [] = refl
before-before p q (x ∷ xs) =
    ap (before_first p) (before-cons q x xs)
    ∙ before-before-cons (p x) (q x) x p (before_first q xs) (before_first (λ y. p y || q y) xs) refl (before-before p q xs)
    ∙ sym (before-cons (λ y. p y || q y) x xs)

before_same : (p q : TypeName → Bool) (xs : List TypeName) → ((x : TypeName) → p x ≡ q x) → before_first p xs ≡ before_first q xs
before_same p q [] same = refl
before_same p q (x ∷ xs) same =
    before-cons p x xs ∙ ap (λ t. cond t [] (x ∷ before_first p xs)) (same x) ∙ ap (λ ys. cond (q x) [] (x ∷ ys)) (before_same p q xs same) ∙ sym (before-cons q x xs)

or_false : (a b : Bool) → (a || (b || false)) ≡ (a || b)
or_false true b = refl
or_false false true = refl
or_false false false = refl

has_type-push : (seen : List TypeName) (x y : TypeName) → has_type y (seen ++ x ∷ []) ≡ (has_type y seen || same_type x y)
has_type-push seen x y = list_any-append (λ other. same_type other y) seen (x ∷ []) ∙ or_false (has_type y seen) (same_type x y)

pub fresh_is : (seen types : List TypeName) → fresh seen types ≡ before_first (λ y. has_type y seen) (until_repeat types)
fresh_is seen [] = refl
fresh_is seen (x ∷ types) =
    ap (λ more. cond (has_type x seen) [] (x ∷ more))
    (fresh_is (seen ++ x ∷ []) types
    ∙ before_same (λ y. has_type y (seen ++ x ∷ [])) (λ y. has_type y seen || same_type x y) (until_repeat types) (has_type-push seen x)
    ∙ sym (before-before (λ y. has_type y seen) (same_type x) (until_repeat types)))
    ∙ sym (before-cons (λ y. has_type y seen) x (before_first (same_type x) (until_repeat types)))

before_none : (p : TypeName → Bool) (xs : List TypeName) → ((x : TypeName) → p x ≡ false) → before_first p xs ≡ xs
before_none p [] none = refl
before_none p (x ∷ xs) none = before-cons p x xs ∙ ap (λ t. cond t [] (x ∷ before_first p xs)) (none x) ∙ ap (λ ys. x ∷ ys) (before_none p xs none)

-- with none before, the types up to the first repeat
pub fresh-none : (types : List TypeName) → fresh [] types ≡ until_repeat types
fresh-none types = fresh_is [] types ∙ before_none (λ y. has_type y []) (until_repeat types) (λ x. refl)

-- ---- the types so far, and what of the line is left

-- what is left of the line, up to the first repeat, comes after the types so far
pub record Goes (tree : Content) (props : List (List ℕ × Value)) (own : Option TypeName) (types : List TypeName) (next : Option TypeName) : Type 0 where
  pub few : length types ≤ 32
  pub rest : types ++ fresh types (line tree (32 - length types) next) ≡ own_types tree props own

begins : (tree : Content) (props : List (List ℕ × Value)) → Goes tree props None [] (super_of tree props None)
begins tree props = record { few = lit≤ tt; rest = fresh-none (line tree 32 (super_of tree props None)) }

begins_with : (tree : Content) (props : List (List ℕ × Value)) (type : TypeName) → Goes tree props (Some type) (type ∷ []) (super_of tree props (Some type))
begins_with tree props type = record { few = lit≤ tt; rest = fresh-none (type ∷ line tree 31 (super_of tree props (Some type))) }

pub begins_only : (tree : Content) (props : List (List ℕ × Value)) (own : Option TypeName) → Goes tree props own (only own) (super_of tree props own)
begins_only tree props None = begins tree props
begins_only tree props (Some type) = begins_with tree props type

pub super_is : (tree : Content) (type : TypeName) (text : Option (List ℕ)) → text ≡ super_text tree type → option_and_then type_of text ≡ super_type tree type
unfolding super_type
super_is tree type text e = ap (option_and_then type_of) e

line-more : (tree : Content) (n k : ℕ) (type : TypeName) → n ≡ suc k → line tree n (Some type) ≡ type ∷ line tree k (super_type tree type)
unfolding line
line-more tree n k type e = ap (λ m. line tree m (Some type)) e

pub steps : (tree : Content) (props : List (List ℕ × Value)) (own : Option TypeName) (types : List TypeName) (type : TypeName) → Goes tree props own types (Some type)
    → length types < 32 → has_type type types ≡ false → Goes tree props own (types ++ type ∷ []) (super_type tree type)
steps tree props own types type goes room new =
    let n = 32 - length types in
    let k = 32 - length (types ++ type ∷ []) in
    let size : length (types ++ type ∷ []) ≡ length types + 1 = length-append types (type ∷ []) in
    let one : n ≡ suc k = omega (arith, size, room) in
    let more = line tree k (super_type tree type) in
    let taken : fresh types (line tree n (Some type)) ≡ type ∷ fresh (types ++ type ∷ []) more =
    ap (fresh types) (line-more tree n k type one) ∙ ap (λ t. cond t [] (type ∷ fresh (types ++ type ∷ []) more)) new in
    record {
      few = omega (arith, size, room);
      rest = append_assoc types (type ∷ []) (fresh (types ++ type ∷ []) more) ∙ ap (λ left. types ++ left) (sym taken) ∙ goes.rest;
    }

line-none : (tree : Content) (n : ℕ) → line tree n None ≡ []
unfolding line
line-none tree zero = refl
line-none tree (suc n) = refl

line-zero : (tree : Content) (n : ℕ) (next : Option TypeName) → n ≡ 0 → line tree n next ≡ []
unfolding line
line-zero tree n next e = ap (λ m. line tree m next) e

fresh-repeat : (tree : Content) (n : ℕ) (seen : List TypeName) (type : TypeName) → has_type type seen ≡ true → fresh seen (line tree n (Some type)) ≡ []
unfolding line
fresh-repeat tree zero seen type old = refl
fresh-repeat tree (suc n) seen type old = ap (λ t. cond t [] (type ∷ fresh (seen ++ type ∷ []) (line tree n (super_type tree type)))) old

ends : (tree : Content) (props : List (List ℕ × Value)) (own : Option TypeName) (types : List TypeName) (next : Option TypeName) → Goes tree props own types next
    → fresh types (line tree (32 - length types) next) ≡ [] → types ≡ own_types tree props own
ends tree props own types next goes none = sym (append-nil types) ∙ ap (λ left. types ++ left) (sym none) ∙ goes.rest

pub ends_with_none : (tree : Content) (props : List (List ℕ × Value)) (own : Option TypeName) (types : List TypeName) → Goes tree props own types None → types ≡ own_types tree props own
ends_with_none tree props own types goes = ends tree props own types None goes (ap (fresh types) (line-none tree (32 - length types)))

pub ends_full : (tree : Content) (props : List (List ℕ × Value)) (own : Option TypeName) (types : List TypeName) (next : Option TypeName) → Goes tree props own types next
    → 32 ≤ length types → types ≡ own_types tree props own
ends_full tree props own types next goes full = ends tree props own types next goes (ap (fresh types) (line-zero tree (32 - length types) next (omega (arith, full))))

pub ends_before_repeat : (tree : Content) (props : List (List ℕ × Value)) (own : Option TypeName) (types : List TypeName) (type : TypeName) → Goes tree props own types (Some type)
    → has_type type types ≡ true → types ≡ own_types tree props own
ends_before_repeat tree props own types type goes old = ends tree props own types (Some type) goes (fresh-repeat tree (32 - length types) types type old)

pub same_goes : (tree : Content) (props : List (List ℕ × Value)) (own own' : Option TypeName) (types types' : List TypeName) (next next' : Option TypeName)
    → own ≡ own' → types ≡ types' → next ≡ next' → Goes tree props own' types' next' → Goes tree props own types next
same_goes tree props own own' types types' next next' e f h goes =
    subst (λ n. Goes tree props own types n) (sym h) (subst (λ ts. Goes tree props own ts next') (sym f) (subst (λ o. Goes tree props o types' next') (sym e) goes))
