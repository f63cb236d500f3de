-- An `Option`, by its tests and by what holds of its value.
use Rattle.std.proofs.Common.{Bool, IfNone, IfSome, MatchOption, None, Option, Some, ap, arith, cond, false, is_some, nat_lt, refl, sym, true, ℕ, ◌≡◌, ◌≢◌, ◌≤◌}
use Rattle.std.specs.Option.{option_map}
use Rattle.std.proofs.lemmas.Bool.{false≢true, true≢false}
use Rattle.std.proofs.lemmas.Bool.Decides.{nat_tests}

pub none_from_test : {A : Type 0} (o : Option A) → is_some o ≡ false → o ≡ None
none_from_test None e = refl
none_from_test (Some x) e = absurd (true≢false e)

pub test_from_there : {A : Type 0} (o : Option A) → o ≢ None → is_some o ≡ true
test_from_there None there = absurd (there refl)
test_from_there (Some x) there = refl

pub there_from_test : {A : Type 0} (o : Option A) → is_some o ≡ true → o ≢ None
there_from_test None e none = true≢false (sym e)
there_from_test (Some x) e none = true≢false (ap is_some none)

pub none_or_some : {A : Type 0} (o : Option A) (x : A) → o ≡ None → o ≡ Some x → ⊥
none_or_some o x n s = let no : ⊥ = cc (n, s) in no

pub some_is_not_none : {A : Type 0} (x : A) → Some x ≡ None → ⊥
some_is_not_none x e = cc e

pub value_there : {A : Type 0} (o : Option A) → is_some o ≡ true → (x : A) × (o ≡ Some x)
value_there None h = absurd (false≢true h)
value_there (Some node) h = (node, refl)

pub is_some-option_map : {A B : Type 0} (f : A → B) (o : Option A) → is_some (option_map f o) ≡ is_some o
is_some-option_map f None = refl
is_some-option_map f (Some x) = refl

pub option_map-some : {A B : Type 0} (g : A → B) (o : Option A) (b : B) → option_map g o ≡ Some b → (a : A) × (o ≡ Some a) × (g a ≡ b)
option_map-some g None b e = absurd (let no : ⊥ = cc in no)
option_map-some g (Some a) b e = (a, refl, let same : g a ≡ b = cc in same)

pub IfNone-map : {A : Type 0} (o : Option A) (P Q : Type 0) → (P → Q) → IfNone o P → IfNone o Q
IfNone-map None P Q f h = f h
IfNone-map (Some x) P Q f h = tt

pub IfSome-cases : {A : Type 0} (o : Option A) (P : Type 0) (Q R : A → Type 0) → MatchOption o P Q → ((x : A) → Q x → R x) → IfSome o R
IfSome-cases None P Q R h f = tt
IfSome-cases (Some x) P Q R h f = f x h

pub IfNone-cases : {A : Type 0} (o : Option A) (P N : Type 0) (Q : A → Type 0) → MatchOption o P Q → (P → N) → IfNone o N
IfNone-cases None P N Q h f = f h
IfNone-cases (Some x) P N Q h f = tt

pub cond_none : {A : Type 0} (b : Bool) (x : A) → cond b (Some x) None ≡ None → b ≡ false
cond_none true x e = absurd cc
cond_none false x e = refl

pub cond_some_same : {A : Type 0} (b : Bool) (x y : A) → cond b (Some x) None ≡ Some y → x ≡ y
cond_some_same true made key e = cc
cond_some_same false made key e = cc

pub place_or_end : (n len : ℕ) → n ≤ len → (r : Option ℕ) → r ≡ cond (nat_lt n len) (Some n) None → MatchOption r (len ≡ n) (λ i. i ≡ n)
place_or_end n len le r e = go (nat_lt n len) refl r e
  where
    go : (b : Bool) → nat_lt n len ≡ b → (o : Option ℕ) → o ≡ cond b (Some n) None → MatchOption o (len ≡ n) (λ i. i ≡ n)
    go true t (Some i) x = cc
    go true t None x = absurd cc
    go false t (Some i) x = absurd cc
    go false t None x = grind (arith, nat_tests)
