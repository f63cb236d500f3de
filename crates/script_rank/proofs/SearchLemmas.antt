-- What the first item that gives something says of those before it.
use Rattle.std.proofs.Common.{◌≡◌, ◌<◌, ℕ, zero, suc, List, [], ◌∷◌, Option, Some, None, refl, sym, ◌∙◌, ap, arith}
use Rattle.std.proofs.lemmas.Option.{same_Some}
use Rattle.std.specs.Prelude.{slice_get}
use Rattle.std.specs.Option.{option_or}
use Rattle.type_chain.specs.Chain.{first_of}

-- the first item at which there is something
pub record Hit {A B : Type 0} (f : A → Option B) (xs : List A) (y : B) : Type 0 where
  pub at : ℕ
  pub item : A
  pub here : slice_get xs at ≡ Some item
  pub gives : f item ≡ Some y
  pub before : (j : ℕ) (x : A) → j < at → slice_get xs j ≡ Some x → f x ≡ None

earlier : {A B : Type 0} (f : A → Option B) (x : A) (xs : List A) (n : ℕ) → f x ≡ None → ((j : ℕ) (w : A) → j < n → slice_get xs j ≡ Some w → f w ≡ None)
    → (j : ℕ) (w : A) → j < suc n → slice_get (x ∷ xs) j ≡ Some w → f w ≡ None
earlier f x xs n none before zero w less e = ap f (sym (same_Some x w e)) ∙ none
earlier f x xs n none before (suc j) w less e = before j w (omega (arith, less)) e

hit-or : {A B : Type 0} (f : A → Option B) (x : A) (xs : List A) (y : B) (o : Option B) → f x ≡ o → option_or o (first_of f xs) ≡ Some y → (first_of f xs ≡ Some y → Hit f xs y) → Hit f (x ∷ xs) y
hit-or f x xs y (Some z) is e later = record { at = 0; item = x; here = refl; gives = is ∙ e; before = λ j w less _. absurd (omega (arith, less)) }
hit-or f x xs y None is e later =
    let h = later e in
    record { at = suc h.at; item = h.item; here = h.here; gives = h.gives; before = earlier f x xs h.at is h.before }

pub hit : {A B : Type 0} (f : A → Option B) (xs : List A) (y : B) → first_of f xs ≡ Some y → Hit f xs y
hit f [] y e = absurd (cc)
hit f (x ∷ xs) y e = hit-or f x xs y (f x) refl e (hit f xs y)

or_first : {B : Type 0} (o p : Option B) → option_or o p ≡ None → o ≡ None
or_first None p e = refl
or_first (Some x) p e = e

or_second : {B : Type 0} (o p : Option B) → option_or o p ≡ None → p ≡ None
or_second None p e = e
or_second (Some x) p e = absurd (cc)

pub none-at : {A B : Type 0} (f : A → Option B) (xs : List A) → first_of f xs ≡ None → (j : ℕ) (x : A) → slice_get xs j ≡ Some x → f x ≡ None
none-at f [] none j x e = absurd (cc)
none-at f (w ∷ xs) none zero x e = ap f (sym (same_Some w x e)) ∙ or_first (f w) (first_of f xs) none
none-at f (w ∷ xs) none (suc j) x e = none-at f xs (or_second (f w) (first_of f xs) none) j x e
