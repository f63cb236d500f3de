-- Two lists have the same items where they are as long and no two items at one place differ.
use Rattle.std.proofs.Common.{◌≡◌, ◌≢◌, ◌<◌, ℕ, suc, Bool, true, false, ◌&&◌, List, [], ◌∷◌, codes, length, get_or, map, refl, sym, ap, ◌∙◌}
use Rattle.std.specs.Cmp.Lexicographic.{pointwise}
use Rattle.std.specs.Prelude.{nat_eq}
use Rattle.std.specs.Bool.{Decides}
use Rattle.std.proofs.lemmas.List.{get_or-map}
use Rattle.std.proofs.lemmas.Slice.Eq.{bytes_eq-Decides}
use Rattle.htl_expr.specs.declared.out.Out.{Out}
use Rattle.htl_expr.specs.declared.out.Out.TheVariants as out
use Rattle.htl_expr.specs.Print.{plain}
use Rattle.htl_expr.specs.Lent.{is_list, is_lent_text, listed_texts}
use Rattle.htl_expr.specs.Value.{is_same}

pub unequal_lengths : {X : Type 0} (same : X → X → Bool) (xs ys : List X) → length xs ≢ length ys → pointwise same xs ys ≡ false
unequal_lengths same [] [] n = absurd (n refl)
unequal_lengths same [] (y ∷ ys) n = refl
unequal_lengths same (x ∷ xs) [] n = refl
unequal_lengths same (x ∷ xs) (y ∷ ys) n = at (same x y) (unequal_lengths same xs ys (λ e. n (ap suc e)))
  where
    at : (b : Bool) {c : Bool} → c ≡ false → (b && c) ≡ false
    at true e = e
    at false e = refl

pub get_or_of_map : {X : Type 0} (f : X → List ℕ) (xs : List X) (i : ℕ) (x : X) → i < length xs → x ≡ get_or xs i x → get_or (map f xs) i [] ≡ f x
get_or_of_map f xs i x lt is = get_or-map f xs i x [] lt ∙ ap f (sym is)

pub same_lists : (a b : Out) → is_list a ≡ true → is_list b ≡ true → is_same a b ≡ pointwise (pointwise nat_eq) (listed_texts a) (listed_texts b)
same_lists (out.List a) (out.List b) e f = refl
same_lists (out.List a) out.Nothing e f = absurd cc
same_lists (out.List a) (out.Truth b) e f = absurd cc
same_lists (out.List a) (out.Long b) e f = absurd cc
same_lists (out.List a) (out.Text b) e f = absurd cc
same_lists out.Nothing b e f = absurd cc
same_lists (out.Truth a) b e f = absurd cc
same_lists (out.Long a) b e f = absurd cc
same_lists (out.Text a) b e f = absurd cc

pub same_texts : (a b : Out) → is_lent_text a ≡ true → is_lent_text b ≡ true → is_same a b ≡ pointwise nat_eq (plain (codes ",") a) (plain (codes ",") b)
same_texts (out.Text a) (out.Text b) e f = refl
same_texts (out.Text a) out.Nothing e f = absurd cc
same_texts (out.Text a) (out.Truth b) e f = absurd cc
same_texts (out.Text a) (out.Long b) e f = absurd cc
same_texts (out.Text a) (out.List b) e f = absurd cc
same_texts out.Nothing b e f = absurd cc
same_texts (out.Truth a) b e f = absurd cc
same_texts (out.Long a) b e f = absurd cc
same_texts (out.List a) b e f = absurd cc

-- a list is no other value
pub same_as_no_list : (a b : Out) → is_list a ≡ true → (is_list a && is_list b) ≡ false → is_same a b ≡ false
same_as_no_list (out.List a) (out.List b) e f = absurd cc
same_as_no_list (out.List a) out.Nothing e f = refl
same_as_no_list (out.List a) (out.Truth b) e f = refl
same_as_no_list (out.List a) (out.Long b) e f = refl
same_as_no_list (out.List a) (out.Text b) e f = refl
same_as_no_list out.Nothing b e f = absurd cc
same_as_no_list (out.Truth a) b e f = absurd cc
same_as_no_list (out.Long a) b e f = absurd cc
same_as_no_list (out.Text a) b e f = absurd cc

-- whether two texts are the same doesn't hang on their order
pub same_swapped : (a b : List ℕ) → pointwise nat_eq a b ≡ pointwise nat_eq b a
same_swapped a b = both (pointwise nat_eq a b) (pointwise nat_eq b a) (bytes_eq-Decides a b) (bytes_eq-Decides b a)
  where
    both : (p q : Bool) → Decides p (a ≡ b) → Decides q (b ≡ a) → p ≡ q
    both true true d e = refl
    both false false d e = refl
    both true false d e = sym (e.1 (sym (d.0 refl)))
    both false true d e = d.1 (sym (e.0 refl))
