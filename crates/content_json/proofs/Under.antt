-- Which paths lie below others.
use Rattle.std.proofs.Common.{◌≡◌, ◌≢◌, ℕ, true, false, ⊎_elim, List, [], ◌∷◌, refl, sym, ◌∙◌}
use Rattle.std.specs.Cmp.Lexicographic.{same_text, nat_list_eq_equiv}
use Rattle.std.specs.Str.{bytes_eq}
use Rattle.std.proofs.lemmas.Bool.{cases_Bool, false≢true, and_parts}
use Rattle.resource_tree.specs.Content.{kid}
use Rattle.content_json.specs.Steps.{is_at_or_below}

pub bytes_eq_itself : (k : List ℕ) → bytes_eq k k ≡ true
bytes_eq_itself k = nat_list_eq_equiv.refl k

pub is_at_or_below_itself : (path : List (List ℕ)) → is_at_or_below path path ≡ true
is_at_or_below_itself [] = refl
is_at_or_below_itself (s ∷ path) = rw (bytes_eq_itself s, is_at_or_below_itself path) refl

-- what lies below a kid lies below its parent
pub is_at_or_below-parent : (path q : List (List ℕ)) (k : List ℕ) → is_at_or_below (kid path k) q ≡ true → is_at_or_below path q ≡ true
is_at_or_below-parent [] q k h = refl
is_at_or_below-parent (s ∷ path) [] k h = h
is_at_or_below-parent (s ∷ path) (t ∷ q) k h =
    let parts = and_parts (bytes_eq s t) (is_at_or_below (kid path k) q) h in rw (parts.0) (is_at_or_below-parent path q k parts.1)

-- and below one kid alone
pub is_at_or_below-one : (path q : List (List ℕ)) (a b : List ℕ) → is_at_or_below (kid path a) q ≡ true → is_at_or_below (kid path b) q ≡ true → a ≡ b
is_at_or_below-one [] [] a b g h = absurd (false≢true g)
is_at_or_below-one [] (t ∷ q) a b g h = same_text a t (sym (and_parts _ _ g).0) ∙ sym (same_text b t (sym (and_parts _ _ h).0))
is_at_or_below-one (s ∷ path) [] a b g h = absurd (false≢true g)
is_at_or_below-one (s ∷ path) (t ∷ q) a b g h = is_at_or_below-one path q a b (and_parts _ _ g).1 (and_parts _ _ h).1

is_at_or_below_size : (path q : List (List ℕ)) (k : List ℕ) → is_at_or_below (kid path k) q ≡ true → q ≢ path
is_at_or_below_size [] [] k h e = false≢true h
is_at_or_below_size [] (t ∷ q) k h e = absurd (cc)
is_at_or_below_size (s ∷ path) [] k h e = false≢true h
is_at_or_below_size (s ∷ path) (t ∷ q) k h e = is_at_or_below_size path q k (and_parts _ _ h).1 (cc)

pub is_at_or_below-not_parent : (path : List (List ℕ)) (k : List ℕ) → is_at_or_below (kid path k) path ≡ false
is_at_or_below-not_parent path k = ⊎_elim (λ e. absurd (is_at_or_below_size path path k e refl)) (λ e. e) (cases_Bool (is_at_or_below (kid path k) path))
