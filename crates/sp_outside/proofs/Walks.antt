-- A walk over names that rise ends: each name has a number, the number of its bytes as digits, and it rises with the name.
use Rattle.std.proofs.Common.{◌≡◌, ◌≤◌, ◌<◌, ◌+◌, ◌-◌, ◌*◌, ◌⊎◌, inl, inr, ℕ, zero, suc, Bool, true, false, List, [], ◌∷◌, length, nat_eq, nat_lt, cond, IsUtf8, refl, sym, ap, subst, arith, add-one}
use Rattle.std.specs.Prelude.{Contains}
use Rattle.std.specs.List.{All}
use Rattle.std.specs.Ordering.{is_lt, ordering_then}
use Rattle.std.specs.declared.cmp.Ordering.{Ordering}
use Rattle.std.specs.declared.cmp.Ordering.TheVariants.{Less, Equal, Greater}
use Rattle.std.proofs.lemmas.Bool.{eqb-true, ltb-true, true≢false}
use Rattle.std.proofs.lemmas.Map.Views.{All-after_first}
use Rattle.std.proofs.lemmas.List.Elements.{All-contains}
use Rattle.sp_base.specs.Bytes.{AreBytes}
use Rattle.sp_base.specs.Names.{by_name}
use Rattle.sp_base.proofs.TextBytes.{text_bytes}
use Rattle.sp_outside.specs.FileNames.{name_number, names_left}
use Rattle.sp_outside.specs.Files.{IsEndlessWalk, IsListing, IsName, longest_file_name}

-- ---- the numbers of names

-- after a lesser number each name has a lesser one
after_less : (n before other : ℕ) (name next : List ℕ) → AreBytes name → before < other → name_number n before name < name_number n other next
unfolding name_number
after_less zero before other name next bytes lt = lt
after_less (suc n) before other [] [] bytes lt = after_less n (before * 257) (other * 257) [] [] tt (omega (arith, lt))
after_less (suc n) before other [] (b ∷ next) bytes lt = after_less n (before * 257) (other * 257 + (b + 1)) [] next tt (omega (arith, lt))
after_less (suc n) before other (a ∷ name) [] bytes lt = after_less n (before * 257 + (a + 1)) (other * 257) name [] bytes.1 (omega (arith, lt, bytes.0))
after_less (suc n) before other (a ∷ name) (b ∷ next) bytes lt = after_less n (before * 257 + (a + 1)) (other * 257 + (b + 1)) name next bytes.1 (omega (arith, lt, bytes.0))

-- where a text is before another, its first byte is less, or the same and its rest is before
first_less : (l e : Bool) (rest : Ordering) → ordering_then (cond l Less (cond e Equal Greater)) rest ≡ Less → (l ≡ true) ⊎ ((e ≡ true) × (rest ≡ Less))
first_less true e rest h = inl refl
first_less false true rest h = inr (refl, h)
first_less false false rest h = absurd (true≢false (sym (ap is_lt h)))

-- a name that is after another has a greater number
number_rises : (n before : ℕ) (name next : List ℕ) → by_name name next ≡ Less → AreBytes name → length name ≤ n → length next ≤ n → name_number n before name < name_number n before next
unfolding name_number
number_rises n before [] [] less bytes few some = absurd (true≢false (sym (ap is_lt less)))
number_rises n before (a ∷ name) [] less bytes few some = absurd (true≢false (sym (ap is_lt less)))
number_rises zero before [] (b ∷ next) less bytes few some = absurd (omega (arith, some))
number_rises (suc n) before [] (b ∷ next) less bytes few some = after_less n (before * 257) (before * 257 + (b + 1)) [] next tt (omega arith)
number_rises zero before (a ∷ name) (b ∷ next) less bytes few some = absurd (omega (arith, some))
number_rises (suc n) before (a ∷ name) (b ∷ next) less bytes few some = elim (first_less (nat_lt a b) (nat_eq a b) (by_name name next) less) [
  | inl lt ↦ after_less n (before * 257 + (a + 1)) (before * 257 + (b + 1)) name next bytes.1 (omega (arith, ltb-true a b lt))
  | inr same ↦ subst (λ c. name_number n (before * 257 + (a + 1)) name < name_number n (before * 257 + (c + 1)) next) (eqb-true a b same.0)
      (number_rises n (before * 257 + (a + 1)) name next same.1 bytes.1 (omega (arith, few)) (omega (arith, some)))
]

-- in such a sequence the numbers rise at least by one
numbers : (n : ℕ) (names : ℕ → List ℕ) → ((k : ℕ) → AreBytes (names k)) → ((k : ℕ) → length (names k) ≤ n) → ((k : ℕ) → by_name (names k) (names (k + 1)) ≡ Less) → (k : ℕ) → k ≤ name_number n 0 (names k)
numbers n names bytes few rises zero = omega arith
numbers n names bytes few rises (suc k) =
    let more : name_number n 0 (names k) < name_number n 0 (names (suc k)) =
    subst (λ m. name_number n 0 (names k) < name_number n 0 (names m)) (add-one k) (number_rises n 0 (names k) (names (k + 1)) (rises k) (bytes k) (few k) (few (k + 1))) in
    omega (arith, numbers n names bytes few rises k, more)

-- names of at most `n` bytes, each after the one before: there is no such sequence without an end
no_end : (n : ℕ) (names : ℕ → List ℕ) → ((k : ℕ) → AreBytes (names k)) → ((k : ℕ) → length (names k) ≤ n) → ((k : ℕ) → by_name (names k) (names (k + 1)) ≡ Less) → ⊥
no_end n names bytes few rises =
    let least : (k : ℕ) → k ≤ name_number n 0 (names k) = numbers n names bytes few rises in
    omega (arith, least (name_number n 1 []), after_less n 0 1 (names (name_number n 1 [])) [] (bytes (name_number n 1 [])) (omega arith))

pub later : (prefix after : List ℕ) (most : ℕ) (names : List (List ℕ)) → IsListing prefix after most names → All (λ name. by_name after name ≡ Less) names
later prefix after most names listing = All-after_first by_name after names listing.rising

pub ends : (prefix : List ℕ) (most : ℕ) (after : ℕ → List ℕ) (lists : ℕ → List (List ℕ)) → IsEndlessWalk prefix most after lists → ⊥
ends prefix most after lists walk =
    no_end longest_file_name (λ k. after (k + 1))
    (λ k. text_bytes (after (k + 1)) (All-contains IsUtf8 (lists k) (after (k + 1)) (walk.listed k).texts (walk.goes_on k)))
    (λ k. (All-contains IsName (lists k) (after (k + 1)) (walk.listed k).sizes (walk.goes_on k)).1)
    (λ k. All-contains (λ name. by_name (after (k + 1)) name ≡ Less) (lists (k + 1)) (after (k + 1 + 1)) (later prefix (after (k + 1)) most (lists (k + 1)) (walk.listed (k + 1))) (walk.goes_on (k + 1)))

-- ---- how many names are left

fewer : (n : ℕ) (after name : List ℕ) → by_name after name ≡ Less → AreBytes after → AreBytes name → length after ≤ n → length name ≤ n
    → name_number n 1 [] - name_number n 0 name < name_number n 1 [] - name_number n 0 after
fewer n after name less bytes more few some = omega (arith, after_less n 0 1 name [] more (omega arith), number_rises n 0 after name less bytes few some)

pub fewer_left : (prefix after name : List ℕ) (most : ℕ) (names : List (List ℕ)) → IsUtf8 after → length after ≤ longest_file_name → IsListing prefix after most names → Contains names name
    → names_left name < names_left after
fewer_left prefix after name most names text few listing has =
    fewer longest_file_name after name (All-contains (λ other. by_name after other ≡ Less) names name (later prefix after most names listing) has)
    (text_bytes after text) (text_bytes name (All-contains IsUtf8 names name listing.texts has)) few (All-contains IsName names name listing.sizes has).1
