-- Names: when two are one, which of some is the least, and which of some a test keeps.
use Rattle.std.proofs.Common.{◌≡◌, ◌⊎◌, inl, inr, ℕ, Bool, true, false, cond, List, [], ◌∷◌, Some, None, refl, sym, ◌∙◌, ap, subst, ⊎_elim}
use Rattle.std.specs.Prelude.{◌||◌, filter, nat_eq}
use Rattle.std.specs.Cmp.Lexicographic.{pointwise, nat_list_cmp_total}
use Rattle.std.specs.List.{list_any}
use Rattle.std.specs.Ordering.{is_lt, ordering_reverse}
use Rattle.std.specs.declared.cmp.Ordering.TheVariants.{Less, Equal, Greater}
use Rattle.std.proofs.lemmas.Bool.{cases_Bool, true≢false, false≢true}
use Rattle.std.proofs.lemmas.Map.Lookups.{exact_bytes}
use Rattle.std.proofs.lemmas.Option.{same_Some}
use Rattle.sp_base.specs.Names.{by_name}
use Rattle.sp_base.proofs.BoolLemmas.{or_true}
use Rattle.sp_base.proofs.OrderingLemmas.{less_from_test}
use Rattle.sp_base.proofs.TextLemmas.{text_is, text_itself}
use Rattle.url_maps.specs.PatternAnswers.{least, lesser}

abbrev pub is_named : List ℕ → List (List ℕ) → Bool
is_named name names = list_any (pointwise nat_eq name) names

-- ---- the order

pub not_less : (a b : List ℕ) → is_lt (by_name a b) ≡ false → (a ≡ b) ⊎ (by_name b a ≡ Less)
not_less a b fails =
    elim (by_name a b) as (λ o. by_name a b ≡ o → is_lt o ≡ false → (a ≡ b) ⊎ (by_name b a ≡ Less)) [
      | Less ↦ λ is less. absurd (true≢false less)
      | Equal ↦ λ is less. inl (exact_bytes a b is)
      | Greater ↦ λ is less. inr (nat_list_cmp_total.antisymm b a ∙ ap ordering_reverse is)
    ] refl fails

pub less_trans : (a b c : List ℕ) → by_name a b ≡ Less → by_name b c ≡ Less → by_name a c ≡ Less
less_trans a b c first second = nat_list_cmp_total.trans a b c first second

-- ---- the least

pub record IsLeast (names : List (List ℕ)) (name : List ℕ) : Type 0 where
  pub among : is_named name names ≡ true
  pub first : (other : List ℕ) → is_named other names ≡ true → (other ≡ name) ⊎ (by_name name other ≡ Less)

pub least_none : (names : List (List ℕ)) → least names ≡ None → names ≡ []
least_none [] none = refl
least_none (n ∷ names) none = cc

pub least_is : (names : List (List ℕ)) (name : List ℕ) → least names ≡ Some name → IsLeast names name
least_is [] name is = cc
least_is (n ∷ names) name is =
    elim (least names) as (λ o. least names ≡ o → Some (lesser n o) ≡ Some name → IsLeast (n ∷ names) name) [
      | None ↦ λ none one.
          let same : n ≡ name = same_Some n name one in
          let alone : names ≡ [] = least_none names none in
          subst (λ (m : List ℕ). IsLeast (n ∷ names) m) same (record {
            among = ap (λ b. b || is_named n names) (text_itself n);
            first = λ other among. ⊎_elim
                (λ (here : pointwise nat_eq other n ≡ true). inl (text_is other n here))
                (λ (not_here : pointwise nat_eq other n ≡ false). absurd (false≢true (sym (ap (λ b. b || is_named other names) not_here ∙ ap (is_named other) alone) ∙ among)))
                (cases_Bool (pointwise nat_eq other n));
          })
      | Some next ↦ λ some one.
          let before = least_is names next some in
          ⊎_elim
          (λ (less : is_lt (by_name n next) ≡ true).
          let same : n ≡ name = same_Some n name (sym (ap (λ b. Some (cond b n next)) less) ∙ one) in
          let is_less = less_from_test (by_name n next) less in
          subst (λ (m : List ℕ). IsLeast (n ∷ names) m) same (record {
            among = ap (λ b. b || is_named n names) (text_itself n);
            first = λ other among. ⊎_elim
                (λ (here : pointwise nat_eq other n ≡ true). inl (text_is other n here))
                (λ (not_here : pointwise nat_eq other n ≡ false). ⊎_elim
                (λ (is_next : other ≡ next). inr (ap (by_name n) is_next ∙ is_less))
                (λ (after : by_name next other ≡ Less). inr (less_trans n next other is_less after))
                (before.first other (sym (ap (λ b. b || is_named other names) not_here) ∙ among)))
                (cases_Bool (pointwise nat_eq other n));
          }))
          (λ (more : is_lt (by_name n next) ≡ false).
          let same : next ≡ name = same_Some next name (sym (ap (λ b. Some (cond b n next)) more) ∙ one) in
          subst (λ (m : List ℕ). IsLeast (n ∷ names) m) same (record {
            among = ap (λ b. pointwise nat_eq next n || b) before.among ∙ or_true (pointwise nat_eq next n);
            first = λ other among. ⊎_elim
                (λ (here : pointwise nat_eq other n ≡ true).
                subst (λ (m : List ℕ). (m ≡ next) ⊎ (by_name next m ≡ Less)) (sym (text_is other n here)) (not_less n next more))
                (λ (not_here : pointwise nat_eq other n ≡ false). before.first other (sym (ap (λ b. b || is_named other names) not_here) ∙ among))
                (cases_Bool (pointwise nat_eq other n));
          }))
          (cases_Bool (is_lt (by_name n next)))
    ] refl is

-- ---- those that a test keeps

pub keeps_name : (f : List ℕ → Bool) (q : List ℕ) (xs : List (List ℕ)) → f q ≡ true → is_named q xs ≡ true → is_named q (filter f xs) ≡ true
keeps_name f q [] passes_it any = any
keeps_name f q (x ∷ xs) passes_it any =
    ⊎_elim
    (λ (here : pointwise nat_eq q x ≡ true).
    let kept : f x ≡ true = ap f (sym (text_is q x here)) ∙ passes_it in
    ap (λ b. is_named q (cond b (x ∷ filter f xs) (filter f xs))) kept ∙ ap (λ b. b || is_named q (filter f xs)) here)
    (λ (not_here : pointwise nat_eq q x ≡ false).
    let rest = keeps_name f q xs passes_it (sym (ap (λ b. b || is_named q xs) not_here) ∙ any) in
    ⊎_elim
    (λ (kept : f x ≡ true). ap (λ b. is_named q (cond b (x ∷ filter f xs) (filter f xs))) kept ∙ ap (λ b. b || is_named q (filter f xs)) not_here ∙ rest)
    (λ (dropped : f x ≡ false). ap (λ b. is_named q (cond b (x ∷ filter f xs) (filter f xs))) dropped ∙ rest)
    (cases_Bool (f x)))
    (cases_Bool (pointwise nat_eq q x))

pub kept_name : (f : List ℕ → Bool) (q : List ℕ) (xs : List (List ℕ)) → is_named q (filter f xs) ≡ true → f q ≡ true
kept_name f q [] any = absurd (false≢true any)
kept_name f q (x ∷ xs) any =
    ⊎_elim
    (λ (kept : f x ≡ true). ⊎_elim
    (λ (here : pointwise nat_eq q x ≡ true). ap f (text_is q x here) ∙ kept)
    (λ (not_here : pointwise nat_eq q x ≡ false).
    kept_name f q xs (sym (ap (λ b. is_named q (cond b (x ∷ filter f xs) (filter f xs))) kept ∙ ap (λ b. b || is_named q (filter f xs)) not_here) ∙ any))
    (cases_Bool (pointwise nat_eq q x)))
    (λ (dropped : f x ≡ false). kept_name f q xs (sym (ap (λ b. is_named q (cond b (x ∷ filter f xs) (filter f xs))) dropped) ∙ any))
    (cases_Bool (f x))
