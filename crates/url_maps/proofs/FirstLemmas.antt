-- Which of several nodes is named.
use Rattle.std.proofs.Common.{◌≡◌, ◌≢◌, ◌⊎◌, inl, inr, ℕ, zero, suc, Bool, true, false, cond, List, [], ◌∷◌, Some, sym, ◌∙◌, ap, ⊎_elim, arith}
use Rattle.std.specs.Prelude.{find, slice_get}
use Rattle.std.specs.Ordering.{int_cmp, ordering_then}
use Rattle.std.specs.Cmp.{tied_itself}
use Rattle.std.specs.declared.cmp.Ordering.{Ordering}
use Rattle.std.specs.declared.cmp.Ordering.TheVariants.{Less, Equal, Greater}
use Rattle.std.proofs.lemmas.Bool.{cases_Bool}
use Rattle.std.proofs.lemmas.Cmp.{int_cmp_total}
use Rattle.sp_base.specs.Names.{by_name}
use Rattle.sp_base.specs.Paths.{text_of}
use Rattle.resource_tree.specs.Content.{Content}
use Rattle.url_maps.specs.Aliases.{IsAtOrBefore}
use Rattle.url_maps.specs.VanityPaths.{IsVanityPath, has_vanity_path, vanity_cmp, vanity_order}

later : (x : List ℕ) (xs : List (List ℕ)) (name : List ℕ) (place : ℕ) → IsAtOrBefore xs name place → IsAtOrBefore (x ∷ xs) name (suc place)
later x xs name place (at, within, is) = (suc at, omega (arith, within), is)

-- what is found first stands before whatever else passes the test
pub found_before : (test : List ℕ → Bool) (names : List (List ℕ)) (place : ℕ) (other name : List ℕ) → slice_get names place ≡ Some other → test other ≡ true → find test names ≡ Some name → IsAtOrBefore names name place
found_before test [] place other name there passes_it found = cc
found_before test (x ∷ names) zero other name there passes_it found =
    let one : x ≡ other = cc in (0, omega arith, sym (ap (λ b. cond b (Some x) (find test names)) (ap test one ∙ passes_it)) ∙ found)
found_before test (x ∷ names) (suc place) other name there passes_it found =
    ⊎_elim
    (λ (first : test x ≡ true). (0, omega arith, sym (ap (λ b. cond b (Some x) (find test names)) first) ∙ found))
    (λ (fails : test x ≡ false). later x names name place (found_before test names place other name there passes_it (sym (ap (λ b. cond b (Some x) (find test names)) fails) ∙ found)))
    (cases_Bool (test x))

not_greater : (a b : Ordering) → ordering_then a b ≡ Less → a ≢ Greater
not_greater Less b is greater = cc
not_greater Equal b is greater = cc
not_greater Greater b is greater = cc

equal≢greater : Equal ≡ Greater → ⊥
equal≢greater e = cc

same_order : (tree : Content) (path other : List (List ℕ)) → vanity_order tree other ≡ vanity_order tree path → int_cmp (vanity_order tree other) (vanity_order tree path) ≡ Equal
same_order tree path other same = ap (λ n. int_cmp n (vanity_order tree path)) same ∙ tied_itself int_cmp_total (vanity_order tree path)

pub greatest_order : (tree : Content) (text : List ℕ) (path other : List (List ℕ)) → IsVanityPath tree text path → has_vanity_path tree other text ≡ true → int_cmp (vanity_order tree other) (vanity_order tree path) ≢ Greater
greatest_order tree text path other v has =
    ⊎_elim
    (λ (same : other ≡ path). λ greater. equal≢greater (sym (same_order tree path other (ap (vanity_order tree) same)) ∙ greater))
    (λ (after : vanity_cmp tree path other ≡ Less). not_greater (int_cmp (vanity_order tree other) (vanity_order tree path)) (by_name (text_of path) (text_of other)) after)
    (v.first other has)

pub least_path : (tree : Content) (text : List ℕ) (path other : List (List ℕ)) → IsVanityPath tree text path → has_vanity_path tree other text ≡ true → vanity_order tree other ≡ vanity_order tree path → (other ≡ path) ⊎ (by_name (text_of path) (text_of other) ≡ Less)
least_path tree text path other v has same =
    ⊎_elim
    (λ (one : other ≡ path). inl one)
    (λ (after : vanity_cmp tree path other ≡ Less). inr (sym (ap (λ o. ordering_then o (by_name (text_of path) (text_of other))) (same_order tree path other same)) ∙ after))
    (v.first other has)
