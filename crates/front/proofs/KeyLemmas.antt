-- The numbers of the connections in a map.
use Rattle.std.proofs.Common.{◌≡◌, ℕ, ◌||◌, Bool, true, false, List, [], ◌∷◌, eq-eqb, refl, ap, sym, subst, ◌∙◌, arith}
use Rattle.std.specs.Prelude.{is_some, nat_eq}
use Rattle.std.specs.List.{AllByRecursion}
use Rattle.std.specs.Set.{is_member}
use Rattle.std.proofs.lemmas.Map.Lookups.{exact_unsigned}
use Rattle.std.proofs.lemmas.Bool.{ne_eqb}
use Rattle.std.specs.List.Sorted.{IsStrictlySortedBy}
use Rattle.std.specs.Ordering.{nat_cmp, is_eq, eq_by_cmp}
use Rattle.std.specs.declared.cmp.Ordering.TheVariants.{Less}
use Rattle.std.specs.BTreeMap.{BTreeMap, get, keys, IsOrdered}
use Rattle.sp_base.proofs.NatLemmas.{below_from_cmp}
use Rattle.sp_base.proofs.OrderingLemmas.{equal_from_test}
use Rattle.run_events.specs.States.{AreAbove, AreNumbersRising, is_among}
use Rattle.front.specs.Restarts.{AreKeys}
use Rattle.front.specs.declared.connection.Connection.{Connection as KeptConnection}

same-self : (n : ℕ) → is_eq (nat_cmp n n) ≡ true
same-self n = grind arith

same-is : (c d : ℕ) → is_eq (nat_cmp c d) ≡ nat_eq d c
same-is c d = by_test (is_eq (nat_cmp c d)) refl
  where
    by_test : (b : Bool) → is_eq (nat_cmp c d) ≡ b → b ≡ nat_eq d c
    by_test true e = sym (eq-eqb d c (sym (exact_unsigned c d (equal_from_test (nat_cmp c d) e))))
    by_test false e = sym (ne_eqb d c (λ same. let other : is_eq (nat_cmp c d) ≡ true = subst (λ x. is_eq (nat_cmp c x) ≡ true) (sym same) (same-self c) in let no : ⊥ = cc in no))

among-is : (c : ℕ) (ks : List ℕ) → is_member (eq_by_cmp nat_cmp) ks c ≡ is_among c ks
among-is c [] = refl
among-is c (d ∷ ks) = ap (λ b. b || is_member (eq_by_cmp nat_cmp) ks c) (same-is c d) ∙ ap (λ b. nat_eq d c || b) (among-is c ks)

above-of : (x : ℕ) (ks : List ℕ) → AllByRecursion (λ y. nat_cmp x y ≡ Less) ks → IsStrictlySortedBy nat_cmp ks → AreAbove x ks
unfolding IsStrictlySortedBy
above-of x [] all sorted = tt
above-of x (k ∷ ks) all sorted = (below_from_cmp x k all.0, above-of k ks sorted.0 sorted.1)

rising-of : (ks : List ℕ) → IsStrictlySortedBy nat_cmp ks → AreNumbersRising ks
unfolding IsStrictlySortedBy
rising-of [] sorted = tt
rising-of (k ∷ ks) sorted = above-of k ks sorted.0 sorted.1

pub are-keys : (m : BTreeMap ℕ KeptConnection) → IsOrdered nat_cmp m → ((q : ℕ) → is_some (get nat_cmp m q) ≡ is_member (eq_by_cmp nat_cmp) (keys m) q) → AreKeys m
are-keys m ordered has = record { rising = rising-of (keys m) ordered; each = λ c. has c ∙ among-is c (keys m) }
