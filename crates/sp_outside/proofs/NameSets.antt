-- What insertions and removals make of a set of names, and when two lists of names are the same.
use Rattle.std.proofs.Common.{◌≡◌, ℕ, Bool, true, false, cond, List, Option, Some, None, refl, ◌∙◌, ap}
use Rattle.std.specs.Cmp.{eq_by_cmp_equiv}
use Rattle.std.specs.Cmp.Lexicographic.{nat_list_cmp_total}
use Rattle.std.specs.FinMap.{FinMap, contains_key, get, insert, remove, get-insert, get-remove}
use Rattle.std.specs.Option.{is_some}
use Rattle.std.specs.Ordering.{eq_by_cmp}
use Rattle.sp_base.specs.Names.{by_name}
use Rattle.sp_base.proofs.OrderingLemmas.{equal_from_test}
use Rattle.sp_outside.proofs.HeldNames.{same_name}

-- ---- names that are the same

pub same_key : (name : List ℕ) → eq_by_cmp by_name name name ≡ true
same_key name = (eq_by_cmp_equiv nat_list_cmp_total).refl name

pub one_key : (name other : List ℕ) → eq_by_cmp by_name name other ≡ true → name ≡ other
one_key name other e = same_name name other (equal_from_test (by_name name other) e)

-- ---- tests

some_of : {X : Type 0} (b : Bool) (x : X) (o : Option X) → is_some (cond b (Some x) o) ≡ cond b true (is_some o)
some_of true x o = refl
some_of false x o = refl

none_of : {X : Type 0} (b : Bool) (o : Option X) → is_some (cond b None o) ≡ cond b false (is_some o)
none_of true o = refl
none_of false o = refl

-- ---- names in a set

has_inserted : {X : Type 0} (kept : FinMap by_name X) (name : List ℕ) (value : X) (q : List ℕ)
    → contains_key (insert kept name value) q ≡ cond (eq_by_cmp by_name q name) true (contains_key kept q)
has_inserted kept name value q =
    ap is_some (get-insert nat_list_cmp_total kept name value q) ∙ some_of (eq_by_cmp by_name q name) value (get kept q)

has_removed : {X : Type 0} (kept : FinMap by_name X) (name q : List ℕ)
    → contains_key (remove kept name) q ≡ cond (eq_by_cmp by_name q name) false (contains_key kept q)
has_removed kept name q = ap is_some (get-remove nat_list_cmp_total kept name q) ∙ none_of (eq_by_cmp by_name q name) (get kept q)

pub inserted : {X : Type 0} (kept : FinMap by_name X) (name : List ℕ) (value : X) → contains_key (insert kept name value) name ≡ true
inserted kept name value = has_inserted kept name value name ∙ ap (λ b. cond b true (contains_key kept name)) (same_key name)

pub removed : {X : Type 0} (kept : FinMap by_name X) (name : List ℕ) → contains_key (remove kept name) name ≡ false
removed kept name = has_removed kept name name ∙ ap (λ b. cond b false (contains_key kept name)) (same_key name)

pub inserted_other : {X : Type 0} (kept : FinMap by_name X) (name : List ℕ) (value : X) (q : List ℕ) → eq_by_cmp by_name q name ≡ false
    → contains_key (insert kept name value) q ≡ contains_key kept q
inserted_other kept name value q apart = has_inserted kept name value q ∙ ap (λ b. cond b true (contains_key kept q)) apart

pub removed_other : {X : Type 0} (kept : FinMap by_name X) (name q : List ℕ) → eq_by_cmp by_name q name ≡ false
    → contains_key (remove kept name) q ≡ contains_key kept q
removed_other kept name q apart = has_removed kept name q ∙ ap (λ b. cond b false (contains_key kept q)) apart
