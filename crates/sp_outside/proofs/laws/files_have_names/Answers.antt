use Rattle.std.proofs.Common.{◌≡◌, ◌≢◌, ℕ, Bool, true, false, cond, List, Some, None, ◌∙◌, ap, refl}
use Rattle.std.specs.FinMap.{get-insert, get-remove}
use Rattle.std.specs.Cmp.{eq_by_cmp_equiv}
use Rattle.std.specs.Cmp.Lexicographic.{nat_list_cmp_total}
use Rattle.std.specs.Ordering.{eq_by_cmp}
use Rattle.sp_base.specs.Names.{by_name}
use Rattle.sp_base.proofs.OrderingLemmas.{equal_from_test}
use Rattle.sp_outside.specs.Files.{file_at}
use Rattle.sp_outside.proofs.HeldNames.{same_name}
use Rattle.sp_outside.proofs.laws.files_have_names.Goals as goal

one : (name : List ℕ) → eq_by_cmp by_name name name ≡ true
one = (eq_by_cmp_equiv nat_list_cmp_total).refl

apart : (other name : List ℕ) → other ≢ name → (b : Bool) → eq_by_cmp by_name other name ≡ b → b ≡ false
apart other name differ true e = absurd (differ (same_name other name (equal_from_test (by_name other name) e)))
apart other name differ false e = refl

two : (other name : List ℕ) → other ≢ name → eq_by_cmp by_name other name ≡ false
two other name differ = apart other name differ (eq_by_cmp by_name other name) refl

pub returns-clause-written : goal.returns-clause-written
returns-clause-written c = λ files name bytes.
    get-insert nat_list_cmp_total files name bytes name ∙ ap (λ b. cond b (Some bytes) (file_at files name)) (one name)

pub returns-clause-beside : goal.returns-clause-beside
returns-clause-beside c = λ files name other bytes differ.
    get-insert nat_list_cmp_total files name bytes other ∙ ap (λ b. cond b (Some bytes) (file_at files other)) (two other name differ)

pub returns-clause-removed : goal.returns-clause-removed
returns-clause-removed c = λ files name.
    get-remove nat_list_cmp_total files name name ∙ ap (λ b. cond b None (file_at files name)) (one name)

pub returns-clause-left : goal.returns-clause-left
returns-clause-left c = λ files name other differ.
    get-remove nat_list_cmp_total files name other ∙ ap (λ b. cond b None (file_at files other)) (two other name differ)
