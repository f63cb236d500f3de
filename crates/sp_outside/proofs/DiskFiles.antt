-- Which files of a folder are those of a disk, after a change of one of them.
use Rattle.std.proofs.Common.{◌≡◌, ℕ, Bool, true, false, cond, List, Option, Some, None, refl, sym, ◌∙◌, ap}
use Rattle.std.specs.Cmp.Lexicographic.{nat_list_cmp_total}
use Rattle.std.specs.FinMap.{get, get-insert, get-remove, get-retain_keys, same_map}
use Rattle.std.specs.Ordering.{eq_by_cmp}
use Rattle.sp_base.specs.Names.{by_name}
use Rattle.sp_outside.specs.FileNames.{is_inside}
use Rattle.sp_outside.specs.Files.{Files, with_file, without_file}
use Rattle.sp_outside.specs.FolderFiles.{disk_files}
use Rattle.sp_outside.proofs.HeldNames.{same_name}
use Rattle.sp_outside.proofs.NameSets.{one_key}

pub at_disk : (files : Files) (name : List ℕ) → get (disk_files files) name ≡ cond (is_inside name) (get files name) None
at_disk files name = get-retain_keys files is_inside name (λ other tied. ap is_inside (sym (same_name name other tied)))

pub inside_at : (files : Files) (name : List ℕ) → is_inside name ≡ true → get (disk_files files) name ≡ get files name
inside_at files name inside = at_disk files name ∙ ap (λ b. cond b (get files name) None) inside

pub outside_at : (files : Files) (name : List ℕ) → is_inside name ≡ false → get (disk_files files) name ≡ None
outside_at files name outside = at_disk files name ∙ ap (λ b. cond b (get files name) None) outside

pub same_files : (one other : Files) → ((name : List ℕ) → get one name ≡ get other name) → one ≡ other
same_files one other same = same_map nat_list_cmp_total same_name one other same

-- a change at a name inside, as it is seen at each name
with_inside : (q name : List ℕ) (x y : Option (List ℕ)) → is_inside name ≡ true → (e : Bool) → eq_by_cmp by_name q name ≡ e
    → cond (is_inside q) (cond e x y) None ≡ cond e x (cond (is_inside q) y None)
with_inside q name x y inside true t = ap (λ b. cond b x None) (ap is_inside (one_key q name t) ∙ inside)
with_inside q name x y inside false t = refl

without_any : (e i : Bool) (y : Option (List ℕ)) → cond i (cond e None y) None ≡ cond e None (cond i y None)
without_any true true y = refl
without_any true false y = refl
without_any false i y = refl

pub disk_with : (files : Files) (name bytes : List ℕ) → is_inside name ≡ true → disk_files (with_file files name bytes) ≡ with_file (disk_files files) name bytes
disk_with files name bytes inside = same_files _ _ (λ q.
    at_disk (with_file files name bytes) q
    ∙ ap (λ o. cond (is_inside q) o None) (get-insert nat_list_cmp_total files name bytes q)
    ∙ with_inside q name (Some bytes) (get files q) inside (eq_by_cmp by_name q name) refl
    ∙ ap (cond (eq_by_cmp by_name q name) (Some bytes)) (sym (at_disk files q))
    ∙ sym (get-insert nat_list_cmp_total (disk_files files) name bytes q))

pub disk_without : (files : Files) (name : List ℕ) → disk_files (without_file files name) ≡ without_file (disk_files files) name
disk_without files name = same_files _ _ (λ q.
    at_disk (without_file files name) q
    ∙ ap (λ o. cond (is_inside q) o None) (get-remove nat_list_cmp_total files name q)
    ∙ without_any (eq_by_cmp by_name q name) (is_inside q) (get files q)
    ∙ ap (cond (eq_by_cmp by_name q name) None) (sym (at_disk files q))
    ∙ sym (get-remove nat_list_cmp_total (disk_files files) name q))
