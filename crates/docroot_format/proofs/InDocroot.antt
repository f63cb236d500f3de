-- The names of files lie in the docroot, as the guard of a disk tests it.
use Rattle.std.proofs.Common.{◌≡◌, ◌≢◌, ◌-◌, ℕ, true, false, not, ◌||◌, ◌++◌, List, [], ◌∷◌, IsTrue, drop, length, take, nat_eq, codes, refl, sym, ◌∙◌, ap, arith}
use Rattle.std.specs.List.{list_all}
use Rattle.std.specs.Cmp.Lexicographic.{bytes_decides}
use Rattle.std.proofs.lemmas.Bool.{and_from, false_from_ne_true}
use Rattle.std.proofs.lemmas.Bool.Decides.{nat_tests}
use Rattle.std.proofs.lemmas.List.{take-append-drop}
use Rattle.std.proofs.lemmas.List.Folds.{list_all-append}
use Rattle.sp_base.specs.Paths.{is_path, mangled_segs}
use Rattle.sp_base.proofs.BoolLemmas.{and_first, and_second}
use Rattle.sp_outside.specs.FileNames.{beside_ending, has_nul, has_segments, is_beside}
use Rattle.cover_rules.specs.declared.page.PageKey.{PageKey}
use Rattle.cover_rules.specs.Names.{file_name}
use Rattle.cover_rules.specs.Pages.{IsPageKey, page_path}
use Rattle.docroot_format.specs.Names.{body_name, folder_name, head_name, is_docroot_name, is_file_name_byte, is_docroot_name_byte, stat_name}
use Rattle.docroot_format.proofs.FileRoles.{body_not_beside, head_not_beside, inside_segments, stat_not_beside}
use Rattle.docroot_format.proofs.Inside.{body_inside, bytes_ok, head_inside, stat_inside}
use Rattle.docroot_format.proofs.NameLemmas.{append_both}

-- ---- bytes of names

some_name_byte : (xs : List ℕ) → list_all is_file_name_byte xs ≡ true → list_all is_docroot_name_byte xs ≡ true
some_name_byte [] ok = refl
some_name_byte (b ∷ xs) ok =
    and_from _ _ (ap (λ t. t || nat_eq b 47) (and_first (is_file_name_byte b) (list_all is_file_name_byte xs) ok)) (some_name_byte xs (and_second (is_file_name_byte b) (list_all is_file_name_byte xs) ok))

named_bytes : (folder : List (List ℕ)) (last : List ℕ) → list_all is_file_name_byte last ≡ true → list_all is_docroot_name_byte (folder_name folder ++ last) ≡ true
named_bytes [] last ok = some_name_byte last ok
named_bytes (seg ∷ folder) last ok =
    ap (list_all is_docroot_name_byte) (sym (append_both (file_name seg ++ 47 ∷ []) (folder_name folder) last) ∙ sym (append_both (file_name seg) (47 ∷ []) (folder_name folder ++ last)))
    ∙ list_all-append is_docroot_name_byte (file_name seg) (47 ∷ (folder_name folder ++ last))
    ∙ and_from _ _ (some_name_byte (file_name seg) (bytes_ok seg)) (named_bytes folder last ok)

some_byte : (b : ℕ) → is_docroot_name_byte b ≡ true → nat_eq b 0 ≡ false
some_byte b ok = grind (arith, nat_tests)

no_nul : (xs : List ℕ) → list_all is_docroot_name_byte xs ≡ true → has_nul xs ≡ false
no_nul [] ok = refl
no_nul (b ∷ xs) ok = ap (λ t. t || has_nul xs) (some_byte b (and_first (is_docroot_name_byte b) (list_all is_docroot_name_byte xs) ok)) ∙ no_nul xs (and_second (is_docroot_name_byte b) (list_all is_docroot_name_byte xs) ok)

-- ---- names

not_beside : (name : List ℕ) → ((rest : List ℕ) → name ≢ rest ++ beside_ending) → is_beside name ≡ false
not_beside name none = false_from_ne_true (is_beside name) (λ e.
    let n = length name - length beside_ending in
    none (take n name) (sym (take-append-drop n name) ∙ ap (λ (t : List ℕ). take n name ++ t) (sym ((bytes_decides beside_ending (drop n name)).0 e))))

lies : (name : List ℕ) → has_segments name ≡ true → list_all is_docroot_name_byte name ≡ true → ((rest : List ℕ) → name ≢ rest ++ beside_ending) → IsTrue (is_docroot_name name)
lies name segments bytes none = and_from _ _ (and_from _ _ (ap not (not_beside name none)) (and_from _ _ (ap not (no_nul name bytes)) segments)) bytes

pub body_lies : (key : PageKey) → IsPageKey key → IsTrue (is_docroot_name (body_name key.folder key.file))
body_lies key page = lies (body_name key.folder key.file) (inside_segments (body_name key.folder key.file) (body_inside (page_path key) key page.folder page.own))
    (named_bytes key.folder (file_name key.file) (bytes_ok key.file)) (body_not_beside key.folder key.file)

pub head_lies : (key : PageKey) → IsPageKey key → IsTrue (is_docroot_name (head_name key.folder key.file))
head_lies key page = lies (head_name key.folder key.file) (inside_segments (head_name key.folder key.file) (head_inside (page_path key) key page.folder page.own))
    (list_all-append is_docroot_name_byte (body_name key.folder key.file) (codes "%h") ∙ and_from _ _ (named_bytes key.folder (file_name key.file) (bytes_ok key.file)) refl) (head_not_beside key.folder key.file)

pub stat_lies : (folder : List (List ℕ)) → IsTrue (is_path folder) → IsTrue (is_docroot_name (stat_name folder))
stat_lies folder path = lies (stat_name folder) (inside_segments (stat_name folder) (stat_inside folder path)) (named_bytes (mangled_segs folder) (codes ".stat") refl) (stat_not_beside folder)
