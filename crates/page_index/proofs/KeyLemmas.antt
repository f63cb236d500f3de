-- Keys and folders that the tests of notes take for the same are the same.
use Rattle.std.proofs.Common.{◌≡◌, ◌≢◌, ℕ, true, false, refl, sym, ◌∙◌, ap}
use Rattle.std.specs.Cmp.{eq_by_cmp_equiv}
use Rattle.std.specs.Cmp.Lexicographic.{bytes_decides, pointwise}
use Rattle.std.specs.Prelude.{nat_eq}
use Rattle.std.specs.Ordering.{eq_by_cmp}
use Rattle.std.proofs.lemmas.Bool.{and_from, and_parts, false_from_ne_true, true≢false}
use Rattle.std.proofs.lemmas.Map.Views.{tells_apart}
use Rattle.sp_base.specs.PathExact.{exact_paths}
use Rattle.sp_base.specs.Paths.{by_path}
use Rattle.sp_base.specs.Texts.{Segments}
use Rattle.sp_base.proofs.OrderingLemmas.{by_path_total}
use Rattle.cover_rules.specs.declared.page.PageKey.{PageKey}
use Rattle.page_index.specs.Held.{same_folder, same_key}

pub folder_itself : (folder : Segments) → same_folder folder folder ≡ true
folder_itself folder = (eq_by_cmp_equiv by_path_total).refl folder

pub folder_is : (folder other : Segments) → same_folder folder other ≡ true → folder ≡ other
folder_is folder other same = tells_apart exact_paths folder other same

pub folder_apart : (folder other : Segments) → other ≢ folder → same_folder folder other ≡ false
folder_apart folder other differ = false_from_ne_true (same_folder folder other) (λ same. differ (sym (folder_is folder other same)))

pub key_itself : (key : PageKey) → same_key key key ≡ true
key_itself key = and_from _ _ (folder_itself key.folder) ((bytes_decides key.file key.file).1 refl)

pub key_is : (key other : PageKey) → same_key key other ≡ true → key ≡ other
key_is key other same =
    let parts = and_parts (eq_by_cmp by_path key.folder other.folder) (pointwise nat_eq key.file other.file) same in
    let folder : key.folder ≡ other.folder = folder_is key.folder other.folder parts.0 in
    let file : key.file ≡ other.file = (bytes_decides key.file other.file).0 parts.1 in
    λ i. record { folder = folder i; file = file i }

pub key_apart : (key other : PageKey) → other ≢ key → same_key key other ≡ false
key_apart key other differ = false_from_ne_true (same_key key other) (λ same. differ (sym (key_is key other same)))

pub key_from_other : (key other : PageKey) → same_key key other ≡ false → other ≢ key
key_from_other key other differ same = true≢false (sym (key_itself key) ∙ ap (λ k. same_key key k) (sym same) ∙ differ)
