-- The folders of keys and of invalidations are mangled paths whose segments have file names.
use Rattle.std.proofs.Common.{◌≡◌, ◌+◌, ◌-◌, ℕ, zero, suc, Bool, true, false, cond, List, [], ◌∷◌, Some, None, Contains, drop, length, take, get_or, refl, sym, ◌∙◌, ap, subst, arith}
use Rattle.std.proofs.lemmas.Bool.{and_from}
use Rattle.std.proofs.lemmas.List.{take-map}
use Rattle.std.specs.List.{list_all, prefix_len, take_while}
use Rattle.sp_base.specs.Paths.{mangled_segs, mangled_seg, parent_of, name_of}
use Rattle.sp_base.proofs.BoolLemmas.{and_first}
use Rattle.cover_rules.specs.declared.invalidation.Invalidation.{Invalidation}
use Rattle.cover_rules.specs.declared.page.PageKey.{PageKey}
use Rattle.cover_rules.specs.Names.{has_file_name}
use Rattle.cover_rules.specs.Pages.{is_folder_segment, is_page, key_at, page_key_of}
use Rattle.cover_rules.specs.Coverage.{handle_of, lineage, stat_depth_of, stat_folder, touched_of}
use Rattle.cover_rules.proofs.TouchLemmas.{length-lineage, lineage_at}
use Rattle.docroot_format.specs.Names.{IsFolder}
use Rattle.docroot_format.proofs.PagePlaces.{all_taken, page_has_folder}

taken : (segs : List (List ℕ)) (n : ℕ) → mangled_segs segs ≡ segs → mangled_segs (take n segs) ≡ take n segs
taken segs n e = sym (take-map mangled_seg n segs) ∙ ap (take n) e

folder_taken : (folder : List (List ℕ)) (n : ℕ) → IsFolder folder → IsFolder (take n folder)
folder_taken folder n f = (taken folder n f.0, all_taken has_file_name folder n f.1)

key_is : (segs : List (List ℕ)) (key : PageKey) (test : Bool) → cond test (Some (record { folder = parent_of segs; file = name_of segs })) None ≡ Some key
    → (key.folder ≡ parent_of segs) × (key.file ≡ name_of segs)
key_is segs key true e = let same : key ≡ record { folder = parent_of segs; file = name_of segs } = cc (e) in (ap (λ (k : PageKey). k.folder) same, ap (λ (k : PageKey). k.file) same)
key_is segs key false e = absurd cc

pub page_is : (path : List (List ℕ)) (key : PageKey) → page_key_of path ≡ Some key → (key.folder ≡ parent_of (mangled_segs path)) × (key.file ≡ name_of (mangled_segs path))
unfolding key_at
page_is path key e = key_is (mangled_segs path) key (is_page (mangled_segs path)) e

pub page_folder : (path : List (List ℕ)) (key : PageKey) → mangled_segs (mangled_segs path) ≡ mangled_segs path → page_key_of path ≡ Some key → IsFolder key.folder
page_folder path key again e = (
  subst (λ (f : List (List ℕ)). mangled_segs f ≡ f) (sym (page_is path key e).0) (taken (mangled_segs path) (length (mangled_segs path) - 1) again),
  page_has_folder path key e,
)

pub page_stat_folder : (level : ℕ) (path : List (List ℕ)) (key : PageKey) → mangled_segs (mangled_segs path) ≡ mangled_segs path → page_key_of path ≡ Some key → IsFolder (stat_folder level key)
page_stat_folder level path key again e = folder_taken key.folder (stat_depth_of level key) (page_folder path key again e)

segment_is : (segs : List (List ℕ)) (n : ℕ) → mangled_segs segs ≡ segs → mangled_seg (get_or segs n []) ≡ get_or segs n []
segment_is [] n e = refl
segment_is (seg ∷ segs) zero e = ap (λ (l : List (List ℕ)). get_or l 0 []) e
segment_is (seg ∷ segs) (suc n) e = segment_is segs n (ap (λ (l : List (List ℕ)). drop 1 l) e)

last_is : (segs : List (List ℕ)) → mangled_segs segs ≡ segs → mangled_segs (name_of segs ∷ []) ≡ name_of segs ∷ []
last_is segs e = ap (λ (seg : List ℕ). seg ∷ []) (segment_is segs (length segs - 1) e)

pub page_file : (path : List (List ℕ)) (key : PageKey) → mangled_segs (mangled_segs path) ≡ mangled_segs path → page_key_of path ≡ Some key → mangled_segs (key.file ∷ []) ≡ key.file ∷ []
page_file path key again e = subst (λ (f : List ℕ). mangled_segs (f ∷ []) ≡ f ∷ []) (sym (page_is path key e).1) (last_is (mangled_segs path) again)

-- ---- the folders that an invalidation touches

named : (segs : List (List ℕ)) → list_all has_file_name (take_while is_folder_segment segs) ≡ true
named [] = refl
named (seg ∷ segs) = elim (is_folder_segment seg) as (λ t. is_folder_segment seg ≡ t → list_all has_file_name (take (cond t (1 + prefix_len is_folder_segment segs) 0) (seg ∷ segs)) ≡ true) [
  | true ↦ λ e. let next : 1 + prefix_len is_folder_segment segs ≡ suc (prefix_len is_folder_segment segs) = omega arith in
      ap (λ n. list_all has_file_name (take n (seg ∷ segs))) next ∙ and_from (has_file_name seg) (list_all has_file_name (take_while is_folder_segment segs)) (and_first _ _ e) (named segs)
  | false ↦ λ e. refl
] refl

-- what the first segments of a path keep of it
abbrev pub IsKeptByFirst : (List (List ℕ) → Type 0) → Type 0
IsKeptByFirst Holds = (n : ℕ) (segs : List (List ℕ)) → Holds segs → Holds (take n segs)

of_lineage : (Holds : List (List ℕ) → Type 0) → IsKeptByFirst Holds → (path folder : List (List ℕ)) → Holds path → Contains (lineage path) folder → Holds folder
of_lineage Holds kept path folder f has =
    let is : folder ≡ take has.0 path = sym has.2 ∙ lineage_at path has.0 folder (omega (arith, has.1, length-lineage path)) in
    subst Holds (sym is) (kept has.0 path f)

by_scope : (Holds : List (List ℕ) → Type 0) → IsKeptByFirst Holds → (only : Bool) (path folder : List (List ℕ)) → Holds path → Contains (cond only [] (lineage path)) folder → Holds folder
by_scope Holds kept true path folder f has = absurd (omega (arith, has.1))
by_scope Holds kept false path folder f has = of_lineage Holds kept path folder f has

-- what holds of a handle and of its first segments holds of each folder that is touched
pub touched_keeps : (Holds : List (List ℕ) → Type 0) → IsKeptByFirst Holds → (level : ℕ) (inv : Invalidation) (folder : List (List ℕ)) → Holds (handle_of inv) → Contains (touched_of level inv) folder → Holds folder
touched_keeps Holds kept level inv folder f has =
    let above = parent_of (handle_of inv) in
    let first = take level above in
    by_scope Holds kept inv.only (take_while is_folder_segment first) folder
    (kept (prefix_len is_folder_segment first) first (kept level above (kept (length (handle_of inv) - 1) (handle_of inv) f))) has

pub touched_folder : (level : ℕ) (inv : Invalidation) (folder : List (List ℕ)) → mangled_segs (handle_of inv) ≡ handle_of inv → Contains (touched_of level inv) folder → IsFolder folder
touched_folder level inv folder again has =
    let above = parent_of (handle_of inv) in
    let first = take level above in
    let path = take_while is_folder_segment first in
    let kept : mangled_segs path ≡ path = taken first (prefix_len is_folder_segment first) (taken above level (taken (handle_of inv) (length (handle_of inv) - 1) again)) in
    by_scope IsFolder (λ n segs. folder_taken segs n) inv.only path folder (kept, named first) has
