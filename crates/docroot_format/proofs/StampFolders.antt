-- The folders that may have stamps are paths of texts.
use Rattle.std.proofs.Common.{◌≡◌, ◌≤◌, ℕ, true, not, List, [], ◌∷◌, IsTrue, Contains, length, nat_le, take, refl, arith}
use Rattle.std.specs.List.{AllByRecursion, list_all}
use Rattle.std.proofs.lemmas.Bool.{and_from, leb-true}
use Rattle.std.proofs.lemmas.Bool.Decides.{nat_tests}
use Rattle.std.proofs.lemmas.List.{length-map, length-take}
use Rattle.sp_base.specs.Bytes.{AreBytes}
use Rattle.sp_base.specs.Paths.{has_slash, is_dots, is_empty, is_long, is_path, mangled_seg, mangled_segs, seg_ok}
use Rattle.sp_base.specs.PathTexts.{lack_slashes}
use Rattle.cover_rules.specs.declared.invalidation.Invalidation.{Invalidation}
use Rattle.cover_rules.specs.declared.page.PageKey.{PageKey}
use Rattle.cover_rules.specs.Coverage.{handle_of, stat_depth_of, stat_folder, touched_of}
use Rattle.cover_rules.specs.Names.{file_name, has_file_name}
use Rattle.cover_rules.specs.Pages.{IsPageKey}
use Rattle.cover_rules.proofs.NameLemmas.{no_shorter}
use Rattle.cover_rules.proofs.PageLemmas.{taken_are_bytes}
use Rattle.docroot_format.specs.Names.{have_names}
use Rattle.docroot_format.proofs.Folders.{touched_folder, touched_keeps}
use Rattle.docroot_format.proofs.Inside.{all_named, is_named, segs_named}
use Rattle.docroot_format.proofs.PagePlaces.{all_taken}
use Rattle.sp_base.proofs.BoolLemmas.{and_first, and_second}
use Rattle.sp_base.proofs.PathBytes.{all_mangled}

-- ---- segments of mangled paths

short : (seg : List ℕ) → has_file_name seg ≡ true → not (is_long seg) ≡ true
short seg e =
    let few = leb-true (length (file_name seg)) 200 e in
    let less = no_shorter seg in
    grind (arith, nat_tests)

segment : (seg : List ℕ) → is_named seg ≡ true → not (has_slash seg) ≡ true → has_file_name seg ≡ true → seg_ok seg ≡ true
segment seg is slashless e =
    and_from (not (is_empty seg)) _ (and_first (not (is_empty seg)) (not (is_dots seg)) is)
    (and_from (not (is_dots seg)) _ (and_second (not (is_empty seg)) (not (is_dots seg)) is) (and_from (not (is_long seg)) (not (has_slash seg)) (short seg e) slashless))

segments : (segs : List (List ℕ)) → list_all is_named segs ≡ true → lack_slashes segs ≡ true → have_names segs ≡ true → list_all seg_ok segs ≡ true
segments [] is lacks names = refl
segments (seg ∷ segs) is lacks names =
    and_from (seg_ok seg) (list_all seg_ok segs)
    (segment seg (and_first (is_named seg) (list_all is_named segs) is) (and_first (not (has_slash seg)) (lack_slashes segs) lacks) (and_first (has_file_name seg) (have_names segs) names))
    (segments segs (and_second (is_named seg) (list_all is_named segs) is) (and_second (not (has_slash seg)) (lack_slashes segs) lacks) (and_second (has_file_name seg) (have_names segs) names))

-- what makes segments a path, but for their lengths
record AreParts (segs : List (List ℕ)) : Type 0 where
  is : list_all is_named segs ≡ true
  lacks : lack_slashes segs ≡ true
  few : length segs ≤ 64

first_parts : (n : ℕ) (segs : List (List ℕ)) → AreParts segs → AreParts (take n segs)
first_parts n segs parts = record {
  is = all_taken is_named segs n parts.is;
  lacks = all_taken (λ seg. not (has_slash seg)) segs n parts.lacks;
  few = omega (arith, parts.few, length-take n segs);
}

few_enough : (n : ℕ) → n ≤ 64 → nat_le n 64 ≡ true
few_enough n few = grind (arith, nat_tests)

-- ---- the folders that an invalidation touches

pub touched_path : (level : ℕ) (inv : Invalidation) (folder : List (List ℕ)) → mangled_segs (handle_of inv) ≡ handle_of inv → lack_slashes (handle_of inv) ≡ true → IsTrue (is_path inv.handle)
    → Contains (touched_of level inv) folder → IsTrue (is_path folder)
touched_path level inv folder again lacks valid has =
    let handle : AreParts (handle_of inv) = record {
      is = all_named inv.handle (segs_named inv.handle (and_first _ _ valid));
      lacks = lacks;
      few = omega (arith, length-map inv.handle mangled_seg, leb-true (length inv.handle) 64 (and_second _ _ valid));
    } in
    let parts = touched_keeps AreParts first_parts level inv folder handle has in
    and_from _ _ (segments folder parts.is parts.lacks (touched_folder level inv folder again has).1) (few_enough (length folder) parts.few)

pub touched_bytes : (level : ℕ) (inv : Invalidation) (folder : List (List ℕ)) → AllByRecursion AreBytes inv.handle → Contains (touched_of level inv) folder → AllByRecursion AreBytes folder
touched_bytes level inv folder small has = touched_keeps (AllByRecursion AreBytes) taken_are_bytes level inv folder (all_mangled inv.handle small) has

-- ---- the folder whose stamp is asked for a page

pub stat_path : (level : ℕ) (key : PageKey) → IsPageKey key → IsTrue (is_path (stat_folder level key))
stat_path level key page =
    let n = stat_depth_of level key in
    and_from _ _ (all_taken seg_ok key.folder n (and_first _ _ page.folder))
    (few_enough (length (take n key.folder)) (omega (arith, length-take n key.folder, leb-true (length key.folder) 64 (and_second _ _ page.folder))))

pub stat_bytes : (level : ℕ) (key : PageKey) → IsPageKey key → AllByRecursion AreBytes (stat_folder level key)
stat_bytes level key page = taken_are_bytes (stat_depth_of level key) key.folder page.folder_bytes
