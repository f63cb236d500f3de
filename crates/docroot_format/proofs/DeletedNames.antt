-- The names of the files of the pages that an invalidation deletes begin with its prefixes, and no other page's do.
use Rattle.std.proofs.Common.{◌≡◌, ◌⊎◌, inl, inr, ◌+◌, ◌-◌, ◌==◌, ℕ, Bool, true, false, cond, not, ◌&&◌, ◌||◌, ◌++◌, List, [], ◌∷◌, drop, length, take, nat_eq, codes, refl, sym, ◌∙◌, ap, arith}
use Rattle.std.specs.Prelude.{IsTrue, ◌↔◌}
use Rattle.std.specs.List.{AllByRecursion, starts_with}
use Rattle.std.specs.Cmp.Lexicographic.{pointwise}
use Rattle.std.proofs.Math.Seq.{drop-append_seam}
use Rattle.std.proofs.lemmas.Bool.{and_from, not-true, or_cases, or_left, or_right, true≢false}
use Rattle.std.proofs.lemmas.Bool.Decides.{nat_tests}
use Rattle.std.proofs.lemmas.Grind.{flat_map-append}
use Rattle.std.proofs.lemmas.List.{append-nil, length-append, length-map, length-take-le, take_all, take_more}
use Rattle.std.proofs.lemmas.List.Folds.{list_all-append}
use Rattle.std.proofs.lemmas.List.Splits.{length-slice_split}
use Rattle.sp_base.specs.Bytes.{AreBytes}
use Rattle.sp_base.specs.Paths.{has_slash, is_path, is_under, mangled_seg, mangled_segs, name_of, parent_of, pieces, text_of}
use Rattle.sp_base.specs.PathTexts.{ends_segment, lack_slashes, segs_in, spelling_of, text_under}
use Rattle.sp_outside.specs.Files.{has_prefix}
use Rattle.cover_rules.specs.declared.invalidation.Invalidation.{Invalidation}
use Rattle.cover_rules.specs.declared.page.PageKey.{PageKey}
use Rattle.cover_rules.specs.Coverage.{deletes, handle_of, is_handle, is_part_page, is_rendering, takes_below}
use Rattle.cover_rules.specs.Pages.{IsPageKey, page_path, page_text}
use Rattle.cover_rules.proofs.CoverageLemmas.{content_part_lacks_slashes}
use Rattle.docroot_format.specs.Deletions.{IsDeletedByName, begins_with_any, deleted_prefixes, rendering_prefixes}
use Rattle.docroot_format.specs.Names.{body_name, folder_name}
use Rattle.docroot_format.proofs.Folders.{page_is}
use Rattle.docroot_format.proofs.NameCode.{BeginsNoByte, body_spells, in_name, is_begun, name_begins, path_byte, prefix_spells}
use Rattle.docroot_format.proofs.NameLemmas.{append_both}
use Rattle.sp_base.proofs.BoolLemmas.{and_first, and_second, or_false, or_true, same_truth}
use Rattle.sp_base.proofs.ListLemmas.{cons_parts}
use Rattle.sp_base.proofs.PathBytes.{all_mangled}
use Rattle.sp_base.proofs.TextBytes.{both_are_bytes}
use Rattle.sp_base.proofs.TextLemmas.{begins_with, segments_are, segments_themselves}

-- ---- texts of paths

slash_in : (start rest : List ℕ) → has_slash (start ++ 47 ∷ rest) ≡ true
slash_in [] rest = refl
slash_in (b ∷ start) rest = ap (λ t. nat_eq b 47 || t) (slash_in start rest) ∙ or_true (nat_eq b 47)

-- a text is before a slash and a file without one: where it begins with another text and a slash, a segment ends there
record EndsAt (text start : List ℕ) : Type 0 where
  rest : List ℕ
  parts : text ≡ start ++ rest
  ends : ends_segment rest ≡ true

ends_at : (text start file rest : List ℕ) → has_slash file ≡ false → text ++ 47 ∷ file ≡ start ++ 47 ∷ rest → EndsAt text start
ends_at [] [] file rest lacks e = record { rest = []; parts = refl; ends = refl }
ends_at (b ∷ text) [] file rest lacks e = record { rest = b ∷ text; parts = refl; ends = ap (λ c. nat_eq c 47) (cons_parts b 47 (text ++ 47 ∷ file) rest e).0 }
ends_at [] (c ∷ start) file rest lacks e =
    absurd (true≢false (sym (ap has_slash (cons_parts 47 c file (start ++ 47 ∷ rest) e).1 ∙ slash_in start rest) ∙ lacks))
ends_at (b ∷ text) (c ∷ start) file rest lacks e =
    let one = cons_parts b c (text ++ 47 ∷ file) (start ++ 47 ∷ rest) e in
    let more = ends_at text start file rest lacks one.1 in
    record { rest = more.rest; parts = ap (λ x. x ∷ text) one.0 ∙ ap (λ xs. c ∷ xs) more.parts; ends = more.ends }

is_slash : (b : ℕ) → nat_eq b 47 ≡ true → b ≡ 47
is_slash b e = grind (arith, nat_tests)

-- what ends a segment, and the file after it, begins with a slash
slash_next : (rest file : List ℕ) → ends_segment rest ≡ true → (more : List ℕ) × (rest ++ 47 ∷ file ≡ 47 ∷ more)
slash_next [] file e = (file, refl)
slash_next (b ∷ rest) file e = (rest ++ 47 ∷ file, ap (λ c. c ∷ (rest ++ 47 ∷ file)) (is_slash b e))

under_text : (text start : List ℕ) → EndsAt text start → text_under text start ≡ true
under_text text start at =
    and_from _ _ (is_begun text start at.rest at.parts)
    (ap (λ (t : List ℕ). ends_segment (drop (length start) t)) at.parts ∙ ap ends_segment (drop-append_seam start at.rest) ∙ at.ends)

text_parts : (text start : List ℕ) → text_under text start ≡ true → EndsAt text start
text_parts text start h = record { rest = drop (length start) text; parts = begins_with text start (and_first _ _ h); ends = and_second _ _ h }

-- a page's path begins with a folder's and a slash exactly where the page's folder is under it
below : (text start file : List ℕ) → has_slash file ≡ false → starts_with nat_eq (text ++ 47 ∷ file) (start ++ 47 ∷ []) ≡ text_under text start
below text start file lacks = same_truth _ _
    (λ h. under_text text start (ends_at text start file (drop (length (start ++ 47 ∷ [])) (text ++ 47 ∷ file)) lacks
    (begins_with (text ++ 47 ∷ file) (start ++ 47 ∷ []) h ∙ sym (append_both start (47 ∷ []) (drop (length (start ++ 47 ∷ [])) (text ++ 47 ∷ file))))))
    (λ h.
    let at = text_parts text start h in
    let next = slash_next at.rest file at.ends in
    is_begun (text ++ 47 ∷ file) (start ++ 47 ∷ []) next.0
    (ap (λ (t : List ℕ). t ++ 47 ∷ file) at.parts ∙ sym (append_both start at.rest (47 ∷ file)) ∙ ap (λ (t : List ℕ). start ++ t) next.1 ∙ append_both start (47 ∷ []) next.0))

-- the page's path itself is at the folder's path, or below it
at_or_below : (whole start rest : List ℕ) → whole ≡ start ++ rest → ends_segment rest ≡ true → (whole ≡ start) ⊎ (starts_with nat_eq whole (start ++ 47 ∷ []) ≡ true)
at_or_below whole start [] parts ends = inl (parts ∙ append-nil start)
at_or_below whole start (b ∷ rest) parts ends =
    inr (is_begun whole (start ++ 47 ∷ []) rest (parts ∙ ap (λ c. start ++ c ∷ rest) (is_slash b ends) ∙ append_both start (47 ∷ []) rest))

spelling_last : (folder : List (List ℕ)) (file : List ℕ) → spelling_of (folder ++ file ∷ []) ≡ spelling_of folder ++ 47 ∷ file
spelling_last folder file = flat_map-append (λ s. 47 ∷ s) folder (file ∷ []) ∙ ap (λ (t : List ℕ). spelling_of folder ++ t) (append-nil (47 ∷ file))

text_last : (folder : List (List ℕ)) (file : List ℕ) → text_of (folder ++ file ∷ []) ≡ spelling_of (folder ++ file ∷ [])
text_last [] file = refl
text_last (seg ∷ folder) file = refl

lacks_last : (folder : List (List ℕ)) (file : List ℕ) → lack_slashes folder ≡ true → has_slash file ≡ false → lack_slashes (folder ++ file ∷ []) ≡ true
lacks_last folder file lacks slashless =
    list_all-append (λ seg. not (has_slash seg)) folder (file ∷ []) ∙ and_from _ _ lacks (ap (λ t. not t && true) slashless)

spelling_bytes : (segs : List (List ℕ)) → AllByRecursion AreBytes segs → AreBytes (spelling_of segs)
spelling_bytes [] p = tt
spelling_bytes (seg ∷ segs) p = (omega arith, both_are_bytes seg (spelling_of segs) p.0 (spelling_bytes segs p.1))

last_bytes : (folder : List (List ℕ)) (file : List ℕ) → AllByRecursion AreBytes folder → AreBytes file → AreBytes (spelling_of folder ++ 47 ∷ file)
last_bytes folder file p q = both_are_bytes (spelling_of folder) (47 ∷ file) (spelling_bytes folder p) (omega arith, q)

-- ---- a page's key, and a handle

-- what is known of the path of a page's key, and of a handle
pub record Told (key : PageKey) (handle : List (List ℕ)) : Type 0 where
  pub path : page_path key ≡ key.folder ++ key.file ∷ []
  pub folder : lack_slashes key.folder ≡ true
  pub file : has_slash key.file ≡ false
  pub slashless : lack_slashes handle ≡ true
  pub bytes : AreBytes (spelling_of key.folder ++ 47 ∷ key.file)
  pub handle_bytes : AllByRecursion AreBytes handle
  pub under : (path other : List (List ℕ)) → lack_slashes path ≡ true → lack_slashes other ≡ true → text_under (spelling_of path) (spelling_of other) ≡ is_under path other
  pub back : (path : List (List ℕ)) → lack_slashes path ≡ true → segs_in (spelling_of path) ≡ path

one_piece : (parts : List (List ℕ)) (file : List ℕ) → length parts ≡ 1 → spelling_of parts ≡ 47 ∷ file → parts ≡ file ∷ []
one_piece [] file few e = absurd (omega (arith, few))
one_piece (part ∷ []) file few e = ap (λ (p : List ℕ). p ∷ []) (sym (append-nil part) ∙ (cons_parts 47 47 (part ++ []) file e).1)
one_piece (part ∷ more ∷ parts) file few e = absurd (omega (arith, few))

-- the file of a page's key has one piece
key_piece : (key : PageKey) → IsPageKey key → spelling_of (pieces key.file) ≡ 47 ∷ key.file → pieces key.file ≡ key.file ∷ []
key_piece key page spelled =
    let segs = mangled_segs (page_path key) in
    let some = length-slice_split (λ b. nat_eq b 47) key.file in
    let all : length segs ≡ length key.folder + length (pieces key.file) = length-map (page_path key) mangled_seg ∙ length-append key.folder (pieces key.file) in
    let folder : length key.folder ≡ length segs - 1 = ap length (page_is (page_path key) key page.own).0 ∙ length-take-le (length segs - 1) segs (omega arith) in
    one_piece (pieces key.file) key.file (omega (arith, some, all, folder)) spelled

pub told_of : (inv : Invalidation) (key : PageKey) → IsPageKey key → IsTrue (is_path inv.handle) → AllByRecursion AreBytes inv.handle
    → ((path : List (List ℕ)) → IsTrue (is_path path) → lack_slashes path ≡ true)
    → ((path : List (List ℕ)) → lack_slashes path ≡ true → lack_slashes (mangled_segs path) ≡ true)
    → ((text : List ℕ) → lack_slashes (pieces text) ≡ true)
    → ((text : List ℕ) → spelling_of (pieces text) ≡ 47 ∷ text)
    → ((path other : List (List ℕ)) → lack_slashes path ≡ true → lack_slashes other ≡ true → text_under (spelling_of path) (spelling_of other) ≡ is_under path other)
    → ((path : List (List ℕ)) → lack_slashes path ≡ true → segs_in (spelling_of path) ≡ path)
    → Told key (handle_of inv)
told_of inv key page valid small lacks mangled parted spelled under back =
    let piece = key_piece key page (spelled key.file) in
    record {
      path = ap (λ (p : List (List ℕ)). key.folder ++ p) piece;
      folder = lacks key.folder page.folder;
      file = not-true (has_slash key.file) (and_first (not (has_slash key.file)) true (sym (ap lack_slashes piece) ∙ parted key.file));
      slashless = mangled inv.handle (lacks inv.handle valid);
      bytes = last_bytes key.folder key.file page.folder_bytes page.file_bytes;
      handle_bytes = all_mangled inv.handle small;
      under = under;
      back = back;
    }

-- ---- a handle's renderings

pub parent_and_name : (seg : List ℕ) (segs : List (List ℕ)) → parent_of (seg ∷ segs) ++ name_of (seg ∷ segs) ∷ [] ≡ seg ∷ segs
parent_and_name seg segs =
    let n = length (seg ∷ segs) - 1 in
    let whole : n + 1 ≡ length (seg ∷ segs) = omega arith in
    sym (take_more (seg ∷ segs) n [] (omega arith)) ∙ ap (λ (m : ℕ). take m (seg ∷ segs)) whole ∙ take_all (length (seg ∷ segs)) (seg ∷ segs) (omega arith)

-- where a body at a path would stand spells the path
path_spells : (segs : List (List ℕ)) (last : List ℕ) (path : List (List ℕ)) → segs ++ last ∷ [] ≡ path → lack_slashes path ≡ true → 47 ∷ body_name segs last ≡ in_name (spelling_of path)
path_spells segs last path parts lacks =
    let all = sym (list_all-append (λ seg. not (has_slash seg)) segs (last ∷ [])) ∙ ap lack_slashes parts ∙ lacks in
    body_spells segs last (and_first (lack_slashes segs) (lack_slashes (last ∷ [])) all) (not-true (has_slash last) (and_first (not (has_slash last)) true (and_second (lack_slashes segs) (lack_slashes (last ∷ [])) all)))
    ∙ append-nil (in_name (spelling_of segs ++ 47 ∷ last)) ∙ ap in_name (sym (spelling_last segs last) ∙ ap spelling_of parts)

some_segment : (seg : List ℕ) (segs : List (List ℕ)) → not (length (seg ∷ segs) == 0) ≡ true
some_segment seg segs = grind (arith, nat_tests)

page_text_is : (key : PageKey) (handle : List (List ℕ)) → Told key handle → page_text key ≡ spelling_of key.folder ++ 47 ∷ key.file
page_text_is key handle told = ap text_of told.path ∙ text_last key.folder key.file ∙ spelling_last key.folder key.file

-- a name of a page's file begins as those of renderings do exactly where the page is one
rendering_begins : (key : PageKey) (seg : List ℕ) (segs : List (List ℕ)) (name tail : List ℕ) → Told key (seg ∷ segs) → BeginsNoByte tail
    → 47 ∷ name ≡ in_name (spelling_of key.folder ++ 47 ∷ key.file) ++ tail
    → has_prefix (body_name (parent_of (seg ∷ segs)) (name_of (seg ∷ segs)) ++ codes ".") name ≡ is_rendering (seg ∷ segs) key
rendering_begins key seg segs name tail told none named =
    let handle = seg ∷ segs in
    let text = spelling_of key.folder ++ 47 ∷ key.file in
    let prefix = body_name (parent_of handle) (name_of handle) ++ codes "." in
    let begun : 47 ∷ prefix ≡ in_name (spelling_of handle ++ codes ".") =
    ap (λ (t : List ℕ). t ++ codes ".") (path_spells (parent_of handle) (name_of handle) handle (parent_and_name seg segs) told.slashless) ∙ sym (flat_map-append path_byte (spelling_of handle) (codes ".")) in
    name_begins name prefix text (spelling_of handle ++ codes ".") tail none told.bytes
    (both_are_bytes (spelling_of handle) (codes ".") (spelling_bytes handle told.handle_bytes) (omega arith, tt)) named begun
    ∙ sym (ap (λ t. t && starts_with nat_eq (page_text key) (spelling_of handle ++ codes ".")) (some_segment seg segs)
    ∙ ap (λ (t : List ℕ). starts_with nat_eq t (spelling_of handle ++ codes ".")) (page_text_is key handle told))

-- ---- what is below a folder

folder_begins : (key : PageKey) (handle folder : List (List ℕ)) (name tail : List ℕ) → Told key handle → lack_slashes folder ≡ true → AllByRecursion AreBytes folder → BeginsNoByte tail
    → 47 ∷ name ≡ in_name (spelling_of key.folder ++ 47 ∷ key.file) ++ tail → has_prefix (folder_name folder) name ≡ is_under key.folder folder
folder_begins key handle folder name tail told lacks small none named =
    name_begins name (folder_name folder) (spelling_of key.folder ++ 47 ∷ key.file) (spelling_of folder ++ 47 ∷ []) tail none told.bytes (last_bytes folder [] small tt) named (prefix_spells folder lacks)
    ∙ below (spelling_of key.folder) (spelling_of folder) key.file told.file ∙ told.under key.folder folder told.folder lacks

any_begins : (key : PageKey) (handle folder : List (List ℕ)) (name tail : List ℕ) → Told key handle → lack_slashes folder ≡ true → AllByRecursion AreBytes folder → BeginsNoByte tail
    → 47 ∷ name ≡ in_name (spelling_of key.folder ++ 47 ∷ key.file) ++ tail
    → begins_with_any (rendering_prefixes handle ++ folder_name folder ∷ []) name ≡ (is_rendering handle key || is_under key.folder folder)
any_begins key [] folder name tail told lacks small none named = or_false (has_prefix (folder_name folder) name) ∙ folder_begins key [] folder name tail told lacks small none named
any_begins key (seg ∷ segs) folder name tail told lacks small none named =
    ap (λ t. t || (has_prefix (folder_name folder) name || false)) (rendering_begins key seg segs name tail told none named)
    ∙ ap (λ t. is_rendering (seg ∷ segs) key || t) (or_false (has_prefix (folder_name folder) name) ∙ folder_begins key (seg ∷ segs) folder name tail told lacks small none named)

-- ---- what an invalidation deletes

-- what is under the handle is the page at it, or below it
under_handle : (key : PageKey) (handle : List (List ℕ)) → Told key handle → is_under (page_path key) handle ≡ (is_handle handle key || is_under key.folder handle)
under_handle key handle told =
    let text = spelling_of key.folder ++ 47 ∷ key.file in
    let spelled : spelling_of (page_path key) ≡ text = ap spelling_of told.path ∙ spelling_last key.folder key.file in
    let lacks : lack_slashes (page_path key) ≡ true = ap lack_slashes told.path ∙ lacks_last key.folder key.file told.folder told.file in
    let whole : text_under text (spelling_of handle) ≡ is_under (page_path key) handle = ap (λ (t : List ℕ). text_under t (spelling_of handle)) (sym spelled) ∙ told.under (page_path key) handle lacks told.slashless in
    let part : starts_with nat_eq text (spelling_of handle ++ 47 ∷ []) ≡ is_under key.folder handle =
    below (spelling_of key.folder) (spelling_of handle) key.file told.file ∙ told.under key.folder handle told.folder told.slashless in
    same_truth _ _
    (λ h. let at = text_parts text (spelling_of handle) (whole ∙ h) in
    elim (at_or_below text (spelling_of handle) at.rest at.parts at.ends) [
      | inl same ↦ or_left _ _ (ap (λ p. pointwise (pointwise nat_eq) p handle) (sym (told.back (page_path key) lacks) ∙ ap segs_in (spelled ∙ same) ∙ told.back handle told.slashless) ∙ segments_themselves handle)
      | inr more ↦ or_right (is_handle handle key) _ (sym part ∙ more)
    ])
    (λ h. elim (or_cases (is_handle handle key) (is_under key.folder handle) h) [
      | inl same ↦ sym whole ∙ under_text text (spelling_of handle) (record { rest = []; parts = sym spelled ∙ ap spelling_of (segments_are (page_path key) handle same) ∙ sym (append-nil (spelling_of handle)); ends = refl })
      | inr more ↦ sym whole ∙ under_text text (spelling_of handle) (record {
        rest = 47 ∷ drop (length (spelling_of handle ++ 47 ∷ [])) text;
        parts = begins_with text (spelling_of handle ++ 47 ∷ []) (part ∙ more) ∙ sym (append_both (spelling_of handle) (47 ∷ []) (drop (length (spelling_of handle ++ 47 ∷ [])) text));
        ends = refl;
      })
    ])

-- a page of a part of the content is below the handle
part_below : (key : PageKey) (handle : List (List ℕ)) → Told key handle → is_part_page handle key ≡ true → is_under key.folder handle ≡ true
part_below key handle told h =
    let at = text_parts (spelling_of key.folder) (spelling_of (handle ++ codes "_jcr_content" ∷ [])) (told.under key.folder (handle ++ codes "_jcr_content" ∷ []) told.folder (content_part_lacks_slashes handle told.slashless) ∙ h) in
    sym (told.under key.folder handle told.folder told.slashless)
    ∙ under_text (spelling_of key.folder) (spelling_of handle) (record {
      rest = codes "/_jcr_content" ++ at.rest;
      parts = at.parts ∙ ap (λ (t : List ℕ). t ++ at.rest) (spelling_last handle (codes "_jcr_content")) ∙ sym (append_both (spelling_of handle) (codes "/_jcr_content") at.rest);
      ends = refl;
    })

all_below : (at rendering part under : Bool) → (part ≡ true → under ≡ true) → (at || (rendering || (part || (at || under)))) ≡ (at || (rendering || under))
all_below true rendering part under inside = refl
all_below false true part under inside = refl
all_below false false true under inside = sym (inside refl)
all_below false false false under inside = refl

none_below : (at rendering part under : Bool) → (at || (rendering || (part || false && under))) ≡ (at || (rendering || part))
none_below at rendering part under = ap (λ t. at || (rendering || t)) (or_false part)

-- the folder below which all pages are deleted
abbrev folder_of : Bool → List (List ℕ) → List (List ℕ)
folder_of all handle = cond all handle (handle ++ codes "_jcr_content" ∷ [])

deleted : (all : Bool) (key : PageKey) (handle : List (List ℕ)) → Told key handle
    → (is_handle handle key || (is_rendering handle key || (is_part_page handle key || all && is_under (page_path key) handle))) ≡ (is_handle handle key || (is_rendering handle key || is_under key.folder (folder_of all handle)))
deleted true key handle told =
    ap (λ t. is_handle handle key || (is_rendering handle key || (is_part_page handle key || t))) (under_handle key handle told)
    ∙ all_below (is_handle handle key) (is_rendering handle key) (is_part_page handle key) (is_under key.folder handle) (part_below key handle told)
deleted false key handle told = none_below (is_handle handle key) (is_rendering handle key) (is_part_page handle key) (is_under (page_path key) handle)

folder_lacks : (all : Bool) (handle : List (List ℕ)) → lack_slashes handle ≡ true → lack_slashes (folder_of all handle) ≡ true
folder_lacks true handle lacks = lacks
folder_lacks false handle lacks = content_part_lacks_slashes handle lacks

content_bytes : (handle : List (List ℕ)) → AllByRecursion AreBytes handle → AllByRecursion AreBytes (handle ++ codes "_jcr_content" ∷ [])
content_bytes [] p = ((omega arith, (omega arith, (omega arith, (omega arith, (omega arith, (omega arith, (omega arith, (omega arith, (omega arith, (omega arith, (omega arith, (omega arith, tt)))))))))))), tt)
content_bytes (seg ∷ handle) p = (p.0, content_bytes handle p.1)

folder_bytes : (all : Bool) (handle : List (List ℕ)) → AllByRecursion AreBytes handle → AllByRecursion AreBytes (folder_of all handle)
folder_bytes true handle p = p
folder_bytes false handle p = content_bytes handle p

-- the page is the one at the handle, or a name of its files begins with a prefix
by_name : (inv : Invalidation) (key : PageKey) (name tail : List ℕ) → Told key (handle_of inv) → BeginsNoByte tail → 47 ∷ name ≡ in_name (spelling_of key.folder ++ 47 ∷ key.file) ++ tail
    → deletes inv key ≡ (is_handle (handle_of inv) key || begins_with_any (deleted_prefixes inv) name)
by_name inv key name tail told none named =
    let handle = handle_of inv in
    let all = takes_below inv.action in
    deleted all key handle told
    ∙ ap (λ t. is_handle handle key || t) (sym (any_begins key handle (folder_of all handle) name tail told (folder_lacks all handle told.slashless) (folder_bytes all handle told.handle_bytes) none named))

pub told_by_name : (inv : Invalidation) (key : PageKey) (name tail : List ℕ) → Told key (handle_of inv) → BeginsNoByte tail → 47 ∷ name ≡ in_name (spelling_of key.folder ++ 47 ∷ key.file) ++ tail
    → (deletes inv key ≡ true) ↔ IsDeletedByName inv key name
told_by_name inv key name tail told none named =
    let handle = handle_of inv in
    let same = by_name inv key name tail told none named in (
      λ h. elim (or_cases (is_handle handle key) (begins_with_any (deleted_prefixes inv) name) (sym same ∙ h)) [
        | inl at ↦ inl (segments_are (page_path key) handle at)
        | inr begun ↦ inr begun
      ],
      λ h. same ∙ elim h [
        | inl at ↦ or_left (is_handle handle key) _ (ap (λ p. pointwise (pointwise nat_eq) p handle) at ∙ segments_themselves handle)
        | inr begun ↦ or_right (is_handle handle key) _ begun
      ],
    )
