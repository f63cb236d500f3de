-- Names of files lie in the docroot: no segment of one is empty, `.` or `..`, and each byte is one that names have.
use Rattle.std.proofs.Common.{◌≡◌, ◌<◌, ◌≤◌, ◌+◌, ◌/◌, ◌%◌, ℕ, zero, suc, Bool, true, false, not, cond, ◌&&◌, ◌||◌, ◌++◌, List, [], ◌∷◌, IsTrue, drop, length, get_or, nat_eq, codes, flat_map, Option, Some, None, refl, sym, ◌∙◌, ap, subst, arith}
use Rattle.std.specs.List.{All, list_all}
use Rattle.std.specs.Fmt.{digit_glyph}
use Rattle.std.specs.Cmp.Lexicographic.{pointwise, bytes_decides}
use Rattle.std.proofs.lemmas.Bool.{and_from, false_from_ne_true, not-true, true≢false}
use Rattle.std.proofs.lemmas.Bool.Decides.{nat_tests}
use Rattle.std.proofs.lemmas.List.Splits.{slice_split_at, slice_split_none}
use Rattle.std.proofs.lemmas.List.Folds.{list_all-append}
use Rattle.std.proofs.lemmas.List.{length-append}
use Rattle.sp_base.specs.Paths.{has_slash, is_empty, is_dots, is_long, is_namespaced, is_path, mangled_segs, mangled_by, mangled_seg, parent_of, pieces, seg_ok, name_of}
use Rattle.sp_base.proofs.BoolLemmas.{and_first, and_second}
use Rattle.cover_rules.specs.declared.page.PageKey.{PageKey}
use Rattle.cover_rules.specs.Pages.{is_file, is_page, key_at, page_key_of}
use Rattle.cover_rules.specs.Names.{is_plain_name_byte, file_byte, file_name}
use Rattle.docroot_format.specs.Names.{body_name, folder_name, head_name, stat_name, is_file_name_byte}
use Rattle.docroot_format.proofs.NameLemmas.{append_both}
use Rattle.docroot_format.proofs.NameSizes.{file_some}

-- a piece of a name that leads into a folder, of bytes that file names have
abbrev pub is_segment : List ℕ → Bool
is_segment piece = not (is_empty piece) && (not (is_dots piece) && list_all is_file_name_byte piece)

-- a name of such pieces
abbrev pub is_whole : List ℕ → Bool
is_whole name = list_all is_segment (pieces name)

glyph_ok : (d : ℕ) → d < 16 → is_file_name_byte (digit_glyph true d) ≡ true
glyph_ok d small = grind (arith, nat_tests)

byte_ok : (b : ℕ) (plain : Bool) → is_plain_name_byte b ≡ plain → list_all is_file_name_byte (cond plain (b ∷ []) (37 ∷ digit_glyph true (b / 16 % 16) ∷ digit_glyph true (b % 16) ∷ [])) ≡ true
byte_ok b true e = ap (λ p. (p || nat_eq b 37) && true) e
byte_ok b false e = and_from _ _ (glyph_ok (b / 16 % 16) (omega arith)) (and_from _ _ (glyph_ok (b % 16) (omega arith)) refl)

pub bytes_ok : (seg : List ℕ) → list_all is_file_name_byte (file_name seg) ≡ true
unfolding file_name
bytes_ok [] = refl
bytes_ok (b ∷ seg) = list_all-append is_file_name_byte (file_byte b) (flat_map file_byte seg) ∙ and_from _ _ (byte_ok b (is_plain_name_byte b) refl) (bytes_ok seg)

-- ---- a file name is `.` or `..` only where the segment is

pub first_byte : (b : ℕ) (plain : Bool) (s rest : List ℕ) → cond plain (b ∷ []) (37 ∷ digit_glyph true (b / 16 % 16) ∷ digit_glyph true (b % 16) ∷ []) ++ s ≡ 46 ∷ rest → (b ≡ 46) × (s ≡ rest)
first_byte b true s rest e = (cc, cc)
first_byte b false s rest e =
    let head : 37 ≡ 46 = ap (λ l. get_or l 0 0) e in
    absurd (omega (arith, head))

empty_name : (seg : List ℕ) → file_name seg ≡ [] → seg ≡ []
empty_name [] e = refl
empty_name (b ∷ seg) e =
    let none : length (file_name (b ∷ seg)) ≡ 0 = ap length e in
    absurd (omega (arith, none, file_some (b ∷ seg) (omega arith)))

one_dot : (seg : List ℕ) → file_name seg ≡ 46 ∷ [] → seg ≡ 46 ∷ []
unfolding file_name
one_dot [] e = absurd cc
one_dot (b ∷ seg) e =
    let f = first_byte b (is_plain_name_byte b) (file_name seg) [] e in
    ap (λ x. x ∷ seg) f.0 ∙ ap (λ s. 46 ∷ s) (empty_name seg f.1)

two_dots : (seg : List ℕ) → file_name seg ≡ 46 ∷ 46 ∷ [] → seg ≡ 46 ∷ 46 ∷ []
unfolding file_name
two_dots [] e = absurd cc
two_dots (b ∷ seg) e =
    let f = first_byte b (is_plain_name_byte b) (file_name seg) (46 ∷ []) e in
    ap (λ x. x ∷ seg) f.0 ∙ ap (λ s. 46 ∷ s) (one_dot seg f.1)

no_dots : (xs : List ℕ) → (xs ≡ codes "." → ⊥) → (xs ≡ codes ".." → ⊥) → is_dots xs ≡ false
no_dots xs one two =
    ap (λ b. b || pointwise nat_eq xs (codes "..")) (false_from_ne_true (pointwise nat_eq xs (codes ".")) (λ e. one ((bytes_decides xs (codes ".")).0 e)))
    ∙ false_from_ne_true (pointwise nat_eq xs (codes "..")) (λ e. two ((bytes_decides xs (codes "..")).0 e))

name_no_dots : (seg : List ℕ) → is_dots seg ≡ false → is_dots (file_name seg) ≡ false
name_no_dots seg none = no_dots (file_name seg)
    (λ e. true≢false (sym (ap is_dots (one_dot seg e)) ∙ none))
    (λ e. true≢false (sym (ap is_dots (two_dots seg e)) ∙ none))

long_no_dots : (xs : List ℕ) → 3 ≤ length xs → is_dots xs ≡ false
long_no_dots xs long = no_dots xs
    (λ e. let l : length xs ≡ 1 = ap length e in omega (arith, l, long))
    (λ e. let l : length xs ≡ 2 = ap length e in omega (arith, l, long))

-- ---- segments

some_not_empty : (xs : List ℕ) → 0 < length xs → not (is_empty xs) ≡ true
some_not_empty [] some = absurd (omega (arith, some))
some_not_empty (x ∷ xs) some = grind (arith, nat_tests)

not_empty_some : (xs : List ℕ) → is_empty xs ≡ false → 0 < length xs
not_empty_some [] e = absurd (true≢false e)
not_empty_some (x ∷ xs) e = omega arith

segment_name : (seg : List ℕ) → is_empty seg ≡ false → is_dots seg ≡ false → is_segment (file_name seg) ≡ true
segment_name seg some none =
    and_from _ _ (some_not_empty (file_name seg) (file_some seg (not_empty_some seg some)))
    (and_from _ _ (ap not (name_no_dots seg none)) (bytes_ok seg))

not_slash : (b : ℕ) → is_file_name_byte b ≡ true → nat_eq b 47 ≡ false
not_slash b e = grind (arith, nat_tests)

pub no_slash : (xs : List ℕ) → list_all is_file_name_byte xs ≡ true → All (λ b. nat_eq b 47 ≡ false) xs
no_slash [] e k d lt = absurd (omega (arith, lt))
no_slash (x ∷ xs) e zero d lt = not_slash x (and_first _ _ e)
no_slash (x ∷ xs) e (suc k) d lt = no_slash xs (and_second _ _ e) k d (omega (arith, lt))

segment_bytes : (piece : List ℕ) → is_segment piece ≡ true → list_all is_file_name_byte piece ≡ true
segment_bytes piece ok = and_second _ _ (and_second _ _ ok)

inside_piece : (piece rest : List ℕ) → is_segment piece ≡ true → is_whole rest ≡ true → is_whole (piece ++ 47 ∷ rest) ≡ true
inside_piece piece rest ok e =
    ap (list_all is_segment) (slice_split_at (λ b. nat_eq b 47) piece 47 rest (no_slash piece (segment_bytes piece ok)) refl) ∙ and_from _ _ ok e

inside_last : (piece : List ℕ) → is_segment piece ≡ true → is_whole piece ≡ true
inside_last piece ok =
    ap (list_all is_segment) (slice_split_none (λ b. nat_eq b 47) piece (no_slash piece (segment_bytes piece ok))) ∙ and_from _ _ ok refl

-- what a segment of a path is, however long it is and also where it is mangled
abbrev pub is_named : List ℕ → Bool
is_named seg = not (is_empty seg) && not (is_dots seg)

named_of : (e d rest : Bool) → not e && (not d && rest) ≡ true → not e && not d ≡ true
named_of true d rest ok = ok
named_of false true rest ok = ok
named_of false false rest ok = refl

pub segs_named : (segs : List (List ℕ)) → list_all seg_ok segs ≡ true → list_all is_named segs ≡ true
segs_named [] ok = refl
segs_named (seg ∷ segs) ok =
    let first = and_first (seg_ok seg) (list_all seg_ok segs) ok in
    and_from (is_named seg) (list_all is_named segs) (named_of (is_empty seg) (is_dots seg) (not (is_long seg) && not (has_slash seg)) first) (segs_named segs (and_second (seg_ok seg) (list_all seg_ok segs) ok))

chosen_named : (b : Bool) (x y : List ℕ) → is_named x ≡ true → is_named y ≡ true → is_named (cond b x y) ≡ true
chosen_named true x y p q = p
chosen_named false x y p q = q

-- a mark begins with `_`
marked_named : (rest : List ℕ) → is_named (95 ∷ rest) ≡ true
marked_named rest = and_from (not (is_empty (95 ∷ rest))) (not (is_dots (95 ∷ rest))) (some_not_empty (95 ∷ rest) (omega arith)) refl

mangled_named : (seg : List ℕ) → is_named seg ≡ true → is_named (mangled_seg seg) ≡ true
mangled_named seg ok =
    chosen_named (is_namespaced (codes "jcr:") seg) (mangled_by (codes "jcr:") (codes "_jcr_") seg) _ (marked_named (drop 1 (mangled_by (codes "jcr:") (codes "_jcr_") seg)))
    (chosen_named (is_namespaced (codes "sling:") seg) (mangled_by (codes "sling:") (codes "_sling_") seg) _ (marked_named (drop 1 (mangled_by (codes "sling:") (codes "_sling_") seg)))
    (chosen_named (is_namespaced (codes "nt:") seg) (mangled_by (codes "nt:") (codes "_nt_") seg) _ (marked_named (drop 1 (mangled_by (codes "nt:") (codes "_nt_") seg)))
    (chosen_named (is_namespaced (codes "cq:") seg) (mangled_by (codes "cq:") (codes "_cq_") seg) _ (marked_named (drop 1 (mangled_by (codes "cq:") (codes "_cq_") seg))) ok)))

pub all_named : (segs : List (List ℕ)) → list_all is_named segs ≡ true → list_all is_named (mangled_segs segs) ≡ true
all_named [] ok = refl
all_named (seg ∷ segs) ok =
    and_from (is_named (mangled_seg seg)) (list_all is_named (mangled_segs segs)) (mangled_named seg (and_first (is_named seg) (list_all is_named segs) ok))
    (all_named segs (and_second (is_named seg) (list_all is_named segs) ok))

ok_name : (seg : List ℕ) → is_named seg ≡ true → is_segment (file_name seg) ≡ true
ok_name seg ok = segment_name seg (not-true (is_empty seg) (and_first (not (is_empty seg)) (not (is_dots seg)) ok)) (not-true (is_dots seg) (and_second (not (is_empty seg)) (not (is_dots seg)) ok))

folder_inside : (folder : List (List ℕ)) (last : List ℕ) → list_all is_named folder ≡ true → is_whole last ≡ true → is_whole (folder_name folder ++ last) ≡ true
folder_inside [] last ok e = e
folder_inside (seg ∷ folder) last ok e =
    ap is_whole (sym (append_both (file_name seg ++ 47 ∷ []) (folder_name folder) last) ∙ sym (append_both (file_name seg) (47 ∷ []) (folder_name folder ++ last)))
    ∙ inside_piece (file_name seg) (folder_name folder ++ last) (ok_name seg (and_first _ _ ok)) (folder_inside folder last (and_second _ _ ok) e)

-- ---- the names

-- a file of a page is neither empty nor `.` nor `..`
file_some_bytes : (file : List ℕ) → is_file file ≡ true → is_empty file ≡ false
file_some_bytes [] e = absurd (true≢false (sym e))
file_some_bytes (b ∷ file) e = grind (arith, nat_tests)

pub file_first : (file : List ℕ) → is_file file ≡ true → nat_eq (get_or file 0 0) 46 ≡ false
file_first file e = not-true _ (and_first _ _ (and_second _ _ e))

file_no_dots : (file : List ℕ) → is_file file ≡ true → is_dots file ≡ false
file_no_dots file e = no_dots file
    (λ is. true≢false (sym (ap (λ f. nat_eq (get_or f 0 0) 46) is) ∙ file_first file e))
    (λ is. true≢false (sym (ap (λ f. nat_eq (get_or f 0 0) 46) is) ∙ file_first file e))

abbrev file_in : Option PageKey → Bool
file_in None = true
file_in (Some key) = is_file key.file

abbrev is_there : Option PageKey → Bool
is_there None = false
is_there (Some key) = true

from_key : (segs : List (List ℕ)) (key : PageKey) (test : Bool) → is_page segs ≡ test → cond test (Some (record { folder = parent_of segs; file = name_of segs })) None ≡ Some key → is_file key.file ≡ true
from_key segs key true page e = subst (λ (o : Option PageKey). file_in o ≡ true) e (and_first _ _ page)
from_key segs key false page e = absurd (true≢false (sym (ap is_there e)))

pub key_file : (path : List (List ℕ)) (key : PageKey) → page_key_of path ≡ Some key → is_file key.file ≡ true
unfolding key_at
key_file path key e = from_key (mangled_segs path) key (is_page (mangled_segs path)) refl e

page_segment : (file : List ℕ) → is_file file ≡ true → is_segment (file_name file) ≡ true
page_segment file e = segment_name file (file_some_bytes file e) (file_no_dots file e)

pub body_inside : (path : List (List ℕ)) (key : PageKey) → IsTrue (is_path key.folder) → page_key_of path ≡ Some key → IsTrue (is_whole (body_name key.folder key.file))
body_inside path key folder e = folder_inside key.folder (file_name key.file) (segs_named key.folder (and_first _ _ folder)) (inside_last (file_name key.file) (page_segment key.file (key_file path key e)))

head_segment : (file : List ℕ) → is_file file ≡ true → is_segment (file_name file ++ codes "%h") ≡ true
head_segment file e =
    let some : 0 < length (file_name file) = file_some file (not_empty_some file (file_some_bytes file e)) in
    let long : length (file_name file ++ codes "%h") ≡ length (file_name file) + 2 = length-append (file_name file) (codes "%h") in
    and_from _ _ (some_not_empty (file_name file ++ codes "%h") (omega (arith, long)))
    (and_from _ _ (ap not (long_no_dots (file_name file ++ codes "%h") (omega (arith, long, some))))
    (list_all-append is_file_name_byte (file_name file) (codes "%h") ∙ and_from _ _ (bytes_ok file) refl))

pub head_inside : (path : List (List ℕ)) (key : PageKey) → IsTrue (is_path key.folder) → page_key_of path ≡ Some key → IsTrue (is_whole (head_name key.folder key.file))
head_inside path key folder e =
    ap is_whole (sym (append_both (folder_name key.folder) (file_name key.file) (codes "%h")))
    ∙ folder_inside key.folder (file_name key.file ++ codes "%h") (segs_named key.folder (and_first _ _ folder)) (inside_last (file_name key.file ++ codes "%h") (head_segment key.file (key_file path key e)))

pub stat_inside : (folder : List (List ℕ)) → IsTrue (is_path folder) → IsTrue (is_whole (stat_name folder))
stat_inside folder ok = folder_inside (mangled_segs folder) (codes ".stat") (all_named folder (segs_named folder (and_first _ _ ok))) refl
