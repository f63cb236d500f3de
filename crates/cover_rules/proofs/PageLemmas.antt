-- Which mangled paths are those of pages, and the text of a page's path.
use Rattle.std.proofs.Common.{ℕ, zero, suc, Bool, true, false, cond, not, ◌&&◌, ◌||◌, ◌==◌, List, [], ◌∷◌, ◌++◌, ◌-◌, ◌<◌, Some, None, Ok, Err, ◌+◌, length, take, get_or, refl, sym, subst, ◌∙◌, ap, ◌≡◌, arith}
use Rattle.std.proofs.lemmas.Bool.{and_from, and_right, not-false, not-true}
use Rattle.std.proofs.lemmas.Bool.Decides.{nat_tests}
use Rattle.std.proofs.lemmas.List.Concat.{flat_map-append}
use Rattle.std.proofs.lemmas.List.{take_more, take_all, append-nil}
use Rattle.std.proofs.lemmas.List.Folds.{list_any-append, list_all-append}
use Rattle.std.specs.List.{AllByRecursion, list_any, list_all}
use Rattle.sp_base.specs.Bytes.{AreBytes}
use Rattle.sp_base.proofs.BoolLemmas.{and_first, and_second}
use Rattle.sp_base.proofs.PathLemmas.{first_path}
use Rattle.sp_base.specs.declared.path.PathFault.{PathFault}
use Rattle.sp_base.specs.Paths.{has_slash, is_long, is_path, mangled_segs, mangled_of, name_of, parent_of, pieces, text_of}
use Rattle.sp_base.specs.PathTexts.{lack_slashes, segs_in, spelling_of}
use Rattle.cover_rules.specs.declared.page.PageKey.{PageKey}
use Rattle.cover_rules.specs.Names.{has_file_name}
use Rattle.cover_rules.specs.Pages.{IsPageKey, has_dot, is_file, is_folder_segment, is_page, key_at, page_key_of, page_path, page_text}
use Rattle.cover_rules.proofs.NameLemmas.{long_lacks}

pub no_key : (segs : List (List ℕ)) → is_page segs ≡ false → key_at segs ≡ None
unfolding key_at
no_key segs h = ap (λ t. cond t (Some (record { folder = parent_of segs; file = name_of segs })) None) h

pub a_key : (segs : List (List ℕ)) → is_page segs ≡ true → key_at segs ≡ Some (record { folder = parent_of segs; file = name_of segs })
unfolding key_at
a_key segs h = ap (λ t. cond t (Some (record { folder = parent_of segs; file = name_of segs })) None) h

pub no_file : (segs : List (List ℕ)) → is_file (name_of segs) ≡ false → is_page segs ≡ false
no_file segs h = ap (λ t. t && (list_all (λ seg. not (has_dot seg)) (parent_of segs) && list_all has_file_name segs)) h

third_false : (a b c : Bool) → c ≡ false → (a && (b && c)) ≡ false
third_false true true c h = h
third_false true false c h = refl
third_false false b c h = refl

second_false : (a b c : Bool) → b ≡ false → (a && (b && c)) ≡ false
second_false true true c h = cc (h)
second_false true false c h = refl
second_false false b c h = refl

all_true : (a b c : Bool) → a ≡ true → b ≡ true → c ≡ true → (a && (b && c)) ≡ true
all_true a b c e f g = ap (λ t. t && (b && c)) e ∙ ap (λ t. t && c) f ∙ g

pub no_names : (segs : List (List ℕ)) → list_all has_file_name segs ≡ false → is_page segs ≡ false
no_names segs h = third_false (is_file (name_of segs)) (list_all (λ seg. not (has_dot seg)) (parent_of segs)) (list_all has_file_name segs) h

nots : (a b : Bool) (t : Bool) → t ≡ not b → (a || t) ≡ not (not a && b)
nots true b t h = refl
nots false b t h = h

-- the spelling of folders has a dot where one of them does
pub dots : (segs : List (List ℕ)) → has_dot (spelling_of segs) ≡ not (list_all (λ seg. not (has_dot seg)) segs)
dots [] = refl
dots (seg ∷ segs) =
    list_any-append (λ b. b == 46) seg (spelling_of segs) ∙ nots (has_dot seg) (list_all (λ s. not (has_dot s)) segs) (has_dot (spelling_of segs)) (dots segs)

long_is : (seg : List ℕ) → is_long seg ≡ true → 200 < length seg
long_is seg h = grind (arith, nat_tests)

pub dotted_folder : (segs : List (List ℕ)) → has_dot (spelling_of (parent_of segs)) ≡ true → is_page segs ≡ false
dotted_folder segs h =
    second_false (is_file (name_of segs)) (list_all (λ seg. not (has_dot seg)) (parent_of segs)) (list_all has_file_name segs)
    (not-true (list_all (λ seg. not (has_dot seg)) (parent_of segs)) (sym (dots (parent_of segs)) ∙ h))

pub a_page : (segs : List (List ℕ)) → is_file (name_of segs) ≡ true → list_all has_file_name segs ≡ true → has_dot (spelling_of (parent_of segs)) ≡ false → is_page segs ≡ true
a_page segs f n d =
    all_true (is_file (name_of segs)) (list_all (λ seg. not (has_dot seg)) (parent_of segs)) (list_all has_file_name segs) f
    (not-false (list_all (λ seg. not (has_dot seg)) (parent_of segs)) (sym (dots (parent_of segs)) ∙ d)) n

-- the text of a page's path
text_full : (segs : List (List ℕ)) (b : ℕ) (text : List ℕ) → spelling_of segs ≡ b ∷ text → text_of segs ≡ spelling_of segs
text_full [] b text e = absurd (cc (e))
text_full (seg ∷ segs) b text e = refl

text_after : (folder more : List (List ℕ)) (text : List ℕ) → spelling_of more ≡ 47 ∷ text → text_of (folder ++ more) ≡ spelling_of folder ++ 47 ∷ text
text_after [] more text e = text_full more 47 text e ∙ e
text_after (seg ∷ folder) more text e =
    flat_map-append (λ s. 47 ∷ s) (seg ∷ folder) more ∙ ap (λ (t : List ℕ). spelling_of (seg ∷ folder) ++ t) e

pub page_text_is : (key : PageKey) → spelling_of (pieces key.file) ≡ 47 ∷ key.file → page_text key ≡ spelling_of key.folder ++ 47 ∷ key.file
page_text_is key e = text_after key.folder (pieces key.file) key.file e

pub root_lacks : (path : List (List ℕ)) → length path ≡ 0 → page_key_of path ≡ None
unfolding key_at
root_lacks [] h = refl
root_lacks (seg ∷ path) h = absurd (omega arith)

-- where a mangled path is no path a segment's file name is too long
any_long : (segs : List (List ℕ)) → list_any is_long segs ≡ true → list_all has_file_name segs ≡ false
any_long [] h = absurd (cc (h))
any_long (seg ∷ segs) h =
    elim (is_long seg) as (λ t. is_long seg ≡ t → (t || list_any is_long segs) ≡ true → (has_file_name seg && list_all has_file_name segs) ≡ false) [
      | true ↦ λ e k. ap (λ t. t && list_all has_file_name segs) (long_lacks seg (long_is seg e))
      | false ↦ λ e k. and_right (has_file_name seg) (list_all has_file_name segs) (any_long segs k)
    ] refl h

pub unmangled_lacks : (path : List (List ℕ)) (e : PathFault) → (list_any is_long (mangled_segs path) ≡ false → mangled_of path ≡ Ok (mangled_segs path)) → mangled_of path ≡ Err e → page_key_of path ≡ None
unmangled_lacks path e fits err =
    elim (list_any is_long (mangled_segs path)) as (λ t. list_any is_long (mangled_segs path) ≡ t → page_key_of path ≡ None) [
      | true ↦ λ long. no_key (mangled_segs path) (no_names (mangled_segs path) (any_long (mangled_segs path) long))
      | false ↦ λ short. absurd (cc (fits short, err))
    ] refl

-- the key's own path
prefix_and_last : (segs : List (List ℕ)) → 0 < length segs → parent_of segs ++ name_of segs ∷ [] ≡ segs
prefix_and_last segs h =
    let more = take_more segs (length segs - 1) [] (omega arith) in
    let all : length segs - 1 + 1 ≡ length segs = omega arith in
    sym more ∙ ap (λ n. take n segs) all ∙ take_all (length segs) segs (omega arith)

one_piece : (seg : List ℕ) → segs_in (spelling_of (seg ∷ [])) ≡ seg ∷ [] → pieces seg ≡ seg ∷ []
unfolding segs_in
one_piece seg e = ap pieces (sym (append-nil seg)) ∙ e

last_lacks : (segs : List (List ℕ)) → 0 < length segs → lack_slashes segs ≡ true → lack_slashes (name_of segs ∷ []) ≡ true
last_lacks segs some h =
    and_second (lack_slashes (parent_of segs)) _ (sym (list_all-append (λ seg. not (has_slash seg)) (parent_of segs) (name_of segs ∷ [])) ∙ ap lack_slashes (prefix_and_last segs some) ∙ h)

key_fields : (segs : List (List ℕ)) (key : PageKey) (b : Bool) → is_page segs ≡ b → cond b (Some (record { folder = parent_of segs; file = name_of segs })) None ≡ Some key
    → (is_page segs ≡ true) × (key.folder ≡ parent_of segs) × (key.file ≡ name_of segs)
key_fields segs key true e h = (e, cc (h), cc (h))
key_fields segs key false e h = absurd (cc (h))

pub fields_of : (segs : List (List ℕ)) (key : PageKey) → key_at segs ≡ Some key → (is_page segs ≡ true) × (key.folder ≡ parent_of segs) × (key.file ≡ name_of segs)
unfolding key_at
fields_of segs key h = key_fields segs key (is_page segs) refl h

some_segment : (segs : List (List ℕ)) → is_page segs ≡ true → 0 < length segs
some_segment [] h = absurd (cc (h))
some_segment (seg ∷ segs) h = omega arith

pub own_path : (segs : List (List ℕ)) (key : PageKey) → lack_slashes segs ≡ true → ((path : List (List ℕ)) → lack_slashes path ≡ true → segs_in (spelling_of path) ≡ path)
    → key_at segs ≡ Some key → page_path key ≡ segs
own_path segs key lacks back h =
    let f = fields_of segs key h in
    let some = some_segment segs f.0 in
    let piece = one_piece (name_of segs) (back (name_of segs ∷ []) (last_lacks segs some lacks)) in
    ap (λ (folder : List (List ℕ)). folder ++ pieces key.file) f.1 ∙ ap (λ (file : List ℕ). parent_of segs ++ pieces file) f.2
    ∙ ap (λ (more : List (List ℕ)). parent_of segs ++ more) piece ∙ prefix_and_last segs some

-- ---- the folder of a page

all_first : (segs : List (List ℕ)) (n : ℕ) → list_all has_file_name segs ≡ true → list_all has_file_name (take n segs) ≡ true
all_first [] zero h = refl
all_first [] (suc n) h = refl
all_first (seg ∷ segs) zero h = refl
all_first (seg ∷ segs) (suc n) h = ap (λ t. t && list_all has_file_name (take n segs)) (and_first _ _ h) ∙ all_first segs n (and_second _ _ h)

folder_segments : (segs : List (List ℕ)) → list_all has_file_name segs ≡ true → list_all (λ seg. not (has_dot seg)) segs ≡ true → list_all is_folder_segment segs ≡ true
folder_segments [] n d = refl
folder_segments (seg ∷ segs) n d =
    and_from (is_folder_segment seg) (list_all is_folder_segment segs) (and_from (has_file_name seg) (not (has_dot seg)) (and_first _ _ n) (and_first _ _ d))
    (folder_segments segs (and_second _ _ n) (and_second _ _ d))

folder_of_path : (segs : List (List ℕ)) → is_page segs ≡ true → list_all is_folder_segment (parent_of segs) ≡ true
folder_of_path segs h =
    let more = and_second (is_file (name_of segs)) _ h in
    folder_segments (parent_of segs) (all_first segs (length segs - 1) (and_second _ _ more)) (and_first _ _ more)

pub folder_of_page : (key : PageKey) → page_key_of (page_path key) ≡ Some key → list_all is_folder_segment key.folder ≡ true
folder_of_page key h =
    let f = fields_of (mangled_segs (page_path key)) key h in
    ap (list_all is_folder_segment) f.1 ∙ folder_of_path (mangled_segs (page_path key)) f.0

-- ---- the key of a path is a page's

pub taken_are_bytes : (n : ℕ) (segs : List (List ℕ)) → AllByRecursion AreBytes segs → AllByRecursion AreBytes (take n segs)
taken_are_bytes zero segs p = tt
taken_are_bytes (suc n) [] p = tt
taken_are_bytes (suc n) (seg ∷ segs) p = (p.0, taken_are_bytes n segs p.1)

one_of : (n : ℕ) (segs : List (List ℕ)) → AllByRecursion AreBytes segs → AreBytes (get_or segs n [])
one_of n [] p = tt
one_of zero (seg ∷ segs) p = p.0
one_of (suc n) (seg ∷ segs) p = one_of n segs p.1

none_long : (segs : List (List ℕ)) → list_all has_file_name segs ≡ true → list_any is_long segs ≡ false
none_long segs h = elim (list_any is_long segs) as (λ t. list_any is_long segs ≡ t → t ≡ false) [
  | true ↦ λ e. absurd (cc (h, any_long segs e))
  | false ↦ λ e. refl
] refl

names_of_page : (segs : List (List ℕ)) → is_page segs ≡ true → list_all has_file_name segs ≡ true
names_of_page segs h = and_second (list_all (λ seg. not (has_dot seg)) (parent_of segs)) _ (and_second (is_file (name_of segs)) _ h)

pub key_of_path : (path : List (List ℕ)) (key : PageKey) → (list_any is_long (mangled_segs path) ≡ false → is_path (mangled_segs path) ≡ true) → AllByRecursion AreBytes (mangled_segs path)
    → page_key_of (page_path key) ≡ Some key → page_key_of path ≡ Some key → IsPageKey key
key_of_path path key valid bytes own h =
    let segs = mangled_segs path in
    let f = fields_of segs key h in
    record {
      own = own;
      folder = ap is_path f.1 ∙ first_path segs (length segs - 1) (valid (none_long segs (names_of_page segs f.0)));
      folder_bytes = subst (AllByRecursion AreBytes) (sym f.1) (taken_are_bytes (length segs - 1) segs bytes);
      file_bytes = subst AreBytes (sym f.2) (one_of (length segs - 1) segs bytes);
    }
