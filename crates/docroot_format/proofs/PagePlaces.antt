-- A path at which a page may be has file names for all its segments.
use Rattle.std.proofs.Common.{◌≡◌, ◌<◌, ◌-◌, ℕ, zero, suc, Bool, true, false, List, [], ◌∷◌, Option, Some, None, length, take, get_or, cond, refl, sym, ap, subst, arith, nat_lt}
use Rattle.std.specs.List.{list_all}
use Rattle.std.specs.Prelude.{not}
use Rattle.std.proofs.lemmas.Bool.{and_from, true≢false}
use Rattle.std.proofs.lemmas.Bool.Decides.{nat_tests}
use Rattle.sp_base.specs.Paths.{mangled_segs, name_of, parent_of}
use Rattle.sp_base.proofs.BoolLemmas.{and_first, and_second}
use Rattle.cover_rules.specs.declared.page.PageKey.{PageKey}
use Rattle.cover_rules.specs.Names.{has_file_name}
use Rattle.cover_rules.specs.Pages.{has_dot, is_file, is_page, key_at, page_key_of}
use Rattle.docroot_format.specs.Names.{have_names, is_place}

pub all_taken : (p : List ℕ → Bool) (segs : List (List ℕ)) (n : ℕ) → list_all p segs ≡ true → list_all p (take n segs) ≡ true
all_taken p [] zero e = refl
all_taken p [] (suc n) e = refl
all_taken p (seg ∷ segs) zero e = refl
all_taken p (seg ∷ segs) (suc n) e = and_from (p seg) (list_all p (take n segs)) (and_first (p seg) (list_all p segs) e) (all_taken p segs n (and_second (p seg) (list_all p segs) e))

at_place : (p : List ℕ → Bool) (segs : List (List ℕ)) (n : ℕ) → n < length segs → list_all p segs ≡ true → p (get_or segs n []) ≡ true
at_place p [] n lt e = absurd (omega (arith, lt))
at_place p (seg ∷ segs) zero lt e = and_first (p seg) (list_all p segs) e
at_place p (seg ∷ segs) (suc n) lt e = at_place p segs n (omega (arith, lt)) (and_second (p seg) (list_all p segs) e)

-- a segment with a dot isn't empty, so the path isn't
some_bytes : (seg : List ℕ) → has_dot seg ≡ true → nat_lt 0 (length seg) ≡ true
some_bytes [] e = absurd (true≢false (sym e))
some_bytes (b ∷ seg) e = grind (arith, nat_tests)

some_segments : (segs : List (List ℕ)) → has_dot (name_of segs) ≡ true → length segs - 1 < length segs
some_segments [] e = absurd (true≢false (sym e))
some_segments (seg ∷ segs) e = omega arith

place_of_page : (segs : List (List ℕ)) → is_page segs ≡ true → is_place (parent_of segs) (name_of segs) ≡ true
place_of_page segs e =
    let file = and_first (is_file (name_of segs)) _ e in
    let dot = and_first (has_dot (name_of segs)) _ file in
    let all : list_all has_file_name segs ≡ true = and_second (list_all (λ seg. not (has_dot seg)) (parent_of segs)) (list_all has_file_name segs) (and_second (is_file (name_of segs)) _ e) in
    let last : has_file_name (name_of segs) ≡ true =
    at_place has_file_name segs (length segs - 1) (some_segments segs dot) all in
    and_from (have_names (parent_of segs)) _ (all_taken has_file_name segs (length segs - 1) all) (and_from (has_file_name (name_of segs)) _ last (some_bytes (name_of segs) dot))

abbrev place_in : Option PageKey → Bool
place_in None = true
place_in (Some key) = is_place key.folder key.file

abbrev is_there : Option PageKey → Bool
is_there None = false
is_there (Some key) = true

from_key : (segs : List (List ℕ)) (key : PageKey) (test : Bool) → is_page segs ≡ test → cond test (Some (record { folder = parent_of segs; file = name_of segs })) None ≡ Some key → is_place key.folder key.file ≡ true
from_key segs key true page e = subst (λ (o : Option PageKey). place_in o ≡ true) e (place_of_page segs page)
from_key segs key false page e = absurd (true≢false (sym (ap is_there e)))

pub page_has_place : (path : List (List ℕ)) (key : PageKey) → page_key_of path ≡ Some key → is_place key.folder key.file ≡ true
unfolding key_at
page_has_place path key e = from_key (mangled_segs path) key (is_page (mangled_segs path)) refl e

pub page_has_folder : (path : List (List ℕ)) (key : PageKey) → page_key_of path ≡ Some key → have_names key.folder ≡ true
page_has_folder path key e = and_first (have_names key.folder) _ (page_has_place path key e)
