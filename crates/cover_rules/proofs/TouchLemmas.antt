-- The folders that an invalidation touches, and the pages that they outdate.
use Rattle.std.proofs.Common.{ℕ, zero, suc, Bool, true, false, cond, not, ◌&&◌, ◌||◌, List, [], ◌∷◌, ◌++◌, ◌+◌, ◌-◌, ◌<◌, ◌≤◌, length, take, map, get_or, Contains, refl, sym, ◌∙◌, ap, subst, ◌≡◌, arith}
use Rattle.std.proofs.lemmas.Bool.{not-true}
use Rattle.std.proofs.lemmas.Bool.Decides.{nat_tests}
use Rattle.std.proofs.lemmas.List.{length-map, length-take, take_more, take_all, take-map}
use Rattle.std.proofs.lemmas.List.Sums.{prefix_len-le-length}
use Rattle.std.specs.List.{list_any, list_all, prefix_len, take_while}
use Rattle.sp_base.specs.Paths.{is_long, is_under, mangled_segs, mangled_seg, parent_of}
use Rattle.sp_base.proofs.BoolLemmas.{and_first, and_second}
use Rattle.sp_base.proofs.PathTests.{under_first}
use Rattle.sp_base.proofs.TextLemmas.{segments_are}
use Rattle.cover_rules.specs.declared.page.PageKey.{PageKey}
use Rattle.cover_rules.specs.declared.invalidation.Invalidation.{Invalidation}
use Rattle.cover_rules.specs.Names.{has_file_name}
use Rattle.cover_rules.specs.Pages.{is_folder_segment}
use Rattle.cover_rules.specs.Coverage.{handle_of, lineage, outdates, stat_depth_of, stat_folder, touched_of}
use Rattle.cover_rules.proofs.CoverageLemmas.{take_first}
use Rattle.cover_rules.proofs.NameLemmas.{long_lacks}

get_map : (seg : List ℕ) (paths : List (List (List ℕ))) (n : ℕ) (d e : List (List ℕ)) → n < length paths → get_or (map (λ path. seg ∷ path) paths) n d ≡ seg ∷ get_or paths n e
get_map seg [] n d e h = absurd (omega arith)
get_map seg (path ∷ paths) zero d e h = refl
get_map seg (path ∷ paths) (suc n) d e h = get_map seg paths n d e (omega arith)

pub length-lineage : (path : List (List ℕ)) → length (lineage path) ≡ length path + 1
length-lineage [] = refl
length-lineage (seg ∷ path) = omega (arith, length-map (lineage path) (λ p. seg ∷ p), length-lineage path)

pub lineage_at : (path : List (List ℕ)) (n : ℕ) (d : List (List ℕ)) → n ≤ length path → get_or (lineage path) n d ≡ take n path
lineage_at [] zero d h = refl
lineage_at [] (suc n) d h = absurd (omega arith)
lineage_at (seg ∷ path) zero d h = refl
lineage_at (seg ∷ path) (suc n) d h =
    get_map seg (lineage path) n d d (omega (arith, length-lineage path)) ∙ ap (λ p. seg ∷ p) (lineage_at path n d (omega arith))

-- one ancestor more
pub lineage_more : (path : List (List ℕ)) (n : ℕ) → n ≤ length path → take (n + 1) (lineage path) ≡ take n (lineage path) ++ take n path ∷ []
lineage_more path n h =
    take_more (lineage path) n [] (omega (arith, length-lineage path)) ∙ ap (λ p. take n (lineage path) ++ p ∷ []) (lineage_at path n [] h)

pub lineage_whole : (path : List (List ℕ)) → take (length path) (lineage path) ++ path ∷ [] ≡ lineage path
lineage_whole path =
    ap (λ p. take (length path) (lineage path) ++ p ∷ []) (sym (take_all (length path) path (omega arith))) ∙ sym (lineage_more path (length path) (omega arith))
    ∙ take_all (length path + 1) (lineage path) (omega (arith, length-lineage path))

-- which mangled segments a folder of pages may have
pub prefix_mangled : (segs : List (List ℕ)) → prefix_len (λ seg. is_folder_segment (mangled_seg seg)) segs ≡ prefix_len is_folder_segment (mangled_segs segs)
prefix_mangled [] = refl
prefix_mangled (seg ∷ segs) = ap (λ n. cond (is_folder_segment (mangled_seg seg)) (1 + n) 0) (prefix_mangled segs)

long_is : (seg : List ℕ) → is_long seg ≡ true → 200 < length seg
long_is seg h = grind (arith, nat_tests)

short_named : (seg : List ℕ) → has_file_name seg ≡ true → is_long seg ≡ false
short_named seg h = elim (is_long seg) as (λ t. is_long seg ≡ t → t ≡ false) [
  | true ↦ λ e. absurd (cc (h, long_lacks seg (long_is seg e)))
  | false ↦ λ e. refl
] refl

none_long : (segs : List (List ℕ)) → list_any is_long (take_while is_folder_segment segs) ≡ false
none_long [] = refl
none_long (seg ∷ segs) = elim (is_folder_segment seg) as (λ t. is_folder_segment seg ≡ t → list_any is_long (take (cond t (1 + prefix_len is_folder_segment segs) 0) (seg ∷ segs)) ≡ false) [
  | true ↦ λ e. let next : 1 + prefix_len is_folder_segment segs ≡ suc (prefix_len is_folder_segment segs) = omega arith in
      ap (λ n. list_any is_long (take n (seg ∷ segs))) next ∙ ap (λ b. b || list_any is_long (take_while is_folder_segment segs)) (short_named seg (and_first _ _ e)) ∙ none_long segs
  | false ↦ λ e. refl
] refl

-- the first segments of a path that have names
pub first_named : (path : List (List ℕ)) (most n : ℕ) → n ≡ prefix_len is_folder_segment (take most (mangled_segs path)) → mangled_segs (take n path) ≡ take_while is_folder_segment (take most (mangled_segs path))
first_named path most n e =
    let fewer = prefix_len-le-length is_folder_segment (take most (mangled_segs path)) in
    sym (take-map mangled_seg n path) ∙ sym (take_first (mangled_segs path) n most (omega (arith, fewer, length-take most (mangled_segs path)))) ∙ ap (λ k. take k (take most (mangled_segs path))) e

pub first_fits : (path : List (List ℕ)) (most n : ℕ) → n ≡ prefix_len is_folder_segment (take most (mangled_segs path)) → list_any is_long (mangled_segs (take n path)) ≡ false
first_fits path most n e = ap (list_any is_long) (first_named path most n e) ∙ none_long (take most (mangled_segs path))

-- what a folder begins with
pub begins_is : (path first : List (List ℕ)) → is_under path first ≡ true → first ≡ take (length first) path
begins_is path first h = segments_are first (take (length first) path) h

take_within : (xs : List (List ℕ)) (n m : ℕ) → (k : ℕ) × (take n (take m xs) ≡ take k xs)
take_within [] zero zero = (0, refl)
take_within [] zero (suc m) = (0, refl)
take_within [] (suc n) zero = (0, refl)
take_within [] (suc n) (suc m) = (0, refl)
take_within (x ∷ xs) zero m = (0, refl)
take_within (x ∷ xs) (suc n) zero = (0, refl)
take_within (x ∷ xs) (suc n) (suc m) = let more = take_within xs n m in (suc more.0, ap (λ (ys : List (List ℕ)). x ∷ ys) more.1)

all_named : (segs : List (List ℕ)) (n : ℕ) → list_all is_folder_segment segs ≡ true → list_all is_folder_segment (take n segs) ≡ true
all_named [] zero h = refl
all_named [] (suc n) h = refl
all_named (seg ∷ segs) zero h = refl
all_named (seg ∷ segs) (suc n) h = ap (λ t. t && list_all is_folder_segment (take n segs)) (and_first _ _ h) ∙ all_named segs n (and_second _ _ h)

-- a prefix whose segments all have names is one of the named prefix
named_prefix : (segs : List (List ℕ)) (n : ℕ) → n ≤ length segs → list_all is_folder_segment (take n segs) ≡ true → n ≤ prefix_len is_folder_segment segs
named_prefix segs zero h all = omega arith
named_prefix [] (suc n) h all = absurd (omega arith)
named_prefix (seg ∷ segs) (suc n) h all =
    let more = named_prefix segs n (omega arith) (and_second _ _ all) in
    subst (λ t. suc n ≤ cond t (1 + prefix_len is_folder_segment segs) 0) (sym (and_first (is_folder_segment seg) _ all)) (omega arith)

-- a page is outdated where its .stat folder is touched
in_lineage : (above : List (List ℕ)) (level : ℕ) (first : List (List ℕ)) → is_under above first ≡ true → length first ≤ level → list_all is_folder_segment first ≡ true
    → Contains (lineage (take_while is_folder_segment (take level above))) first
in_lineage above level first under short names =
    let d = length first in
    let all = take level above in
    let is : first ≡ take d above = begins_is above first under in
    let within : d ≤ length above = omega (arith, ap length is, length-take d above) in
    let same : take d all ≡ take d above = take_first above d level short in
    let most : d ≤ length all = omega (arith, length-take level above) in
    let named : d ≤ prefix_len is_folder_segment all = named_prefix all d most (ap (list_all is_folder_segment) (same ∙ sym is) ∙ names) in
    let size : d ≤ length (take_while is_folder_segment all) = omega (arith, length-take (prefix_len is_folder_segment all) all) in (
      d,
      omega (arith, length-lineage (take_while is_folder_segment all)),
      lineage_at (take_while is_folder_segment all) d first size ∙ take_first all d (prefix_len is_folder_segment all) named ∙ same ∙ sym is,
    )

pub touched_where : (level : ℕ) (inv : Invalidation) (key : PageKey) → list_all is_folder_segment key.folder ≡ true → outdates level true inv key ≡ true → Contains (touched_of level inv) (stat_folder level key)
touched_where level inv key names h =
    let only = not-true inv.only (and_first (not inv.only) _ h) in
    let size : length (stat_folder level key) ≤ level = omega (arith, length-take (stat_depth_of level key) key.folder) in
    subst (λ b. Contains (cond b [] (lineage (take_while is_folder_segment (take level (parent_of (handle_of inv)))))) (stat_folder level key)) (sym only)
    (in_lineage (parent_of (handle_of inv)) level (stat_folder level key) (and_second (not inv.only) _ h) size (all_named key.folder (stat_depth_of level key) names))

of_lineage : (above : List (List ℕ)) (level : ℕ) (first : List (List ℕ)) → Contains (lineage (take_while is_folder_segment (take level above))) first → is_under above first ≡ true
of_lineage above level first has =
    let all = take level above in
    let named = take_while is_folder_segment all in
    let is : first ≡ take has.0 named = sym has.2 ∙ lineage_at named has.0 first (omega (arith, has.1, length-lineage named)) in
    let one = take_within all has.0 (prefix_len is_folder_segment all) in
    let two = take_within above one.0 level in
    ap (is_under above) (is ∙ one.1 ∙ two.1) ∙ under_first above two.0

by_scope : (only : Bool) (above : List (List ℕ)) (level : ℕ) (first : List (List ℕ)) → Contains (cond only [] (lineage (take_while is_folder_segment (take level above)))) first → (not only && is_under above first) ≡ true
by_scope true above level first has = absurd (omega (arith, has.1))
by_scope false above level first has = of_lineage above level first has

pub outdated_where : (level : ℕ) (inv : Invalidation) (key : PageKey) → Contains (touched_of level inv) (stat_folder level key) → outdates level true inv key ≡ true
outdated_where level inv key has = by_scope inv.only (parent_of (handle_of inv)) level (stat_folder level key) has

pub above_where : (level : ℕ) (auto : Bool) (inv : Invalidation) (key : PageKey) → outdates level auto inv key ≡ true → (n : ℕ) × (stat_folder level key ≡ take n (parent_of (handle_of inv)))
above_where level auto inv key h =
    let under = and_second auto _ (and_second (not inv.only) _ h) in
    (length (stat_folder level key), begins_is (parent_of (handle_of inv)) (stat_folder level key) under)
