-- What the tests and the readings of paths tell.
use Rattle.std.proofs.Common.{Bool, Err, None, Ok, Option, Result, Some, [], ap, arith, false, if◌then◌else◌, length, length-append, ltb-false, nat_le, nat_lt, not, refl, suc, sym, take, true, zero, ℕ, ◌&&◌, ◌++◌, ◌∙◌, ◌∷◌, ◌≡◌, ◌≤◌}
use Rattle.std.specs.Cmp.Lexicographic.{bytes_decides}
use Rattle.std.specs.List.{list_all}
use Rattle.std.specs.Result.{result_ok}
use Rattle.std.proofs.lemmas.Bool.{and_from, and_parts, leb-true, not-true}
use Rattle.std.proofs.lemmas.Bool.Decides.{nat_tests}
use Rattle.std.proofs.lemmas.List.Folds.{list_all-append}
use Rattle.sp_base.specs.Paths.{has_slash, is_dots, is_empty, is_long, is_path, is_under, path_in, path_of, seg_ok, size_fault, unless_fault}
use Rattle.sp_base.specs.Texts.{Segments, Text}
use Rattle.sp_base.specs.declared.path.PathFault.{PathFault}
use Rattle.sp_base.specs.declared.path.PathFault.TheVariants.{DotSegment, EmptySegment, TooDeep}

pub path_before : (host_node below : Segments) → is_path (host_node ++ below) ≡ true → is_path host_node ≡ true
path_before host_node below valid =
    let parts = and_parts (list_all seg_ok (host_node ++ below)) (nat_le (length (host_node ++ below)) 64) valid in
    let segments = (and_parts (list_all seg_ok host_node) (list_all seg_ok below) (sym (list_all-append seg_ok host_node below) ∙ parts.0)).0 in
    let size : length (host_node ++ below) ≤ 64 = leb-true _ _ parts.1 in
    let fewer : length host_node ≤ 64 = omega (arith, size, length-append host_node below) in
    and_from (list_all seg_ok host_node) (nat_le (length host_node) 64) segments (grind (arith, nat_tests))

pub few_segments : (segs : Segments) → is_path segs ≡ true → length segs ≤ 64
few_segments segs h = leb-true _ _ (and_parts (list_all seg_ok segs) (nat_le (length segs) 64) h).1

pub segment_has_no_slash : (seg : Text) → seg_ok seg ≡ true → has_slash seg ≡ false
segment_has_no_slash seg e = not-true (has_slash seg) (and_parts (not (is_long seg)) (not (has_slash seg)) (and_parts (not (is_dots seg)) (not (is_long seg) && not (has_slash seg)) (and_parts (not (is_empty seg)) (not (is_dots seg) && (not (is_long seg) && not (has_slash seg))) e).1).1).1

pub under_first : (path : Segments) (n : ℕ) → is_under path (take n path) ≡ true
under_first [] zero = refl
under_first [] (suc n) = refl
under_first (seg ∷ path) zero = refl
under_first (seg ∷ path) (suc n) = ap (λ t. t && is_under path (take n path)) ((bytes_decides seg seg).1 refl) ∙ under_first path n

pub deep_fits : (deep : Bool) (n : ℕ) → nat_lt 64 n ≡ deep → (if deep then Some TooDeep else None) ≡ None → n ≤ 64
deep_fits true n is h = absurd (cc)
deep_fits false n is h = ltb-false 64 n is

pub size_fits : (long : Option ℕ) (n : ℕ) → size_fault long n ≡ None → n ≤ 64
size_fits None n h = deep_fits (nat_lt 64 n) n refl h
size_fits (Some place) n h = absurd (cc)

pub pieces_fit : (empty dots : Bool) (long : Option ℕ) (n : ℕ) → (if empty then Some EmptySegment else (if dots then Some DotSegment else size_fault long n)) ≡ None → n ≤ 64
pieces_fit true dots long n h = absurd (cc)
pieces_fit false true long n h = absurd (cc)
pieces_fit false false long n h = size_fits long n h

pub no_fault_of_path : (fault : Option PathFault) (segs path : Segments) → unless_fault fault segs ≡ Ok path → fault ≡ None
no_fault_of_path None segs path h = refl
no_fault_of_path (Some fault) segs path h = absurd (cc)

pub ok_from_result_ok : (r : Result Segments PathFault) (path : Segments) → Some path ≡ result_ok r → r ≡ Ok path
ok_from_result_ok (Ok p) path e = cc
ok_from_result_ok (Err fault) path e = absurd (cc)

pub path_from_path_in : (text : Text) (path : Segments) → Some path ≡ path_in text → path_of text ≡ Ok path
path_from_path_in text path e = ok_from_result_ok (path_of text) path e
