-- What is wrong with pieces after the segments of a path.
use Rattle.std.proofs.Common.{ℕ, Bool, true, false, cond, ◌||◌, ◌==◌, List, [], ◌∷◌, ◌++◌, ◌+◌, ◌<◌, ◌≤◌, Option, Some, None, IfSome, length, length-append, ltb, refl, sym, ◌∙◌, ap, ◌≡◌, arith}
use Rattle.std.proofs.lemmas.Bool.{or_from}
use Rattle.std.proofs.lemmas.Bool.Decides.{nat_tests}
use Rattle.std.proofs.lemmas.Iterator.Adapters.{position_from-zero}
use Rattle.std.proofs.lemmas.List.Folds.{list_any-append}
use Rattle.std.proofs.lemmas.List.Splits.{length-slice_split}
use Rattle.std.proofs.lemmas.List.Sums.{count_by-le-length}
use Rattle.std.specs.List.{list_any, position, position_from, position_or_len}
use Rattle.std.specs.Option.{option_map}
use Rattle.sp_base.specs.declared.path.PathFault.TheVariants.{EmptySegment, DotSegment}
use Rattle.sp_base.specs.Paths.{is_empty, is_dots, is_long, pieces, fault_of, size_fault, is_path}
use Rattle.sp_base.specs.PathTexts.{is_unfit, fault_after}
use Rattle.sp_base.proofs.BoolLemmas.{or_first, or_second}
use Rattle.sp_base.proofs.PathLemmas.{none_empty, none_dots, none_long, all_short, path_ok}

pub position-shift : (n m : ℕ) (parts : List (List ℕ)) → position_from is_long (n + m) parts ≡ option_map (λ i. n + i) (position_from is_long m parts)
position-shift n m [] = refl
position-shift n m (part ∷ parts) =
    let next : n + m + 1 ≡ n + (m + 1) = omega arith in
    elim (is_long part) as (λ t. cond t (Some (n + m)) (position_from is_long (n + m + 1) parts) ≡ option_map (λ i. n + i) (cond t (Some m) (position_from is_long (m + 1) parts))) [
      | true ↦ refl
      | false ↦ ap (λ k. position_from is_long k parts) next ∙ position-shift n (m + 1) parts
    ]

pub long_after : (n : ℕ) (parts : List (List ℕ)) → position_from is_long n parts ≡ option_map (λ i. n + i) (position is_long parts)
long_after n parts =
    let same : n ≡ n + 0 = omega arith in
    ap (λ k. position_from is_long k parts) same ∙ position-shift n 0 parts ∙ ap (option_map (λ i. n + i)) (sym (position_from-zero is_long parts))

place_below : (b : Bool) (i n : ℕ) → ltb i n ≡ b → IfSome (cond b (Some i) None) (λ place. place < n)
place_below true i n e = grind (arith, nat_tests)
place_below false i n e = tt

IfSome-below : (o : Option ℕ) (n m : ℕ) → IfSome o (λ place. place < n) → n ≤ m + 1 → IfSome o (λ place. place ≤ m)
IfSome-below None n m h le = tt
IfSome-below (Some place) n m h le = omega arith

pub place_within : (text : List ℕ) → IfSome (position is_long (pieces text)) (λ place. place ≤ length text)
place_within text =
    let parts = pieces text in
    IfSome-below (position is_long parts) (length parts) (length text) (place_below (ltb (position_or_len is_long parts) (length parts)) (position_or_len is_long parts) (length parts) refl)
    (omega (arith, length-slice_split (λ b. b == 47) text, count_by-le-length (λ b. b == 47) text))

skips : (segs parts : List (List ℕ)) (n : ℕ) → list_any is_long segs ≡ false → position_from is_long n (segs ++ parts) ≡ position_from is_long (n + length segs) parts
skips [] parts n e = let same : n ≡ n + 0 = omega arith in ap (λ k. position_from is_long k parts) same
skips (seg ∷ segs) parts n e =
    let next : n + 1 + length segs ≡ n + length (seg ∷ segs) = omega arith in
    ap (λ t. cond t (Some n) (position_from is_long (n + 1) (segs ++ parts))) (or_first _ _ e) ∙ skips segs parts (n + 1) (or_second _ _ e) ∙ ap (λ k. position_from is_long k parts) next

pub fault_after_is : (segs parts : List (List ℕ)) → is_path segs ≡ true → fault_of (segs ++ parts) ≡ fault_after (length segs) parts
fault_after_is segs parts h =
    let all = segs ++ parts in
    let empty : list_any is_empty all ≡ list_any is_empty parts = list_any-append is_empty segs parts ∙ ap (λ t. t || list_any is_empty parts) (none_empty segs (path_ok segs h)) in
    let dots : list_any is_dots all ≡ list_any is_dots parts = list_any-append is_dots segs parts ∙ ap (λ t. t || list_any is_dots parts) (none_dots segs (path_ok segs h)) in
    let count : 0 + length segs ≡ length segs = omega arith in
    let long : position is_long all ≡ position_from is_long (length segs) parts = position_from-zero is_long all ∙ skips segs parts 0 (all_short segs (path_ok segs h)) ∙ ap (λ n. position_from is_long n parts) count in
    ap (λ t. cond t (Some EmptySegment) (cond (list_any is_dots all) (Some DotSegment) (size_fault (position is_long all) (length all)))) empty
    ∙ ap (λ t. cond (list_any is_empty parts) (Some EmptySegment) (cond t (Some DotSegment) (size_fault (position is_long all) (length all)))) dots
    ∙ ap (λ o. cond (list_any is_empty parts) (Some EmptySegment) (cond (list_any is_dots parts) (Some DotSegment) (size_fault o (length all)))) long
    ∙ ap (λ n. cond (list_any is_empty parts) (Some EmptySegment) (cond (list_any is_dots parts) (Some DotSegment) (size_fault (position_from is_long (length segs) parts) n))) (length-append segs parts)

-- after no segments
pub fault_after_none : (parts : List (List ℕ)) → fault_after 0 parts ≡ fault_of parts
fault_after_none parts = sym (fault_after_is [] parts refl)

-- after a path a path is too deep or good
pub fault_after_path : (segs rest : List (List ℕ)) → is_path rest ≡ true → fault_after (length segs) rest ≡ size_fault None (length segs + length rest)
fault_after_path segs rest h =
    let n = length segs in
    let long : position_from is_long n rest ≡ None = none_long rest n (all_short rest (path_ok rest h)) in
    ap (λ t. cond t (Some EmptySegment) (cond (list_any is_dots rest) (Some DotSegment) (size_fault (position_from is_long n rest) (n + length rest)))) (none_empty rest (path_ok rest h))
    ∙ ap (λ t. cond t (Some DotSegment) (size_fault (position_from is_long n rest) (n + length rest))) (none_dots rest (path_ok rest h))
    ∙ ap (λ o. size_fault o (n + length rest)) long

none_fit : (p : List ℕ → Bool) → ((part : List ℕ) → is_unfit part ≡ false → p part ≡ false) → (parts : List (List ℕ))
    → list_any is_unfit parts ≡ false → list_any p parts ≡ false
none_fit p h [] e = refl
none_fit p h (part ∷ parts) e = or_from (p part) (list_any p parts) (h part (or_first _ _ e)) (none_fit p h parts (or_second _ _ e))

-- pieces that are all fit are too many or good
pub fit_fault : (n : ℕ) (parts : List (List ℕ)) → list_any is_unfit parts ≡ false → fault_after n parts ≡ size_fault None (n + length parts)
fit_fault n parts e =
    let empty : list_any is_empty parts ≡ false = none_fit is_empty (λ x h. or_first (is_empty x) _ h) parts e in
    let dots : list_any is_dots parts ≡ false = none_fit is_dots (λ x h. or_first (is_dots x) _ (or_second (is_empty x) _ h)) parts e in
    let long : position_from is_long n parts ≡ None = none_long parts n (none_fit is_long (λ x h. or_second (is_dots x) _ (or_second (is_empty x) _ h)) parts e) in
    ap (λ t. cond t (Some EmptySegment) (cond (list_any is_dots parts) (Some DotSegment) (size_fault (position_from is_long n parts) (n + length parts)))) empty
    ∙ ap (λ t. cond t (Some DotSegment) (size_fault (position_from is_long n parts) (n + length parts))) dots
    ∙ ap (λ o. size_fault o (n + length parts)) long
