-- Pieces of a text after its first ones, and segments after another place.
use Rattle.std.proofs.Common.{◌≡◌, ◌≢◌, ◌+◌, ◌<◌, ◌≤◌, ◌==◌, ◌++◌, ℕ, zero, suc, Bool, true, false, cond, List, [], ◌∷◌, Option, Some, None, Ok, Err, drop, get_or, length, length-append, refl, sym, ◌∙◌, ap, arith}
use Rattle.std.specs.Prelude.{flat_map}
use Rattle.std.specs.List.{onto_first}
use Rattle.std.proofs.lemmas.Bool.Decides.{nat_tests}
use Rattle.std.proofs.lemmas.List.Splits.{length-slice_split}
use Rattle.sp_base.specs.Paths.{path_or_fault, child_of, fault_of, is_empty, is_path, path_of, path_or_none, pieces, text_of, unless_fault}
use Rattle.sp_base.specs.declared.path.PathFault.{PathFault}
use Rattle.sp_base.proofs.TextLemmas.{not_slash}

-- ---- the pieces after the first

is_slash : (b : ℕ) → b ≡ 47 → (b == 47) ≡ true
is_slash b h = grind (arith, nat_tests)

drop_onto : (b : ℕ) (ps : List (List ℕ)) → drop 1 (onto_first b ps) ≡ drop 1 ps
drop_onto b [] = refl
drop_onto b (p ∷ ps) = refl

-- where no slash stands there is one piece
pub one_piece : (text : List ℕ) → ((i : ℕ) → i < length text → get_or text i 0 ≢ 47) → drop 1 (pieces text) ≡ []
one_piece [] none = refl
one_piece (b ∷ text) none =
    ap (λ t. drop 1 (cond t ([] ∷ pieces text) (onto_first b (pieces text)))) (not_slash b (none 0 (omega arith)))
    ∙ drop_onto b (pieces text) ∙ one_piece text (λ i lt. none (suc i) (omega (arith, lt)))

-- what follows the first slash are the other pieces
pub other_pieces : (text : List ℕ) (at : ℕ) → at < length text → get_or text at 0 ≡ 47 → ((i : ℕ) → i < at → get_or text i 0 ≢ 47)
    → drop 1 (pieces text) ≡ pieces (drop (suc at) text)
other_pieces [] at within here before = absurd (omega (arith, within))
other_pieces (b ∷ text) zero within here before = ap (λ t. drop 1 (cond t ([] ∷ pieces text) (onto_first b (pieces text)))) (is_slash b here)
other_pieces (b ∷ text) (suc at) within here before =
    ap (λ t. drop 1 (cond t ([] ∷ pieces text) (onto_first b (pieces text)))) (not_slash b (before 0 (omega arith)))
    ∙ drop_onto b (pieces text) ∙ other_pieces text at (omega (arith, within)) here (λ i lt. before (suc i) (omega (arith, lt)))

drop_one : (ps : List (List ℕ)) (k : ℕ) → drop 1 (drop k ps) ≡ drop (suc k) ps
drop_one ps zero = refl
drop_one [] (suc k) = refl
drop_one (p ∷ ps) (suc k) = drop_one ps k

none_after : (ps : List (List ℕ)) (k n : ℕ) → drop k ps ≡ [] → k ≤ n → drop n ps ≡ []
none_after [] k zero none le = refl
none_after [] k (suc n) none le = refl
none_after (p ∷ ps) zero n none le = absurd (let size = ap length none in omega (arith, size))
none_after (p ∷ ps) (suc k) zero none le = absurd (omega (arith, le))
none_after (p ∷ ps) (suc k) (suc n) none le = none_after ps k n none (omega (arith, le))

-- one piece more is passed
pub passed_one : (whole rest after : List ℕ) (k : ℕ) → pieces rest ≡ drop k (pieces whole) → pieces after ≡ drop 1 (pieces rest) → pieces after ≡ drop (k + 1) (pieces whole)
passed_one whole rest after k so_far is =
    let more : k + 1 ≡ suc k = omega arith in
    is ∙ ap (drop 1) so_far ∙ drop_one (pieces whole) k ∙ sym (ap (λ n. drop n (pieces whole)) more)

-- none is left
pub none_left : (whole rest : List ℕ) (k n : ℕ) → pieces rest ≡ drop k (pieces whole) → drop 1 (pieces rest) ≡ [] → k < n → drop n (pieces whole) ≡ []
none_left whole rest k n so_far none less =
    none_after (pieces whole) (suc k) n (sym (drop_one (pieces whole) k) ∙ sym (ap (drop 1) so_far) ∙ none) (omega (arith, less))

-- ---- segments that make a path

ok_of : (fault : Option PathFault) (segs path : List (List ℕ)) → unless_fault fault segs ≡ Ok path → segs ≡ path
ok_of None segs path e = cc
ok_of (Some fault) segs path e = absurd (cc)

reads : (empty : Bool) (parts path : List (List ℕ)) (seg : List ℕ) → cond empty (Ok []) (path_or_fault parts) ≡ Ok (seg ∷ path) → path_or_fault (seg ∷ path) ≡ Ok (seg ∷ path)
reads true parts path seg e = absurd (cc)
reads false parts path seg e = let same = ok_of (fault_of parts) parts (seg ∷ path) e in sym (ap path_or_fault same) ∙ e

checked_path : (path : List (List ℕ)) → 0 < length path → path_of (text_of path) ≡ Ok path → path_or_fault path ≡ Ok path
checked_path [] some e = absurd (omega (arith, some))
checked_path (seg ∷ segs) some e = reads (is_empty (seg ++ flat_map (λ s. 47 ∷ s) segs)) (pieces (seg ++ flat_map (λ s. 47 ∷ s) segs)) segs seg e

some_piece : (text : List ℕ) → 0 < length (pieces text)
some_piece text = omega (arith, length-slice_split (λ b. b == 47) text)

module _ (place path : List (List ℕ)) (n : ℕ) where
  pub rest_joined : (rest : List ℕ) (whole : List (List ℕ)) → pieces rest ≡ drop n path → child_of place rest ≡ Ok whole → is_path whole ≡ true → Some whole ≡ path_or_none (place ++ drop n path)
  rest_joined rest whole rest_is made valid =
      let same : place ++ drop n path ≡ whole = ap (λ ps. place ++ ps) (sym rest_is) ∙ ok_of (fault_of (place ++ pieces rest)) (place ++ pieces rest) whole made in
      sym (ap path_or_none same ∙ ap (λ t. cond t (Some whole) None) valid)

  pub not_joined : (rest : List ℕ) (fault : PathFault) → ((p : List (List ℕ)) → is_path p ≡ true → path_of (text_of p) ≡ Ok p) → pieces rest ≡ drop n path
      → child_of place rest ≡ Err fault → None ≡ path_or_none (place ++ drop n path)
  not_joined rest fault law rest_is made =
      let whole = place ++ drop n path in
      let refused : path_or_fault whole ≡ Err fault = ap (λ ps. path_or_fault (place ++ ps)) (sym rest_is) ∙ made in
      let size : length whole ≡ length place + length (drop n path) = length-append place (drop n path) in
      let piece : 0 < length (drop n path) = rw (sym rest_is) (some_piece rest) in
      elim (is_path whole) as (λ t. is_path whole ≡ t → None ≡ cond t (Some whole) None) [
        | true ↦ λ valid. let ok = checked_path whole (omega (arith, size, piece)) (law whole valid) in absurd (cc)
        | false ↦ λ e. refl
      ] refl
