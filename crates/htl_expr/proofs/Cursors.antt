-- How far the texts of two items were compared.
use Rattle.std.proofs.Common.{◌≡◌, ◌<◌, ◌≤◌, ◌+◌, ◌-◌, ℕ, zero, suc, nat_eq, Bool, true, false, ◌&&◌, List, [], ◌∷◌, ◌++◌, codes, length, get_or, take, drop, Option, None, Some, refl, sym, ap, subst, ◌∙◌, append-nil, append_assoc, arith}
use Rattle.std.proofs.lemmas.List.{length-append, length-drop, take-append-drop, take-append-le, drop-append-le, drop_at, drop_more}
use Rattle.std.proofs.lemmas.Slice.Eq.{bytes_eq-Decides}
use Rattle.std.specs.Cmp.Lexicographic.{pointwise}
use Rattle.htl_expr.specs.declared.cursor.Cursor.{Cursor}
use Rattle.htl_expr.specs.Cursors.{piece_behind, left_behind, StandsIn, AreSameFor, MovesOn, AreComparedUpTo}
use Rattle.htl_expr.specs.Pieces.{with_commas}

and_more : (a b c : Bool) → (a && (b && c)) ≡ ((a && b) && c)
and_more true b c = refl
and_more false b c = refl

-- texts are the same where their fronts are, and what follows these
same_in_parts : (n : ℕ) (xs ys : List ℕ) → pointwise nat_eq xs ys ≡ (pointwise nat_eq (take n xs) (take n ys) && pointwise nat_eq (drop n xs) (drop n ys))
same_in_parts zero [] [] = refl
same_in_parts zero [] (y ∷ ys) = refl
same_in_parts zero (x ∷ xs) [] = refl
same_in_parts zero (x ∷ xs) (y ∷ ys) = refl
same_in_parts (suc n) [] [] = refl
same_in_parts (suc n) [] (y ∷ ys) = refl
same_in_parts (suc n) (x ∷ xs) [] = refl
same_in_parts (suc n) (x ∷ xs) (y ∷ ys) =
    ap (λ (b : Bool). nat_eq x y && b) (same_in_parts n xs ys) ∙ and_more (nat_eq x y) (pointwise nat_eq (take n xs) (take n ys)) (pointwise nat_eq (drop n xs) (drop n ys))

-- texts whose fronts differ are not the same, whatever follows them
pub differ_in_front : (n : ℕ) (xs ys us vs : List ℕ) → pointwise nat_eq (take n xs) (take n ys) ≡ false → n ≤ length xs → n ≤ length ys → pointwise nat_eq (xs ++ us) (ys ++ vs) ≡ false
differ_in_front n xs ys us vs differ le more =
    let fronts : pointwise nat_eq (take n (xs ++ us)) (take n (ys ++ vs)) ≡ false = rw (take-append-le n xs us le, take-append-le n ys vs more) differ in
    same_in_parts n (xs ++ us) (ys ++ vs) ∙ ap (λ (b : Bool). b && pointwise nat_eq (drop n (xs ++ us)) (drop n (ys ++ vs))) fronts

-- texts whose fronts are the same are the same where what follows these is
pub same_behind_front : (n : ℕ) (xs ys : List ℕ) → take n xs ≡ take n ys → pointwise nat_eq xs ys ≡ pointwise nat_eq (drop n xs) (drop n ys)
same_behind_front n xs ys same =
    same_in_parts n xs ys ∙ ap (λ (b : Bool). b && pointwise nat_eq (drop n xs) (drop n ys)) ((bytes_eq-Decides (take n xs) (take n ys)).1 same)

-- what follows two texts changes nothing
same_for_longer : (same : Option ℕ) (xs ys us vs : List ℕ) → AreSameFor same xs ys → AreSameFor same (xs ++ us) (ys ++ vs)
same_for_longer None xs ys us vs known = λ ms ns. rw (append_assoc xs us ms, append_assoc ys vs ns) (known (us ++ ms) (vs ++ ns))
same_for_longer (Some n) xs ys us vs known = (
  known.0,
  omega (arith, known.1, length-append xs us),
  omega (arith, known.2, length-append ys vs),
  take-append-le n xs us known.1 ∙ known.3 ∙ sym (take-append-le n ys vs known.2),
)

-- what holds of the fronts of two texts holds of these
pub same_for_fronts : (same : Option ℕ) (xs ys us vs : List ℕ) → us ≡ take (length us) xs → vs ≡ take (length vs) ys → AreSameFor same us vs → AreSameFor same xs ys
same_for_fronts same xs ys us vs first second known =
    let whole : us ++ drop (length us) xs ≡ xs = ap (λ (l : List ℕ). l ++ drop (length us) xs) first ∙ take-append-drop (length us) xs in
    let other : vs ++ drop (length vs) ys ≡ ys = ap (λ (l : List ℕ). l ++ drop (length vs) ys) second ∙ take-append-drop (length vs) ys in
    subst (λ (l : List ℕ). AreSameFor same l ys) whole (subst (λ (l : List ℕ). AreSameFor same (us ++ drop (length us) xs) l) other (same_for_longer same us vs (drop (length us) xs) (drop (length vs) ys) known))

-- what is left behind a cursor begins with what is left of the piece there
pub left_of_piece : (texts : List (List ℕ)) (cursor : Cursor) → cursor.place < length texts → StandsIn texts cursor
    → left_behind texts cursor ≡ piece_behind texts cursor ++ with_commas (drop (cursor.place + 1) texts)
left_of_piece texts cursor within stands =
    ap (λ (l : List (List ℕ)). drop cursor.bytes (with_commas l)) (drop_more texts cursor.place [] within)
    ∙ drop-append-le cursor.bytes (codes "," ++ get_or texts cursor.place []) (with_commas (drop (cursor.place + 1) texts)) (omega (arith, stands))

-- what holds of two pieces behind cursors holds of what is left behind these
pub same_for_pieces : (same : Option ℕ) (xs ys : List (List ℕ)) (first second : Cursor) → first.place < length xs → second.place < length ys → StandsIn xs first → StandsIn ys second
    → AreSameFor same (piece_behind xs first) (piece_behind ys second) → AreSameFor same (left_behind xs first) (left_behind ys second)
same_for_pieces same xs ys first second within within_other stands stands_other known =
    rw (left_of_piece xs first within stands, left_of_piece ys second within_other stands_other)
    (same_for_longer same (piece_behind xs first) (piece_behind ys second) (with_commas (drop (first.place + 1) xs)) (with_commas (drop (second.place + 1) ys)) known)

-- behind a piece
pub behind_piece : (texts : List (List ℕ)) (old new : Cursor) (more : ℕ) → old.place < length texts → StandsIn texts old → old.bytes + more ≡ length (get_or texts old.place []) + 1 → new.place ≡ old.place + 1 → new.bytes ≡ 0 → MovesOn texts old more new
behind_piece texts old new more within stands end place bytes =
    let text = get_or texts old.place [] in
    let rest = with_commas (drop (old.place + 1) texts) in (
      omega (arith, bytes),
      ap (λ (p : ℕ). drop new.bytes (with_commas (drop p texts))) place ∙ ap (λ (b : ℕ). drop b rest) bytes
          ∙ sym (ap (drop more) (left_of_piece texts old within stands) ∙ drop_at (piece_behind texts old) rest more (omega (arith, length-drop old.bytes (codes "," ++ text), end))),
    )

-- a comparison goes on
pub compared_further : (xs ys : List (List ℕ)) (first second new other_new : Cursor) (left more : ℕ) → AreComparedUpTo xs ys first second left → AreSameFor (Some more) (left_behind xs first) (left_behind ys second)
    → MovesOn xs first more new → MovesOn ys second more other_new → AreComparedUpTo xs ys new other_new (left - more)
compared_further xs ys first second new other_new left more known same on other_on =
    let one = left_behind xs first in
    let other = left_behind ys second in
    record {
      stands = on.0;
      stands_other = other_on.0;
      as_many = ap length on.1 ∙ length-drop more one ∙ ap (λ (n : ℕ). n - more) known.as_many;
      as_many_other = ap length other_on.1 ∙ length-drop more other ∙ ap (λ (n : ℕ). n - more) known.as_many_other;
      same = ap (λ (l : List ℕ). pointwise nat_eq l (left_behind ys other_new)) on.1 ∙ ap (pointwise nat_eq (drop more one)) other_on.1 ∙ sym (same_behind_front more one other same.3) ∙ known.same;
    }

-- what is left differs
pub left_differs : (xs ys : List ℕ) → AreSameFor None xs ys → pointwise nat_eq xs ys ≡ false
left_differs xs ys known = let differs : pointwise nat_eq (xs ++ []) (ys ++ []) ≡ false = known [] [] in rw (append-nil xs, append-nil ys) at differs
