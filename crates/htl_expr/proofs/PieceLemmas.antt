-- Texts that are put together of pieces.
use Rattle.std.proofs.Common.{◌≡◌, ◌<◌, ◌≤◌, ◌+◌, ℕ, zero, suc, nat_eq, Bool, true, false, List, [], ◌∷◌, ◌++◌, codes, flat_map, length, get_or, map, take, refl, sym, ap, ◌∙◌, append-nil, append_assoc, arith}
use Rattle.std.proofs.lemmas.List.{length-append, take_all, take_more}
use Rattle.std.proofs.lemmas.Slice.Eq.{bytes_eq-Decides}
use Rattle.std.specs.Cmp.Lexicographic.{pointwise}
use Rattle.sp_base.proofs.ListLemmas.{same_tail}
use Rattle.htl_expr.specs.declared.pieces.ItemPiece.{ItemPiece}
use Rattle.htl_expr.specs.Bindings.{Bindings}
use Rattle.htl_expr.specs.Print.{concatenation}
use Rattle.htl_expr.specs.Pieces.{item_piece_text, piece_texts, with_commas, AreItemPieces, HavePieces, AgreeUpTo, DifferAt}

-- a piece alone has the text of what it is a piece of
pub alone : (scope : Bindings) (piece : ItemPiece) (text : List ℕ) → text ≡ item_piece_text scope piece → AreItemPieces scope (piece ∷ []) text
alone scope piece text is = ap (λ (l : List ℕ). codes "," ++ l) is ∙ sym (append-nil (codes "," ++ item_piece_text scope piece))

-- texts with a comma before each, one after the other
commas_append : (xs ys : List (List ℕ)) → with_commas (xs ++ ys) ≡ with_commas xs ++ with_commas ys
commas_append [] ys = refl
commas_append (x ∷ xs) ys = ap (λ (l : List ℕ). (codes "," ++ x) ++ l) (commas_append xs ys) ∙ sym (append_assoc (codes "," ++ x) (with_commas xs) (with_commas ys))

commas_first : (x : List ℕ) (xs : List (List ℕ)) → with_commas (x ∷ xs) ≡ codes "," ++ concatenation (codes ",") (x ∷ xs)
commas_first x xs = append_assoc (codes ",") x (with_commas xs)

map_append : {X : Type 0} (f : X → List ℕ) (xs ys : List X) → map f (xs ++ ys) ≡ map f xs ++ map f ys
map_append f [] ys = refl
map_append f (x ∷ xs) ys = ap (λ (l : List (List ℕ)). f x ∷ l) (map_append f xs ys)

-- the pieces of all items with a comma before each are the items with a comma before each
commas_of_all : (scope : Bindings) (items : List (List ItemPiece)) (texts : List (List ℕ)) → HavePieces scope items texts → with_commas texts ≡ with_commas (piece_texts scope (flat_map (λ (ps : List ItemPiece). ps) items))
commas_of_all scope [] texts known = ap with_commas known
commas_of_all scope (ps ∷ items) [] known = absurd known
commas_of_all scope (ps ∷ items) (t ∷ texts) known =
    let all = flat_map (λ (ps : List ItemPiece). ps) items in
    ap (λ (l : List ℕ). l ++ with_commas texts) known.0
    ∙ ap (λ (l : List ℕ). with_commas (piece_texts scope ps) ++ l) (commas_of_all scope items texts known.1)
    ∙ sym (commas_append (piece_texts scope ps) (piece_texts scope all))
    ∙ ap with_commas (sym (map_append (item_piece_text scope) ps all))

-- the text of a list literal is put together of the pieces of its items
pub of_all : (scope : Bindings) (items : List (List ItemPiece)) (texts : List (List ℕ)) (pieces : List ItemPiece) → 0 < length items → HavePieces scope items texts → pieces ≡ flat_map (λ (ps : List ItemPiece). ps) items
    → AreItemPieces scope pieces (concatenation (codes ",") texts)
of_all scope [] texts pieces some known all = absurd (omega (arith, some))
of_all scope (ps ∷ items) [] pieces some known all = absurd known
of_all scope (ps ∷ items) (t ∷ texts) pieces some known all =
    sym (commas_first t texts) ∙ commas_of_all scope (ps ∷ items) (t ∷ texts) known ∙ ap (λ (l : List ItemPiece). with_commas (piece_texts scope l)) (sym all)

-- each text has its pieces
pub as_many : (scope : Bindings) (items : List (List ItemPiece)) (texts : List (List ℕ)) → HavePieces scope items texts → length items ≡ length texts
as_many scope [] texts known = ap length (sym known)
as_many scope (ps ∷ items) [] known = absurd known
as_many scope (ps ∷ items) (t ∷ texts) known = ap suc (as_many scope items texts known.1)

-- the text at a place is put together of the pieces there
pub at_place : (scope : Bindings) (items : List (List ItemPiece)) (texts : List (List ℕ)) (place : ℕ) → HavePieces scope items texts → place < length texts → AreItemPieces scope (get_or items place []) (get_or texts place [])
at_place scope [] [] place known lt = absurd (omega (arith, lt))
at_place scope [] (t ∷ texts) place known lt = absurd cc
at_place scope (ps ∷ items) [] place known lt = absurd known
at_place scope (ps ∷ items) (t ∷ texts) zero known lt = known.0
at_place scope (ps ∷ items) (t ∷ texts) (suc place) known lt = at_place scope items texts place known.1 (omega (arith, lt))

-- one item more, and its pieces
pub one_more : (scope : Bindings) (items : List (List ItemPiece)) (texts : List (List ℕ)) (pieces : List ItemPiece) (text : List ℕ) → HavePieces scope items texts → AreItemPieces scope pieces text → HavePieces scope (items ++ pieces ∷ []) (texts ++ text ∷ [])
one_more scope [] [] pieces text known are = (are, refl)
one_more scope [] (t ∷ texts) pieces text known are = absurd cc
one_more scope (ps ∷ items) [] pieces text known are = absurd known
one_more scope (ps ∷ items) (t ∷ texts) pieces text known are = (known.0, one_more scope items texts pieces text known.1 are)

-- texts that are as long come before the same only where they are the same
halves : (xs ys us vs : List ℕ) → length xs ≡ length ys → xs ++ us ≡ ys ++ vs → (xs ≡ ys) × (us ≡ vs)
halves [] [] us vs n e = (refl, e)
halves [] (y ∷ ys) us vs n e = absurd cc
halves (x ∷ xs) [] us vs n e = absurd cc
halves (x ∷ xs) (y ∷ ys) us vs n e =
    let more = halves xs ys us vs (cc) (cc) in
    (cons x y xs ys (cc) more.0, more.1)
  where
    cons : (x y : ℕ) (xs ys : List ℕ) → x ≡ y → xs ≡ ys → x ∷ xs ≡ y ∷ ys
    cons x y xs ys e f = cc

commas_differ : (xs ys : List (List ℕ)) (n : ℕ) → n < length xs → n < length ys → take n xs ≡ take n ys → pointwise nat_eq (get_or xs n []) (get_or ys n []) ≡ false → length (get_or xs n []) ≡ length (get_or ys n [])
    → with_commas xs ≡ with_commas ys → ⊥
commas_differ [] ys n lt more leading differ len e = absurd (omega (arith, lt))
commas_differ (x ∷ xs) [] n lt more leading differ len e = absurd (omega (arith, more))
commas_differ (x ∷ xs) (y ∷ ys) zero lt more leading differ len e =
    let same = halves (codes "," ++ x) (codes "," ++ y) (with_commas xs) (with_commas ys) (ap suc len) e in
    clash (pointwise nat_eq x y) ((bytes_eq-Decides x y).1 (same_tail 44 x y same.0)) differ
  where
    clash : (b : Bool) → b ≡ true → b ≡ false → ⊥
    clash b e f = cc
commas_differ (x ∷ xs) (y ∷ ys) (suc n) lt more leading differ len e =
    let same : x ≡ y = heads x y (take n xs) (take n ys) leading in
    let rest : take n xs ≡ take n ys = tails x y (take n xs) (take n ys) leading in
    let both = halves (codes "," ++ x) (codes "," ++ y) (with_commas xs) (with_commas ys) (ap (λ (l : List ℕ). length (codes "," ++ l)) same) e in
    commas_differ xs ys n (omega (arith, lt)) (omega (arith, more)) rest differ len both.1
  where
    heads : (x y : List ℕ) (xs ys : List (List ℕ)) → x ∷ xs ≡ y ∷ ys → x ≡ y
    heads x y xs ys e = cc

    tails : (x y : List ℕ) (xs ys : List (List ℕ)) → x ∷ xs ≡ y ∷ ys → xs ≡ ys
    tails x y xs ys e = cc

not_same : (s t : List ℕ) → (s ≡ t → ⊥) → false ≡ pointwise nat_eq s t
not_same s t f = go (pointwise nat_eq s t) refl
  where
    go : (b : Bool) → pointwise nat_eq s t ≡ b → false ≡ b
    go true e = absurd (f ((bytes_eq-Decides s t).0 e))
    go false e = refl

-- all pieces are the same
pub told_the_same : (xs ys : List (List ℕ)) (place : ℕ) → length xs ≤ place → length ys ≤ place → AgreeUpTo xs ys place → true ≡ pointwise nat_eq (with_commas xs) (with_commas ys)
told_the_same xs ys place end other_end agree =
    sym ((bytes_eq-Decides (with_commas xs) (with_commas ys)).1 (ap with_commas (sym (take_all place xs end) ∙ agree.2 ∙ take_all place ys other_end)))

-- the first pieces that differ are as long
pub told_at_place : (xs ys : List (List ℕ)) (place : ℕ) → place < length xs → place < length ys → AgreeUpTo xs ys place → DifferAt xs ys place → length (get_or xs place []) ≡ length (get_or ys place [])
    → false ≡ pointwise nat_eq (with_commas xs) (with_commas ys)
told_at_place xs ys place lt more agree differ len = not_same (with_commas xs) (with_commas ys) (commas_differ xs ys place lt more agree.2 (differ lt more) len)

-- one piece more and a comma
pub longer_by_piece : (texts : List (List ℕ)) (i len more new : ℕ) → i < length texts → len ≡ length (with_commas (take i texts)) → more ≡ length (get_or texts i []) → new ≡ len + (1 + more) → new ≡ length (with_commas (take (i + 1) texts))
longer_by_piece texts i len more new lt known is sum =
    let whole = ap (λ (l : List (List ℕ)). length (with_commas l)) (take_more texts i [] lt) ∙ ap length (commas_append (take i texts) (get_or texts i [] ∷ [])) ∙ length-append (with_commas (take i texts)) (with_commas (get_or texts i [] ∷ [])) in
    let last = ap length (append-nil (codes "," ++ get_or texts i [])) in
    omega (arith, whole, last, known, is, sum)

-- one place more at which the pieces are the same
pub agree_more : (xs ys : List (List ℕ)) (i : ℕ) → i < length xs → i < length ys → pointwise nat_eq (get_or xs i []) (get_or ys i []) ≡ true → take i xs ≡ take i ys → take (i + 1) xs ≡ take (i + 1) ys
agree_more xs ys i lt more same leading =
    take_more xs i [] lt ∙ ap (λ (l : List (List ℕ)). l ++ get_or xs i [] ∷ []) leading ∙ ap (λ (t : List ℕ). take i ys ++ t ∷ []) ((bytes_eq-Decides (get_or xs i []) (get_or ys i [])).0 same) ∙ sym (take_more ys i [] more)
