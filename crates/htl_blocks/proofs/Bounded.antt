-- Pieces, and how many bytes and inclusions they have.
use Rattle.std.proofs.Common.{◌≡◌, ◌≢◌, ◌+◌, ℕ, true, List, [], ◌∷◌, ◌++◌, length, refl, arith, zero-add}
use Rattle.std.proofs.lemmas.Bool.{false≢true}
use Rattle.std.proofs.lemmas.List.Sums.{sum_by-append}
use Rattle.htl_blocks.specs.declared.piece.Piece.{Piece}
use Rattle.htl_blocks.specs.declared.piece.Piece.TheVariants as piece
use Rattle.htl_blocks.specs.Pieces.{inclusion_count, piece_len, puts_in, text_len, with_text_piece}
use Rattle.htl_blocks.proofs.SheetLemmas.{count-append}

-- an empty text is no piece
pub nothing_more : (ps : List Piece) (t : List ℕ) → length t ≡ 0 → with_text_piece ps t ≡ ps
nothing_more ps [] h = refl
nothing_more ps (c ∷ t) h = absurd (omega (arith, h))

-- another text is a piece
pub text_more : (ps : List Piece) (t : List ℕ) → length t ≢ 0 → with_text_piece ps t ≡ ps ++ piece.Text t ∷ []
text_more ps [] h = absurd (h refl)
text_more ps (c ∷ t) h = refl

pub text_len_more : (ps : List Piece) (t : List ℕ) → text_len (ps ++ piece.Text t ∷ []) ≡ text_len ps + length t
text_len_more ps t = let both = sum_by-append piece_len ps (piece.Text t ∷ []) in let one : text_len (piece.Text t ∷ []) ≡ length t = zero-add (length t) in omega (arith, both, one)

pub text_len_with : (ps : List Piece) (t : List ℕ) → text_len (with_text_piece ps t) ≡ text_len ps + length t
text_len_with ps [] = let none : text_len ps ≡ text_len ps + 0 = omega arith in none
text_len_with ps (c ∷ t) = text_len_more ps (c ∷ t)

pub same_included : (ps : List Piece) (t : List ℕ) → inclusion_count (ps ++ piece.Text t ∷ []) ≡ inclusion_count ps
same_included ps t = let both = count-append puts_in ps (piece.Text t ∷ []) in let none : inclusion_count (piece.Text t ∷ []) ≡ 0 = refl in omega (arith, both, none)

pub included_with : (ps : List Piece) (t : List ℕ) → inclusion_count (with_text_piece ps t) ≡ inclusion_count ps
included_with ps [] = refl
included_with ps (c ∷ t) = same_included ps (c ∷ t)

one_in : (p : Piece) → puts_in p ≡ true → inclusion_count (p ∷ []) ≡ 1
one_in (piece.Text t) h = absurd (false≢true h)
one_in (piece.Script name frame) h = refl
one_in (piece.Resource name) h = refl

no_text_in : (p : Piece) → puts_in p ≡ true → text_len (p ∷ []) ≡ 0
no_text_in (piece.Text t) h = absurd (false≢true h)
no_text_in (piece.Script name frame) h = refl
no_text_in (piece.Resource name) h = refl

pub one_included : (ps : List Piece) (p : Piece) → puts_in p ≡ true → inclusion_count (ps ++ p ∷ []) ≡ inclusion_count ps + 1
one_included ps p h = let both = count-append puts_in ps (p ∷ []) in let one = one_in p h in omega (arith, both, one)

pub same_len : (ps : List Piece) (p : Piece) → puts_in p ≡ true → text_len (ps ++ p ∷ []) ≡ text_len ps
same_len ps p h = let both = sum_by-append piece_len ps (p ∷ []) in let none = no_text_in p h in omega (arith, both, none)
