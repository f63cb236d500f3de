-- Globs that are a text, or a text with a star at one end, and the bytes of both texts.
use Rattle.std.proofs.Common.{◌≡◌, ◌≢◌, ℕ, Bool, true, get_or, List, [], ◌∷◌, ◌++◌, map, length, take, drop, ◌-◌, IsUtf8, refl, ap, sym, ◌∙◌, subst, eq-eqb, ◌==◌, arith}
use Rattle.std.specs.Prelude.{nat_eq, encode_utf8, encode_utf8_all}
use Rattle.std.specs.Str.{chars}
use Rattle.std.specs.Cmp.Lexicographic.{pointwise}
use Rattle.std.specs.List.{starts_with, ends_with}
use Rattle.std.proofs.lemmas.Bool.{and_parts, eqb-true}
use Rattle.std.proofs.lemmas.Bool.Decides.{Decides-eqb}
use Rattle.std.proofs.lemmas.List.{append-nil, map-append, length-append}
use Rattle.std.proofs.Math.Seq.{take-append_seam, drop-append_seam}
use Rattle.std.proofs.lemmas.Slice.Eq.{bytes_eq-Decides, starts_is, ends_is}
use Rattle.std.proofs.lemmas.Str.{encodes-append, encodes-chars, chars-append, chars_past_char, chars-nil, IsUtf8-take, IsUtf8-drop, IsCharBoundary-from_take, IsCharBoundary-at_seam}
use Rattle.sp_base.proofs.BoolLemmas.{same_truth as same_bool}
use Rattle.glob_rules.specs.declared.piece.GlobPiece.{GlobPiece}
use Rattle.glob_rules.specs.declared.piece.GlobPiece.TheVariants.{Star, Literal}
use Rattle.glob_rules.specs.Globs.{Matches, is_match}
use Rattle.glob_rules.specs.Forms.{IsNoComparison, literals}
use Rattle.glob_rules.proofs.MatchLemmas.{sound, complete}

abbrev literal : ℕ → GlobPiece
literal c = Literal c

-- ---- characters

literal_only : (ds cs : List ℕ) → is_match (map literal ds) cs ≡ true → cs ≡ ds
unfolding is_match
literal_only [] [] h = refl
literal_only [] (c ∷ cs) h = absurd cc
literal_only (d ∷ ds) [] h = absurd cc
literal_only (d ∷ ds) (c ∷ cs) h =
    let both = and_parts (c == d) (is_match (map literal ds) cs) h in
    let head : c ≡ d = eqb-true c d both.0 in
    let tail : cs ≡ ds = literal_only ds cs both.1 in
    cc

literal_then : (later : List GlobPiece) (ds rest : List ℕ) → Matches later rest → Matches (map literal ds ++ later) (ds ++ rest)
literal_then later [] rest m = m
literal_then later (d ∷ ds) rest m = Matches.one (eq-eqb d d refl) (literal_then later ds rest m)

literal_match : (ds : List ℕ) → Matches (map literal ds) ds
literal_match [] = Matches.nothing
literal_match (d ∷ ds) = Matches.one (eq-eqb d d refl) (literal_match ds)

begins_only : (ds cs : List ℕ) → is_match (map literal ds ++ Star ∷ []) cs ≡ true → (rest : List ℕ) × (cs ≡ ds ++ rest)
unfolding is_match
begins_only [] cs h = (cs, refl)
begins_only (d ∷ ds) [] h = absurd cc
begins_only (d ∷ ds) (c ∷ cs) h =
    let both = and_parts (c == d) (is_match (map literal ds ++ Star ∷ []) cs) h in
    let head : c ≡ d = eqb-true c d both.0 in
    let later = begins_only ds cs both.1 in
    let tail : cs ≡ ds ++ later.0 = later.1 in
    (later.0, cc)

ends_only : (ds cs : List ℕ) → Matches (Star ∷ map literal ds) cs → (run : List ℕ) × (cs ≡ run ++ ds)
ends_only ds cs (Matches.star {rest} run e m) = (run, e ∙ ap (λ (l : List ℕ). run ++ l) (literal_only ds rest (complete (map literal ds) rest m)))
ends_only ds cs (Matches.one s m) = absurd cc

-- ---- bytes

whole_forth : (text literal_text : List ℕ) → text ≡ literal_text → is_match (literals literal_text) (chars text) ≡ true
whole_forth text l e = complete (literals l) (chars text) (subst (λ (cs : List ℕ). Matches (literals l) cs) (ap chars (sym e)) (literal_match (chars l)))

whole_back : (text l : List ℕ) → IsUtf8 text → IsUtf8 l → is_match (literals l) (chars text) ≡ true → text ≡ l
whole_back text l u v h = sym (encodes-chars text u) ∙ ap encode_utf8_all (literal_only (chars l) (chars text) h) ∙ encodes-chars l v

pub whole_is : (text l : List ℕ) (r : Bool) → IsUtf8 text → IsUtf8 l → r ≡ pointwise nat_eq text l → r ≡ is_match (literals l) (chars text)
whole_is text l r u v e =
    let decides = bytes_eq-Decides text l in
    e ∙ same_bool (pointwise nat_eq text l) (is_match (literals l) (chars text)) (λ t. whole_forth text l (decides.0 t)) (λ t. decides.1 (whole_back text l u v t))

begins_forth : (text l rest : List ℕ) → IsUtf8 l → text ≡ l ++ rest → is_match (literals l ++ Star ∷ []) (chars text) ≡ true
begins_forth text l rest v e =
    let parts : chars l ++ chars rest ≡ chars text = sym (chars-append l rest v) ∙ ap chars (sym e) in
    let star : Matches (Star ∷ []) (chars rest) = Matches.star (chars rest) (sym (append-nil (chars rest))) Matches.nothing in
    complete (literals l ++ Star ∷ []) (chars text) (subst (λ (cs : List ℕ). Matches (literals l ++ Star ∷ []) cs) parts (literal_then (Star ∷ []) (chars l) (chars rest) star))

begins_back : (text l : List ℕ) → IsUtf8 text → IsUtf8 l → is_match (literals l ++ Star ∷ []) (chars text) ≡ true → (rest : List ℕ) × (text ≡ l ++ rest)
begins_back text l u v h =
    let found = begins_only (chars l) (chars text) h in
    (encode_utf8_all found.0, sym (encodes-chars text u) ∙ ap encode_utf8_all found.1 ∙ encodes-append (chars l) found.0 ∙ ap (λ (b : List ℕ). b ++ encode_utf8_all found.0) (encodes-chars l v))

pub begins_is : (text l : List ℕ) (r : Bool) → IsUtf8 text → IsUtf8 l → r ≡ starts_with nat_eq text l → r ≡ is_match (literals l ++ Star ∷ []) (chars text)
begins_is text l r u v e =
    let told = starts_is Decides-eqb text l r e in
    same_bool r (is_match (literals l ++ Star ∷ []) (chars text)) (λ t. begins_forth text l (drop (length l) text) v (told.0 t)) (λ t. let found = begins_back text l u v t in told.1 found.0 found.1)

-- what stands before a text at the end of a text is a text
front_is : (text front l : List ℕ) → IsUtf8 text → IsUtf8 l → text ≡ front ++ l → IsUtf8 front
front_is text front l u v e =
    let cut = IsUtf8-take text (length front) u (IsCharBoundary-at_seam text front l e v) in
    subst IsUtf8 (ap (take (length front)) e ∙ take-append_seam front l) cut

ends_forth : (text front l : List ℕ) → IsUtf8 text → IsUtf8 l → text ≡ front ++ l → is_match (Star ∷ literals l) (chars text) ≡ true
ends_forth text front l u v e =
    let parts : chars text ≡ chars front ++ chars l = ap chars e ∙ chars-append front l (front_is text front l u v e) in
    complete (Star ∷ literals l) (chars text) (Matches.star (chars front) parts (literal_match (chars l)))

ends_back : (text l : List ℕ) → IsUtf8 text → IsUtf8 l → is_match (Star ∷ literals l) (chars text) ≡ true → (front : List ℕ) × (text ≡ front ++ l)
ends_back text l u v h =
    let found = ends_only (chars l) (chars text) (sound (Star ∷ literals l) (chars text) h) in
    (encode_utf8_all found.0, sym (encodes-chars text u) ∙ ap encode_utf8_all found.1 ∙ encodes-append found.0 (chars l) ∙ ap (λ (b : List ℕ). encode_utf8_all found.0 ++ b) (encodes-chars l v))

pub ends_is_match : (text l : List ℕ) (r : Bool) → IsUtf8 text → IsUtf8 l → r ≡ ends_with nat_eq text l → r ≡ is_match (Star ∷ literals l) (chars text)
ends_is_match text l r u v e =
    let told = ends_is Decides-eqb text l r e in
    same_bool r (is_match (Star ∷ literals l) (chars text)) (λ t. ends_forth text (take (length text - length l) text) l u v (told.0 t)) (λ t. let found = ends_back text l u v t in told.1 found.0 found.1)

-- ---- the text of pieces

-- what stands after a text in a text is a text
later_is : (text later : List ℕ) → IsUtf8 text → IsUtf8 (text ++ later) → IsUtf8 later
later_is text later u v =
    let front : IsUtf8 (take (length text) (text ++ later)) = subst IsUtf8 (sym (take-append_seam text later)) u in
    let cut = IsCharBoundary-from_take (text ++ later) (length text) v (omega (arith, length-append text later)) front in
    subst IsUtf8 (drop-append_seam text later) (IsUtf8-drop (text ++ later) (length text) v cut)

-- a character more, where the text is a text before and after
pub one_more : (text : List ℕ) (c : ℕ) → IsUtf8 text → IsUtf8 (text ++ encode_utf8 c) → literals (text ++ encode_utf8 c) ≡ literals text ++ Literal c ∷ []
one_more text c u v =
    let alone : chars (encode_utf8 c) ≡ c ∷ [] = chars_past_char (encode_utf8 c) [] c (later_is text (encode_utf8 c) u v) (sym (append-nil (encode_utf8 c))) ∙ ap (λ (l : List ℕ). c ∷ l) chars-nil in
    let both : chars (text ++ encode_utf8 c) ≡ chars text ++ c ∷ [] = chars-append text (encode_utf8 c) u ∙ ap (λ (l : List ℕ). chars text ++ l) alone in
    ap (map literal) both ∙ map-append literal (chars text) (c ∷ [])

pub no_text : (text : List ℕ) → text ≡ [] → [] ≡ literals text
no_text text e = sym (ap (map literal) (ap chars e ∙ chars-nil))

-- ---- pieces that are no one comparison

-- the piece at a place is a character, in what stands for a text
abbrev IsCharacter : GlobPiece → Type 0
IsCharacter piece = (c : ℕ) × (piece ≡ Literal c)

character_at : (cs : List ℕ) (front later : List GlobPiece) (piece : GlobPiece) → front ++ piece ∷ later ≡ map literal cs → IsCharacter piece
character_at [] [] later piece e = absurd cc
character_at [] (x ∷ front) later piece e = absurd cc
character_at (c ∷ cs) [] later piece e = (c, ap (λ l. get_or l 0 piece) e)
character_at (c ∷ cs) (x ∷ front) later piece e = character_at cs front later piece (ap (drop 1) e)

no_star : IsCharacter Star → ⊥
no_star found = let same : Star ≡ Literal found.0 = found.1 in absurd cc

-- a piece that is no character stands in no text
pub no_literals : (pieces front later : List GlobPiece) (piece : GlobPiece) → pieces ≡ front ++ piece ∷ later → ((c : ℕ) → piece ≢ Literal c) → (text : List ℕ) → pieces ≢ literals text
no_literals pieces front later piece parts other text e =
    let found = character_at (chars text) front later piece (sym parts ∙ e) in
    other found.0 found.1

-- what stands before the same last piece is the same
same_front : (xs ys : List GlobPiece) → xs ++ Star ∷ [] ≡ ys ++ Star ∷ [] → xs ≡ ys
same_front [] [] e = refl
same_front [] (y ∷ ys) e = absurd (omega (arith, ap length e, length-append ys (Star ∷ [])))
same_front (x ∷ xs) [] e = absurd (omega (arith, ap length e, length-append xs (Star ∷ [])))
same_front (x ∷ xs) (y ∷ ys) e =
    let head : x ≡ y = ap (λ l. get_or l 0 x) e in
    let tail : xs ≡ ys = same_front xs ys (ap (drop 1) e) in
    cc

-- with no star at an end, only a text is one comparison
pub by_pieces : (pieces : List GlobPiece) → ((later : List GlobPiece) → pieces ≢ Star ∷ later) → ((run : List GlobPiece) → pieces ≢ run ++ Star ∷ []) → ((text : List ℕ) → pieces ≢ literals text) → IsNoComparison pieces
by_pieces pieces first last none = record { whole = none; beginning = λ text e. last (literals text) e; ending = λ text e. first (literals text) e }

-- with a star first, only a text after it is
pub by_pieces_after : (later : List GlobPiece) → ((text : List ℕ) → later ≢ literals text) → IsNoComparison (Star ∷ later)
by_pieces_after later none = record {
  whole = λ text e. no_star (character_at (chars text) [] later Star e);
  beginning = λ text e. by_text (chars text) (ap (map literal) chars-nil) e;
  ending = λ text e. none text (ap (drop 1) e);
} where
  by_text : (cs : List ℕ) → literals [] ≡ [] → Star ∷ later ≡ map literal cs ++ Star ∷ [] → ⊥
  by_text [] nil e = none [] (ap (drop 1) e ∙ sym nil)
  by_text (c ∷ cs) nil e = let head : Star ≡ Literal c = ap (λ l. get_or l 0 Star) e in absurd cc

-- with a star last, only a text before it is
pub by_pieces_before : (run : List GlobPiece) → ((text : List ℕ) → run ≢ literals text) → IsNoComparison (run ++ Star ∷ [])
by_pieces_before run none = record {
  whole = λ text e. no_star (character_at (chars text) run [] Star e);
  beginning = λ text e. none text (same_front run (literals text) e);
  ending = λ text e. by_run run none text e;
} where
  by_run : (xs : List GlobPiece) → ((text : List ℕ) → xs ≢ literals text) → (text : List ℕ) → xs ++ Star ∷ [] ≡ Star ∷ literals text → ⊥
  by_run [] other text e = other [] (sym (ap (map literal) chars-nil))
  by_run (x ∷ xs) other text e = no_star (character_at (chars text) xs [] Star (ap (drop 1) e))
