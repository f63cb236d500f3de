-- Which characters of a pattern may come after which, by its tree: the construction of Glushkov. They are counted from the left, from 0.
-- A reader of what a pattern matches needs none of it: law `the_ways_are_the_language` says that it gives the same texts.
use Rattle.std.specs.Prelude.{◌≡◌, ℕ, suc, ◌+◌, ◌^◌, ◌%◌, Bool, true, false, ◌&&◌, ◌||◌, List, [], ◌∷◌, ◌⊎◌, if◌then◌else◌, bit_or}
use Rattle.std.specs.Int.{bit_at}
use Rattle.regex_rules.specs.declared.linking.Piece.{Piece}
use Rattle.regex_rules.specs.declared.repeat.Repeat.{Repeat}
use Rattle.regex_rules.specs.Trees.{PatternTree, Empty, Char, Bracket, Or}
use Rattle.regex_rules.specs.Languages.{Which, Last, Earlier, is_one, may_lack, may_go_on}

-- a set of characters of a pattern, as a number, has this one
unfoldable pub Has : ℕ → ℕ → Type 0
Has set p = bit_at set p ≡ 1

-- the set of this one alone, in 64 bits
unfoldable pub bit_of : ℕ → ℕ
bit_of p = 2 ^ p % 2 ^ 64

-- how many characters a pattern has
abbrev pub count : PatternTree → ℕ
count Empty = 0
count (Char rows one repeat) = suc (count rows)
count (Bracket rows inner repeat) = count rows + count inner
count (Or rows) = count rows

-- ---- with which characters the texts of rows may begin and end, and whether nothing is one of them

abbrev pub piece_of : ℕ → ℕ → Bool → Piece
piece_of first last lacks = record { first = first; last = last; lacks = lacks }

-- a row before its first piece, and no rows
abbrev pub empty_row : Piece
empty_row = piece_of 0 0 true

abbrev pub no_rows : Piece
no_rows = piece_of 0 0 false

-- one of both
abbrev pub either : Piece → Piece → Piece
either one other = piece_of (bit_or one.first other.first) (bit_or one.last other.last) (one.lacks || other.lacks)

-- the one after the other
abbrev pub followed : Piece → Piece → Piece
followed row next =
    piece_of (if row.lacks then bit_or row.first next.first else row.first) (if next.lacks then bit_or next.last row.last else next.last) (row.lacks && next.lacks)

-- a piece that stands so often
abbrev pub so_often : Repeat → Piece → Piece
so_often repeat one = piece_of one.first one.last (may_lack repeat || one.lacks)

-- one character
abbrev pub one_at : ℕ → Piece
one_at p = piece_of (bit_of p) (bit_of p) false

-- the last row of a tree, and those before it together; its characters are counted from a number on
abbrev pub row_at : Which → PatternTree → ℕ → Piece
row_at Last Empty n = empty_row
row_at Last (Char rows one repeat) n = followed (row_at Last rows n) (so_often repeat (one_at (n + count rows)))
row_at Last (Bracket rows inner repeat) n = followed (row_at Last rows n) (so_often repeat (either (row_at Earlier inner (n + count rows)) (row_at Last inner (n + count rows))))
row_at Last (Or rows) n = empty_row
row_at Earlier Empty n = no_rows
row_at Earlier (Char rows one repeat) n = row_at Earlier rows n
row_at Earlier (Bracket rows inner repeat) n = row_at Earlier rows n
row_at Earlier (Or rows) n = either (row_at Earlier rows n) (row_at Last rows n)

-- all rows together
abbrev pub rows_at : PatternTree → ℕ → Piece
rows_at tree n = either (row_at Earlier tree n) (row_at Last tree n)

-- ---- which characters may come after which

-- A piece that goes on a row begins after its end, and again after its own end where it may.
abbrev pub Joins : Piece → Piece → Repeat → ℕ → ℕ → Type 0
Joins row next repeat q p = Has next.first p × (Has row.last q ⊎ ((may_go_on repeat ≡ true) × Has next.last q))

abbrev pub Follows : PatternTree → ℕ → ℕ → ℕ → Type 0
Follows Empty n q p = ⊥
Follows (Char rows one repeat) n q p = Follows rows n q p ⊎ Joins (row_at Last rows n) (one_at (n + count rows)) repeat q p
Follows (Bracket rows inner repeat) n q p = Follows rows n q p ⊎ (Follows inner (n + count rows) q p ⊎ Joins (row_at Last rows n) (rows_at inner (n + count rows)) repeat q p)
Follows (Or rows) n q p = Follows rows n q p

-- a character of a text may stand at this one of the pattern
abbrev pub Takes : PatternTree → ℕ → ℕ → ℕ → Type 0
Takes Empty n p c = ⊥
Takes (Char rows one repeat) n p c = Takes rows n p c ⊎ ((p ≡ n + count rows) × (is_one one c ≡ true))
Takes (Bracket rows inner repeat) n p c = Takes rows n p c ⊎ Takes inner (n + count rows) p c
Takes (Or rows) n p c = Takes rows n p c

-- ---- ways of a text through a pattern

-- from a character of the pattern on, the text is taken up to an end
abbrev pub GoesOn : PatternTree → ℕ → List ℕ → Type 0
GoesOn tree p [] = Has (rows_at tree 0).last p
GoesOn tree p (c ∷ cs) = (q : ℕ) × Follows tree 0 p q × Takes tree 0 q c × GoesOn tree q cs

-- Each character of the text is taken by one of the pattern: the first by one with which texts begin, each next one by one that may come after the one before, the last
-- by one with which texts end. The empty text is taken where nothing is a text of the pattern.
abbrev pub IsWay : PatternTree → List ℕ → Type 0
IsWay tree [] = (rows_at tree 0).lacks ≡ true
IsWay tree (c ∷ cs) = (p : ℕ) × Has (rows_at tree 0).first p × Takes tree 0 p c × GoesOn tree p cs
