-- The tree of a pattern, as it is read from the left: rows of pieces with `|` between the rows.
use Rattle.std.specs.Prelude.{List, [], ◌∷◌, ◌++◌}
use Rattle.regex_rules.specs.declared.character.OneChar.{OneChar}
use Rattle.regex_rules.specs.declared.repeat.Repeat.{Repeat}
use Rattle.regex_rules.specs.declared.place.PatternPlace.{PatternPlace}
use Rattle.regex_rules.specs.declared.place.PatternPlace.TheVariants.{One, Open, Bar, Close}

-- Rows, of which the last may go on.
pub data PatternTree : Type 0 where
  -- one row, without a piece
  Empty : PatternTree
  -- these rows, the last with one more piece: a character of some kind, so often
  Char : PatternTree → OneChar → Repeat → PatternTree
  -- these rows, the last with one more piece: the rows in brackets, so often
  Bracket : PatternTree → PatternTree → Repeat → PatternTree
  -- these rows, and one more without a piece
  Or : PatternTree → PatternTree

-- The places of a tree, in the order of its text: that is how a pattern holds it.
abbrev pub places_of : PatternTree → List PatternPlace
places_of Empty = []
places_of (Char rows one repeat) = places_of rows ++ One one repeat ∷ []
places_of (Bracket rows inner repeat) = places_of rows ++ (Open ∷ places_of inner ++ (Close repeat ∷ []))
places_of (Or rows) = places_of rows ++ Bar ∷ []

-- the tree within the innermost open bracket, and those around it, with one more place
abbrev pub grown : PatternPlace → List PatternTree → List PatternTree
grown place [] = []
grown (One one repeat) (rows ∷ around) = Char rows one repeat ∷ around
grown Open (rows ∷ around) = Empty ∷ rows ∷ around
grown Bar (rows ∷ around) = Or rows ∷ around
grown (Close repeat) (inner ∷ []) = inner ∷ []
grown (Close repeat) (inner ∷ rows ∷ around) = Bracket rows inner repeat ∷ around

-- the trees with these places more
abbrev pub grown_all : List PatternPlace → List PatternTree → List PatternTree
grown_all [] trees = trees
grown_all (place ∷ places) trees = grown_all places (grown place trees)

abbrev pub innermost : List PatternTree → PatternTree
innermost [] = Empty
innermost (rows ∷ around) = rows

-- the tree of places
abbrev pub tree_of : List PatternPlace → PatternTree
tree_of places = innermost (grown_all places (Empty ∷ []))
