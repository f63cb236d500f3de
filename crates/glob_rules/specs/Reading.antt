-- How a glob is spelled (Adobe Dispatcher manual, "Designing Patterns for glob Properties").
use Rattle.std.specs.Prelude.{ℕ, Bool, true, false, ◌==◌, ◌||◌, ◌-◌, if◌then◌else◌, List, [], ◌∷◌, ◌++◌, Option, Some, None, Result, Ok, Err, length, encode_utf8_all}
use Rattle.std.specs.Str.{chars}
use Rattle.glob_rules.specs.declared.fault.GlobFault.{GlobFault}
use Rattle.glob_rules.specs.declared.fault.GlobFault.TheVariants.{OpenClass}
use Rattle.glob_rules.specs.declared.piece.GlobRange.{GlobRange}
use Rattle.glob_rules.specs.declared.piece.GlobClass.{GlobClass}
use Rattle.glob_rules.specs.declared.piece.GlobPiece.{GlobPiece}
use Rattle.glob_rules.specs.declared.piece.GlobPiece.TheVariants.{Star, AnyChar, Literal, Class}

-- `[` begins a class
abbrev pub is_open : ℕ → Bool
is_open c = c == 91

-- the first `]` ends it
abbrev pub is_close : ℕ → Bool
is_close c = c == 93

-- `!` or `^` negates
abbrev pub is_negation : ℕ → Bool
is_negation c = c == 33 || c == 94

-- a character outside a class: `*`, `?`, or itself
abbrev pub piece_of_char : ℕ → GlobPiece
piece_of_char c = if c == 42 then Star else (if c == 63 then AnyChar else Literal c)

-- the range of characters from the one to the other
abbrev pub glob_range : ℕ → ℕ → GlobRange
glob_range first last = record { first = first; last = last }

-- a character, `-` and another one are a range; any other character is a range of its own
abbrev pub ranges_of : List ℕ → List GlobRange
ranges_of [] = []
ranges_of (c ∷ []) = glob_range c c ∷ []
ranges_of (c ∷ d ∷ []) = glob_range c c ∷ glob_range d d ∷ []
ranges_of (c ∷ d ∷ e ∷ cs) = if d == 45 then glob_range c e ∷ ranges_of cs else glob_range c c ∷ ranges_of (d ∷ e ∷ cs)

-- what stands between `[` and `]`
abbrev pub class_of : List ℕ → GlobClass
class_of [] = record { negated = false; ranges = [] }
class_of (c ∷ cs) = if is_negation c then record { negated = true; ranges = ranges_of cs } else record { negated = false; ranges = ranges_of (c ∷ cs) }

-- the pieces of a text; of a class that is open, the characters up to here
abbrev pub pieces_from : Option (List ℕ) → List ℕ → List GlobPiece
pieces_from inside [] = []
pieces_from None (c ∷ cs) = if is_open c then pieces_from (Some []) cs else piece_of_char c ∷ pieces_from None cs
pieces_from (Some inside) (c ∷ cs) = if is_close c then Class (class_of inside) ∷ pieces_from None cs else pieces_from (Some (inside ++ c ∷ [])) cs

-- what stands from a `[` on that no `]` closes; a `[` inside a class is a character of it
abbrev pub unclosed_class : Option (List ℕ) → List ℕ → Option (List ℕ)
unclosed_class rest [] = rest
unclosed_class None (c ∷ cs) = unclosed_class (if is_open c then Some (c ∷ cs) else None) cs
unclosed_class (Some rest) (c ∷ cs) = unclosed_class (if is_close c then None else Some rest) cs

-- the pieces, unless a class is open; its `[` is placed by the bytes before it
abbrev pub unless_unclosed : Option (List ℕ) → List ℕ → Result (List GlobPiece) GlobFault
unless_unclosed None text = Ok (pieces_from None (chars text))
unless_unclosed (Some rest) text = Err (OpenClass (length text - length (encode_utf8_all rest)))

-- what a text reads as: the pieces of a glob, or the fault
abbrev pub glob_of : List ℕ → Result (List GlobPiece) GlobFault
glob_of text = unless_unclosed (unclosed_class None (chars text)) text
