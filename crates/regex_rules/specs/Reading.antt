-- What the functions that read promise one another: a pattern is read a character at a time.
-- A reader of which texts spell which pattern needs none of it: `pattern_of` gives a text the places of the tree that the grammar does (law `the_pattern_reading_is_the_grammar`).
use Rattle.std.specs.Prelude.{ℕ, Bool, true, false, ◌==◌, ◌+◌, ◌-◌, if◌then◌else◌, List, [], ◌∷◌, ◌++◌, Option, Some, None, Result, Ok, Err, length, encode_utf8}
use Rattle.std.specs.Str.{chars}
use Rattle.regex_rules.specs.declared.character.CharRange.{CharRange}
use Rattle.regex_rules.specs.declared.character.OneChar.TheVariants.{AnyButNewline, Literal, Class}
use Rattle.regex_rules.specs.declared.repeat.Repeat.{Repeat}
use Rattle.regex_rules.specs.declared.repeat.Repeat.TheVariants.{Once, Optional, Any, AtLeastOnce}
use Rattle.regex_rules.specs.declared.place.PatternPlace.{PatternPlace}
use Rattle.regex_rules.specs.declared.place.PatternPlace.TheVariants.{One, Open, Bar, Close}
use Rattle.regex_rules.specs.declared.mode.Mode.{Mode}
use Rattle.regex_rules.specs.declared.mode.Mode.TheVariants as mode
use Rattle.regex_rules.specs.declared.reader.Reader.{Reader}
use Rattle.regex_rules.specs.declared.fault.PatternFault.{PatternFault}
use Rattle.regex_rules.specs.declared.fault.PatternFault.TheVariants.{BadPattern, TooDeep}
use Rattle.regex_rules.specs.Spelling.{Bounds, range, is_special, is_meant, is_reserved, strict}

-- a place whose piece stands once, with how often it does
abbrev pub repeated_place : Repeat → PatternPlace → Option PatternPlace
repeated_place repeat (One one Once) = Some (One one repeat)
repeated_place repeat (Close Once) = Some (Close repeat)
repeated_place repeat place = None

abbrev pub then_place : List PatternPlace → Option PatternPlace → Option (List PatternPlace)
then_place places None = None
then_place places (Some place) = Some (places ++ place ∷ [])

abbrev pub before_place : PatternPlace → Option (List PatternPlace) → Option (List PatternPlace)
before_place place None = None
before_place place (Some places) = Some (place ∷ places)

-- places with how often the last piece stands, if there is one that stands once
unfoldable pub with_repeat : Repeat → List PatternPlace → Option (List PatternPlace)
with_repeat repeat [] = None
with_repeat repeat (place ∷ []) = then_place [] (repeated_place repeat place)
with_repeat repeat (place ∷ next ∷ places) = before_place place (with_repeat repeat (next ∷ places))

-- what a reading makes of a character, or of the end
abbrev pub ReadingStep : Type 0
ReadingStep = Result Reader PatternFault

-- among the pieces of a row within so many brackets
abbrev pub reader_in_row : List PatternPlace → ℕ → Reader
reader_in_row places depth = record { places = places; depth = depth; negated = false; ranges = []; mode = mode.Row }

abbrev pub reader_in_class : Reader → Bool → List CharRange → Mode → Reader
reader_in_class reader negated ranges place = record { places = reader.places; depth = reader.depth; negated = negated; ranges = ranges; mode = place }

abbrev pub in_mode : Reader → Mode → Reader
in_mode reader place = record { places = reader.places; depth = reader.depth; negated = reader.negated; ranges = reader.ranges; mode = place }

abbrev pub at_places : Reader → List PatternPlace → ℕ → Reader
at_places reader places depth = record { places = places; depth = depth; negated = reader.negated; ranges = reader.ranges; mode = mode.Row }

abbrev pub with_place : Reader → PatternPlace → Reader
with_place reader place = at_places reader (reader.places ++ place ∷ []) reader.depth

abbrev pub row_repeated : ℕ → Reader → Option (List PatternPlace) → ReadingStep
row_repeated at reader None = Err (BadPattern at)
row_repeated at reader (Some places) = Ok (at_places reader places reader.depth)

abbrev pub opened : Bounds → ℕ → Reader → ReadingStep
opened bounds at reader = if bounds.may_open reader.depth then Ok (at_places reader (reader.places ++ Open ∷ []) (reader.depth + 1)) else Err (TooDeep at)

abbrev pub bracket_closed : ℕ → Reader → ReadingStep
bracket_closed at reader = if reader.depth == 0 then Err (BadPattern at) else Ok (at_places reader (reader.places ++ Close Once ∷ []) (reader.depth - 1))

abbrev pub ended : ℕ → Reader → ReadingStep
ended at reader = if reader.depth == 0 then Ok (in_mode reader mode.End) else Err (BadPattern at)

-- a character that doesn't stand for itself
abbrev pub special : Bounds → ℕ → ℕ → Reader → ReadingStep
special bounds at c reader =
    if c == 46 then Ok (with_place reader (One AnyButNewline Once))
    else (if c == 40 then opened bounds at reader
    else (if c == 41 then bracket_closed at reader
    else (if c == 124 then Ok (with_place reader Bar)
    else (if c == 42 then row_repeated at reader (with_repeat Any reader.places)
    else (if c == 43 then row_repeated at reader (with_repeat AtLeastOnce reader.places)
    else (if c == 63 then row_repeated at reader (with_repeat Optional reader.places)
    else (if c == 91 then Ok (reader_in_class reader false [] mode.ClassBegin)
    else (if c == 92 then Ok (in_mode reader mode.Escape)
    else (if c == 36 then ended at reader
    else Err (BadPattern at))))))))))

abbrev pub in_a_row : Bounds → ℕ → ℕ → Reader → ReadingStep
in_a_row bounds at c reader = if is_special c then special bounds at c reader else Ok (with_place reader (One (Literal c) Once))

abbrev pub escaped : ℕ → ℕ → Reader → ReadingStep
escaped at c reader = if is_meant c then Ok (with_place reader (One (Literal c) Once)) else Err (BadPattern at)

-- past the `]` of a class with these ranges
abbrev pub class_closed : Reader → List CharRange → ReadingStep
class_closed reader ranges = Ok (reader_in_row (reader.places ++ One (Class (record { negated = reader.negated; ranges = ranges })) Once ∷ []) reader.depth)

-- a class with these ranges, further on
abbrev pub class_goes_on : Reader → List CharRange → Mode → ReadingStep
class_goes_on reader ranges place = Ok (reader_in_class reader reader.negated ranges place)

-- where a class has nothing yet
abbrev pub class_first : ℕ → ℕ → Reader → ReadingStep
class_first at c reader =
    if is_reserved c then (if c == 92 then Ok (in_mode reader (mode.MemberEscape at)) else Err (BadPattern at))
    else Ok (in_mode reader (mode.Member c at))

abbrev pub class_begun : ℕ → ℕ → Reader → ReadingStep
class_begun at c reader = if c == 94 then Ok (reader_in_class reader true [] mode.ClassFirst) else class_first at c reader

-- where another character or range may begin, with these ranges before it, and after what a `-` means
abbrev pub class_next : ℕ → ℕ → Reader → List CharRange → ReadingStep → ReadingStep
class_next at c reader ranges hyphen =
    if is_reserved c then (if c == 45 then hyphen else (if c == 93 then class_closed reader ranges else (if c == 92 then class_goes_on reader ranges (mode.MemberEscape at) else Err (BadPattern at))))
    else class_goes_on reader ranges (mode.Member c at)

-- a range from one character to another
abbrev pub spanned : Bounds → ℕ → ℕ → ℕ → Reader → ReadingStep
spanned bounds first place c reader =
    if bounds.may_span first c then class_goes_on reader (reader.ranges ++ range first c ∷ []) mode.Spanned else Err (BadPattern place)

-- after a character and a `-`
abbrev pub class_hyphen : Bounds → ℕ → ℕ → ℕ → ℕ → Reader → ReadingStep
class_hyphen bounds at c first place reader =
    if is_reserved c then (if c == 93 then class_closed reader (reader.ranges ++ (range first first ∷ range 45 45 ∷ [])) else (if c == 92 then Ok (in_mode reader (mode.LastEscape first place)) else Err (BadPattern at)))
    else spanned bounds first place c reader

abbrev pub class_last : ℕ → ℕ → Reader → ReadingStep
class_last at c reader = if c == 93 then class_closed reader (reader.ranges ++ range 45 45 ∷ []) else Err (BadPattern at)

abbrev pub class_escaped : ℕ → ℕ → ℕ → Reader → ReadingStep
class_escaped at c place reader = if is_reserved c then Ok (in_mode reader (mode.Member c place)) else Err (BadPattern at)

abbrev pub class_last_escaped : Bounds → ℕ → ℕ → ℕ → ℕ → Reader → ReadingStep
class_last_escaped bounds at c first place reader = if is_reserved c then spanned bounds first place c reader else Err (BadPattern at)

-- one character further, at this place
abbrev pub step_in : Bounds → Mode → ℕ → ℕ → Reader → ReadingStep
step_in bounds mode.Begin at c reader = if c == 94 then Ok (in_mode reader mode.Row) else in_a_row bounds at c reader
step_in bounds mode.Row at c reader = in_a_row bounds at c reader
step_in bounds mode.Escape at c reader = escaped at c reader
step_in bounds mode.End at c reader = Err (BadPattern at)
step_in bounds mode.ClassBegin at c reader = class_begun at c reader
step_in bounds mode.ClassFirst at c reader = class_first at c reader
step_in bounds (mode.Member first place) at c reader =
    class_next at c reader (reader.ranges ++ range first first ∷ []) (Ok (in_mode reader (mode.Hyphen first place)))
step_in bounds (mode.Hyphen first place) at c reader = class_hyphen bounds at c first place reader
step_in bounds mode.Spanned at c reader = class_next at c reader reader.ranges (Ok (in_mode reader mode.LastHyphen))
step_in bounds mode.LastHyphen at c reader = class_last at c reader
step_in bounds (mode.MemberEscape place) at c reader = class_escaped at c place reader
step_in bounds (mode.LastEscape first place) at c reader = class_last_escaped bounds at c first place reader

abbrev pub step : Bounds → ℕ → ℕ → Reader → ReadingStep
step bounds at c reader = step_in bounds reader.mode at c reader

-- whether a pattern may end there
abbrev pub may_end : Mode → Bool
may_end mode.Begin = true
may_end mode.Row = true
may_end mode.End = true
may_end other = false

abbrev pub finished : ℕ → Reader → Result (List PatternPlace) PatternFault
finished at reader = if may_end reader.mode then (if reader.depth == 0 then Ok reader.places else Err (BadPattern at)) else Err (BadPattern at)

abbrev pub then_read : (Reader → Result (List PatternPlace) PatternFault) → ReadingStep → Result (List PatternPlace) PatternFault
then_read more (Ok reader) = more reader
then_read more (Err fault) = Err fault

-- the characters from a place on
unfoldable pub read_from : Bounds → ℕ → Reader → List ℕ → Result (List PatternPlace) PatternFault
read_from bounds at reader [] = finished at reader
read_from bounds at reader (c ∷ cs) = then_read (λ next. read_from bounds (at + length (encode_utf8 c)) next cs) (step bounds at c reader)

-- nothing read yet
abbrev pub unread : Reader
unread = record { places = []; depth = 0; negated = false; ranges = []; mode = mode.Begin }

-- the places of the pattern that a text spells, or why it spells none
unfoldable pub pattern_of : List ℕ → Result (List PatternPlace) PatternFault
pattern_of text = read_from strict 0 unread (chars text)
