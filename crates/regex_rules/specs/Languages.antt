-- Which texts a pattern matches, by cases on its tree (POSIX.1, "Extended Regular Expressions"; whole texts).
use Rattle.std.specs.Prelude.{◌≡◌, ℕ, zero, suc, Bool, true, false, ◌&&◌, ◌||◌, ◌==◌, not, nat_le, if◌then◌else◌, List, [], ◌∷◌, ◌++◌, ◌⊎◌, length}
use Rattle.std.specs.List.{list_any}
use Rattle.regex_rules.specs.declared.character.CharRange.{CharRange}
use Rattle.regex_rules.specs.declared.character.CharClass.{CharClass}
use Rattle.regex_rules.specs.declared.character.OneChar.{OneChar}
use Rattle.regex_rules.specs.declared.character.OneChar.TheVariants.{AnyButNewline, Literal, Class}
use Rattle.regex_rules.specs.declared.repeat.Repeat.{Repeat}
use Rattle.regex_rules.specs.declared.repeat.Repeat.TheVariants.{Once, Optional, Any, AtLeastOnce}
use Rattle.regex_rules.specs.Trees.{PatternTree, Empty, Char, Bracket, Or}

-- a range has both its ends
abbrev pub in_range : ℕ → CharRange → Bool
in_range c range = nat_le range.first c && nat_le c range.last

-- a class has the characters of its ranges; a negated one all others
abbrev pub in_class : ℕ → CharClass → Bool
in_class c class = if class.negated then not (list_any (in_range c) class.ranges) else list_any (in_range c) class.ranges

-- a plain character is itself, `.` one character but a newline, a class one character in it or, negated, one not in it
abbrev pub is_one : OneChar → ℕ → Bool
is_one AnyButNewline c = not (c == 10)
is_one (Literal d) c = c == d
is_one (Class class) c = in_class c class

-- a set of texts
abbrev pub Texts : Type 1
Texts = List ℕ → Type 0

-- one character of this kind
abbrev pub IsOne : OneChar → Texts
IsOne one cs = (c : ℕ) × (is_one one c ≡ true) × (cs ≡ c ∷ [])

-- the text can be cut into one of the first and one of the second
abbrev pub Cut : Texts → Texts → Texts
Cut P Q cs = (xs : List ℕ) × (ys : List ℕ) × P xs × Q ys × (cs ≡ xs ++ ys)

-- the text can be cut into this number of parts
abbrev pub Times : ℕ → Texts → Texts
Times zero P cs = cs ≡ []
Times (suc number) P cs = Cut P (Times number P) cs

-- `?` nothing or once, `*` any number of parts, `+` at least one
abbrev pub Repeated : Repeat → Texts → Texts
Repeated Once P cs = P cs
Repeated Optional P cs = (cs ≡ []) ⊎ P cs
Repeated Any P cs = (number : ℕ) × Times number P cs
Repeated AtLeastOnce P cs = (number : ℕ) × Times (suc number) P cs

-- which of the rows
pub data Which : Type 0 where
  Last Earlier : Which

-- A row is a cutting of the text into parts of its pieces in order. Brackets hold what one of their rows does.
abbrev pub InRow : Which → PatternTree → Texts
InRow Last Empty cs = cs ≡ []
InRow Last (Char rows one repeat) cs = Cut (InRow Last rows) (Repeated repeat (IsOne one)) cs
InRow Last (Bracket rows inner repeat) cs = Cut (InRow Last rows) (Repeated repeat (λ ds. InRow Earlier inner ds ⊎ InRow Last inner ds)) cs
InRow Last (Or rows) cs = cs ≡ []
InRow Earlier Empty cs = ⊥
InRow Earlier (Char rows one repeat) cs = InRow Earlier rows cs
InRow Earlier (Bracket rows inner repeat) cs = InRow Earlier rows cs
InRow Earlier (Or rows) cs = InRow Earlier rows cs ⊎ InRow Last rows cs

-- The characters are in the language of the pattern with this tree: in that of one of its rows.
abbrev pub InLanguage : PatternTree → Texts
InLanguage tree cs = InRow Earlier tree cs ⊎ InRow Last tree cs

-- ---- the same as tests, which try every cutting of a text

-- a text without a character
abbrev pub lacks_characters : List ℕ → Bool
lacks_characters [] = true
lacks_characters (c ∷ cs) = false

-- one character of this kind
abbrev pub is_one_text : OneChar → List ℕ → Bool
is_one_text one [] = false
is_one_text one (c ∷ cs) = is_one one c && lacks_characters cs

-- the text can be cut in two: the first part is empty, or it begins with the first character
abbrev pub is_cut_in_two : (List ℕ → Bool) → (List ℕ → Bool) → List ℕ → Bool
is_cut_in_two first second [] = first [] && second []
is_cut_in_two first second (c ∷ cs) = (first [] && second (c ∷ cs)) || is_cut_in_two (λ part. first (c ∷ part)) second cs

-- into this number of parts
abbrev pub is_times : ℕ → (List ℕ → Bool) → List ℕ → Bool
is_times zero part cs = lacks_characters cs
is_times (suc number) part cs = is_cut_in_two part (is_times number part) cs

-- into this number of parts at most
abbrev pub is_times_at_most : ℕ → (List ℕ → Bool) → List ℕ → Bool
is_times_at_most zero part cs = is_times zero part cs
is_times_at_most (suc number) part cs = is_times (suc number) part cs || is_times_at_most number part cs

-- into any number of parts: no more are needed than the text has characters
abbrev pub is_any_times : (List ℕ → Bool) → List ℕ → Bool
is_any_times part cs = is_times_at_most (length cs) part cs

abbrev pub is_repetition : Repeat → (List ℕ → Bool) → List ℕ → Bool
is_repetition Once part cs = part cs
is_repetition Optional part cs = lacks_characters cs || part cs
is_repetition Any part cs = is_any_times part cs
is_repetition AtLeastOnce part cs = is_cut_in_two part (is_any_times part) cs

abbrev pub in_row : Which → PatternTree → List ℕ → Bool
in_row Last Empty cs = lacks_characters cs
in_row Last (Char rows one repeat) cs = is_cut_in_two (in_row Last rows) (is_repetition repeat (is_one_text one)) cs
in_row Last (Bracket rows inner repeat) cs = is_cut_in_two (in_row Last rows) (is_repetition repeat (λ part. in_row Earlier inner part || in_row Last inner part)) cs
in_row Last (Or rows) cs = lacks_characters cs
in_row Earlier Empty cs = false
in_row Earlier (Char rows one repeat) cs = in_row Earlier rows cs
in_row Earlier (Bracket rows inner repeat) cs = in_row Earlier rows cs
in_row Earlier (Or rows) cs = in_row Earlier rows cs || in_row Last rows cs

-- whether the characters are in the language: law `the_test_is_the_language`
unfoldable pub in_language : PatternTree → List ℕ → Bool
in_language tree cs = in_row Earlier tree cs || in_row Last tree cs

-- ---- of a repetition

abbrev pub may_lack : Repeat → Bool
may_lack Once = false
may_lack Optional = true
may_lack Any = true
may_lack AtLeastOnce = false

abbrev pub may_go_on : Repeat → Bool
may_go_on Once = false
may_go_on Optional = false
may_go_on Any = true
may_go_on AtLeastOnce = true
