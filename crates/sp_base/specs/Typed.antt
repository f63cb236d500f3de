-- The value that words with a hint stand for (Apache Sling, "SlingPostServlet", `@TypeHint`).
use Rattle.std.specs.Prelude.{neg_ℤ, ◌==◌, ◌&&◌, ℕ, ℤ, pos, Bool, not, is_none, nat_eq, nat_le, nat_lt, if◌then◌else◌, List, [], ◌∷◌, Option, Some, None, Result, Ok, Err, codes, drop, length, map, unwrap_or, slice_index}
use Rattle.std.specs.List.{position}
use Rattle.std.specs.Str.{all_ascii_digits}
use Rattle.std.specs.Str.Parse.{digits_value}
use Rattle.std.specs.Cmp.Lexicographic.{pointwise}
use Rattle.sp_base.specs.Limits.{least_i64_magnitude}
use Rattle.sp_base.specs.declared.value.Value.{Value}
use Rattle.sp_base.specs.declared.value.Value.TheVariants.{Text, Long, Truth, Texts, Longs, Truths}
use Rattle.sp_base.specs.declared.hint.Hint.{Hint}
use Rattle.sp_base.specs.declared.hint.HintedType.{HintedType}
use Rattle.sp_base.specs.declared.hint.HintedType.TheVariants.{Text as TextType, Long as LongType, Truth as TruthType}
use Rattle.sp_base.specs.declared.hint.ValueFault.{ValueFault}
use Rattle.sp_base.specs.declared.hint.ValueFault.TheVariants.{WrongCount, NotANumber}
use Rattle.sp_base.specs.Texts as texts

-- one or more decimal digits
abbrev pub are_digits : List ℕ → Bool
are_digits ds = not (length ds == 0) && all_ascii_digits ds

-- the number that a word spells: an optional minus and digits, within 64 bits
abbrev pub number_of : List ℕ → Option ℤ
number_of word = if slice_index word 0 == 45
    then (if are_digits (drop 1 word) && nat_le (digits_value 10 (drop 1 word)) least_i64_magnitude then Some (neg_ℤ (pos (digits_value 10 (drop 1 word)))) else None)
    else (if are_digits word && nat_lt (digits_value 10 word) least_i64_magnitude then Some (pos (digits_value 10 word)) else None)

-- only `true` is true
abbrev pub truth_of : List ℕ → Bool
truth_of word = pointwise nat_eq word (codes "true")

-- all words as numbers, or the place of the first that is none
abbrev pub longs_at : Option ℕ → List texts.Text → Result (List ℤ) ValueFault
longs_at (Some place) words = Err (NotANumber place)
longs_at None words = Ok (map (λ word. unwrap_or (number_of word) (pos 0)) words)

-- words as numbers, or the first that is none
abbrev pub longs_of : List texts.Text → Result (List ℤ) ValueFault
longs_of words = longs_at (position (λ word. is_none (number_of word)) words) words

-- a number as a value: there is none where the only word spells none
abbrev pub long_value : Option ℤ → Result Value ValueFault
long_value None = Err (NotANumber 0)
long_value (Some n) = Ok (Long n)

-- one word as a value
abbrev pub one_of : HintedType → List ℕ → Result Value ValueFault
one_of TextType word = Ok (Text word)
one_of LongType word = long_value (number_of word)
one_of TruthType word = Ok (Truth (truth_of word))

-- numbers as a list value, or their fault
abbrev pub longs_value : Result (List ℤ) ValueFault → Result Value ValueFault
longs_value (Ok ns) = Ok (Longs ns)
longs_value (Err e) = Err e

-- words as a list value
abbrev pub many_of : HintedType → List texts.Text → Result Value ValueFault
many_of TextType words = Ok (Texts words)
many_of LongType words = longs_value (longs_of words)
many_of TruthType words = Ok (Truths (map truth_of words))

-- words as a single value: there must be just one
abbrev pub single_of : HintedType → List texts.Text → Result Value ValueFault
single_of hinted [] = Err (WrongCount 0)
single_of hinted (word ∷ []) = one_of hinted word
single_of hinted (word ∷ next ∷ words) = Err (WrongCount (length (word ∷ next ∷ words)))

-- the value of words by a hint, or the first fault
abbrev pub typed_of : Hint → List texts.Text → Result Value ValueFault
typed_of hint words = if hint.many then many_of hint.hinted words else single_of hint.hinted words
