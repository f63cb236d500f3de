-- The depth that the selectors of a request for JSON ask for (Apache Sling, "Rendering content, default GET servlets").
use Rattle.std.specs.Prelude.{◌==◌, ◌&&◌, ◌||◌, ℕ, Bool, not, nat_eq, nat_le, if◌then◌else◌, List, [], ◌∷◌, Option, Some, None, option_map, codes, length, slice_index}
use Rattle.std.specs.Str.Parse.{digits_value}
use Rattle.std.specs.Cmp.Lexicographic.{pointwise}
use Rattle.sp_base.specs.Texts.{Text}
use Rattle.sp_base.specs.Typed.{are_digits}
use Rattle.get_servlet.specs.declared.answer.Depth.{Depth}
use Rattle.get_servlet.specs.declared.answer.Depth.TheVariants.{Levels, Infinity}

-- the most digits of a depth
abbrev pub most_depth_digits : ℕ
most_depth_digits = 9

-- at most `most_depth_digits` digits, the first of several no zero
abbrev pub is_depth : List ℕ → Bool
is_depth word = are_digits word && (nat_le (length word) most_depth_digits && (length word == 1 || not (slice_index word 0 == 48)))

-- the number of levels that a selector spells
abbrev pub levels_named : List ℕ → Option ℕ
levels_named word = if is_depth word then Some (digits_value 10 word) else None

-- the depth that a selector spells
abbrev pub depth_named : List ℕ → Option Depth
depth_named word = if pointwise nat_eq word (codes "infinity") then Some Infinity else option_map Levels (levels_named word)

-- no selector asks for the resource alone, one for the depth that it spells; there is none for other selectors
abbrev pub depth_of : List Text → Option Depth
depth_of [] = Some (Levels 0)
depth_of (word ∷ []) = depth_named word
depth_of (word ∷ next ∷ words) = None
