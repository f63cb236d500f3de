-- Type hints (Apache Sling, "SlingPostServlet", "@TypeHint").
use Rattle.std.specs.Prelude.{◌||◌, ◌-◌, ℕ, Bool, true, false, nat_eq, is_none, option_map, if◌then◌else◌, List, Option, Some, None, codes, length, take}
use Rattle.std.specs.List.{ends_with, find}
use Rattle.std.specs.Str.{bytes_eq}
use Rattle.sp_base.specs.declared.hint.Hint.{Hint}
use Rattle.sp_base.specs.declared.hint.HintedType.{HintedType}
use Rattle.sp_base.specs.declared.hint.HintedType.TheVariants.{Text, Long, Truth}
use Rattle.sp_base.specs.Texts.{Pairs}
use Rattle.post_plan.specs.declared.suffix.Suffix.{Suffix}
use Rattle.post_plan.specs.declared.suffix.Suffix.TheVariants.{TypeHint}
use Rattle.post_plan.specs.declared.fault.PlanFault.{PlanFault}
use Rattle.post_plan.specs.declared.fault.PlanFault.TheVariants.{BadHint}
use Rattle.post_plan.specs.Parameters.{parameter_suffix, any_marked, content_where}

-- whether a word names a type whose values are texts here
abbrev pub is_text_word : List ℕ → Bool
is_text_word word = bytes_eq word (codes "String") || (bytes_eq word (codes "Date") || (bytes_eq word (codes "Name") || (bytes_eq word (codes "Path") || bytes_eq word (codes "URI"))))

-- the type of value that a word names
abbrev pub hinted_type : List ℕ → Option HintedType
hinted_type word = if is_text_word word then Some Text
    else (if bytes_eq word (codes "Long") then Some Long
    else (if bytes_eq word (codes "Boolean") then Some Truth else None))

-- the hint of a type, for one value or for many
abbrev pub hint_by : Bool → Option HintedType → Option Hint
hint_by many None = None
hint_by many (Some hinted) = Some (record { hinted = hinted; many = many })

-- the hint that a word names; `[]` at its end asks for many values
abbrev pub hint_of : List ℕ → Option Hint
hint_of word = if ends_with nat_eq word (codes "[]") then hint_by true (hinted_type (take (length word - 2) word)) else hint_by false (hinted_type word)

-- whether the suffix is unknown, or is `@TypeHint` and its word names no hint
abbrev pub is_bad_word : Option Suffix → List ℕ → Bool
is_bad_word None word = true
is_bad_word (Some TypeHint) word = is_none (hint_of word)
is_bad_word _ word = false

-- the name of the first content parameter with an unknown suffix or an unknown type hint
abbrev pub bad_hint_where : Bool → Pairs → Option (List ℕ)
bad_hint_where marked pairs = option_map (λ p. p.0) (find (λ p. is_bad_word (parameter_suffix p.0) p.1) (content_where marked pairs))

-- the same among all parameters
abbrev pub bad_hint : Pairs → Option (List ℕ)
bad_hint pairs = bad_hint_where (any_marked pairs) pairs

-- that parameter as a fault
abbrev pub hint_fault : Pairs → Option PlanFault
hint_fault pairs = option_map BadHint (bad_hint pairs)
