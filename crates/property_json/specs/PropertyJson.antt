-- The JSON of a value, and of properties as members of an object (RFC 8259).
use Rattle.std.specs.Prelude.{◌≡◌, ◌++◌, ◌^◌, ℕ, ℤ, pos, negsuc, Bool, true, nat_lt, List, [], ◌∷◌}
use Rattle.std.specs.List.{list_all}
use Rattle.std.specs.Fmt.{signed_decimal}
use Rattle.json.specs.Json.{Json, boolean, number, string, array, object, Items, no_items, item, Members, no_members, member}
use Rattle.json.specs.Token.{Token}
use Rattle.json.specs.Tree.{json_tokens}
use Rattle.json.specs.Print.{print}
use Rattle.json.specs.Written.{Written}
use Rattle.sp_base.specs.declared.value.Value.{Value}
use Rattle.sp_base.specs.declared.value.Value.TheVariants.{Text, Long, Truth, Texts, Longs, Truths}
use Rattle.sp_base.specs.Texts.{Properties}

-- the items of an array, each by the same rule
abbrev pub items_of : {A : Type 0} → (A → Json) → List A → Items
items_of f [] = no_items
items_of f (x ∷ xs) = item (f x) (items_of f xs)

-- a number in decimal digits
abbrev pub json_of_long : ℤ → Json
json_of_long n = number (signed_decimal n)

-- the JSON of a value
abbrev pub json_of_value : Value → Json
json_of_value (Text t) = string t
json_of_value (Long n) = json_of_long n
json_of_value (Truth b) = boolean b
json_of_value (Texts ts) = array (items_of string ts)
json_of_value (Longs ns) = array (items_of json_of_long ns)
json_of_value (Truths bs) = array (items_of boolean bs)

-- a number of 64 bits with a sign
abbrev pub fits_i64 : ℤ → Bool
fits_i64 (pos n) = nat_lt n (2 ^ 63)
fits_i64 (negsuc n) = nat_lt n (2 ^ 63)

-- each number in a value is one of 64 bits
abbrev pub has_longs : Value → Bool
has_longs (Long n) = fits_i64 n
has_longs (Longs ns) = list_all fits_i64 ns
has_longs _ = true

-- the properties as members, before further members
abbrev pub members_before : Properties → Members → Members
members_before [] ms = ms
members_before ((name, value) ∷ props) ms = member name (json_of_value value) (members_before props ms)

-- the compact text of an object with these properties and nothing else
unfoldable pub properties_text : Properties → List ℕ
properties_text props = print (json_tokens (object (members_before props no_members)))

-- the tokens of the properties as members
abbrev pub property_tokens : Properties → List Token
property_tokens [] = []
property_tokens ((name, value) ∷ props) = (Token.key name ∷ json_tokens (json_of_value value)) ++ property_tokens props

-- these tokens were written, and nothing else
pub record Adds (old new : Written) (ts : List Token) : Type 0 where
  pub tokens : new.tokens ≡ old.tokens ++ ts
  pub before : new.before ≡ old.before
