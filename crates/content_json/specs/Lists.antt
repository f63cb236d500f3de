-- What an array may hold: texts, numbers or truths, all of one kind.
use Rattle.std.specs.Prelude.{ℤ, List, [], ◌∷◌, Bool, ◌&&◌, if◌then◌else◌, Option, Some, None, is_some, is_none, option_and_then, option_map}
use Rattle.std.specs.Option.{option_or, option_map_or}
use Rattle.std.specs.List.{filter_map}
use Rattle.serde_json.specs.Data.{Data, null, boolean, number, string, array, object, Items, no_items, item}
use Rattle.serde_json.specs.Find.{as_bool, as_number, as_str, as_i64}
use Rattle.sp_base.specs.declared.value.Value.{Value}
use Rattle.sp_base.specs.declared.value.Value.TheVariants.{Text, Long, Truth, Texts, Longs, Truths}
use Rattle.content_json.specs.declared.fault.Cause.{Cause}
use Rattle.content_json.specs.declared.fault.Cause.TheVariants.{BadNumber, MixedArray}
use Rattle.content_json.specs.declared.kind.Kind.{Kind}
use Rattle.content_json.specs.declared.kind.Kind.TheVariants as kind

-- the kind of an item, if it may be one
abbrev pub item_kind : Data → Option Kind
item_kind (boolean b) = Some kind.Truth
item_kind (number n) = Some kind.Long
item_kind (string s) = Some kind.Text
item_kind _ = None

-- an item is a text, a number or a truth, as the kind says
abbrev pub is_of : Kind → Data → Bool
is_of kind.Text d = is_some (as_str d)
is_of kind.Long d = is_some (as_number d)
is_of kind.Truth d = is_some (as_bool d)

-- the number of a value that is one in 64 bits with a sign
abbrev pub as_long : Data → Option ℤ
as_long d = option_and_then as_i64 (as_number d)

-- a number, but not one of 64 bits with a sign
abbrev pub is_bad_number : Data → Bool
is_bad_number d = is_some (as_number d) && is_none (as_long d)

-- what one item has against it in an array of a kind
abbrev pub item_cause : Kind → Data → Option Cause
item_cause k d = if is_bad_number d then Some BadNumber else (if is_of k d then None else Some MixedArray)

-- the first that an item has against it
abbrev pub items_cause : Kind → Items → Option Cause
items_cause k no_items = None
items_cause k (item d ds) = option_or (item_cause k d) (items_cause k ds)

-- an array is of the kind of its first item
abbrev pub array_cause : Items → Option Cause
array_cause no_items = None
array_cause (item d ds) = option_map_or (λ k. items_cause k (item d ds)) (item_kind d) (Some MixedArray)

-- the items as a list
abbrev pub item_list : Items → List Data
item_list no_items = []
item_list (item d ds) = d ∷ item_list ds

-- the items of a kind as the value of a property
abbrev pub list_value : Kind → Items → Value
list_value kind.Text ds = Texts (filter_map as_str (item_list ds))
list_value kind.Long ds = Longs (filter_map as_long (item_list ds))
list_value kind.Truth ds = Truths (filter_map as_bool (item_list ds))

-- the kind of the first item
abbrev pub first_kind : Items → Option Kind
first_kind no_items = None
first_kind (item d ds) = item_kind d

-- an array without items is one of texts
abbrev pub array_value : Items → Value
array_value ds = option_map_or (λ k. list_value k ds) (first_kind ds) (Texts [])

-- the value of a property; `null` is none, and an object is a kid
abbrev pub data_value : Data → Option Value
data_value null = None
data_value (boolean b) = Some (Truth b)
data_value (number n) = option_map Long (as_i64 n)
data_value (string s) = Some (Text s)
data_value (array ds) = Some (array_value ds)
data_value (object ms) = None
