-- The first fault of content, in the order in which faults are looked for.
use Rattle.std.specs.Prelude.{ℕ, List, [], ◌∷◌, take, Bool, true, false, not, ◌&&◌, if◌then◌else◌, Option, Some, None, option_map, is_some}
use Rattle.std.specs.Option.{option_or, option_map_or}
use Rattle.std.specs.List.{list_any}
use Rattle.std.specs.Str.{bytes_eq}
use Rattle.sp_base.specs.Texts.{Text}
use Rattle.serde_json.specs.Data.{Data, null, boolean, number, string, array, object, Items, no_items, item, Members, no_members, member}
use Rattle.serde_json.specs.Find.{as_str, as_array, as_i64, get_member}
use Rattle.sp_base.specs.Paths.{most_segments}
use Rattle.content_json.specs.declared.fault.Cause.{Cause}
use Rattle.content_json.specs.declared.fault.Cause.TheVariants.{BadName, BadNumber, BadOrder}
use Rattle.content_json.specs.declared.fault.Found.{Found}
use Rattle.content_json.specs.Names.{order_name, is_order, has_bad_name, is_kid}
use Rattle.content_json.specs.Lists.{array_cause}

-- each item is the name of a kid, and none of those before it
abbrev pub names_kids : Members → List Text → Items → Bool
names_kids ms before no_items = true
names_kids ms before (item d ds) = option_map_or (λ name. is_kid ms name && not (list_any (λ other. bytes_eq other name) before) && names_kids ms (name ∷ before) ds) (as_str d) false

-- the value of `:order` is an array of distinct names of kids
abbrev pub is_good_order : Members → Data → Bool
is_good_order ms d = option_map_or (names_kids ms []) (as_array d) false

-- the member `:order`, where there is one, is an array of distinct names of kids
abbrev pub has_good_order : Members → Bool
has_good_order ms = option_map_or (is_good_order ms) (get_member order_name ms) true

-- a fault at the place that is looked at
abbrev pub here : Cause → Found
here cause = record { cause = cause; place = [] }

-- the same fault seen from the object that has it in its member of this name. A place of more than 64 names is cut
abbrev pub in_member : List ℕ → Found → Found
in_member name f = record { cause = f.cause; place = take most_segments (name ∷ f.place) }

-- what an object has against it before its members are looked at: its names, then `:order`
abbrev pub own_fault : Members → Option Found
own_fault ms = if has_bad_name ms then Some (here BadName) else (if has_good_order ms then None else Some (here BadOrder))

-- what a value has against itself, whatever its members have
abbrev pub own_cause : Data → Option Cause
own_cause (number n) = if is_some (as_i64 n) then None else Some BadNumber
own_cause (array ds) = array_cause ds
own_cause (object ms) = option_map (λ found. found.cause) (own_fault ms)
own_cause _ = None

-- the first fault of a value, and of the members of an object
abbrev mutual
  pub fault_in : Data → Option Found
  fault_in null = None
  fault_in (boolean b) = None
  fault_in (number n) = if is_some (as_i64 n) then None else Some (here BadNumber)
  fault_in (string s) = None
  fault_in (array ds) = option_map here (array_cause ds)
  fault_in (object ms) = option_or (own_fault ms) (fault_below ms)

  pub fault_below : Members → Option Found
  fault_below no_members = None
  fault_below (member name d ms) = option_or (if is_order name then None else option_map (in_member name) (fault_in d)) (fault_below ms)
