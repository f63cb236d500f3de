-- What the laws of JSON texts speak of: the objects in a JSON value, and resources whose numbers are of 64 bits.
use Rattle.std.specs.Prelude.{◌≡◌, ◌+◌, ℕ, true, Some}
use Rattle.std.specs.List.{list_all}
use Rattle.sp_base.specs.Texts.{Segments}
use Rattle.json.specs.Json.{Json, null, boolean, number, string, array, object, Items, no_items, item, Members, no_members, member}
use Rattle.resource_tree.specs.Seen.{Resource, Seen}
use Rattle.property_json.specs.PropertyJson.{has_longs}

abbrev mutual
  -- how many objects there are in a JSON value, itself included
  pub objects_in : Json → ℕ
  objects_in null = 0
  objects_in (boolean b) = 0
  objects_in (number text) = 0
  objects_in (string text) = 0
  objects_in (array items) = objects_in_items items
  objects_in (object members) = 1 + objects_in_members members

  pub objects_in_items : Items → ℕ
  objects_in_items no_items = 0
  objects_in_items (item json items) = objects_in json + objects_in_items items

  pub objects_in_members : Members → ℕ
  objects_in_members no_members = 0
  objects_in_members (member name json members) = objects_in json + objects_in_members members

-- each number among the properties is one of 64 bits
abbrev pub HasLongs : Resource → Type 0
HasLongs res = list_all (λ p. has_longs p.1) res.props ≡ true

-- so it is at each resource that is seen
abbrev pub HaveLongs : Seen → Type 0
HaveLongs seen = (path : Segments) (res : Resource) → seen path ≡ Some res → HasLongs res
