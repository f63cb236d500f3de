-- The names of an object's members, and which of them are kids.
use Rattle.std.specs.Prelude.{ℕ, List, [], ◌∷◌, codes, Bool, false, not, ◌&&◌, ◌||◌, ◌==◌, slice_index, if◌then◌else◌, is_some}
use Rattle.std.specs.Option.{option_map_or}
use Rattle.std.specs.Str.{bytes_eq}
use Rattle.sp_base.specs.Texts.{Text}
use Rattle.serde_json.specs.Data.{Data, Members, no_members, member}
use Rattle.serde_json.specs.Find.{get_member, as_object}
use Rattle.sp_base.specs.Paths.{seg_ok}

-- `:order`, the member that puts kids first
abbrev pub order_name : List ℕ
order_name = codes ":order"

-- the name of that member
abbrev pub is_order : List ℕ → Bool
is_order name = bytes_eq name order_name

-- a name that may stand in content: a segment that doesn't begin with a colon
abbrev pub is_content_name : List ℕ → Bool
is_content_name name = seg_ok name && not (slice_index name 0 == 58)

-- a member has a name that may not stand in content, and is not `:order`
abbrev pub has_bad_name : Members → Bool
has_bad_name no_members = false
has_bad_name (member name d ms) = not (is_order name || is_content_name name) || has_bad_name ms

-- the value of a kid
abbrev pub is_object : Data → Bool
is_object d = is_some (as_object d)

-- a member with an object is a kid
abbrev pub is_kid_member : List ℕ → Data → Bool
is_kid_member name d = not (is_order name) && is_object d

-- the names of the kids, in the order of the members
abbrev pub kid_names : Members → List Text
kid_names no_members = []
kid_names (member name d ms) = if is_kid_member name d then name ∷ kid_names ms else kid_names ms

-- a member of this name is an object
abbrev pub is_kid : Members → List ℕ → Bool
is_kid ms name = option_map_or is_object (get_member name ms) false
