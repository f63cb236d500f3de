-- What proofs and private functions need: what is made of an object's members, of which some were read.
use Rattle.std.specs.Prelude.{◌≡◌, ℕ, ℤ, not, ◌||◌, ◌++◌, List, [], ◌∷◌, map, Bool, true, false, Option, Some, None, is_some, unwrap_or, if◌then◌else◌, ⊤}
use Rattle.std.specs.Bool.{MatchBool}
use Rattle.std.specs.Borrow.{Bor}
use Rattle.std.specs.BTreeMap.{BTreeMap}
use Rattle.sp_base.specs.Texts.{Segments, Text as Bytes, Properties}
use Rattle.sp_base.specs.declared.value.Value.{Value}
use Rattle.sp_base.specs.declared.value.Value.TheVariants.{Text, Long, Truth, Texts, Longs, Truths}
use Rattle.serde_json.specs.Data.{Data, null, boolean, number, string, array, object, Items, no_items, item, Members, no_members, member, put}
use Rattle.serde_json.specs.Find.{of_integer, get_member}
use Rattle.resource_tree.specs.declared.nodes.Node.{Node}
use Rattle.resource_tree.specs.Content.{Content, kid}
use Rattle.property_json.specs.PropertyJson.{has_longs}
use Rattle.content_json.specs.declared.part.Placed.{Placed}
use Rattle.content_json.specs.declared.part.Sprout.{Sprout}
use Rattle.content_json.specs.declared.part.Part.{Part}
use Rattle.content_json.specs.declared.part.Part.TheVariants as part
use Rattle.content_json.specs.declared.open_object.OpenObject.{OpenObject}
use Rattle.content_json.specs.Names.{order_name, is_order, is_content_name}
use Rattle.content_json.specs.Faults.{has_good_order, fault_in}
use Rattle.content_json.specs.Nodes.{kids_of, with_member, nodes_in, is_deeper, is_deeper_below}
use Rattle.content_json.specs.Steps.{member_nodes}
use Rattle.content_json.specs.Written.{keeps_kind}

-- values as items
abbrev pub items_from : {A : Type 0} → (A → Data) → List A → Items
items_from g [] = no_items
items_from g (x ∷ xs) = item (g x) (items_from g xs)

-- a number of 64 bits with a sign
abbrev pub data_of_long : ℤ → Data
data_of_long n = number (of_integer n)

-- what a value is written as, seen as data
abbrev pub data_of : Value → Data
data_of (Text t) = string t
data_of (Long n) = data_of_long n
data_of (Truth b) = boolean b
data_of (Texts ts) = array (items_from string ts)
data_of (Longs ns) = array (items_from data_of_long ns)
data_of (Truths bs) = array (items_from boolean bs)

-- the texts as an array
abbrev pub texts_array : List Bytes → Data
texts_array texts = array (items_from string texts)

-- data that stand for a value
abbrev pub IsOfValue : Value → Data → Type 0
IsOfValue value d = (d ≡ data_of value) × (has_longs value ≡ true) × (keeps_kind value ≡ true)

-- the nodes of an object, each before those below it
abbrev pub entry_of : Placed → Segments × Node
entry_of placed = (placed.path, placed.node)

abbrev pub nodes_of : Sprout → Content
nodes_of sprout = entry_of sprout.top ∷ map entry_of sprout.below.items

-- ---- what content may not hold

-- a value has a fault, or a node of it stands more levels below
abbrev pub is_unfit_value : ℕ → Data → Bool
is_unfit_value levels d = is_some (fault_in d) || is_deeper levels d

-- a name may stand in content
abbrev pub may_stand : Bytes → Bool
may_stand name = is_order name || is_content_name name

-- the same of a member of an object without one of its own in `:order`
abbrev pub is_unfit_member : ℕ → Bytes → Data → Bool
is_unfit_member levels name d = not (may_stand name) || (if is_order name then false else is_unfit_value levels d)

abbrev pub has_unfit : ℕ → Members → Bool
has_unfit levels no_members = false
has_unfit levels (member name d ms) = is_unfit_member levels name d || has_unfit levels ms

-- and of an object
abbrev pub is_unfit_object : ℕ → Members → Bool
is_unfit_object levels ms = is_some (fault_in (object ms)) || is_deeper_below levels ms

-- ---- what is made of members

-- the part is made of the value of a member of this name, in the object at a path, below which there may be as many levels
abbrev pub IsMemberPart : ℕ → Segments → Bytes → Part → Data → Type 0
IsMemberPart levels path name part.Nothing d = (may_stand name ≡ true) × (d ≡ null)
IsMemberPart levels path name (part.Value value) d = (may_stand name ≡ true) × IsOfValue value d
IsMemberPart levels path name (part.Kid sprout) d =
    (may_stand name ≡ true) × (is_unfit_value levels d ≡ false) × (ms : Members) × (d ≡ object ms) × (nodes_of sprout.value ≡ nodes_in (kid path name) d)
IsMemberPart levels path name part.Unfit d = (not (may_stand name) || is_unfit_value levels d) ≡ true

-- each part is made of the member of its name
abbrev pub AreMemberParts : ℕ → Segments → List (Bor Bytes × Part) → Members → Type 0
AreMemberParts levels path [] no_members = ⊤
AreMemberParts levels path [] (member name d ms) = ⊥
AreMemberParts levels path (e ∷ es) no_members = ⊥
AreMemberParts levels path (e ∷ es) (member name d ms) = (e.0.now ≡ name) × IsMemberPart levels path name e.1 d × AreMemberParts levels path es ms

-- what is kept of the object at a path is of these members
abbrev pub HoldsMembers : ℕ → Segments → OpenObject → Members → Type 0
HoldsMembers levels path parent ms = AreMemberParts levels path parent.members.entries ms

-- so it is with one member more, whose value the part is made of, in place of a former one of its name
abbrev pub TakesMemberIn : Bytes → Part → OpenObject → OpenObject → Type 0
TakesMemberIn name part before after = (levels : ℕ) (path : Segments) (d : Data) (ms : Members) → IsMemberPart levels path name part d
    → HoldsMembers levels path before ms → HoldsMembers levels path after (put name d ms)

-- this is so of the members that the parts are made of, wherever their object stands
abbrev pub IfHoldsMembers : BTreeMap (Bor Bytes) Part → (Members → Type 0) → Type 0
IfHoldsMembers parts IsSo = (levels : ℕ) (path : Segments) (ms : Members) → HoldsMembers levels path (record { members = parts }) ms → IsSo ms

-- this is so of them where none is unfit
abbrev pub IfHoldsFitMembers : BTreeMap (Bor Bytes) Part → (Members → Type 0) → Type 0
IfHoldsFitMembers parts IsSo = (levels : ℕ) (path : Segments) (ms : Members) → HoldsMembers levels path (record { members = parts }) ms
    → has_unfit levels ms ≡ false → IsSo ms

-- what is made of the object at a path
abbrev pub IsObjectPart : ℕ → Segments → Part → Members → Type 0
IsObjectPart levels path part.Nothing ms = ⊥
IsObjectPart levels path (part.Value value) ms = ⊥
IsObjectPart levels path (part.Kid sprout) ms = (is_unfit_object levels ms ≡ false) × (nodes_of sprout.value ≡ nodes_in path (object ms))
IsObjectPart levels path part.Unfit ms = is_unfit_object levels ms ≡ true

-- the part is made of the object at a path, whatever members this is kept of
abbrev pub IsMadeOfMembers : Segments → OpenObject → Part → Type 0
IsMadeOfMembers path parent part = (levels : ℕ) (ms : Members) → HoldsMembers levels path parent ms → IsObjectPart levels path part ms

-- a fit member adds its value or its nodes; one that isn't is told
abbrev pub AddsMember : ℕ → Segments → Bytes → Data → Bool → Properties → Properties → List Placed → List Placed → Type 0
AddsMember levels path name d done props more below lower = MatchBool done
    ((is_unfit_member levels name d ≡ false) × (more ≡ with_member name d props) × (map entry_of lower ≡ map entry_of below ++ member_nodes path name d))
    (is_unfit_member levels name d ≡ true)

-- the part adds what the member does that it is made of
abbrev pub AddsPart : Bytes → Part → Properties → Properties → List Placed → List Placed → Bool → Type 0
AddsPart name part props more below lower done = (levels : ℕ) (path : Segments) (d : Data) → IsMemberPart levels path name part d
    → AddsMember levels path name d done props more below lower

-- ---- the kids

-- `:order` lists these texts, or there is none
abbrev pub Lists : Members → List Bytes → Type 0
Lists ms names = unwrap_or (get_member order_name ms) (texts_array []) ≡ texts_array names

abbrev pub listed_in : Part → Option (List Bytes)
listed_in (part.Value (Texts ts)) = Some ts
listed_in _ = None

-- these are the names of the kids in their order
abbrev pub NamesKids : Members → List Bytes → Type 0
NamesKids ms names = (has_good_order ms ≡ true) × (names ≡ kids_of ms)

abbrev pub is_kid_part : Bytes → Part → Bool
is_kid_part name (part.Kid sprout) = not (is_order name)
is_kid_part name _ = false

abbrev pub kid_keys : List (Bor Bytes × Part) → List Bytes
kid_keys [] = []
kid_keys (e ∷ es) = if is_kid_part e.0.now e.1 then e.0.now ∷ kid_keys es else kid_keys es
