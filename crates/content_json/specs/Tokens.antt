-- What proofs and private functions need: what tokens of JSON begin with, and what is made of it.
use Rattle.std.specs.Prelude.{◌≡◌, ◌<◌, ◌+◌, ◌==◌, ℕ, ℤ, List, [], ◌∷◌, length, Bool, true, false, Option, Some, None, option_map, option_and_then, is_some, MatchOption}
use Rattle.std.specs.Bool.{MatchBool}
use Rattle.sp_base.specs.Texts.{Segments, Text as Bytes}
use Rattle.sp_base.specs.Paths.{most_segments}
use Rattle.sp_base.specs.declared.value.Value.{Value}
use Rattle.sp_base.specs.declared.value.Value.TheVariants.{Texts, Longs, Truths}
use Rattle.json.specs.Token.{Token}
use Rattle.json.specs.Token as token
use Rattle.json.specs.Json as json
use Rattle.serde_json.specs.Data.{Num, Data, null, boolean, number, string, array, object, Items, no_items, item, Members, no_members}
use Rattle.serde_json.specs.Find.{as_i64, of_integer}
use Rattle.serde_json.specs.Read.{number_of, of_json, of_items, of_members, converted, read}
use Rattle.resource_tree.specs.Content.{Content}
use Rattle.property_json.specs.PropertyJson.{fits_i64, has_longs}
use Rattle.content_json.specs.declared.part.Part.{Part}
use Rattle.content_json.specs.declared.part.Part.TheVariants as part
use Rattle.content_json.specs.declared.open_object.OpenObject.{OpenObject}
use Rattle.content_json.specs.ContentOf.{map_of}
use Rattle.content_json.specs.Faults.{fault_in}
use Rattle.content_json.specs.Lists.{array_cause}
use Rattle.content_json.specs.Nodes.{nodes_in}
use Rattle.content_json.specs.Parts.{items_from, data_of_long, IsOfValue, IsMemberPart, HoldsMembers, IsObjectPart}
use Rattle.content_json.specs.Steps.{is_sound}
use Rattle.content_json.specs.Written.{keeps_kind}

-- the value that tokens begin with, in which values nest so deep at most, and the tokens after it
abbrev pub value_of_tokens : ℕ → List Token → Option (Data × List Token)
value_of_tokens depth ts = converted of_json (json.value depth ts)

-- the items of an array after its opening bracket. The first number bounds how many there are; that of the tokens is enough
abbrev pub items_within : ℕ → ℕ → List Token → Option (Items × List Token)
items_within n depth ts = converted of_items (json.items (json.value depth) n ts)

abbrev pub items_of_tokens : ℕ → List Token → Option (Items × List Token)
items_of_tokens depth ts = items_within (length ts) depth ts

-- and the members of an object
abbrev pub members_of_tokens : ℕ → List Token → Option (Members × List Token)
members_of_tokens depth ts = converted (λ js. of_members js no_members) (json.members (json.value depth) (length ts) ts)

-- whether there is something, before these tokens
abbrev pub IsPassedOver : {A : Type 0} → Bool → Option (A × List Token) → List Token → Type 0
IsPassedOver {A} passed found rest = MatchBool passed ((a : A) × (found ≡ Some (a, rest))) (found ≡ None)

-- the value that a token is by itself
abbrev pub token_data : Token → Option Data
token_data (token.string s) = Some (string s)
token_data (token.number s) = option_map number (number_of s)
token_data (token.boolean b) = Some (boolean b)
token_data token.null = Some null
token_data _ = None

abbrev pub is_begin_object : Token → Bool
is_begin_object token.begin_object = true
is_begin_object _ = false

-- ---- lists

abbrev pub is_list_value : Value → Bool
is_list_value (Texts ts) = true
is_list_value (Longs ns) = true
is_list_value (Truths bs) = true
is_list_value _ = false

-- the items of a list
abbrev pub list_items : Value → Items
list_items (Texts ts) = items_from string ts
list_items (Longs ns) = items_from data_of_long ns
list_items (Truths bs) = items_from boolean bs
list_items _ = no_items

-- an array without items, of which the kind is open
abbrev pub is_open_list : Value → Bool
is_open_list (Texts ts) = length ts == 0
is_open_list _ = false

-- items before others
abbrev pub items_then : Items → Items → Items
items_then no_items rest = rest
items_then (item d ds) rest = item d (items_then ds rest)

-- the value of an array so far
abbrev pub IsList : Value → Type 0
IsList list = (is_list_value list ≡ true) × (has_longs list ≡ true) × (keeps_kind list ≡ true)

-- the list has one item more
abbrev pub HasItemMore : Value → Data → Value → Type 0
HasItemMore list d more = IsList more × ((rest : Items) → items_then (list_items more) rest ≡ items_then (list_items list) (item d rest))

-- an array may not go on with this item
abbrev pub MixesWith : Value → Data → Type 0
MixesWith list d = (rest : Items) → is_some (array_cause (items_then (list_items list) (item d rest))) ≡ true

abbrev pub AddsToken : Value → Token → Value → Type 0
AddsToken list token more = (d : Data) × (token_data token ≡ Some d) × HasItemMore list d more

-- nor with the value that begins with this token
abbrev pub Mixes : Value → Token → Type 0
Mixes list token = (depth : ℕ) (ts rest : List Token) (d : Data) → value_of_tokens depth (token ∷ ts) ≡ Some (d, rest) → MixesWith list d

-- ---- what is made of them

-- of a value that is no object
abbrev pub IsValuePart : Part → Data → Type 0
IsValuePart part.Nothing d = d ≡ null
IsValuePart (part.Value value) d = IsOfValue value d
IsValuePart (part.Kid sprout) d = ⊥
IsValuePart part.Unfit d = is_some (fault_in d) ≡ true

-- the number as one of 64 bits with a sign; there is none where it isn't such a one
abbrev pub IsLongOf : Option Num → Option ℤ → Type 0
IsLongOf given found = MatchOption found (option_and_then as_i64 given ≡ None) (λ long. (given ≡ Some (of_integer long)) × (fits_i64 long ≡ true))

abbrev pub IsNumberPart : Option Num → Part → Type 0
IsNumberPart found made = (n : Num) × (found ≡ Some n) × IsValuePart made (number n)

abbrev pub ReadsItems : ℕ → List Token → List Token → Part → Type 0
ReadsItems depth ts rest made = (ds : Items) × (items_of_tokens depth ts ≡ Some (ds, rest)) × IsValuePart made (array ds)

-- or nothing, where the tokens begin with no items up to a closing bracket
abbrev pub ReadsItemsIfThere : ℕ → List Token → List Token → Option Part → Type 0
ReadsItemsIfThere depth ts rest found = MatchOption found (items_of_tokens depth ts ≡ None) (ReadsItems depth ts rest)

-- of a list, from an item on that is none
abbrev pub EndsUnfit : ℕ → ℕ → List Token → List Token → Option Part → Type 0
EndsUnfit n depth ts rest found = MatchOption found (items_within n depth ts ≡ None)
    (λ made. (made ≡ part.Unfit) × (d : Data) × (r : List Token) × (value_of_tokens depth ts ≡ Some (d, r)) × (ds : Items) × (items_within n depth ts ≡ Some (item d ds, rest)))

-- so it ends from the item on that begins with this token, if the list isn't over there
abbrev pub EndsUnfitFrom : ℕ → Token → List Token → List Token → Option Part → Type 0
EndsUnfitFrom depth token ts rest found = (n : ℕ) → length ts < n → json.after_end_array (token ∷ ts) ≡ None → EndsUnfit n depth (token ∷ ts) rest found

abbrev pub ReadsValue : ℕ → List Token → List Token → Part → Type 0
ReadsValue depth ts rest made = (d : Data) × (value_of_tokens depth ts ≡ Some (d, rest)) × IsValuePart made d

-- or nothing, where the tokens begin with no value
abbrev pub ReadsValueIfThere : ℕ → List Token → List Token → Option Part → Type 0
ReadsValueIfThere depth ts rest found = MatchOption found (value_of_tokens depth ts ≡ None) (ReadsValue depth ts rest)

-- how deep values may nest in a member beside the levels of nodes: 127 in all, without the top and 64 levels
abbrev pub depth_beside_levels : ℕ
depth_beside_levels = 62

-- of a member's value
abbrev pub ReadsPart : ℕ → Segments → Bytes → List Token → List Token → Part → Type 0
ReadsPart levels path name ts rest made = (d : Data) × (value_of_tokens (levels + depth_beside_levels) ts ≡ Some (d, rest)) × IsMemberPart levels path name made d

-- or nothing, where the tokens begin with no value
abbrev pub ReadsPartIfThere : ℕ → Segments → Bytes → List Token → List Token → Option Part → Type 0
ReadsPartIfThere levels path name ts rest found = MatchOption found (value_of_tokens (levels + depth_beside_levels) ts ≡ None) (ReadsPart levels path name ts rest)

-- of all members of an object up to its closing brace
abbrev pub ReadsMembers : ℕ → Segments → OpenObject → List Token → List Token → Type 0
ReadsMembers levels path after ts rest = (ms : Members) × (members_of_tokens (levels + depth_beside_levels) ts ≡ Some (ms, rest)) × HoldsMembers levels path after ms

-- or it is told that the tokens begin with no members up to a closing brace
abbrev pub ReadsMembersIfThere : ℕ → Segments → OpenObject → List Token → List Token → Bool → Type 0
ReadsMembersIfThere levels path after ts rest done = MatchBool done (ReadsMembers levels path after ts rest) (members_of_tokens (levels + depth_beside_levels) ts ≡ None)

-- of the object that these members make
abbrev pub ReadsObject : ℕ → Segments → List Token → List Token → Part → Type 0
ReadsObject levels path ts rest made = (ms : Members) × (members_of_tokens (levels + depth_beside_levels) ts ≡ Some (ms, rest)) × IsObjectPart levels path made ms

-- or nothing, where the tokens begin with no members up to a closing brace
abbrev pub ReadsObjectIfThere : ℕ → Segments → List Token → List Token → Option Part → Type 0
ReadsObjectIfThere levels path ts rest found = MatchOption found (members_of_tokens (levels + depth_beside_levels) ts ≡ None) (ReadsObject levels path ts rest)

-- the text is sound content, and these are its nodes
abbrev pub IsSoundContent : List ℕ → Content → Type 0
IsSoundContent text nodes = (ms : Members) × (read text ≡ Some (object ms)) × (is_sound ms ≡ true) × (nodes ≡ map_of (nodes_in [] (object ms)))

-- an object that the text is isn't sound content
abbrev pub IsUnsound : List ℕ → Type 0
IsUnsound text = (ms : Members) → read text ≡ Some (object ms) → is_sound ms ≡ false

-- the nodes of the object of these members, or none where it isn't sound content
abbrev pub AreNodesIfSound : Members → Option Content → Type 0
AreNodesIfSound ms found = MatchOption found (is_sound ms ≡ false) (λ nodes. (is_sound ms ≡ true) × (nodes ≡ map_of (nodes_in [] (object ms))))

-- of the top that the part is made of
abbrev pub AreTopNodesIfSound : Part → Option Content → Type 0
AreTopNodesIfSound part found = (ms : Members) → IsObjectPart most_segments [] part ms → AreNodesIfSound ms found
