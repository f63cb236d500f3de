-- A resource as JSON (Apache Sling, "Rendering content, default GET servlets"): an object of its properties and then, above depth 0, of the kids that it shows, in their order and at a depth one less.
use Rattle.std.specs.Prelude.{◌≡◌, ◌+◌, ◌∷◌, ℕ, Bool, zero, suc, nat_eq, nat_le, if◌then◌else◌, is_some, List, [], Option, Some, None, option_map, Result, Ok, Err, sum_by}
use Rattle.std.specs.List.{list_any}
use Rattle.std.specs.Cmp.Lexicographic.{pointwise}
use Rattle.std.specs.FinMap.Entries.{find}
use Rattle.sp_base.specs.Texts.{Segments, Text}
use Rattle.json.specs.Json.{Json, object, Members, no_members, member, document}
use Rattle.json.specs.Tree.{json_tokens}
use Rattle.json.specs.Print.{print}
use Rattle.sp_base.specs.Names.{by_name}
use Rattle.sp_base.specs.Paths.{child_of}
use Rattle.sp_base.specs.declared.path.PathFault.{PathFault}
use Rattle.resource_tree.specs.Seen.{Resource, Seen}
use Rattle.property_json.specs.PropertyJson.{members_before}
use Rattle.get_servlet.specs.declared.kids.Kid.{Kid}

-- a resource and the path that it is seen at
abbrev pub make_kid : Segments → Resource → Kid
make_kid path res = record { path = path; res = res }

-- the resource that is seen at a path, where there is such a path
abbrev pub kid_seen : Seen → Result Segments PathFault → Option Kid
kid_seen seen (Err fault) = None
kid_seen seen (Ok path) = option_map (make_kid path) (seen path)

-- whether the resource's list of kids has this name
abbrev pub lists_kid : Resource → List ℕ → Bool
lists_kid res name = list_any (pointwise nat_eq name) res.kids

-- the resource that is seen under a name, below a path
unfoldable pub kid_of_name : Seen → Segments → List ℕ → Option Kid
kid_of_name seen path name = kid_seen seen (child_of path name)

-- the kid that a resource shows under a name: none where a property has the name
unfoldable pub shown_kid : Seen → Segments → Resource → List ℕ → Option Kid
shown_kid seen path res name = if is_some (find by_name name res.props) then None else kid_of_name seen path name

-- a kid as a member, before further members
abbrev pub kid_before : List ℕ → (Segments → Resource → Json) → Option Kid → Members → Members
kid_before name json None ms = ms
kid_before name json (Some kid) ms = member name (json kid.path kid.res) ms

-- the kids of these names as members
abbrev pub members_of_kids : (List ℕ → Option Kid) → (Segments → Resource → Json) → List Text → Members
members_of_kids kid json [] = no_members
members_of_kids kid json (name ∷ names) = kid_before name json (kid name) (members_of_kids kid json names)

-- a resource, by the path that it is seen at, and n levels below it
unfoldable pub resource_json : Seen → ℕ → Segments → Resource → Json
resource_json seen zero path res = object (members_before res.props no_members)
resource_json seen (suc depth) path res = object (members_before res.props (members_of_kids (shown_kid seen path res) (resource_json seen depth) res.kids))

-- the compact text
unfoldable pub json_text : Seen → ℕ → Resource → List ℕ
json_text seen depth res = print (json_tokens (resource_json seen depth res.path res))

-- a count for a kid, 0 where there is none
abbrev pub kid_count : (Segments → Resource → ℕ) → Option Kid → ℕ
kid_count count None = 0
kid_count count (Some kid) = count kid.path kid.res

-- how many resources that shows, the first included
unfoldable pub shown_at : Seen → ℕ → Segments → Resource → ℕ
shown_at seen zero path res = 1
shown_at seen (suc depth) path res = 1 + sum_by (λ name. kid_count (shown_at seen depth) (shown_kid seen path res name)) res.kids

-- the same of a resource at its own path
abbrev pub shown_count : Seen → Resource → ℕ → ℕ
shown_count seen res depth = shown_at seen depth res.path res

-- the most resources that a text of a depth above 1 shows
abbrev pub most_resources : ℕ
most_resources = 1000

-- the greatest depth up to this one that is 1 or shows at most 1,000 resources
unfoldable pub greatest_fitting : (ℕ → ℕ) → ℕ → ℕ
greatest_fitting count zero = 1
greatest_fitting count (suc depth) = if nat_le (count (suc depth)) most_resources then suc depth else greatest_fitting count depth

-- the text reads back, as JSON, as the very value
abbrev pub IsReadBackAsJson : Seen → ℕ → Resource → Type 0
IsReadBackAsJson seen depth res = document (json_text seen depth res) ≡ Some (resource_json seen depth res.path res)
