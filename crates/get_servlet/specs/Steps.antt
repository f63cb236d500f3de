-- What the writer and the counter do step by step. Only private functions and proofs cite this.
use Rattle.std.specs.Prelude.{◌≡◌, ◌+◌, ◌<◌, ◌≤◌, ◌||◌, ◌∷◌, ℕ, Bool, true, false, zero, suc, nat_le, if◌then◌else◌, List, [], Option, Some, None, flat_map, length, sum_by}
use Rattle.sp_base.specs.Texts.{Segments, Text}
use Rattle.json.specs.Json.{Json}
use Rattle.json.specs.Token.{Token}
use Rattle.json.specs.Tree.{json_tokens}
use Rattle.json.specs.Print.{token_text}
use Rattle.json.specs.Written.{Written}
use Rattle.resource_tree.specs.Seen.{Resource, Seen}
use Rattle.property_json.specs.PropertyJson.{Adds}
use Rattle.get_servlet.specs.declared.kids.Kid.{Kid}
use Rattle.get_servlet.specs.declared.writing.ResourceAt.{ResourceAt}
use Rattle.get_servlet.specs.Rendering.{most_resources, shown_kid, resource_json, shown_at, greatest_fitting}

-- ---- writing

-- the tokens of a kid as a member
abbrev pub kid_member_tokens : List ℕ → (Segments → Resource → Json) → Option Kid → List Token
kid_member_tokens name json None = []
kid_member_tokens name json (Some kid) = Token.key name ∷ json_tokens (json kid.path kid.res)

-- the tokens of this kid, with n levels below it
abbrev pub member_tokens : Seen → ℕ → Text → Kid → List Token
member_tokens seen depth name kid = kid_member_tokens name (resource_json seen depth) (Some kid)

-- the tokens of the kid of a name
abbrev pub named_kid_tokens : Seen → ℕ → Segments → Resource → Text → List Token
named_kid_tokens seen depth path res name = kid_member_tokens name (resource_json seen depth) (shown_kid seen path res name)

-- the tokens of the kids of these names
unfoldable pub kids_tokens : Seen → ℕ → Segments → Resource → List Text → List Token
kids_tokens seen depth path res names = flat_map (λ name. named_kid_tokens seen depth path res name) names

-- the tokens of the kids of a resource, n levels of them
unfoldable pub below_tokens : Seen → ℕ → Segments → Resource → List Token
below_tokens seen zero path res = []
below_tokens seen (suc depth) path res = kids_tokens seen depth path res res.kids

-- the same of a resource at a path: its own tokens, those of its kid of a name, and those of its kids
abbrev pub tokens_at : Seen → ℕ → ResourceAt → List Token
tokens_at seen depth at = json_tokens (resource_json seen depth at.path.now at.res.now)

abbrev pub named_kid_tokens_at : Seen → ℕ → ResourceAt → Text → List Token
named_kid_tokens_at seen depth at name = named_kid_tokens seen depth at.path.now at.res.now name

abbrev pub below_tokens_at : Seen → ℕ → ResourceAt → List Token
below_tokens_at seen depth at = below_tokens seen depth at.path.now at.res.now

-- the bytes of these tokens, without the commas between them
abbrev pub bytes_in : List Token → ℕ
bytes_in ts = sum_by (λ t. length (token_text t)) ts

-- of this room, what the tokens leave; or they need more than it
abbrev pub Spends : ℕ → Option ℕ → Written → Written → List Token → Type 0
Spends room None old new ts = room < bytes_in ts
Spends room (Some left) old new ts = Adds old new ts × (room ≤ left + bytes_in ts)

-- ---- counting, level by level

-- a kid, if there is one, as a list
abbrev pub kid_list : Option Kid → List Kid
kid_list None = []
kid_list (Some kid) = kid ∷ []

-- the kids that a resource shows under these names
unfoldable pub kids_under : Seen → Segments → Resource → List Text → List Kid
kids_under seen path res names = flat_map (λ name. kid_list (shown_kid seen path res name)) names

-- the kids that a resource shows
abbrev pub shown_kids : Seen → Segments → Resource → List Kid
shown_kids seen path res = kids_under seen path res res.kids

-- the kids of the kids of a level
unfoldable pub next_level : Seen → List Kid → List Kid
next_level seen level = flat_map (λ kid. shown_kids seen kid.path kid.res) level

-- how many resources the kids of a level show, each with n levels below it
unfoldable pub shown_among : Seen → ℕ → List Kid → ℕ
shown_among seen depth level = sum_by (λ kid. shown_at seen depth kid.path kid.res) level

-- these kids were gathered, which are at most n; or they are more
abbrev pub Gathers : ℕ → Bool → List Kid → List Kid → Type 0
Gathers most true found kids = (found ≡ kids) × (length kids ≤ most)
Gathers most false found kids = most < length kids

-- the same where nothing is kept of kids that are more
abbrev pub GathersAll : ℕ → Option (List Kid) → List Kid → Type 0
GathersAll most None kids = most < length kids
GathersAll most (Some found) kids = (found ≡ kids) × (length kids ≤ most)

-- the depth to ask for instead of one above 1 that shows more than 1,000 resources
abbrev pub depth_instead : (ℕ → ℕ) → ℕ → Option ℕ
depth_instead count depth = if nat_le depth 1 || nat_le (count depth) most_resources then None else Some (greatest_fitting count depth)
