-- The mappings of a tree for a host and a port (Apache Sling, "Mappings for resource resolution", root level mappings).
use Rattle.std.specs.Prelude.{◌≡◌, ◌≤◌, ◌||◌, ◌==◌, ℕ, ℤ, pos, Bool, false, is_some, if◌then◌else◌, List, [], ◌∷◌, ◌++◌, Option, Some, None, codes, length, map, option_map, take}
use Rattle.std.specs.Option.{option_map_or, option_or}
use Rattle.std.specs.Char.{to_ascii_lowercase}
use Rattle.std.specs.Fmt.{decimal}
use Rattle.sp_base.specs.Texts.{Segments}
use Rattle.sp_base.specs.Bytes.{first_text}
use Rattle.sp_base.specs.PathTexts.{spelling_of}
use Rattle.sp_base.specs.Properties.{text_in}
use Rattle.resource_tree.specs.declared.nodes.Node.{Node}
use Rattle.resource_tree.specs.Content.{Content, node_at, prop_at}
use Rattle.sp_base.specs.Properties.{value_texts}
use Rattle.url_maps.specs.Words.{mapping_number}

-- the name of the node with the mappings for a host and a port: the host in lower case, a dot and the port
abbrev pub host_node_name : List ℕ → ℕ → List ℕ
host_node_name host port = map to_ascii_lowercase host ++ 46 ∷ decimal port

-- the path of that node
abbrev pub host_node_of : List ℕ → ℕ → Segments
host_node_of host port = codes "etc" ∷ codes "map" ∷ codes "http" ∷ host_node_name host port ∷ []

-- whether the node at a path has a `sling:match`
unfoldable pub has_match : Content → Segments → Bool
has_match tree path = option_map_or (λ node. is_some (prop_at node (codes "sling:match"))) (node_at tree path) false

-- no node from the host node down to the path has a pattern
abbrev pub IsPlain : Content → Segments → Segments → Type 0
IsPlain tree host_node path = (k : ℕ) → length host_node ≤ k → k ≤ length path → has_match tree (take k path) ≡ false

-- the statuses of a redirect (RFC 9110, section 15.4)
abbrev pub is_redirect : ℕ → Bool
is_redirect n = n == 301 || (n == 302 || (n == 303 || (n == 307 || n == 308)))

-- the number as the status of a redirect, where it is one
abbrev pub redirect_status : ℤ → Option ℕ
redirect_status (pos n) = if is_redirect n then Some n else None
redirect_status n = None

-- the status of a redirect whose mapping names none (RFC 9110, section 15.4.3)
abbrev pub found_status : ℕ
found_status = 302

-- the status of a node's redirect: its number `sling:status`, where that is one of a redirect, else Found
abbrev pub status_in : Option ℤ → ℕ
status_in None = found_status
status_in (Some n) = option_map_or (λ s. s) (redirect_status n) found_status

-- the status of the redirect of a mapping's node
abbrev pub mapping_status : Node → ℕ
mapping_status node = status_in (mapping_number (prop_at node (codes "sling:status")))

-- the first text of `sling:internalRedirect`
unfoldable pub internal_target : Node → Option (List ℕ)
internal_target node = first_text (value_texts (prop_at node (codes "sling:internalRedirect")))

-- a target outside, and the status of the redirect to it: the text `sling:redirect`
unfoldable pub redirect_target : Node → Option (List ℕ × Option ℕ)
redirect_target node = option_map (λ target. (target, Some (mapping_status node))) (text_in node.props (codes "sling:redirect"))

-- where the node of a mapping leads: a target, and the status where that is outside
abbrev pub mapping_of : Node → Option (List ℕ × Option ℕ)
mapping_of node = option_or (option_map (λ target. (target, None)) (internal_target node)) (redirect_target node)

-- A text has a mapping of a host node: it is the text of the path below the host node at which a node leads to the target. A node with a pattern, and all
-- below it, is passed over.
pub record IsMapping (tree : Content) (host_node : Segments) (text target : List ℕ) (away : Option ℕ) : Type 0 where
  pub below : Segments
  pub text_is : text ≡ spelling_of below
  pub node : Node
  pub there : node_at tree (host_node ++ below) ≡ Some node
  pub plain : IsPlain tree host_node (host_node ++ below)
  pub leads : mapping_of node ≡ Some (target, away)
