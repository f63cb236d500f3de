-- The pairs that patterns give, for a host, a port and a text (Apache Sling, "Mappings for resource resolution", sling:match). The language of patterns is
-- that of `regex_rules`.
use Rattle.std.specs.Prelude.{◌≡◌, ◌≤◌, ◌⊎◌, ◌++◌, ℕ, true, List, [], ◌∷◌, Option, Some, codes, drop, length, option_map, take}
use Rattle.std.specs.Str.{chars}
use Rattle.std.specs.declared.cmp.Ordering.TheVariants.{Less}
use Rattle.sp_base.specs.Texts.{Segments}
use Rattle.sp_base.specs.Names.{by_name}
use Rattle.sp_base.specs.Properties.{text_in}
use Rattle.regex_rules.specs.Trees.{PatternTree}
use Rattle.regex_rules.specs.Spelling.{IsPattern}
use Rattle.regex_rules.specs.Languages.{InLanguage}
use Rattle.regex_rules.specs.Fronts.{may_cut}
use Rattle.resource_tree.specs.declared.nodes.Node.{Node}
use Rattle.resource_tree.specs.Content.{Content, kid, name_of, node_at}
use Rattle.url_maps.specs.Mappings.{host_node_of, mapping_of}

-- What the mappings of a first turn are asked for: the path of the node of a host and a port, and the text.
pub record Asked : Type 0 where
  pub host_node : Segments
  pub text : List ℕ

-- a text at a host and a port
abbrev pub asked_for : List ℕ → ℕ → List ℕ → Asked
asked_for host port text = record { host_node = host_node_of host port; text = text }

-- the host node, if mappings are asked for
abbrev pub node_of_host : Option Asked → Option Segments
node_of_host asked = option_map (λ a. a.host_node) asked

-- the node directly below which host nodes and nodes with a pattern are
abbrev pub mappings_path : Segments
mappings_path = codes "etc" ∷ codes "map" ∷ codes "http" ∷ []

-- the text `sling:match` of a node, where its value is one
abbrev pub match_text : Node → Option (List ℕ)
match_text node = text_in node.props (codes "sling:match")

-- The node's text `sling:match` reads as the pattern with this tree.
pub record HasPattern (node : Node) (pattern : PatternTree) : Type 0 where
  pub text : List ℕ
  pub is : match_text node ≡ Some text
  pub reads : IsPattern (chars text) pattern

-- Up to a place, at its end or before a slash or a dot, the text after HOST.PORT is in the pattern's language.
pub record IsFrontOf (pattern : PatternTree) (asked : Asked) (at : ℕ) : Type 0 where
  pub within : at ≤ length asked.text
  pub cut : may_cut (drop at asked.text) ≡ true
  pub matches : InLanguage pattern (chars (name_of asked.host_node ++ take at asked.text))

-- The longest prefix of the text that ends at such a place.
pub record IsLongestFront (pattern : PatternTree) (asked : Asked) (prefix : List ℕ) : Type 0 where
  pub is : prefix ≡ take (length prefix) asked.text
  pub front : IsFrontOf pattern asked (length prefix)
  pub longest : (k : ℕ) → IsFrontOf pattern asked k → k ≤ length prefix

-- The node of a name directly below `/etc/map/http` gives a pair with a prefix: it has a pattern, of which the prefix is the longest front, and leads to the
-- target, away where there is a status.
pub record GivesPair (tree : Content) (asked : Asked) (name prefix : List ℕ) (to : List ℕ × Option ℕ) : Type 0 where
  pub node : Node
  pub there : node_at tree (kid mappings_path name) ≡ Some node
  pub pattern : PatternTree
  pub has : HasPattern node pattern
  pub front : IsLongestFront pattern asked prefix
  pub leads : mapping_of node ≡ Some to

-- Of the nodes that give a pair with one prefix the one with the least name counts.
pub record IsPatternPair (tree : Content) (asked : Asked) (prefix : List ℕ) (to : List ℕ × Option ℕ) : Type 0 where
  pub name : List ℕ
  pub gives : GivesPair tree asked name prefix to
  pub least : (other : List ℕ) (also : List ℕ × Option ℕ) → GivesPair tree asked other prefix also → (other ≡ name) ⊎ (by_name name other ≡ Less)
