-- The vanity paths of a tree (Apache Sling, "Mappings for resource resolution", sling:vanityPath).
use Rattle.std.specs.Prelude.{◌≡◌, ◌==◌, ◌⊎◌, ℕ, ℤ, pos, Bool, true, nat_eq, if◌then◌else◌, List, ◌∷◌, Option, None, Ok, codes, slice_index, unwrap_or, option_and_then, ◌≢◌}
use Rattle.std.specs.Cmp.Lexicographic.{pointwise}
use Rattle.std.specs.Ordering.{int_cmp, ordering_then}
use Rattle.std.specs.declared.cmp.Ordering.{Ordering}
use Rattle.std.specs.declared.cmp.Ordering.TheVariants.{Less, Greater}
use Rattle.sp_base.specs.Texts.{Segments, Text}
use Rattle.sp_base.specs.Names.{by_name}
use Rattle.sp_base.specs.Paths.{parent_of, path_of, text_of}
use Rattle.resource_tree.specs.declared.nodes.Node.{Node}
use Rattle.resource_tree.specs.Content.{Content, name_of, node_at, prop_at}
use Rattle.url_maps.specs.Words.{any_text_at, mapping_number}

-- the text of a vanity path, before which a slash is put where it has none
abbrev pub with_slash : List ℕ → List ℕ
with_slash text = if slice_index text 0 == 47 then text else 47 ∷ text

-- whether the node at a path has a vanity path
unfoldable pub has_vanity_path : Content → Segments → List ℕ → Bool
has_vanity_path tree path text = any_text_at tree path (codes "sling:vanityPath") (λ word. pointwise nat_eq text (with_slash word))

-- the number `sling:vanityOrder` of a node, else 0
abbrev pub order_of : Option Node → ℤ
order_of node = unwrap_or (option_and_then (λ n. mapping_number (prop_at n (codes "sling:vanityOrder"))) node) (pos 0)

-- that of the node at a path
unfoldable pub vanity_order : Content → Segments → ℤ
vanity_order tree path = order_of (node_at tree path)

-- the order of nodes with one vanity path: the greater number is before the less, and then the path by the bytes of its text
abbrev pub vanity_cmp : Content → Segments → Segments → Ordering
vanity_cmp tree path other = ordering_then (int_cmp (vanity_order tree other) (vanity_order tree path)) (by_name (text_of path) (text_of other))

-- A text names the node at a path by its vanity path: the text spells a path at which no node is. Of several nodes with one vanity path the
-- one before all others is named.
pub record IsVanityPath (tree : Content) (text : List ℕ) (path : Segments) : Type 0 where
  pub at : Segments
  pub reads : path_of text ≡ Ok at
  pub free : node_at tree at ≡ None
  pub has : has_vanity_path tree path text ≡ true
  pub first : (other : Segments) → has_vanity_path tree other text ≡ true → (other ≡ path) ⊎ (vanity_cmp tree path other ≡ Less)

-- the page that a node with a vanity path stands for: its parent, where the node is the page's content
abbrev pub vanity_page : Segments → Segments
vanity_page path = if pointwise nat_eq (name_of path) (codes "jcr:content") then parent_of path else path

-- of several nodes with one vanity path one with the greatest order is named
abbrev pub GreatestOrdersAreNamed : Type 0
GreatestOrdersAreNamed = (tree : Content) (text : Text) (path other : Segments) → IsVanityPath tree text path → has_vanity_path tree other text ≡ true
    → int_cmp (vanity_order tree other) (vanity_order tree path) ≢ Greater

-- of those with that order the one whose path's text is least is named
abbrev pub LeastPathsAreNamed : Type 0
LeastPathsAreNamed = (tree : Content) (text : Text) (path other : Segments) → IsVanityPath tree text path → has_vanity_path tree other text ≡ true
    → vanity_order tree other ≡ vanity_order tree path → (other ≡ path) ⊎ (by_name (text_of path) (text_of other) ≡ Less)
