-- The aliases of a tree (Apache Sling, "Mappings for resource resolution", sling:alias).
use Rattle.std.specs.Prelude.{◌≡◌, ◌≤◌, ℕ, Bool, true, nat_eq, find, List, Some, None, codes, slice_get}
use Rattle.std.specs.Cmp.Lexicographic.{pointwise}
use Rattle.sp_base.specs.Texts.{Segments, Text}
use Rattle.sp_base.specs.Paths.{seg_ok, text_of}
use Rattle.resource_tree.specs.Content.{Content, kid, node_at}
use Rattle.resource_tree.specs.Changes.{kids_at}
use Rattle.url_maps.specs.Words.{any_text_at}

-- whether the node at a path has an alias
unfoldable pub has_alias : Content → Segments → List ℕ → Bool
has_alias tree path alias = any_text_at tree path (codes "sling:alias") (pointwise nat_eq alias)

-- A text names the node at a path by its alias: the text spells the alias below the node's parent, where no kid has that name. Of siblings
-- with one alias the first in their order is the one that is named.
pub record IsAlias (tree : Content) (text : List ℕ) (path : Segments) : Type 0 where
  pub parent : Segments
  pub name : List ℕ
  pub alias : List ℕ
  pub path_is : path ≡ kid parent name
  pub text_is : text ≡ text_of (kid parent alias)
  pub segment : seg_ok alias ≡ true
  pub free : node_at tree (kid parent alias) ≡ None
  pub first : find (λ sibling. has_alias tree (kid parent sibling) alias) (kids_at tree parent) ≡ Some name

-- a name stands at a place of some names or before it
abbrev pub IsAtOrBefore : Segments → List ℕ → ℕ → Type 0
IsAtOrBefore names name place = (at : ℕ) × (at ≤ place) × (slice_get names at ≡ Some name)

-- of siblings with one alias the first in their order is named: where any of them stands, the named one stands there or before it
abbrev pub FirstSiblingsAreNamed : Type 0
FirstSiblingsAreNamed = (tree : Content) (text : Text) (path : Segments) → (named : IsAlias tree text path) → (place : ℕ) (other : Text)
    → slice_get (kids_at tree named.parent) place ≡ Some other → has_alias tree (kid named.parent other) named.alias ≡ true
    → IsAtOrBefore (kids_at tree named.parent) named.name place
