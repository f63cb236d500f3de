-- What the functions of the search promise one another, and its words. A reader of the relation in Turns.antt needs none of it, and the
-- answer in Answers.antt `mapped_path` alone.
use Rattle.std.specs.Prelude.{◌≡◌, ◌≤◌, ◌<◌, ◌⊎◌, ◌&&◌, ◌||◌, ◌==◌, ◌++◌, ℕ, Bool, true, false, is_none, is_some, not, List, [], ◌∷◌, Option, Some, None, length, slice_index, take}
use Rattle.std.specs.List.{list_any}
use Rattle.std.specs.declared.cmp.Ordering.TheVariants.{Less}
use Rattle.sp_base.specs.Texts.{Segments}
use Rattle.sp_base.specs.Paths.{path_in, path_or_none}
use Rattle.resource_tree.specs.Content.{Content, node_at, same_path}
use Rattle.url_maps.specs.declared.pairs.Pair.{Pair}
use Rattle.url_maps.specs.declared.pairs.PairKind.{PairKind}
use Rattle.url_maps.specs.declared.turns.MappingStep.{MappingStep}
use Rattle.url_maps.specs.declared.pairs.PairKind.TheVariants.{Mapping}
use Rattle.url_maps.specs.Mappings.{has_match, mapping_of}
use Rattle.resource_tree.specs.declared.nodes.Node.{Node}
use Rattle.url_maps.specs.Patterns.{Asked}
use Rattle.url_maps.specs.Pairs.{Applies, Decides, HasMapping, HasNoPair, IsPair, goes_on_after_prefix, rank}
use Rattle.url_maps.specs.Turns.{text_after}
use Rattle.url_maps.specs.VanityPaths.{vanity_cmp}

-- the pair of a kind with a prefix, or that there is none
abbrev pub IsOf : PairKind → Content → Option Asked → List ℕ → Option Pair → Type 0
IsOf kind tree asked prefix (Some pair) = (pair.kind ≡ kind) × IsPair tree asked prefix pair
IsOf kind tree asked prefix None = (pair : Pair) → pair.kind ≡ kind → IsPair tree asked prefix pair → ⊥

-- the pair of a mapping of a host node, or that there is none
abbrev pub IsMappingOf : Content → Option Segments → List ℕ → Option Pair → Type 0
IsMappingOf tree host_node prefix (Some pair) = (pair.kind ≡ Mapping) × HasMapping tree host_node prefix pair
IsMappingOf tree host_node prefix None = (pair : Pair) → HasMapping tree host_node prefix pair → ⊥

-- whether no node is at a path
abbrev pub is_free_at : Content → Option Segments → Bool
is_free_at tree None = false
is_free_at tree (Some path) = is_none (node_at tree path)

-- whether a text spells a path at which no node is
abbrev pub is_free : Content → List ℕ → Bool
is_free tree text = is_free_at tree (path_in text)

-- a path is among others, and before each of them in the order of nodes with one vanity path
pub record IsFirstPath (tree : Content) (paths : List Segments) (path : Segments) : Type 0 where
  pub among : list_any (same_path path) paths ≡ true
  pub first : (other : Segments) → list_any (same_path other) paths ≡ true → (other ≡ path) ⊎ (vanity_cmp tree path other ≡ Less)

-- no mapping's prefix in a text has more bytes
abbrev pub HasNoMappingBeyond : Content → Option Segments → List ℕ → ℕ → Type 0
HasNoMappingBeyond tree host_node text reach = (k : ℕ) (pair : Pair) → reach < k → k ≤ length text → HasMapping tree host_node (take k text) pair → ⊥

-- a prefix of more bytes is none of a mapping
abbrev pub IsBeyond : Content → Option Segments → List ℕ → ℕ → Type 0
IsBeyond tree host_node prefix reach = (pair : Pair) → reach < length prefix → HasMapping tree host_node prefix pair → ⊥

-- whether a node is at a path, and that one without a pattern
abbrev pub is_passable : Content → Segments → Bool
is_passable tree path = is_some (node_at tree path) && not (has_match tree path)

-- The first segments of a path down to a depth, unless they are all, lead to no node below a host node, or to one with a pattern. The least such
-- depth cuts the most off: a greater one would cost time, as more prefixes are looked up, and never change an answer.
abbrev pub IsBarredAt : Content → Segments → Segments → ℕ → Type 0
IsBarredAt tree host_node path depth = depth < length path → is_passable tree (host_node ++ take depth path) ≡ false

-- a byte before which a text may be cut
abbrev pub is_separator : ℕ → Bool
is_separator b = b == 46 || b == 47

-- the last separator of a text, if it has one
abbrev pub IsLastSeparator : List ℕ → Option ℕ → Type 0
IsLastSeparator text (Some at) = (at < length text) × (is_separator (slice_index text at) ≡ true) × ((k : ℕ) → at < k → k < length text → is_separator (slice_index text k) ≡ false)
IsLastSeparator text None = (k : ℕ) → k < length text → is_separator (slice_index text k) ≡ false

-- the pair that decides among those with a prefix, before the rest of a text
abbrev pub IsBest : Content → Option Asked → List ℕ → List ℕ → Option Pair → Type 0
IsBest tree asked prefix rest (Some pair) = IsPair tree asked prefix pair × (goes_on_after_prefix pair.kind rest ≡ true)
    × ((other : Pair) → IsPair tree asked prefix other → goes_on_after_prefix other.kind rest ≡ true → rank pair.kind ≤ rank other.kind)
IsBest tree asked prefix rest None = (other : Pair) → IsPair tree asked prefix other → goes_on_after_prefix other.kind rest ≡ true → ⊥

-- no pair with a prefix of more bytes applies
abbrev pub HasNoneBeyond : Content → Option Asked → List ℕ → ℕ → Type 0
HasNoneBeyond tree asked text at = (k : ℕ) (pair : Pair) → at < k → Applies tree asked text k pair → ⊥

-- what the pair that decides makes of a text
pub record IsStep (tree : Content) (asked : Option Asked) (text : List ℕ) (step : MappingStep) : Type 0 where
  pub at : ℕ
  pub pair : Pair
  pub decides : Decides tree asked text at pair
  pub text_is : step.text ≡ text_after pair at text
  pub away_is : step.away ≡ pair.away

-- a turn, or that no pair applies
abbrev pub IsTurn : Content → Option Asked → List ℕ → Option MappingStep → Type 0
IsTurn tree asked text (Some step) = IsStep tree asked text step
IsTurn tree asked text None = HasNoPair tree asked text

-- the path below a host node that a prefix names, where there is one
abbrev pub below_host_node : Segments → Option Segments → Option Segments
below_host_node host_node None = None
below_host_node host_node (Some below) = path_or_none (host_node ++ below)

-- the path of the node at which a prefix has its mapping: the host node, or one below it
abbrev pub mapped_path : Segments → List ℕ → Option Segments
mapped_path host_node [] = Some host_node
mapped_path host_node (b ∷ []) = None
mapped_path host_node (b ∷ c ∷ text) = below_host_node host_node (path_in (b ∷ c ∷ text))

-- the pair of a mapping's node, or that it leads nowhere
abbrev pub IsMappingPair : Node → Option Pair → Type 0
IsMappingPair node (Some pair) = (pair.kind ≡ Mapping) × (mapping_of node ≡ Some (pair.target, pair.away))
IsMappingPair node None = mapping_of node ≡ None

-- the text up to its last dot or slash, if it has one
abbrev pub IsShorter : List ℕ → Option (List ℕ) → Type 0
IsShorter text (Some leading) = (length leading < length text) × (leading ≡ take (length leading) text) × (is_separator (slice_index text (length leading)) ≡ true)
    × ((k : ℕ) → length leading < k → k < length text → is_separator (slice_index text k) ≡ false)
IsShorter text None = (k : ℕ) → k < length text → is_separator (slice_index text k) ≡ false
