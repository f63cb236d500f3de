-- The pairs of a prefix and a target that a tree has, which of them apply to a text, and which one decides (Apache Sling, "Mappings for
-- resource resolution"; the order of kinds at a tie is this project's own).
use Rattle.std.specs.Prelude.{◌≡◌, ◌≤◌, ◌<◌, ◌⊎◌, ◌||◌, ◌==◌, ℕ, Bool, true, List, [], ◌∷◌, Option, Some, None, drop, length, take}
use Rattle.sp_base.specs.Texts.{Segments, Text}
use Rattle.sp_base.specs.Paths.{text_of}
use Rattle.resource_tree.specs.Content.{Content}
use Rattle.url_maps.specs.declared.pairs.Pair.{Pair}
use Rattle.url_maps.specs.declared.pairs.PairKind.{PairKind}
use Rattle.url_maps.specs.declared.pairs.PairKind.TheVariants.{Mapping, Pattern, Alias, VanityPath}
use Rattle.url_maps.specs.Aliases.{IsAlias}
use Rattle.url_maps.specs.Mappings.{IsMapping}
use Rattle.url_maps.specs.Patterns.{Asked, IsPatternPair, node_of_host}
use Rattle.url_maps.specs.VanityPaths.{IsVanityPath, vanity_page}

-- a mapping of a host node, if there is one
abbrev pub HasMapping : Content → Option Segments → List ℕ → Pair → Type 0
HasMapping tree None prefix pair = ⊥
HasMapping tree (Some host_node) prefix pair = IsMapping tree host_node prefix pair.target pair.away

-- the pair that a pattern gives for what is asked, if anything is
abbrev pub HasPatternPair : Content → Option Asked → List ℕ → Pair → Type 0
HasPatternPair tree None prefix pair = ⊥
HasPatternPair tree (Some asked) prefix pair = IsPatternPair tree asked prefix (pair.target, pair.away)

-- the alias of a node
pub record HasAlias (tree : Content) (prefix : List ℕ) (pair : Pair) : Type 0 where
  pub path : Segments
  pub alias : IsAlias tree prefix path
  pub target : pair.target ≡ text_of path
  pub inside : pair.away ≡ None

-- the vanity path of a node
pub record HasVanityPath (tree : Content) (prefix : List ℕ) (pair : Pair) : Type 0 where
  pub path : Segments
  pub vanity_path : IsVanityPath tree prefix path
  pub target : pair.target ≡ text_of (vanity_page path)
  pub inside : pair.away ≡ None

-- the tree has the pair, as one of this kind, with the prefix
abbrev pub IsPairOf : PairKind → Content → Option Asked → List ℕ → Pair → Type 0
IsPairOf Mapping tree asked prefix pair = HasMapping tree (node_of_host asked) prefix pair
IsPairOf Pattern tree asked prefix pair = HasPatternPair tree asked prefix pair
IsPairOf Alias tree asked prefix pair = HasAlias tree prefix pair
IsPairOf VanityPath tree asked prefix pair = HasVanityPath tree prefix pair

-- The tree has the pair with the prefix; its mappings are those of the host node, and those that patterns give, if any are asked for.
abbrev pub IsPair : Content → Option Asked → List ℕ → Pair → Type 0
IsPair tree asked prefix pair = IsPairOf pair.kind tree asked prefix pair

-- a text may go on after a prefix with a slash or a dot, after that of a vanity path with a dot alone
abbrev pub goes_on_after_prefix : PairKind → List ℕ → Bool
goes_on_after_prefix kind [] = true
goes_on_after_prefix VanityPath (b ∷ rest) = b == 46
goes_on_after_prefix kind (b ∷ rest) = b == 46 || b == 47

-- the pair whose prefix ends at a place of a text applies to the text
pub record Applies (tree : Content) (asked : Option Asked) (text : List ℕ) (at : ℕ) (pair : Pair) : Type 0 where
  pub within : at ≤ length text
  pub has : IsPair tree asked (take at text) pair
  pub continues : goes_on_after_prefix pair.kind (drop at text) ≡ true

-- at a tie a mapping of the host node decides before one by a pattern, that before an alias, and an alias before a vanity path
abbrev pub rank : PairKind → ℕ
rank Mapping = 0
rank Pattern = 1
rank Alias = 2
rank VanityPath = 3

-- of the pairs that apply the one with the longest prefix decides
pub record Decides (tree : Content) (asked : Option Asked) (text : List ℕ) (at : ℕ) (pair : Pair) : Type 0 where
  pub applies : Applies tree asked text at pair
  pub best : (k : ℕ) (other : Pair) → Applies tree asked text k other → (k < at) ⊎ ((k ≡ at) × (rank pair.kind ≤ rank other.kind))

-- no pair applies to a text
abbrev pub HasNoPair : Content → Option Asked → List ℕ → Type 0
HasNoPair tree asked text = (k : ℕ) (pair : Pair) → Applies tree asked text k pair → ⊥

-- where a pair decides a turn no other does
abbrev pub AreOneIfBothDecide : Content → Option Asked → Text → ℕ → Pair → ℕ → Pair → Type 0
AreOneIfBothDecide tree asked text at pair k other = Decides tree asked text at pair → Decides tree asked text k other → (at ≡ k) × (pair ≡ other)
