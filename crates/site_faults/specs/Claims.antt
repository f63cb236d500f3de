-- The paths that a node claims by its aliases and its vanity paths (Apache Sling, "Mappings for resource resolution"): those of `IsAlias` and `IsVanityPath`, whichever of several claimants is named.
use Rattle.std.specs.Prelude.{◌++◌, ◌∷◌, [], ℕ, List, Option, None, Some, if◌then◌else◌, is_some}
use Rattle.sp_base.specs.Texts.{Segments}
use Rattle.sp_base.specs.Paths.{parent_of, path_in, path_or_none}
use Rattle.resource_tree.specs.Content.{Content, node_at}
use Rattle.url_maps.specs.VanityPaths.{with_slash}

-- a path at which no node is
abbrev pub free : Content → Option Segments → Option Segments
free tree None = None
free tree (Some path) = if is_some (node_at tree path) then None else Some path

-- the path that the node at a path, which isn't the root, claims by an alias: with the alias in the place of its name
abbrev pub alias_claim : Content → Segments → List ℕ → Option Segments
alias_claim tree path alias = free tree (path_or_none (parent_of path ++ alias ∷ []))

-- the path that a node claims by a vanity path
abbrev pub vanity_claim : Content → List ℕ → Option Segments
vanity_claim tree word = free tree (path_in (with_slash word))
