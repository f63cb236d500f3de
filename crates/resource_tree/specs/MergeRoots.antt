-- The paths at which resources are merged, which no target, name or word of a POST may name (Apache Sling, "Resource Merger": the overlay
-- and the override root).
use Rattle.std.specs.Prelude.{◌||◌, Bool, [], ◌∷◌, codes}
use Rattle.sp_base.specs.Texts.{Segments}
use Rattle.sp_base.specs.Paths.{is_under}

-- the root of overlays
abbrev pub overlay_root : Segments
overlay_root = codes "mnt" ∷ codes "overlay" ∷ []

-- the root of overrides
abbrev pub override_root : Segments
override_root = codes "mnt" ∷ codes "override" ∷ []

-- whether a path lies under the root of overlays
abbrev pub is_overlay : Segments → Bool
is_overlay path = is_under path overlay_root

-- whether a path lies under the root of overrides
abbrev pub is_override : Segments → Bool
is_override path = is_under path override_root

-- whether what is at a path is merged
abbrev pub is_merged_path : Segments → Bool
is_merged_path path = is_overlay path || is_override path
