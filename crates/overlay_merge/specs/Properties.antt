-- The properties of a merged resource (Apache Sling, "Resource Merger": sling:hideProperties).
use Rattle.std.specs.Prelude.{◌||◌, ℕ, Bool, not, nat_eq, List, [], ◌∷◌, codes, fold}
use Rattle.std.specs.Cmp.Lexicographic.{pointwise}
use Rattle.std.specs.FinMap.Entries.{find, put, where_key}
use Rattle.sp_base.specs.Names.{by_name}
use Rattle.sp_base.specs.Texts.{Properties}
use Rattle.resource_tree.specs.Seen.{Resource}
use Rattle.overlay_merge.specs.Hiding.{lists_name}

-- properties over others
unfoldable pub put_all : Properties → Properties → Properties
put_all lower [] = lower
put_all lower (p ∷ upper) = put_all (put by_name p.0 p.1 lower) upper

-- the lower properties that upper ones don't hide
abbrev pub lower_properties_left : Properties → Properties → Properties
lower_properties_left upper lower = where_key by_name (λ name. not (lists_name (find by_name (codes "sling:hideProperties") upper) name)) lower

-- a layer takes away the lower properties that it hides, and puts its own over the others
unfoldable pub with_layer : Properties → Resource → Properties
with_layer lower layer = put_all (lower_properties_left layer.props lower) layer.props

-- the properties that steer the merging
abbrev pub is_steering : List ℕ → Bool
is_steering name = pointwise nat_eq (codes "sling:hideResource") name || (pointwise nat_eq (codes "sling:hideProperties") name
    || (pointwise nat_eq (codes "sling:hideChildren") name || pointwise nat_eq (codes "sling:orderBefore") name))

-- the properties but for those
abbrev pub without_steering : Properties → Properties
without_steering props = where_key by_name (λ name. not (is_steering name)) props

-- the properties of layers, the lowest first
unfoldable pub merged_props : List Resource → Properties
merged_props layers = without_steering (fold with_layer [] layers)
