-- The kids of a merged resource, and their order (Apache Sling, "Resource Merger": sling:orderBefore).
use Rattle.std.specs.Prelude.{◌==◌, ℕ, Bool, not, nat_eq, if◌then◌else◌, List, [], ◌++◌, Option, Some, None, option_and_then, codes, filter, fold, insert, length, position, remove, unwrap_or, true, ◌≡◌}
use Rattle.std.specs.List.{list_any}
use Rattle.std.specs.Cmp.Lexicographic.{pointwise}
use Rattle.sp_base.specs.Texts.{Segments, Text}
use Rattle.sp_base.specs.Properties.{text_in}
use Rattle.resource_tree.specs.Content.{Content, kid, node_at}
use Rattle.resource_tree.specs.Seen.{Resource}
use Rattle.overlay_merge.specs.Hiding.{merged_from}

-- a name is among names
abbrev pub has_text : List Text → List ℕ → Bool
has_text names name = list_any (pointwise nat_eq name) names

-- names, and the kids of a layer that are not among them
unfoldable pub with_kids_of : List Text → Resource → List Text
with_kids_of names layer = names ++ filter (λ name. not (has_text names name)) layer.kids

-- the kids of layers, the lowest first
unfoldable pub all_kids : List Resource → List Text
all_kids layers = fold with_kids_of [] layers

-- whether something is left to be merged at a path
abbrev pub is_merged_there : Content → Segments → Bool
is_merged_there tree path = not (length (merged_from tree path) == 0)

-- those of a path's names at which something is left to be merged
unfoldable pub kids_there : Content → Segments → List Text → List Text
kids_there tree path names = filter (λ name. is_merged_there tree (kid path name)) names

-- the name before which a kid wishes to stand
abbrev pub wish_at : Content → Segments → Option (List ℕ)
wish_at tree path = option_and_then (λ node. text_in node.props (codes "sling:orderBefore")) (node_at tree path)

-- the names with one of them, which stands at a place, moved directly before another
abbrev pub names_after_move_from : List ℕ → List ℕ → List Text → Option ℕ → List Text
names_after_move_from name other names None = names
names_after_move_from name other names (Some at) = if has_text names other
    then insert (remove names at) (unwrap_or (position (pointwise nat_eq other) (remove names at)) (length (remove names at))) name else names

-- the names with one of them directly before another; where one of the two isn't among them, or both are one, nothing moves
unfoldable pub names_after_move : List ℕ → Option (List ℕ) → List Text → List Text
names_after_move name None names = names
names_after_move name (Some other) names = if pointwise nat_eq name other then names else names_after_move_from name other names (position (pointwise nat_eq name) names)

-- each kid of a layer moved to where it wishes to stand, one after the other
unfoldable pub ordered_by : Content → List Text → Resource → List Text
ordered_by tree names layer = fold (λ so_far name. names_after_move name (wish_at tree (kid layer.path name)) so_far) names layer.kids

-- the kids of layers at a path, the lowest layer first
unfoldable pub layers_kids : Content → Segments → List Resource → List Text
layers_kids tree path layers = fold (ordered_by tree) (kids_there tree path (all_kids layers)) layers

-- one of the layers has this kid
abbrev pub SomeLayerHasKid : List Resource → Text → Type 0
SomeLayerHasKid layers name = list_any (λ (layer : Resource). has_text layer.kids name) layers ≡ true

-- this kid is given of the layers
abbrev pub GivesKid : Content → Segments → List Resource → Text → Type 0
GivesKid tree path layers name = has_text (layers_kids tree path layers) name ≡ true

-- a merged resource is at the path of this kid
abbrev pub IsKidMerged : Content → Segments → Text → Type 0
IsKidMerged tree path name = is_merged_there tree (kid path name) ≡ true
