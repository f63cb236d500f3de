-- The two roots below which resources are merged, and their parent (Apache Sling, "Resource Merger").
use Rattle.std.specs.Prelude.{◌||◌, ℕ, Bool, List, codes, nat_eq}
use Rattle.std.specs.Cmp.Lexicographic.{pointwise}
use Rattle.sp_base.specs.Texts.{Segments}
use Rattle.sp_base.specs.Paths.{text_of}
pub use Rattle.resource_tree.specs.MergeRoots.{is_overlay, is_override, is_merged_path}

-- how many segments each of the two roots has
abbrev pub root_depth : ℕ
root_depth = 2

-- the parent of both roots
abbrev pub is_parent_of_roots : Segments → Bool
is_parent_of_roots path = pointwise nat_eq (text_of path) (codes "/mnt")

-- the name of one of the two roots
abbrev pub is_name_of_root : List ℕ → Bool
is_name_of_root name = pointwise nat_eq name (codes "overlay") || pointwise nat_eq name (codes "override")
