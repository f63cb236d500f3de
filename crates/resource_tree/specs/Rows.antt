-- The nodes of a content with their paths, listed in any order.
use Rattle.std.specs.Prelude.{◌≡◌, Some, is_some}
use Rattle.std.specs.List.{All, IsDistinct, list_any}
use Rattle.std.specs.Map.{keys_of}
use Rattle.sp_base.specs.Texts.{Segments}
use Rattle.resource_tree.specs.Content.{Content, node_at, same_path}

-- Each row is a node of the content at its path, and each node has one row.
pub record AreRowsOf (tree rows : Content) : Type 0 where
  pub nodes : All (λ row. node_at tree row.0 ≡ Some row.1) rows
  pub paths : (path : Segments) → list_any (same_path path) (keys_of rows) ≡ is_some (node_at tree path)
  pub once : IsDistinct same_path (keys_of rows)
