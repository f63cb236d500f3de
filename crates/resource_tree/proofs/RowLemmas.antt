-- The nodes of a table as they lie are the rows of the content that is seen in the order of the paths.
use Rattle.std.proofs.Common.{◌≡◌, sym, ◌∙◌, ap, Some}
use Rattle.std.specs.Prelude.{is_some, slice_index_or}
use Rattle.std.specs.List.{All, IsDistinct}
use Rattle.std.specs.Map.{keys_of}
use Rattle.std.proofs.lemmas.Map.Made.{is_some-lookup}
use Rattle.sp_base.proofs.OrderingLemmas.{by_path_total}
use Rattle.resource_tree.specs.Content.{Content, by_path, node_at, same_path}
use Rattle.resource_tree.specs.InOrder.{in_order}
use Rattle.resource_tree.specs.Rows.{AreRowsOf}
use Rattle.resource_tree.proofs.EntriesInOrder.{lookup-in_order}

pub rows_as_they_lie : (es : Content) → All (λ e. node_at es e.0 ≡ Some e.1) es → IsDistinct same_path (keys_of es) → AreRowsOf (in_order by_path es) es
rows_as_they_lie es found once = record {
  nodes = λ k none is. lookup-in_order by_path by_path_total (slice_index_or es k none).0 es ∙ found k none is;
  paths = λ q. sym (is_some-lookup (same_path q) es) ∙ sym (ap is_some (lookup-in_order by_path by_path_total q es));
  once = once;
}
