-- Entries in any order, seen in the order of their keys, and the table of a tree's nodes so seen. Only the types' views and
-- private functions cite this.
use Rattle.std.specs.Prelude.{ℕ, List, [], ◌∷◌}
use Rattle.std.specs.declared.cmp.Ordering.{Ordering}
use Rattle.std.specs.BTreeMap.{insert_entry}
use Rattle.resource_tree.specs.Content.{Content}

-- the entries, each put in its place
unfoldable pub in_order : {K X : Type 0} → (K → K → Ordering) → List (K × X) → List (K × X)
in_order cmp [] = []
in_order cmp (e ∷ es) = insert_entry cmp (in_order cmp es) e.0 e.1

-- the nodes of a table, and how many more fit with no memory
pub record Entries : Type 0 where
  pub entries : Content
  pub room : ℕ
