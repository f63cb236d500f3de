-- What the properties of a mapping, an alias or a vanity path say: numbers, and texts of which a test holds.
use Rattle.std.specs.Prelude.{ℕ, ℤ, Bool, false, List, Option, Some, None}
use Rattle.std.specs.List.{list_any}
use Rattle.std.specs.Option.{option_map_or}
use Rattle.sp_base.specs.Texts.{Segments}
use Rattle.sp_base.specs.Properties.{value_texts}
use Rattle.sp_base.specs.declared.value.Value.{Value}
use Rattle.sp_base.specs.declared.value.Value.TheVariants.{Long}
use Rattle.resource_tree.specs.Content.{Content, node_at, prop_at}

-- a value that is a number
abbrev pub mapping_number : Option Value → Option ℤ
mapping_number (Some (Long n)) = Some n
mapping_number _ = None

-- whether a test holds for one of the texts under a name of the node at a path
abbrev pub any_text_at : Content → Segments → List ℕ → (List ℕ → Bool) → Bool
any_text_at tree path name test = option_map_or (λ node. list_any test (value_texts (prop_at node name))) (node_at tree path) false
