-- A member's value stands under its name.
use Rattle.std.proofs.Common.{◌≡◌, ℕ, Bool, true, false, List, [], ◌∷◌, Option, Some, None, Ok, if◌then◌else◌, refl, sym, ap, ◌∙◌}
use Rattle.std.specs.Prelude.{option_and_then}
use Rattle.serde_json.specs.Data.{Data, object}
use Rattle.serde_json.specs.Find.{get_member}
use Rattle.resource_tree.specs.Content.{Content, kid, node_at, prop_at}
use Rattle.resource_tree.specs.declared.nodes.Node.{Node}
use Rattle.content_json.specs.ContentOf.{content, json_of}
use Rattle.content_json.specs.Lists.{data_value}
use Rattle.content_json.specs.Names.{is_order}
use Rattle.content_json.specs.Ways.{way_end}
use Rattle.content_json.proofs.GoodLemmas.{object_there, props_are}
use Rattle.content_json.proofs.InOrder.{IsInOrder}
use Rattle.content_json.proofs.LawLemmas.{in_order_top, node_at_path}
use Rattle.content_json.proofs.ReturnNodes.{read_value}
use Rattle.content_json.proofs.WayLemmas.{in_order_at, value_at-kid}

one_step : (name : List ℕ) (o : Option Data) → option_and_then data_value (if is_order name then None else option_and_then (way_end []) o) ≡ read_value name o
one_step name o = go (is_order name) o
  where
    go : (b : Bool) (o : Option Data) → option_and_then data_value (if b then None else option_and_then (way_end []) o) ≡ (if b then None else option_and_then data_value o)
    go true o = refl
    go false None = refl
    go false (Some d) = refl

pub member_stands : (bytes : List ℕ) (tree : Content) (top : Data) (path : List (List ℕ)) (node : Node) (name : List ℕ) → content bytes ≡ Ok tree → json_of bytes ≡ Some top → node_at tree path ≡ Some node
    → prop_at node name ≡ option_and_then data_value (way_end (kid path name) top)
member_stands bytes tree top path node name h is there =
    let o = object_there (way_end path top) node (sym (node_at_path bytes tree top path h is) ∙ there) in
    let order : IsInOrder (object o.0) = in_order_at path top (object o.0) (in_order_top bytes tree top h is) o.1 in
    ap (λ (n : Node). prop_at n name) o.2 ∙ props_are name o.0 order.0 ∙ sym (one_step name (get_member name o.0))
    ∙ sym (ap (option_and_then data_value) (value_at-kid path name top ∙ ap (option_and_then (way_end (name ∷ []))) o.1))
