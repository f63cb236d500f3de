use Rattle.std.proofs.Common.{◌≡◌, ◌-◌, Some, None, length, sym, ◌∙◌, ap}
use Rattle.std.specs.Prelude.{option_map}
use Rattle.type_chain.specs.Types.{place_of}
use Rattle.overlay_merge.specs.Layers.{base_at, base_of, override_layer, path_at}
use Rattle.overlay_merge.proofs.LayerLemmas.{below_is, below_no_place, below_none, layer_made}
use Rattle.overlay_merge.proofs.layers.layer_below.Goals as goal

pub returns-in_default : goal.returns-in_default
returns-in_default c =
    let none : base_of c.args.tree.now c.args.path.now ≡ None = sym (rw c.in_default.is at c.in_ok-n.ensures) in
    sym (below_none c.args.tree.now c.args.path.now none)

pub returns-in_default-2 : goal.returns-in_default-2
returns-in_default-2 c =
    let tree = c.args.tree.now in
    let base : base_of tree c.args.path.now ≡ Some (base_at c.in-Some.n c.in-Some.text.now) = sym (rw c.in-Some.is at c.in_ok-n.ensures) in
    let none : place_of tree c.in-Some.text.now ≡ None = ap (place_of tree) (sym c.text.ensures) ∙ sym c.in_ok-place.ensures ∙ c.in_default-2.is in
    sym (below_no_place tree c.args.path.now c.in-Some.n c.in-Some.text.now base none)

pub returns-in-Some-3 : goal.returns-in-Some-3
returns-in-Some-3 c =
    let tree = c.args.tree.now in
    let path = c.args.path.now in
    let n = c.in-Some.n in
    let base : base_of tree path ≡ Some (base_at n c.in-Some.text.now) = sym (rw c.in-Some.is at c.in_ok-n.ensures) in
    let place : place_of tree c.in-Some.text.now ≡ Some c.in-Some-2.place = ap (place_of tree) (sym c.text.ensures) ∙ sym c.in_ok-place.ensures ∙ c.in-Some-2.is in
    let below : path_at c.in-Some-2.place path n ≡ Some c.in-Some-3.below = sym c.in_ok-below.ensures ∙ c.in-Some-3.is in
    layer_made c.in-Some-3.below path n c.depth.result c.saturating_sub.result c.depth-in-Some-3.result c.depth.ensures.depth c.depth-in-Some-3.ensures.depth c.saturating_sub.ensures
    ∙ ap (option_map (override_layer (length path - n))) (sym below) ∙ sym (below_is tree path n c.in-Some.text.now c.in-Some-2.place base place)

pub returns : goal.returns
returns c =
    let tree = c.args.tree.now in
    let path = c.args.path.now in
    let n = c.in-Some.n in
    let base : base_of tree path ≡ Some (base_at n c.in-Some.text.now) = sym (rw c.in-Some.is at c.in_ok-n.ensures) in
    let place : place_of tree c.in-Some.text.now ≡ Some c.in-Some-2.place = ap (place_of tree) (sym c.text.ensures) ∙ sym c.in_ok-place.ensures ∙ c.in-Some-2.is in
    let none : path_at c.in-Some-2.place path n ≡ None = sym c.in_ok-below.ensures ∙ c.in-None.is in
    ap (option_map (override_layer (length path - n))) (sym none) ∙ sym (below_is tree path n c.in-Some.text.now c.in-Some-2.place base place)
