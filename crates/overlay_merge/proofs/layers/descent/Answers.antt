use Rattle.std.proofs.Common.{◌≡◌, ◌<◌, ◌≤◌, [], Some, length, true, false, arith, sym, ◌∙◌, ap}
use Rattle.overlay_merge.specs.Layers.{descent, has_layer, override_layer}
use Rattle.overlay_merge.proofs.LayerLemmas.{descends_end, descends_full, descends_on, descends_there}
use Rattle.overlay_merge.proofs.layers.descent.Goals as goal
use Rattle.overlay_merge.proofs.layers.descent.Goals.{then-len-ge-MOST_LAYERS-via-then-len-ge-MOST_LAYERS, then-len-ge-MOST_LAYERS-via-else-len-ge-MOST_LAYERS+then-has_layer}

pub returns-then-len-ge-MOST_LAYERS : goal.returns-then-len-ge-MOST_LAYERS
returns-then-len-ge-MOST_LAYERS c =
    let tree = c.args.tree.now in
    let all = descent tree 32 [] (Some (override_layer 0 c.args.path)) in
    let layers = c.loop-next.layers.items in
    let path = c.in-Some.layer.path in
    elim c.then-len-ge-MOST_LAYERS.branch [
      | then-len-ge-MOST_LAYERS-via-then-len-ge-MOST_LAYERS w ↦
          let full : 32 ≤ length layers = omega (arith, c.len.ensures, w.if-len-ge-MOST_LAYERS.true) in
          descends_full tree all layers c.loop-next.next c.loop-next.invariant full
      | then-len-ge-MOST_LAYERS-via-else-len-ge-MOST_LAYERS+then-has_layer w ↦
          let there : has_layer layers path ≡ true = ap (λ l. has_layer l path) (sym w.deref.ensures.value) ∙ sym w.has_layer.ensures ∙ w.if-has_layer.true in
          descends_there tree all layers c.loop-next.next c.in-Some.layer c.loop-next.invariant c.in-Some.is there
    ]

pub loop-next-preserved : goal.loop-next-preserved
loop-next-preserved c =
    let tree = c.args.tree.now in
    let all = descent tree 32 [] (Some (override_layer 0 c.args.path)) in
    let layers = c.loop-next.layers.items in
    let path = c.in-Some.layer.path in
    let room : length layers < 32 = omega (arith, c.len.ensures, c.if-len-ge-MOST_LAYERS.false) in
    let new : has_layer layers path ≡ false = ap (λ l. has_layer l path) (sym c.deref.ensures.value) ∙ sym c.has_layer.ensures ∙ c.if-has_layer.false in
    descends_on tree all layers c.push.new.self.items c.loop-next.next c.in_ok-next.next c.in-Some.layer c.loop-next.invariant c.in-Some.is room new c.in_ok-next.ensures c.in_ok-push.ensures.items

pub returns : goal.returns
returns c = descends_end c.args.tree.now (descent c.args.tree.now 32 [] (Some (override_layer 0 c.args.path))) c.loop-next.layers.items c.loop-next.next c.loop-next.invariant c.in_default.is
