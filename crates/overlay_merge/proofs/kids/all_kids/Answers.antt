use Rattle.std.proofs.Common.{◌≡◌, ◌<◌, ◌+◌, ◌++◌, ◌∷◌, [], take, length, arith, sym, ◌∙◌, ap}
use Rattle.std.proofs.lemmas.List.{take_more}
use Rattle.overlay_merge.proofs.KidLemmas.{all_more, no_kids}
use Rattle.overlay_merge.proofs.kids.all_kids.Goals as goal

pub loop-k-init : goal.loop-k-init
loop-k-init c = c.new-names.ensures.items ∙ no_kids

pub loop-k-preserved : goal.loop-k-preserved
loop-k-preserved c =
    let layers = c.args.layers.now in
    let k = c.loop-k.k in
    let layer = c.index-layers-k.result in
    let within : k < length layers = omega (arith, c.loop-k-test.true) in
    let more : take (k + 1) layers ≡ take k layers ++ layer ∷ [] = take_more layers k layer within ∙ ap (λ l. take k layers ++ l ∷ []) (sym c.index-layers-k.is) in
    all_more (take k layers) (take (k + 1) layers) layer c.loop-k.names.items c.add_kids.new.names.items more c.loop-k.invariant c.in_ok-add_kids.ensures
