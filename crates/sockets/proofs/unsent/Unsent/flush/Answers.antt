use Rattle.std.proofs.Common.{◌++◌, ◌∙◌, [], ap, sym, subst, take}
use Rattle.sp_outside.specs.Told.{held_after}
use Rattle.sockets.specs.Given.{IsGiven}
use Rattle.sockets.proofs.Giving.{given_step}
use Rattle.sockets.proofs.unsent.Unsent.flush.Goals as goal

pub loop-to-preserved : goal.loop-to-preserved
loop-to-preserved g c =
    let told = c.in_ok-taken.ensures.ok ∙ ap (λ w. held_after (g.P.Peer.taken c.loop-to.to) (take c.in_ok-taken.taken (w ++ []))) c.waiting.ensures in
    subst (IsGiven _ _ _) (sym c.pass.ensures) (given_step _ _ _ _ _ _ c.loop-to.invariant told)
