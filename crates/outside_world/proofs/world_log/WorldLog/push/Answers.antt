use Rattle.std.proofs.Common.{◌∙◌, ◌++◌, ◌∷◌, [], ap, arith}
use Rattle.std.specs.Vec.{vec_capacity}
use Rattle.outside_world.proofs.Openings.{keeps_pushed}
use Rattle.outside_world.proofs.world_log.WorldLog.push.Goals as goal

pub invariant_of-self-2 : goal.invariant_of-self-2
invariant_of-self-2 c =
    keeps_pushed _ (vec_capacity c.push_reserved.new.self) c.self.inside.entries.items c.push_reserved.new.self.items c.args.entry c.self.inside.opened.items c.follow.new.opened.items
    c.self.invariant (c.push_reserved.ensures.items ∙ ap (λ l. l ++ c.args.entry ∷ []) c.in_ok-reserve.ensures.items)
    (omega (arith, c.in_ok-reserve.ensures.ok, c.in_ok-reserve.ensures.len, c.push_reserved.ensures.capacity, c.len.ensures))
    c.in_ok-follow.ensures.few c.in_ok-follow.ensures.ok
