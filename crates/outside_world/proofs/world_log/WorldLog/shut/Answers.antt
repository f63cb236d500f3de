use Rattle.std.proofs.Common.{◌∙◌, ap, sym}
use Rattle.std.specs.Vec.{vec_capacity}
use Rattle.outside_world.specs.Comings.{has_connection}
use Rattle.outside_world.proofs.Openings.{keeps_shut}
use Rattle.outside_world.proofs.world_log.WorldLog.shut.Goals as goal

pub invariant_of-self : goal.invariant_of-self
invariant_of-self c =
    keeps_shut _ (vec_capacity c.push_reserved.new.self) c.args.conn c.self.inside.entries.items c.push_reserved.new.self.items c.self.inside.opened.items c.take_out.new.opened.items
    c.self.invariant c.push_reserved.ensures.items c.push_reserved.ensures.capacity
    (c.take_out.ensures.fewer (sym (c.contains.ensures.value ∙ ap (has_connection c.args.conn) c.as_slice.ensures.value) ∙ c.if-contains.true)) c.take_out.ensures.left
