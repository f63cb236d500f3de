use Rattle.std.proofs.Common.{◌≡◌, ◌<◌, ◌==◌, not, List, length, sym, ap, ◌∙◌, subst, rules}
use Rattle.std.proofs.lemmas.Fn.{filter_same}
use Rattle.connection_ids.specs.Ids.{ConnectionId}
use Rattle.outside_world.specs.Comings.{has_connection}
use Rattle.outside_world.proofs.Openings.{others, fewer_others, among_others}
use Rattle.outside_world.proofs.world_log.take_out.Goals as goal

left : (c : goal.After-retain) → c.retain.new.self.items ≡ others c.args.conn c.args.opened.now.items
left c = filter_same _ (λ e. not (e == c.args.conn)) _ (λ x b f' k. search rules) _ _ c.retain.ensures.filtered

pub returns-clause-left : goal.returns-clause-left
returns-clause-left c d = ap (has_connection d) (left c) ∙ among_others d c.args.conn c.args.opened.now.items

pub returns-clause-fewer : goal.returns-clause-fewer
returns-clause-fewer c h = subst (λ (left : List ConnectionId). length left < length c.args.opened.now.items) (sym (left c)) (fewer_others c.args.conn c.args.opened.now.items h)
