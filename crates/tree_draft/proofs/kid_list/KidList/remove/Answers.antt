use Rattle.std.proofs.Common.{◌∙◌, ap, arith, length}
use Rattle.resource_tree.specs.Kids.{other_kids}
use Rattle.tree_draft.proofs.FallLemmas.{standing_names-fallen, within-fallen}
use Rattle.tree_draft.proofs.kid_list.KidList.remove.Goals as goal

pub returns : goal.returns
returns c =
    standing_names-fallen c.self.inside.falls c.note.new.self c.args.name.now c.len.result 0 c.self.inside.names c.in_ok-note.ensures.ok (omega (arith, c.len.ensures))
    ∙ ap (other_kids c.args.name.now) c.self.view_is

pub invariant_of-self-2 : goal.invariant_of-self-2
invariant_of-self-2 c = within-fallen c.self.inside.falls c.note.new.self c.args.name.now c.len.result (length c.self.inside.names) c.self.invariant c.len.ensures c.in_ok-note.ensures.ok
