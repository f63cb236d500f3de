use Rattle.std.proofs.Common.{rules, ◌≡◌, None}
use Rattle.resource_tree.specs.Content.{node_at}
use Rattle.post_apply.proofs.NumberLemmas.{free_given, none_taken, zero_given}
use Rattle.post_apply.proofs.names.free_numbered.Goals as goal

pub returns-in_default : goal.returns-in_default
returns-in_default c =
    let none : node_at c.args.draft.now.content c.args.parent.now ≡ None = search rules in
    free_given c.args.draft.now c.args.parent.now c.args.name.now 0 c.numbered.result (none_taken c.args.draft.now c.args.parent.now none)
    (zero_given c.args.draft.now c.args.parent.now c.args.name.now c.numbered.result c.numbered.ensures)
