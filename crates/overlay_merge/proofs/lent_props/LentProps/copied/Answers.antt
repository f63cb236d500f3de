use Rattle.std.proofs.Common.{◌∷◌, [], sym, ◌∙◌, ap}
use Rattle.std.proofs.lemmas.Map.Iter.{rest_all, rest_more}
use Rattle.std.specs.Map.Iter.{deref_pair}
use Rattle.overlay_merge.specs.Properties.{put_all}
use Rattle.overlay_merge.proofs.LentLemmas.{copy_end, copy_step}
use Rattle.overlay_merge.proofs.lent_props.LentProps.copied.Goals as goal

pub loop-name-preserved : goal.loop-name-preserved
loop-name-preserved c =
    let left = rest_more deref_pair c.loop-name.name-iterator c.next.new.self c.next.result (c.in-Some.name, c.in-Some.value) c.in-Some.is c.next.ensures.steps in
    copy_step c.loop-name.props c.put.new.self (put_all [] c.args.self.now) c.loop-name.name-iterator (c.in-Some.name.now, c.in-Some.value.now) c.next.new.self c.in_ok-duplicate.field-0 left
    c.in_ok-put.ensures.ok c.in_ok-duplicate.ensures c.loop-name.invariant

pub returns : goal.returns
returns c =
    let none = rest_all deref_pair c.loop-name.name-iterator c.next.new.self c.next.result c.in-None.is c.next.ensures.steps in
    copy_end c.loop-name.props c.loop-name.name-iterator c.self.inside.props.entries none c.iter-name-items.ensures.ordered
    (c.loop-name.invariant ∙ ap (put_all []) (sym c.self.view_is)) ∙ c.self.view_is
