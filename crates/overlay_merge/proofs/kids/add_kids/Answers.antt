use Rattle.std.proofs.Common.{◌+◌, ◌++◌, ◌∷◌, [], cond, take, arith, ◌∙◌, ap}
use Rattle.std.specs.List.{list_any}
use Rattle.sp_base.proofs.ListLemmas.{take_more_of}
use Rattle.resource_tree.specs.Seen.{Resource}
use Rattle.overlay_merge.specs.Kids.{has_text}
use Rattle.overlay_merge.proofs.KidLemmas.{add_more}
use Rattle.overlay_merge.proofs.kids.add_kids.Goals as goal

pub loop-name-preserved : goal.loop-name-preserved
loop-name-preserved c =
    let kids = c.args.layer.now.kids in
    let i = c.loop-name.name-index in
    let name = c.name-item.result in
    let more = take_more_of c.kids-name-items.result.now kids i name c.kids-name-items.ensures (omega arith) c.name-item.is in
    let known = c.in_ok-known.ensures ∙ ap (λ n. list_any (λ (l : Resource). has_text l.kids n) c.args.lower.now) c.text.ensures in
    add_more c.args.names.now.items (take i kids) (take (i + 1) kids) c.loop-name.names.items c.push_unless.new.names.items name c.args.lower.now c.in_ok-known.known
    more c.loop-name.invariant known (c.in_ok-push_unless.ensures ∙ ap (λ n. c.loop-name.names.items ++ cond c.in_ok-known.known [] (n ∷ [])) c.text-in-loop-name.ensures)
