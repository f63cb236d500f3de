use Rattle.std.proofs.Common.{◌≤◌, arith, length, subst, sym}
use Rattle.std.proofs.lemmas.List.{take_all}
use Rattle.resource_tree.specs.Patches.{PatchEntries}
use Rattle.script_rank.proofs.TextLemmas.{AreNoted, change_is, noted_next, noted_none}
use Rattle.script_rank.proofs.change.script_change.Goals as goal

pub loop-position-init : goal.loop-position-init
loop-position-init c = noted_none c.args.tree.now (record { added = c.new.result.items; gone = c.new-2.result.items }) c.new.ensures.items c.new-2.ensures.items

pub loop-position-preserved : goal.loop-position-preserved
loop-position-preserved c =
    noted_next c.args.tree.now c.args.patch.now c.loop-position.position c.in-Some.path.now c.in-Some.row.now c.loop-position.change c.note_entry.new.change (sym c.in-Some.ensures)
    c.loop-position.invariant c.in_ok-note_entry.ensures

pub returns : goal.returns
returns c =
    let patch = c.args.patch.now in
    let end : length patch ≤ c.loop-position.position = omega (arith, c.loop-position-test.false, c.len-position-end.ensures.len) in
    change_is c.args.tree.now patch c.loop-position.change c.len.ensures.good c.len-position-end.ensures.once
    (subst (λ (entries : PatchEntries). AreNoted c.args.tree.now entries c.loop-position.change) (take_all c.loop-position.position patch end) c.loop-position.invariant)
