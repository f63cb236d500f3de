use Rattle.std.proofs.Common.{rules, ◌≡◌, ◌≢◌, ◌∙◌, sym, ap, Some, arith, false, true}
use Rattle.resource_tree.specs.declared.faults.TreeFault.{TreeFault}
use Rattle.resource_tree.specs.declared.faults.TreeFault.TheVariants.{NoMemory}
use Rattle.resource_tree.specs.Moves.{copy_fault}
use Rattle.resource_tree.proofs.CopyParts.{length-entries}
use Rattle.resource_tree.proofs.Copied.{is_free, too_deep, too_many}
use Rattle.tree_draft.proofs.MoveLemmas.{deep_from}
use Rattle.tree_draft.proofs.copy.part_that_fits.Goals as goal

pub paths_under-requires-clause-there : goal.paths_under-requires-clause-there
paths_under-requires-clause-there c = (is_free c.args.draft.now.content c.args.source.now c.args.target.now c.requires.free).source_there

pub returns-in_err-part-clause-err : goal.returns-in_err-part-clause-err
returns-in_err-part-clause-err c =
    let tree = c.args.draft.now.content in
    let known : c.in_err-part.field-0.0 ≢ NoMemory → copy_fault tree c.args.source.now c.args.target.now ≡ Some c.in_err-part.field-0.0 =
    λ other.
    let both = c.in_err-part.ensures.err other in
    let deep = deep_from tree c.args.source.now c.args.target.now c.in_ok-paths.paths.items c.deref.result.now true c.in_ok-paths.ensures c.deref.ensures.value both.1 in
    too_deep tree c.args.source.now c.args.target.now c.requires.free deep ∙ ap (λ (f : TreeFault). Some f) (sym both.0) in
    search rules

pub returns-then-len-saturating_sub-clause-err : goal.returns-then-len-saturating_sub-clause-err
returns-then-len-saturating_sub-clause-err c = λ _.
    let tree = c.args.draft.now.content in
    let fits = deep_from tree c.args.source.now c.args.target.now c.in_ok-paths.paths.items c.deref.result.now false c.in_ok-paths.ensures c.deref.ensures.value c.in_ok-part.ensures.fits in
    let entries = length-entries c.args.source.now c.args.target.now tree c.in_ok-part.part.entries c.requires.sound.good.ordered c.in_ok-part.ensures.once c.in_ok-part.ensures.ok in
    let size = c.requires.sound.good.size in
    let test = c.if-len-saturating_sub.true in
    let k = c.len.ensures.len in
    let n = c.len-2.ensures in
    let left = c.saturating_sub.ensures in
    too_many tree c.args.source.now c.args.target.now c.requires.free fits (omega (arith, entries, size, test, n, k, left))

pub returns-clause-shallow : goal.returns-clause-shallow
returns-clause-shallow c = deep_from c.args.draft.now.content c.args.source.now c.args.target.now c.in_ok-paths.paths.items c.deref.result.now false c.in_ok-paths.ensures c.deref.ensures.value c.in_ok-part.ensures.fits

pub returns-clause-small : goal.returns-clause-small
returns-clause-small c =
    let tree = c.args.draft.now.content in
    let entries = length-entries c.args.source.now c.args.target.now tree c.in_ok-part.part.entries c.requires.sound.good.ordered c.in_ok-part.ensures.once c.in_ok-part.ensures.ok in
    let size = c.requires.sound.good.size in
    let test = c.if-len-saturating_sub.false in
    let k = c.len.ensures.len in
    let n = c.len-2.ensures in
    let left = c.saturating_sub.ensures in
    omega (arith, entries, size, test, n, k, left)
