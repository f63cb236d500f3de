use Rattle.std.proofs.Common.{rules, ◌≡◌, ◌≢◌, ◌∙◌, sym, ap, subst, Some, true, false}
use Rattle.std.specs.Prelude.{is_some}
use Rattle.resource_tree.specs.declared.faults.TreeFault.{TreeFault}
use Rattle.resource_tree.specs.declared.faults.TreeFault.TheVariants.{NoMemory}
use Rattle.resource_tree.specs.Content.{Content, name_of, node_at}
use Rattle.resource_tree.specs.Changes.{removal, change_at, with_kid}
use Rattle.resource_tree.specs.Patches.{patching}
use Rattle.resource_tree.specs.Moves.{move_fault}
use Rattle.resource_tree.proofs.Relocated.{may_go, allowed, too_deep, IsGood-relocation}
use Rattle.tree_draft.proofs.DraftLemmas.{IsOrdered}
use Rattle.tree_draft.proofs.MoveLemmas.{deep_from, fixed_not, part_put, parent_stays}
use Rattle.tree_draft.proofs.draft.Draft.move_part.Goals as goal

pub remove_part-requires-clause-fixed : goal.remove_part-requires-clause-fixed
remove_part-requires-clause-fixed c = fixed_not c.args.self.now.content c.args.source.now c.args.target.now c.requires.free

pub put_part-requires : goal.put_part-requires
put_part-requires c =
    ap (λ p. is_some (node_at c.remove_part.new.self.content p)) c.requires.parent
    ∙ parent_stays c.args.self.now.content c.remove_part.new.self.content c.args.source.now c.args.target.now (may_go c.args.self.now.content c.args.source.now c.args.target.now c.requires.free) c.in_ok-remove_part.ensures.ok

pub returns-in_err-part-clause-err : goal.returns-in_err-part-clause-err
returns-in_err-part-clause-err c =
    let tree = c.args.self.now.content in
    let known : c.in_err-part.field-0.0 ≢ NoMemory → move_fault tree c.args.source.now c.args.target.now ≡ Some c.in_err-part.field-0.0 =
    λ other.
    let both = c.in_err-part.ensures.err other in
    let deep = deep_from tree c.args.source.now c.args.target.now c.in_ok-paths.paths.items c.deref.result.now true c.in_ok-paths.ensures c.deref.ensures.value both.1 in
    too_deep tree c.args.source.now c.args.target.now c.requires.free deep ∙ ap (λ (f : TreeFault). Some f) (sym both.0) in
    search rules

pub returns-clause-ok : goal.returns-clause-ok
returns-clause-ok c =
    let tree = c.args.self.now.content in
    part_put tree (removal tree c.args.source.now) c.put_part.new.self.content c.args.source.now c.args.target.now c.args.parent.now c.in_ok-part.part.entries
    c.requires.sound.good.ordered
    (subst (λ (t : Content). IsOrdered t) c.in_ok-remove_part.ensures.ok c.in_ok-remove_part.ensures.follows.sound.good.ordered)
    c.in_ok-part.ensures.once
    c.in_ok-part.ensures.ok
    c.requires.parent
    (c.in_ok-put_part.ensures.content ∙ ap (λ (t : Content). patching (change_at t c.args.parent.now (with_kid (name_of c.args.target.now))) c.in_ok-part.part.entries) c.in_ok-remove_part.ensures.ok)

pub returns-clause-allowed : goal.returns-clause-allowed
returns-clause-allowed c =
    let tree = c.args.self.now.content in
    let fits = deep_from tree c.args.source.now c.args.target.now c.in_ok-paths.paths.items c.deref.result.now false c.in_ok-paths.ensures c.deref.ensures.value c.in_ok-part.ensures.fits in
    allowed tree c.args.source.now c.args.target.now c.requires.free fits

pub returns-clause-follows : goal.returns-clause-follows
returns-clause-follows c =
    let tree = c.args.self.now.content in
    let can = may_go tree c.args.source.now c.args.target.now c.requires.free in
    let fits = deep_from tree c.args.source.now c.args.target.now c.in_ok-paths.paths.items c.deref.result.now false c.in_ok-paths.ensures c.deref.ensures.value c.in_ok-part.ensures.fits in
    record {
      sound = record {
        good = IsGood-relocation tree c.args.source.now c.args.target.now c.requires.sound.good can fits c.put_part.new.self.content (returns-clause-ok c);
        counted = c.in_ok-put_part.ensures.counted c.in_ok-remove_part.ensures.follows.sound.counted;
      };
      tree = c.in_ok-put_part.ensures.tree ∙ c.in_ok-remove_part.ensures.follows.tree;
    }
