use Rattle.std.proofs.Common.{◌≡◌, ◌-◌, ◌∷◌, ◌∙◌, [], ap, arith}
use Rattle.std.specs.List.{list_any}
use Rattle.resource_tree.specs.Content.{same_path}
use Rattle.resource_tree.specs.Parts.{kids_below, levels}
use Rattle.resource_tree.proofs.PartLemmas.{next_level, last_level, levels-is}
use Rattle.tree_draft.proofs.part.paths_under.Goals as goal

pub loop-preserved : goal.loop-preserved
loop-preserved c =
    let tree = c.args.draft.now.content in
    next_level tree c.requires.tree 65 c.loop.counter (levels tree 65 (c.args.path.now ∷ [])) c.loop.paths.items c.loop.level.items c.append.new.self.items c.in_ok-next.next.items c.loop-test.true
    c.loop.invariant
    c.in_ok-append.ensures.items
    (c.in_ok-next.ensures ∙ ap (kids_below tree) c.deref.ensures.value)

pub returns : goal.returns
returns c = λ q.
    let tree = c.args.draft.now.content in
    let none : 65 - c.loop.counter ≡ 0 = omega arith in
    ap (list_any (same_path q)) (last_level tree c.requires.tree 65 c.loop.counter (levels tree 65 (c.args.path.now ∷ [])) c.loop.paths.items c.loop.level.items none c.loop.invariant)
    ∙ levels-is tree c.requires.tree c.args.path.now q c.requires.there
