use Rattle.std.proofs.Common.{rules, ◌≡◌, ◌≢◌, ◌∙◌, ℕ, Bool, List, true, not, sym, ap, refl, take, map, cond, length, arith, None}
use Rattle.std.specs.Prelude.{option_map, unwrap_or}
use Rattle.std.specs.List.{list_any}
use Rattle.std.proofs.Math.Seq.{take-length}
use Rattle.std.proofs.lemmas.List.Folds.{list_any_at}
use Rattle.sp_base.specs.Paths.{is_path}
use Rattle.resource_tree.specs.declared.faults.TreeFault.TheVariants.{NoMemory, TooDeep}
use Rattle.resource_tree.specs.declared.patch.PatchNode.TheVariants as patch_node
use Rattle.resource_tree.specs.Content.{same_path, node_at, empty_node}
use Rattle.resource_tree.specs.Moves.{path_there}
use Rattle.resource_tree.proofs.Creation.{some_from}
use Rattle.resource_tree.proofs.PartThere.{is_there, put_there, fits_too, all_there}
use Rattle.tree_draft.proofs.copy.part_there.Goals as goal

pub loop-path-preserved : goal.loop-path-preserved
loop-path-preserved c =
    let content = c.args.draft.now.content in
    let path = c.path-item.result in
    let there_ = is_there content c.args.source.now c.args.target.now c.args.paths.now c.requires.all c.loop-path.path-index path c.loop-path-test.true c.path-item.is in
    let was = some_from (node_at content path) empty_node there_ in
    let node = unwrap_or (node_at content path) empty_node in (
      λ q. put_there content c.args.source.now c.args.target.now c.args.paths.now c.requires.all c.loop-path.path-index path c.loop-path-test.true c.path-item.is c.loop-path.part.entries c.put_copy.new.part.entries
          (path_there c.args.source.now c.args.target.now path) node q refl was (c.loop-path.invariant.0 q) (c.in_ok-put_copy.ensures.ok node was),
      fits_too content c.args.source.now c.args.target.now c.args.paths.now c.requires.all c.loop-path.path-index path c.loop-path-test.true c.path-item.is
          (λ p. not (is_path (path_there c.args.source.now c.args.target.now p))) c.loop-path.invariant.1 (ap not c.in_ok-put_copy.ensures.fits),
      c.in_ok-put_copy.ensures.once c.loop-path.invariant.2,
    )

pub returns-clause-ok : goal.returns-clause-ok
returns-clause-ok c = λ q.
    let at_end : c.loop-path.path-index ≡ length c.args.paths.now = omega arith in
    let all : take c.loop-path.path-index c.args.paths.now ≡ c.args.paths.now = ap (λ i. take i c.args.paths.now) at_end ∙ take-length c.args.paths.now in
    c.loop-path.invariant.0 q
    ∙ ap (λ l. cond (list_any (same_path q) (map (path_there c.args.source.now c.args.target.now) l)) (option_map patch_node.Node (node_at c.args.draft.now.content (path_there c.args.target.now c.args.source.now q))) None) all
    ∙ all_there c.args.draft.now.content c.args.source.now c.args.target.now q c.args.paths.now c.requires.all

pub returns-in_err-put_copy-clause-err : goal.returns-in_err-put_copy-clause-err
returns-in_err-put_copy-clause-err c =
    let test : List (List ℕ) → Bool = λ p. not (is_path (path_there c.args.source.now c.args.target.now p)) in
    let known : c.in_err-put_copy.field-0.0 ≢ NoMemory → (c.in_err-put_copy.field-0.0 ≡ TooDeep) × (list_any test c.args.paths.now ≡ true) =
    λ other.
    let both = c.in_err-put_copy.ensures.err other in
    (both.0, list_any_at test c.args.paths.now c.loop-path.path-index c.path-item.result c.loop-path-test.true (ap test (sym c.path-item.is) ∙ ap not both.1)) in
    search rules
