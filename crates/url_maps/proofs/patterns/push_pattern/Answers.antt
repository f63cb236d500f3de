use Rattle.std.proofs.Common.{◌≡◌, ◌∙◌, ℕ, List, ap, subst, sym}
use Rattle.sp_base.specs.Paths.{path_or_none}
use Rattle.resource_tree.specs.Content.{kid}
use Rattle.resource_tree.specs.Patches.{patching_at}
use Rattle.url_maps.specs.Patterns.{mappings_path}
use Rattle.url_maps.specs.PatternRows.{IsRowOrNone}
use Rattle.url_maps.proofs.MappingLemmas.{some_path}
use Rattle.url_maps.proofs.RowLemmas.{adds_no_row, adds_row}
use Rattle.url_maps.proofs.patterns.push_pattern.Goals as goal

pub returns-in_default-2 : goal.returns-in_default-2
returns-in_default-2 c =
    let at = patching_at c.args.tree.now c.args.patch.now in
    let path : c.in-Some.path ≡ kid mappings_path c.args.name.now =
    some_path c.in-Some.path (kid mappings_path c.args.name.now) (ap (λ (p : List (List ℕ)). path_or_none (kid p c.args.name.now)) (sym c.requires) ∙ sym c.in_ok-path.ensures ∙ c.in-Some.is) in
    adds_no_row at c.args.name.now c.args.patterns.now c.in-Some-node_after.node.now (ap at (sym path) ∙ sym c.in-Some-node_after.ensures)
    (subst (IsRowOrNone c.args.name.now c.in-Some-node_after.node.now) c.in_default-2.is c.in_ok-row.ensures)

pub returns : goal.returns
returns c =
    let at = patching_at c.args.tree.now c.args.patch.now in
    let path : c.in-Some.path ≡ kid mappings_path c.args.name.now =
    some_path c.in-Some.path (kid mappings_path c.args.name.now) (ap (λ (p : List (List ℕ)). path_or_none (kid p c.args.name.now)) (sym c.requires) ∙ sym c.in_ok-path.ensures ∙ c.in-Some.is) in
    adds_row at c.args.name.now c.args.patterns.now c.push.new.self c.in-Some-node_after.node.now c.in-Some-2.row (ap at (sym path) ∙ sym c.in-Some-node_after.ensures)
    (subst (IsRowOrNone c.args.name.now c.in-Some-node_after.node.now) c.in-Some-2.is c.in_ok-row.ensures) c.in_ok-push.ensures.ok
