use Rattle.std.proofs.Common.{◌≡◌, ◌∙◌, ℕ, List, Some, None, ap, subst, sym}
use Rattle.std.proofs.lemmas.List.{take_all}
use Rattle.resource_tree.specs.Patches.{patching_at}
use Rattle.url_maps.specs.Patterns.{mappings_path}
use Rattle.url_maps.specs.declared.patterns.PatternNode.{PatternNode}
use Rattle.url_maps.specs.PatternRows.{AddsPattern, ArePatterns, AreRowsOfNames}
use Rattle.url_maps.proofs.RowLemmas.{all_names, more_names, no_names, no_parent}
use Rattle.url_maps.proofs.patterns.patterns_of.Goals as goal

pub returns-in_default : goal.returns-in_default
returns-in_default c =
    let at = patching_at c.args.tree.now c.args.patch.now in
    let none : at mappings_path ≡ None = ap at (sym c.in_ok-parent.ensures) ∙ sym c.in_default.ensures in
    subst (λ (rows : List PatternNode). ArePatterns at rows) (sym c.new-patterns.ensures) (no_parent at none)

pub loop-name-init : goal.loop-name-init
loop-name-init c =
    let at = patching_at c.args.tree.now c.args.patch.now in
    subst (λ (rows : List PatternNode). AreRowsOfNames at _ rows) (sym c.new-patterns.ensures) (no_names at)

pub loop-name-preserved : goal.loop-name-preserved
loop-name-preserved c =
    let at = patching_at c.args.tree.now c.args.patch.now in
    more_names at c.as_slice-names.result.now c.loop-name.name-index c.name-item.result c.loop-name.patterns c.push_pattern.new.patterns c.loop-name-test.true c.name-item.is c.loop-name.invariant
    (subst (λ (word : List ℕ). AddsPattern at word c.loop-name.patterns c.push_pattern.new.patterns) c.text.ensures c.in_ok-push_pattern.ensures)

pub returns : goal.returns
returns c =
    let at = patching_at c.args.tree.now c.args.patch.now in
    let there : at mappings_path ≡ Some c.in-Some.node.now = ap at (sym c.in_ok-parent.ensures) ∙ sym c.in-Some.ensures in
    all_names at c.in-Some.node.now c.as_slice-names.result.now c.loop-name.patterns there c.as_slice-names.ensures
    (subst (λ (ks : List (List ℕ)). AreRowsOfNames at ks c.loop-name.patterns) (take_all c.loop-name.name-index c.as_slice-names.result.now c.loop-name-test.false) c.loop-name.invariant)
