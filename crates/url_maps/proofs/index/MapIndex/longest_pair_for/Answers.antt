use Rattle.std.proofs.Common.{◌≡◌, ◌∙◌, ◌-◌, ℕ, List, Some, None, ap, length, subst, sym}
use Rattle.sp_base.specs.Paths.{path_or_none}
use Rattle.resource_tree.specs.Content.{kid}
use Rattle.url_maps.specs.Claims.{Index}
use Rattle.url_maps.specs.Patterns.{mappings_path}
use Rattle.url_maps.specs.declared.pairs.PairKind.TheVariants.{Pattern}
use Rattle.url_maps.specs.Found.{IsFirstFront, IsLongestPair}
use Rattle.url_maps.specs.Search.{IsMappingPair}
use Rattle.url_maps.proofs.FrontLemmas.{found_pair, no_pair, no_such_node, no_such_pair, no_such_path, of_index}
use Rattle.url_maps.proofs.index.MapIndex.longest_pair_for.Goals as goal

pub returns-in_default : goal.returns-in_default
returns-in_default c =
    let asked = c.args.asked.now in
    let rows = c.args.self.now.patterns in
    let same : c.as_slice-rows.result.now ≡ rows = c.as_slice-rows.ensures ∙ ap (λ (i : Index). i.patterns) c.self.view_is in
    no_pair c.args.tree.now c.len.ensures.good.shape rows c.requires.patterns asked
    (of_index c.as_slice-rows.result.now rows c.whole.result.now c.from.result asked None same c.whole.ensures c.from.ensures
    (subst (IsFirstFront c.as_slice-rows.result.now c.whole.result.now c.from.result (length c.as_slice-rows.result.now)) c.in_default.is c.in_ok-best.ensures))

pub returns-in_default-2 : goal.returns-in_default-2
returns-in_default-2 c =
    let asked = c.args.asked.now in
    let rows = c.args.self.now.patterns in
    let best = c.in-Some.best in
    let same : c.as_slice-rows.result.now ≡ rows = c.as_slice-rows.ensures ∙ ap (λ (i : Index). i.patterns) c.self.view_is in
    let first =
    of_index c.as_slice-rows.result.now rows c.whole.result.now c.from.result asked (Some best) same c.whole.ensures c.from.ensures
    (subst (IsFirstFront c.as_slice-rows.result.now c.whole.result.now c.from.result (length c.as_slice-rows.result.now)) c.in-Some.is c.in_ok-best.ensures)
    in
    let named : path_or_none (kid mappings_path best.row.now.name) ≡ None =
    ap (λ (n : List ℕ). path_or_none (kid mappings_path n)) (sym c.text-name.ensures) ∙ ap (λ (p : List (List ℕ)). path_or_none (kid p c.text-name.result.now)) (sym c.in_ok-mappings_path.ensures) ∙ sym c.in_ok-path.ensures ∙ c.in_default-2.is
    in
    absurd (no_such_path c.args.tree.now c.len.ensures.good.shape rows c.requires.patterns asked best first named)

pub returns-in_default-node : goal.returns-in_default-node
returns-in_default-node c =
    let asked = c.args.asked.now in
    let rows = c.args.self.now.patterns in
    let best = c.in-Some.best in
    let path = c.in-Some-2.path in
    let same : c.as_slice-rows.result.now ≡ rows = c.as_slice-rows.ensures ∙ ap (λ (i : Index). i.patterns) c.self.view_is in
    let first =
    of_index c.as_slice-rows.result.now rows c.whole.result.now c.from.result asked (Some best) same c.whole.ensures c.from.ensures
    (subst (IsFirstFront c.as_slice-rows.result.now c.whole.result.now c.from.result (length c.as_slice-rows.result.now)) c.in-Some.is c.in_ok-best.ensures)
    in
    let named : path_or_none (kid mappings_path best.row.now.name) ≡ Some path =
    ap (λ (n : List ℕ). path_or_none (kid mappings_path n)) (sym c.text-name.ensures) ∙ ap (λ (p : List (List ℕ)). path_or_none (kid p c.text-name.result.now)) (sym c.in_ok-mappings_path.ensures) ∙ sym c.in_ok-path.ensures ∙ c.in-Some-2.is
    in
    absurd (no_such_node c.args.tree.now c.len.ensures.good.shape rows c.requires.patterns asked best first path named (sym c.in_default-node.ensures))

pub returns-in_default-3 : goal.returns-in_default-3
returns-in_default-3 c =
    let asked = c.args.asked.now in
    let rows = c.args.self.now.patterns in
    let best = c.in-Some.best in
    let path = c.in-Some-2.path in
    let node = c.in-Some-node.node.now in
    let same : c.as_slice-rows.result.now ≡ rows = c.as_slice-rows.ensures ∙ ap (λ (i : Index). i.patterns) c.self.view_is in
    let first =
    of_index c.as_slice-rows.result.now rows c.whole.result.now c.from.result asked (Some best) same c.whole.ensures c.from.ensures
    (subst (IsFirstFront c.as_slice-rows.result.now c.whole.result.now c.from.result (length c.as_slice-rows.result.now)) c.in-Some.is c.in_ok-best.ensures)
    in
    let named : path_or_none (kid mappings_path best.row.now.name) ≡ Some path =
    ap (λ (n : List ℕ). path_or_none (kid mappings_path n)) (sym c.text-name.ensures) ∙ ap (λ (p : List (List ℕ)). path_or_none (kid p c.text-name.result.now)) (sym c.in_ok-mappings_path.ensures) ∙ sym c.in_ok-path.ensures ∙ c.in-Some-2.is
    in
    absurd (no_such_pair c.args.tree.now c.len.ensures.good.shape rows c.requires.patterns asked best first path node named (sym c.in-Some-node.ensures) (subst (IsMappingPair node) c.in_default-3.is c.in_ok-pair.ensures))

pub returns : goal.returns
returns c =
    let tree = c.args.tree.now in
    let asked = c.args.asked.now in
    let rows = c.args.self.now.patterns in
    let best = c.in-Some.best in
    let path = c.in-Some-2.path in
    let node = c.in-Some-node.node.now in
    let pair = c.in-Some-3.pair in
    let same : c.as_slice-rows.result.now ≡ rows = c.as_slice-rows.ensures ∙ ap (λ (i : Index). i.patterns) c.self.view_is in
    let first =
    of_index c.as_slice-rows.result.now rows c.whole.result.now c.from.result asked (Some best) same c.whole.ensures c.from.ensures
    (subst (IsFirstFront c.as_slice-rows.result.now c.whole.result.now c.from.result (length c.as_slice-rows.result.now)) c.in-Some.is c.in_ok-best.ensures)
    in
    let named : path_or_none (kid mappings_path best.row.now.name) ≡ Some path =
    ap (λ (n : List ℕ). path_or_none (kid mappings_path n)) (sym c.text-name.ensures) ∙ ap (λ (p : List (List ℕ)). path_or_none (kid p c.text-name.result.now)) (sym c.in_ok-mappings_path.ensures) ∙ sym c.in_ok-path.ensures ∙ c.in-Some-2.is
    in
    subst (λ (n : ℕ). IsLongestPair tree (Some asked) asked.text (Some (record { at = best.at - n; pair = record { kind = Pattern; target = pair.target; away = pair.away } }))) (sym c.from-2.ensures)
    (found_pair tree c.len.ensures.good.shape rows c.requires.patterns asked best first path node pair named (sym c.in-Some-node.ensures) (subst (IsMappingPair node) c.in-Some-3.is c.in_ok-pair.ensures))
