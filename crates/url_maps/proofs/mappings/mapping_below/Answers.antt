use Rattle.std.proofs.Common.{◌∙◌, Some, sym, subst}
use Rattle.std.proofs.lemmas.Bool.{true≢false}
use Rattle.url_maps.specs.Search.{IsMappingPair}
use Rattle.url_maps.proofs.MappingLemmas.{no_node_pair, no_path_pair, no_plain_pair, no_target_pair, pair_at_node}
use Rattle.url_maps.proofs.mappings.mapping_below.Goals as goal

pub returns-in_default : goal.returns-in_default
returns-in_default c = no_path_pair c.a_path_and_its_text.ensures.read c.args.tree.now c.len.ensures.good.shape c.args.host_node.now c.args.prefix.now (sym c.in_ok-path.ensures ∙ c.in_default.is)

pub returns-in_default-node : goal.returns-in_default-node
returns-in_default-node c = no_node_pair c.a_path_and_its_text.ensures.read c.args.tree.now c.len.ensures.good.shape c.args.host_node.now c.args.prefix.now c.in-Some.path (sym c.in_ok-path.ensures ∙ c.in-Some.is) (sym c.in_default-node.ensures)

pub returns-in_default-2 : goal.returns-in_default-2
returns-in_default-2 c =
    no_target_pair c.a_path_and_its_text.ensures.read c.args.tree.now c.len.ensures.good.shape c.args.host_node.now c.args.prefix.now c.in-Some.path c.in-Some-node.node.now (sym c.in_ok-path.ensures ∙ c.in-Some.is) (sym c.in-Some-node.ensures)
    (subst (IsMappingPair c.in-Some-node.node.now) c.in_default-2.is c.in_ok-pair.ensures)

pub returns-then-not-branch : goal.returns-then-not-branch
returns-then-not-branch c =
    no_plain_pair c.a_path_and_its_text.ensures.read c.args.tree.now c.len.ensures.good.shape c.args.host_node.now c.args.prefix.now c.in-Some.path (sym c.in_ok-path.ensures ∙ c.in-Some.is)
    (λ plain. true≢false (sym (c.in_ok-is_plain.ensures.1 plain) ∙ c.if-not-branch.true))

pub returns : goal.returns
returns c =
    pair_at_node c.a_path_and_its_text.ensures.read c.a_path_and_its_text.ensures.spelled c.args.tree.now c.len.ensures.good.shape c.args.host_node.now c.args.prefix.now c.in-Some.path c.in-Some-node.node.now (Some c.in-Some-2.pair)
    (sym c.in_ok-path.ensures ∙ c.in-Some.is) (sym c.in-Some-node.ensures) (c.in_ok-is_plain.ensures.0 c.if-not-branch.false) (subst (IsMappingPair c.in-Some-node.node.now) c.in-Some-2.is c.in_ok-pair.ensures)
