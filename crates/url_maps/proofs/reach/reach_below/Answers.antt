use Rattle.std.proofs.Common.{◌∙◌, Some, ap, sym, subst, length, rules, tests}
use Rattle.sp_base.specs.Paths.{text_of}
use Rattle.sp_base.proofs.PathTests.{path_from_path_in}
use Rattle.url_maps.specs.Search.{HasNoMappingBeyond}
use Rattle.url_maps.proofs.ReachLemmas.{none_barred, none_beyond}
use Rattle.url_maps.proofs.reach.reach_below.Goals as goal

pub returns : goal.returns
returns c =
    let tree = c.args.tree.now in
    let host_node = c.args.host_node.now in
    let text = c.args.text.now in
    let path = c.in-Some.path in
    let read = path_from_path_in text path (sym c.in-Some.is ∙ c.in_ok-path.ensures) in
    subst (λ n. HasNoMappingBeyond tree (Some host_node) text n) (ap (λ p. length (text_of p)) (sym c.in_ok-reached.ensures) ∙ ap length (sym c.as_text.ensures))
    (none_beyond tree c.len.ensures.good.shape c.a_path_and_its_text.ensures.read c.the_prefixes_of_a_path.ensures.parent c.the_prefixes_of_a_path.ensures.within host_node path text c.in_ok-depth.depth
    (c.a_path_and_its_text.ensures.valid text path read) (c.a_path_and_its_text.ensures.spelled text path read) c.in_ok-depth.ensures)

pub returns-then-not-is_plain_node : goal.returns-then-not-is_plain_node
returns-then-not-is_plain_node c = none_barred c.args.tree.now c.len.ensures.good.shape c.args.host_node.now c.args.text.now (search (rules, tests))
