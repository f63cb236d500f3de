use Rattle.std.proofs.Common.{◌∙◌, ℕ, List, ap}
use Rattle.std.specs.Prelude.{◌||◌, ◌&&◌, not}
use Rattle.std.specs.List.{list_any}
use Rattle.std.specs.Str.{bytes_eq}
use Rattle.std.proofs.lemmas.List.{take_all}
use Rattle.resource_tree.specs.Content.{same_path}
use Rattle.url_maps.specs.Noting.{has_row}
use Rattle.url_maps.proofs.ParentLemmas.{once_more, once_none}
use Rattle.url_maps.proofs.parents.each_once.Goals as goal

pub loop-path-init : goal.loop-path-init
loop-path-init c = once_none _ _ c.new-list.ensures c.new-known.ensures

pub loop-path-preserved : goal.loop-path-preserved
loop-path-preserved c =
    let known = c.loop-path.known in
    let list = c.loop-path.list in
    once_more c.a_path_and_its_text.ensures.read c.args.paths.now c.loop-path.path-index c.path-item.result c.in_ok-is_known.is_known list c.push_unless.new.paths known c.put_empty_row.new.self c.loop-path-test.true c.path-item.is c.depth.ensures.valid c.loop-path.invariant
    (c.in_ok-is_known.ensures.value ∙ ap (has_row known) c.as_text.ensures)
    (λ t. c.in_ok-is_known.ensures.rest t ∙ ap (λ (x : List ℕ). has_row known t || bytes_eq x t) c.as_text.ensures)
    (λ q. c.in_ok-push_unless.ensures q ∙ ap (λ p. list_any (same_path q) list || (not c.in_ok-is_known.is_known && same_path q p)) c.in_ok-duplicate.ensures)

pub returns : goal.returns
returns c = λ q. c.loop-path.invariant.listed q ∙ ap (list_any (same_path q)) (take_all c.loop-path.path-index c.args.paths.now c.loop-path-test.false)
