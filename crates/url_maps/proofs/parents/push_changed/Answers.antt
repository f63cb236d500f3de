use Rattle.std.proofs.Common.{◌∙◌, ap, sym}
use Rattle.std.specs.Prelude.{◌||◌, ◌&&◌, not}
use Rattle.std.specs.List.{list_any}
use Rattle.resource_tree.specs.Content.{same_path}
use Rattle.url_maps.specs.Siblings.{alias_words, kids_if, aliased_kids}
use Rattle.url_maps.proofs.ParentLemmas.{pushed_within, settled_row}
use Rattle.url_maps.proofs.parents.push_changed.Goals as goal

pub returns-clause-settled : goal.returns-clause-settled
returns-clause-settled c =
    let stay = c.in_ok-kids_stay.kids_stay in
    let stay_too = c.are_same-aliases_stay.result in
    let old = c.args.parents.now in
    let mid = c.push_unless.new.paths in
    settled_row c.args.tree.now c.args.path.now c.args.row.now stay stay_too old mid c.push_unless-2.new.paths
    (λ e. ap (λ o. aliased_kids c.args.tree.now c.args.path.now (kids_if o)) (sym c.node-old.ensures) ∙ ap (aliased_kids c.args.tree.now c.args.path.now) (sym c.kids_if.ensures) ∙ c.in_ok-kids_stay.ensures e
    ∙ ap (aliased_kids c.args.tree.now c.args.path.now) c.kids_if-2.ensures ∙ ap (λ o. aliased_kids c.args.tree.now c.args.path.now (kids_if o)) c.left_by-new.ensures)
    (λ e. ap alias_words (sym c.node-old.ensures) ∙ sym c.alias_words.ensures ∙ c.are_same-aliases_stay.ensures e ∙ c.alias_words-2.ensures ∙ ap alias_words c.left_by-new.ensures)
    (λ q. c.in_ok-push_unless.ensures q ∙ ap (λ p. list_any (same_path q) old || (not stay && same_path q p)) c.in_ok-duplicate.ensures)
    (λ q. c.in_ok-push_unless-2.ensures q ∙ ap (λ p. list_any (same_path q) mid || (not stay_too && same_path q p)) c.in_ok-parent.ensures)

pub returns-clause-within : goal.returns-clause-within
returns-clause-within c =
    pushed_within c.args.parents.now c.push_unless.new.paths c.push_unless-2.new.paths (λ q. not c.in_ok-kids_stay.kids_stay && same_path q c.in_ok-duplicate.field-0) (λ q. not c.are_same-aliases_stay.result && same_path q c.in_ok-parent.field-0)
    c.in_ok-push_unless.ensures c.in_ok-push_unless-2.ensures
