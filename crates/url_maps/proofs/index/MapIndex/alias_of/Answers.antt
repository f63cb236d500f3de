use Rattle.std.proofs.Common.{◌≡◌, ◌∙◌, List, ℕ, None, Some, ap, sym, subst}
use Rattle.std.specs.Prelude.{slice_get}
use Rattle.url_maps.specs.Claims.{claimants}
use Rattle.url_maps.specs.Search.{IsOf}
use Rattle.url_maps.specs.declared.pairs.PairKind.TheVariants.{Alias}
use Rattle.url_maps.proofs.SiblingLemmas.{alias_in_row, no_alias_at_node, no_alias_in_row}
use Rattle.url_maps.proofs.index.MapIndex.alias_of.Goals as goal

pub returns-in_default : goal.returns-in_default
returns-in_default c =
    let are : c.get.result.now ≡ claimants c.args.self.now.aliases.rows c.args.prefix.now = c.get.ensures ∙ ap (λ i. claimants i.aliases.rows c.args.prefix.now) c.self.view_is in
    no_alias_in_row c.a_path_and_its_text.ensures.read c.args.tree.now c.len.ensures.good.shape c.a_path_and_its_text.ensures.spelled c.a_path_and_its_text.ensures.valid c.args.self.now.aliases.rows c.args.prefix.now c.requires.aliases
    (sym (c.in_default.ensures.value ∙ ap (λ l. slice_get l 0) are))

pub returns-then-not-branch : goal.returns-then-not-branch
returns-then-not-branch c =
    no_alias_at_node c.a_path_and_its_text.ensures.read c.args.tree.now c.len.ensures.good.shape c.a_path_and_its_text.ensures.spelled c.a_path_and_its_text.ensures.valid c.args.self.now.aliases.rows c.args.prefix.now c.requires.aliases
    (sym c.in_ok-is_free.ensures ∙ c.if-not-branch.true)

pub returns : goal.returns
returns c =
    let are : c.get.result.now ≡ claimants c.args.self.now.aliases.rows c.args.prefix.now = c.get.ensures ∙ ap (λ i. claimants i.aliases.rows c.args.prefix.now) c.self.view_is in
    subst (λ (t : List ℕ). IsOf Alias c.args.tree.now None c.args.prefix.now (Some (record { kind = Alias; target = t; away = None }))) (sym c.in_ok-text.ensures)
    (alias_in_row c.a_path_and_its_text.ensures.read c.args.tree.now c.len.ensures.good.shape c.a_path_and_its_text.ensures.spelled c.a_path_and_its_text.ensures.valid c.args.self.now.aliases.rows c.args.prefix.now c.requires.aliases
    c.in-Some.first.now (sym c.in_ok-is_free.ensures ∙ c.if-not-branch.false) (sym (c.in-Some.ensures.value ∙ ap (λ l. slice_get l 0) are)))
