use Rattle.std.proofs.Common.{◌∙◌, None, sym, subst, inr}
use Rattle.url_maps.specs.Patterns.{node_of_host}
use Rattle.url_maps.specs.Search.{IsMappingOf, IsOf}
use Rattle.url_maps.specs.declared.pairs.PairKind.TheVariants.{Pattern, Alias}
use Rattle.url_maps.proofs.PairLemmas.{best_last, dot_rest, mapping_pair, none_best, none_of, slash_rest}
use Rattle.url_maps.proofs.index.MapIndex.best.Goals as goal

pub returns-then-begins_with_slash : goal.returns-then-begins_with_slash
returns-then-begins_with_slash c =
    let tree = c.args.tree.now in
    let asked = c.args.asked.now in
    let prefix = c.args.cut.now.prefix.now in
    let rest = c.args.cut.now.rest.now in
    none_best tree asked prefix rest c.requires.cut
    (mapping_pair tree asked prefix None (subst (IsMappingOf tree (node_of_host asked) prefix) c.in_default.is c.in_ok-pair.ensures))
    (subst (IsOf Pattern tree asked prefix) (sym c.in_ok-pair-2.ensures ∙ c.in_default-2.is) c.requires.pattern)
    (none_of tree asked prefix rest c.requires.cut Alias (λ e. cc) (λ e. cc) (subst (IsOf Alias tree None prefix) c.in_default-3.is c.in_ok-pair-3.ensures))
    (inr (slash_rest rest (sym c.begins_with_slash.ensures ∙ c.if-begins_with_slash.true)))

pub returns : goal.returns
returns c =
    let tree = c.args.tree.now in
    let asked = c.args.asked.now in
    let prefix = c.args.cut.now.prefix.now in
    let rest = c.args.cut.now.rest.now in
    best_last tree asked prefix rest c.requires.cut c.in_ok-vanity_path_of.field-0
    (mapping_pair tree asked prefix None (subst (IsMappingOf tree (node_of_host asked) prefix) c.in_default.is c.in_ok-pair.ensures))
    (subst (IsOf Pattern tree asked prefix) (sym c.in_ok-pair-2.ensures ∙ c.in_default-2.is) c.requires.pattern)
    (none_of tree asked prefix rest c.requires.cut Alias (λ e. cc) (λ e. cc) (subst (IsOf Alias tree None prefix) c.in_default-3.is c.in_ok-pair-3.ensures))
    (dot_rest rest c.requires.cut (sym c.begins_with_slash.ensures ∙ c.if-begins_with_slash.false))
    c.in_ok-vanity_path_of.ensures
