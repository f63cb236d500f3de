use Rattle.std.proofs.Common.{◌≡◌, ◌∙◌, Some, None, ap, sym}
use Rattle.std.specs.Prelude.{◌||◌}
use Rattle.std.specs.List.{list_any}
use Rattle.std.specs.Str.{bytes_eq}
use Rattle.sp_base.specs.Paths.{parent_of, path_or_none}
use Rattle.sp_base.proofs.BoolLemmas.{or_false}
use Rattle.resource_tree.specs.Content.{kid}
use Rattle.url_maps.proofs.ClaimLemmas.{pushed_any}
use Rattle.url_maps.proofs.PathLemmas.{alias_spelled, alias_unspelled}
use Rattle.url_maps.proofs.claimed.push_alias.Goals as goal

pub returns-in_default : goal.returns-in_default
returns-in_default c = λ t.
    let path = c.args.path.now in
    let alias = c.args.alias.now in
    let none : path_or_none (kid (parent_of path) alias) ≡ None = sym (sym c.in_default.is ∙ c.in_ok-named.ensures ∙ ap (λ p. path_or_none (kid p alias)) c.in_ok-parent.ensures) in
    sym (ap (λ b. list_any (bytes_eq t) c.args.claimed.now || b) (alias_unspelled path alias t c.depth.ensures.valid c.requires none) ∙ or_false (list_any (bytes_eq t) c.args.claimed.now))

pub returns : goal.returns
returns c = λ t.
    let path = c.args.path.now in
    let alias = c.args.alias.now in
    let named : path_or_none (kid (parent_of path) alias) ≡ Some c.in-Some.named = sym (sym c.in-Some.is ∙ c.in_ok-named.ensures ∙ ap (λ p. path_or_none (kid p alias)) c.in_ok-parent.ensures) in
    ap (list_any (bytes_eq t)) c.in_ok-push.ensures.ok ∙ pushed_any t c.args.claimed.now c.in_ok-of.field-0
    ∙ ap (λ b. list_any (bytes_eq t) c.args.claimed.now || b) (ap (bytes_eq t) (c.in_ok-of.ensures ∙ c.as_text.ensures) ∙ sym (alias_spelled path c.in-Some.named alias t named))
