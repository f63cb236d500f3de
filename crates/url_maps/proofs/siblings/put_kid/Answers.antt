use Rattle.std.proofs.Common.{◌∙◌, ap, sym}
use Rattle.std.specs.Prelude.{option_copied}
use Rattle.std.specs.List.{list_any}
use Rattle.std.specs.Str.{bytes_eq}
use Rattle.resource_tree.specs.Content.{kid}
use Rattle.resource_tree.specs.Patches.{patching_at}
use Rattle.url_maps.specs.Claims.{claims_by}
use Rattle.url_maps.specs.Siblings.{path_if, names_first}
use Rattle.url_maps.proofs.SiblingLemmas.{a_path, claims_here, rows_alike, rows_none, unclaimed}
use Rattle.url_maps.proofs.siblings.put_kid.Goals as goal

pub returns-in_default : goal.returns-in_default
returns-in_default c =
    let at = patching_at c.args.tree.now c.args.patch.now in
    let q = kid c.args.sibling.now.parent.now c.args.sibling.now.name.now in
    rows_none (path_if (names_first c.args.naming) q) (claims_by at q) c.args.change.now (λ t. unclaimed at q t (sym c.in_ok-path.ensures ∙ c.in_default.is))

pub returns : goal.returns
returns c =
    let at = patching_at c.args.tree.now c.args.patch.now in
    let q = kid c.args.sibling.now.parent.now c.args.sibling.now.name.now in
    let here = sym c.in_ok-path.ensures ∙ c.in-Some.is in
    rows_alike (option_copied c.path_if.result) (path_if (names_first c.args.naming) q) (λ t. list_any (bytes_eq t) c.as_slice.result.now) (claims_by at q) c.args.change.now c.put_all.new.self
    (c.path_if.ensures ∙ ap (path_if (names_first c.args.naming)) (sym (a_path q c.in-Some.path here).0))
    (λ t. ap (list_any (bytes_eq t)) c.as_slice.ensures ∙ claims_here at q c.in-Some.path (option_copied c.node_after.result) c.in_ok-texts.texts here c.node_after.ensures c.in_ok-texts.ensures t)
    c.in_ok-put_all.ensures
