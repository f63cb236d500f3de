use Rattle.std.proofs.Common.{◌∙◌, ap, sym, subst}
use Rattle.std.specs.List.{list_any}
use Rattle.resource_tree.specs.Content.{parent_of, same_path}
use Rattle.url_maps.specs.Siblings.{IsWithin}
use Rattle.url_maps.proofs.SharedLemmas.{few, last_among, others_among, several}
use Rattle.url_maps.proofs.claims.push_shared.Goals as goal

pub returns-then-paths-lt2-clause-shared : goal.returns-then-paths-lt2-clause-shared
returns-then-paths-lt2-clause-shared c = few c.args.parents.now c.args.paths.now c.if-paths-lt2.true

pub returns-clause-shared : goal.returns-clause-shared
returns-clause-shared c =
    several c.push.new.self c.args.paths.now _
    (ap (λ r. list_any (same_path r) c.push.new.self) (ap parent_of (sym c.index-paths-0.is) ∙ sym c.in_ok-parent.ensures)
    ∙ ap (list_any (same_path c.in_ok-parent.field-0)) c.in_ok-push.ensures.ok ∙ last_among c.args.parents.now c.in_ok-parent.field-0)

pub returns-clause-within : goal.returns-clause-within
returns-clause-within c = subst (IsWithin c.args.parents.now) (sym c.in_ok-push.ensures.ok) (others_among c.args.parents.now c.in_ok-parent.field-0)
