use Rattle.std.proofs.Common.{◌∙◌, ap, sym, subst}
use Rattle.std.proofs.lemmas.Bool.{false≢true}
use Rattle.std.proofs.lemmas.List.{take_all}
use Rattle.std.proofs.lemmas.List.Folds.{list_any_at}
use Rattle.resource_tree.specs.Content.{same_path}
use Rattle.resource_tree.specs.Patches.{patching_at}
use Rattle.resource_tree.proofs.PathLemmas.{same_path_self}
use Rattle.url_maps.specs.Claims.{IsLeader}
use Rattle.url_maps.proofs.LeaderLemmas.{first_next}
use Rattle.url_maps.proofs.leaders.first_of.Goals as goal

pub loop-path-init : goal.loop-path-init
loop-path-init c =
    let p = c.index-paths-0.result in
    record { among = list_any_at (same_path p) c.args.paths.now 0 p c.requires (ap (same_path p) (sym c.index-paths-0.is) ∙ same_path_self p); first = λ other none. absurd (false≢true none) }

pub loop-path-preserved : goal.loop-path-preserved
loop-path-preserved c =
    let next = first_next (patching_at c.args.tree.now c.args.patch.now) c.loop-path.first.now c.args.paths.now c.loop-path.path-index c.path-item.result c.earlier-first.result.now c.loop-path-test.true c.path-item.is c.earlier-first.ensures
    c.loop-path.invariant.among c.loop-path.invariant.first in
    record { among = next.0; first = next.1 }

pub returns : goal.returns
returns c =
    let at = patching_at c.args.tree.now c.args.patch.now in
    record {
      among = c.loop-path.invariant.among;
      first = subst (λ ps. IsLeader at ps c.loop-path.first.now) (take_all c.loop-path.path-index c.args.paths.now c.loop-path-test.false) c.loop-path.invariant.first;
    }
