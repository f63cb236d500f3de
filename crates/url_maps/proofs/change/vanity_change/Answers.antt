use Rattle.std.proofs.Common.{◌≤◌, length, sym, subst, arith}
use Rattle.std.proofs.lemmas.List.{take_all}
use Rattle.resource_tree.specs.Patches.{PatchEntries}
use Rattle.url_maps.specs.Claims.{claims_vanity_path}
use Rattle.url_maps.specs.Changes.{patched_vanity_path}
use Rattle.url_maps.specs.Noting.{left_vanity_path}
use Rattle.url_maps.proofs.ChangeLemmas.{AreNoted, after_vanity_path, changed_by, leaves_others, noted_next}
use Rattle.url_maps.proofs.change.vanity_change.Goals as goal

pub loop-place-preserved : goal.loop-place-preserved
loop-place-preserved c =
    noted_next c.args.index.now.vanity_paths.rows c.args.patch.now (claims_vanity_path c.args.tree.now) left_vanity_path c.loop-place.place c.in-Some.path.now c.in-Some.row.now c.loop-place.change c.note_row.new.change (sym c.in-Some.ensures)
    c.loop-place.invariant c.in_ok-note_row.ensures

pub returns-clause-others : goal.returns-clause-others
returns-clause-others c =
    let tree = c.args.tree.now in
    let patch = c.args.patch.now in
    let end : length patch ≤ c.loop-place.place = omega (arith, c.loop-place-test.false, c.len-place-end.ensures.len) in
    leaves_others c.args.index.now.vanity_paths.rows tree patch c.loop-place.change
    (subst (λ (done : PatchEntries). AreNoted c.args.index.now.vanity_paths.rows patch (claims_vanity_path tree) left_vanity_path done c.loop-place.change) (take_all c.loop-place.place patch end) c.loop-place.invariant)

pub returns-clause-changed : goal.returns-clause-changed
returns-clause-changed c =
    let tree = c.args.tree.now in
    let patch = c.args.patch.now in
    let end : length patch ≤ c.loop-place.place = omega (arith, c.loop-place-test.false, c.len-place-end.ensures.len) in
    changed_by c.args.index.now.vanity_paths.rows patch (claims_vanity_path tree) (patched_vanity_path tree patch) left_vanity_path c.loop-place.change c.requires.vanity_paths c.len-place-end.ensures.once
    (subst (λ (done : PatchEntries). AreNoted c.args.index.now.vanity_paths.rows patch (claims_vanity_path tree) left_vanity_path done c.loop-place.change) (take_all c.loop-place.place patch end) c.loop-place.invariant) (after_vanity_path tree patch)
