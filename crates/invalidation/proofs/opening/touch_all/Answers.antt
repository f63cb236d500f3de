use Rattle.std.proofs.Common.{◌+◌, ◌∷◌, [], sym, ◌∙◌, arith, length}
use Rattle.invalidation.specs.Walks.{AreTouched, TouchedTo, Touches}
use Rattle.invalidation.proofs.Chains.{Relation, told_as, told_both, told_then}
use Rattle.invalidation.proofs.Touching.{touched_all, touched_more, touched_stopped}
use Rattle.invalidation.proofs.opening.touch_all.Goals as goal

pub loop-folder-preserved : goal.loop-folder-preserved
loop-folder-preserved g c =
    let folders = c.args.folders.now in
    let i = c.loop-folder.folder-index in
    let folder = c.folder-item.result in
    let stamp = c.args.stamp in
    let before = g.D.Disk.files c.loop-folder.disk in
    let after = g.D.Disk.files c.touch_folder.new.disk in
    let step : Relation = λ a b. Touches (folder ∷ []) 1 stamp a b × AreTouched (folder ∷ []) stamp b in
    let one = told_both (Touches (folder ∷ []) 1 stamp) (λ a b. AreTouched (folder ∷ []) stamp b) step before after (λ a b p q. (p, q)) c.in_ok-touch_folder.ensures.touches c.in_ok-touch_folder.ensures.touched in
    record {
      touched = told_then (TouchedTo folders i stamp) step (TouchedTo folders (i + 1) stamp) (g.D.Disk.files c.args.disk.now) before after
          (λ a b d. touched_more folders i folder stamp c.loop-folder-test.true (sym c.folder-item.is) a b d) c.loop-folder.invariant.touched one;
      faults = c.in_ok-touch_folder.ensures.cause ∙ c.loop-folder.invariant.faults;
      calls = c.docroot_calls_add_up.ensures.more (g.D.Disk.calls c.args.disk.now) (g.D.Disk.calls c.loop-folder.disk) (g.D.Disk.calls c.touch_folder.new.disk) c.loop-folder.invariant.calls c.in_ok-touch_folder.ensures.calls;
    }

pub returns-in_err-touch_folder-clause-touches : goal.returns-in_err-touch_folder-clause-touches
returns-in_err-touch_folder-clause-touches g c =
    let folders = c.args.folders.now in
    let i = c.loop-folder.folder-index in
    let folder = c.folder-item.result in
    let stamp = c.args.stamp in
    told_then (TouchedTo folders i stamp) (Touches (folder ∷ []) 1 stamp) (Touches folders (length folders) stamp) (g.D.Disk.files c.args.disk.now) (g.D.Disk.files c.loop-folder.disk) (g.D.Disk.files c.touch_folder.new.disk)
    (λ a b d. touched_stopped folders i folder stamp c.loop-folder-test.true (sym c.folder-item.is) a b d) c.loop-folder.invariant.touched c.touch_folder.ensures.touches

pub returns-clause-touches : goal.returns-clause-touches
returns-clause-touches g c =
    let folders = c.args.folders.now in
    let i = c.loop-folder.folder-index in
    told_as (TouchedTo folders i c.args.stamp) (Touches folders (length folders) c.args.stamp) _ _ (λ a b done. (touched_all folders i c.args.stamp (omega (arith, c.loop-folder-test.false, c.loop-folder.auto.folder-index-end)) a b done).0) c.loop-folder.invariant.touched

pub returns-clause-touched : goal.returns-clause-touched
returns-clause-touched g c =
    let folders = c.args.folders.now in
    let i = c.loop-folder.folder-index in
    told_as (TouchedTo folders i c.args.stamp) (λ a b. AreTouched folders c.args.stamp b) _ _ (λ a b done. (touched_all folders i c.args.stamp (omega (arith, c.loop-folder-test.false, c.loop-folder.auto.folder-index-end)) a b done).1) c.loop-folder.invariant.touched

pub returns-in_err-touch_folder-clause-calls : goal.returns-in_err-touch_folder-clause-calls
returns-in_err-touch_folder-clause-calls g c =
    c.docroot_calls_add_up.ensures.more (g.D.Disk.calls c.args.disk.now) (g.D.Disk.calls c.loop-folder.disk) (g.D.Disk.calls c.touch_folder.new.disk) c.loop-folder.invariant.calls c.touch_folder.ensures.calls

pub returns-clause-calls : goal.returns-clause-calls
returns-clause-calls g c = c.loop-folder.invariant.calls
