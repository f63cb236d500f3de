use Rattle.std.proofs.Common.{Ok, Some, refl}
use Rattle.docroot_format.specs.Texts.{stat_text}
use Rattle.stat_files.specs.Stamps.{files_with_stamp}
use Rattle.invalidation.proofs.Touching.{TouchSets, told_touched, told_touches}
use Rattle.invalidation.proofs.opening.touch_folder.Goals as goal

pub returns-clause-touches : goal.returns-clause-touches
returns-clause-touches g c =
    let folder = c.args.folder.now in
    let stamp = c.args.stamp in
    let sets : TouchSets folder stamp = λ old. c.what_a_touch_sets.ensures.touched (Ok tt) (Some old) (Some (files_with_stamp old folder stamp)) folder stamp c.requires c.numbers_fit.ensures.epoch c.numbers_fit.ensures.count refl in
    told_touches c.names_are_apart.ensures.stats folder stamp c.requires sets c.touch.result (g.D.Disk.files c.args.disk.now) (g.D.Disk.files c.touch.new.disk) c.touch.ensures.ok c.touch.ensures.err

pub returns-clause-touched : goal.returns-clause-touched
returns-clause-touched g c =
    let folder = c.args.folder.now in
    let stamp = c.args.stamp in
    let sets : TouchSets folder stamp = λ old. c.what_a_touch_sets.ensures.touched (Ok tt) (Some old) (Some (files_with_stamp old folder stamp)) folder stamp c.requires c.numbers_fit.ensures.epoch c.numbers_fit.ensures.count refl in
    told_touched folder stamp sets c.touch.result (g.D.Disk.files c.args.disk.now) (g.D.Disk.files c.touch.new.disk) c.touch.ensures.ok

pub returns-clause-calls : goal.returns-clause-calls
returns-clause-calls g c =
    let stamp = c.args.stamp in
    c.stamps_take_docroot_calls.ensures.touched c.touch.result (g.D.Disk.calls c.args.disk.now) (g.D.Disk.calls c.touch.new.disk) c.args.folder.now (stat_text stamp) c.requires.path c.touch.ensures.made
