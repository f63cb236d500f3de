use Rattle.docroot_format.proofs.StampFolders.{stat_bytes, stat_path, touched_bytes, touched_path}
use Rattle.docroot_format.proofs.laws.folders_of_stamps_are_paths.Goals as goal

pub returns-clause-touched : goal.returns-clause-touched
returns-clause-touched c = λ level inv folder valid.
    let texts = c.segments_and_their_spelling.ensures in
    touched_path level inv folder (c.mangling_and_unmangling.ensures.again inv.handle) (texts.mangled inv.handle (texts.path inv.handle valid)) valid

pub returns-clause-touched_bytes : goal.returns-clause-touched_bytes
returns-clause-touched_bytes c = touched_bytes

pub returns-clause-stat : goal.returns-clause-stat
returns-clause-stat c = stat_path

pub returns-clause-stat_bytes : goal.returns-clause-stat_bytes
returns-clause-stat_bytes c = stat_bytes
