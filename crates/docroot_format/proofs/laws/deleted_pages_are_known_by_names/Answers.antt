use Rattle.std.proofs.Common.{[], codes}
use Rattle.docroot_format.specs.Names.{body_name, head_name}
use Rattle.docroot_format.proofs.DeletedNames.{told_by_name, told_of}
use Rattle.docroot_format.proofs.NameCode.{body_spells, end_begins_none, head_spells, mark_begins_none}
use Rattle.docroot_format.proofs.laws.deleted_pages_are_known_by_names.Goals as goal

pub returns-clause-body : goal.returns-clause-body
returns-clause-body c = λ inv key page valid small.
    let laws = c.segments_and_their_spelling.ensures in
    let told = told_of inv key page valid small laws.path laws.mangled laws.pieces laws.spelled laws.under laws.back in
    told_by_name inv key (body_name key.folder key.file) [] told end_begins_none (body_spells key.folder key.file told.folder told.file)

pub returns-clause-head : goal.returns-clause-head
returns-clause-head c = λ inv key page valid small.
    let laws = c.segments_and_their_spelling.ensures in
    let told = told_of inv key page valid small laws.path laws.mangled laws.pieces laws.spelled laws.under laws.back in
    told_by_name inv key (head_name key.folder key.file) (codes "%h") told mark_begins_none (head_spells key.folder key.file told.folder told.file)
