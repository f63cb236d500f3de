use Rattle.coherence_core.proofs.OpeningLemmas.{log_begins, stays_opened}
use Rattle.coherence_core.proofs.laws.a_session_begins_without_pages.Goals as goal

pub returns-clause-stands : goal.returns-clause-stands
returns-clause-stands c = λ found files core o cleared. log_begins files cleared c.names_tell_their_files.ensures.body c.names_tell_their_files.ensures.head c.names_tell_their_files.ensures.stat c.no_notes_agree_with_any_files.ensures.agrees found core o

pub returns-clause-kept : goal.returns-clause-kept
returns-clause-kept c = stays_opened
