use Rattle.coherence_core.proofs.StartLemmas.{empty_held}
use Rattle.coherence_core.proofs.laws.no_files_hold_the_empty_log.Goals as goal

pub returns : goal.returns
returns c = λ farm. empty_held farm c.empty_files_hold_no_page.ensures.page c.empty_files_hold_no_page.ensures.later c.empty_files_hold_no_page.ensures.epoch c.empty_files_hold_no_page.ensures.next
