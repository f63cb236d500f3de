use Rattle.std.proofs.Common.{⊎_elim}
use Rattle.sp_base.proofs.BoolLemmas.{and_first}
use Rattle.docroot_changes.proofs.LeadingIn.{listed_leads}
use Rattle.docroot_changes.proofs.calls.docroot_calls_lead_nowhere_out.Goals as goal

pub returns-clause-got : goal.returns-clause-got
returns-clause-got c = λ name answered may. and_first _ _ may.1

pub returns-clause-put : goal.returns-clause-put
returns-clause-put c = λ name bytes answered may. and_first _ _ may.1

pub returns-clause-removed : goal.returns-clause-removed
returns-clause-removed c = λ name answered may. ⊎_elim (λ page. and_first _ _ page) (λ stat. and_first _ _ stat) may

pub returns-clause-listed : goal.returns-clause-listed
returns-clause-listed c = λ prefix after most answered may. listed_leads prefix may
