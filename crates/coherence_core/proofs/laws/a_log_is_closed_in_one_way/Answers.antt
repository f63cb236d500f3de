use Rattle.coherence_core.proofs.ClosingLemmas.{closing_closes, closing_is_allowed, closing_is_legal, closing_there, core_closing, none_to_close, one_closing}
use Rattle.coherence_core.proofs.laws.a_log_is_closed_in_one_way.Goals as goal

pub returns-clause-there : goal.returns-clause-there
returns-clause-there c = closing_there

pub returns-clause-one : goal.returns-clause-one
returns-clause-one c = one_closing

pub returns-clause-allowed : goal.returns-clause-allowed
returns-clause-allowed c = λ farm log entries under closing restarts. closing_is_allowed farm log entries closing under restarts

pub returns-clause-legal : goal.returns-clause-legal
returns-clause-legal c = λ farm log entries closing. closing_is_legal farm log entries closing

pub returns-clause-closed : goal.returns-clause-closed
returns-clause-closed c = λ farm files log entries h closing. closing_closes farm log entries closing files h

pub returns-clause-idle : goal.returns-clause-idle
returns-clause-idle c = none_to_close

pub returns-clause-core : goal.returns-clause-core
returns-clause-core c = core_closing
