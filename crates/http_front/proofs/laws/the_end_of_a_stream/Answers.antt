use Rattle.http_front.proofs.EndLemmas.{end_one, open_breaks, open_long, open_only, open_waits}
use Rattle.http_front.proofs.laws.the_end_of_a_stream.Goals as goal

pub returns-clause-one : goal.returns-clause-one
returns-clause-one c = end_one

pub returns-clause-bad : goal.returns-clause-bad
returns-clause-bad c = open_breaks

pub returns-clause-waits : goal.returns-clause-waits
returns-clause-waits c = open_waits

pub returns-clause-long : goal.returns-clause-long
returns-clause-long c = open_long

pub returns-clause-only : goal.returns-clause-only
returns-clause-only c = open_only
