use Rattle.coherence_core.proofs.EndLemmas.{closed, closed_landed, closing_allowed}
use Rattle.coherence_core.proofs.laws.a_session_may_end_at_any_time.Goals as goal

pub returns-clause-closed : goal.returns-clause-closed
returns-clause-closed c = λ found files core log s. closed found files core log s (c.coverage_by_three_facts.ensures core.farm) c.the_numbers_of_flights_rise.ensures.left

pub returns-clause-landed : goal.returns-clause-landed
returns-clause-landed c = λ found files core log s. closed_landed found files core log s (c.coverage_by_three_facts.ensures core.farm) c.the_numbers_of_flights_rise.ensures.left

pub returns-clause-allowed : goal.returns-clause-allowed
returns-clause-allowed c = λ found files core log under s. closing_allowed found files core log s (c.coverage_by_three_facts.ensures core.farm) c.the_numbers_of_flights_rise.ensures.left under
