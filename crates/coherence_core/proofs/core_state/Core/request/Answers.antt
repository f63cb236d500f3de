use Rattle.coherence_core.proofs.RequestLemmas.{request_owes}
use Rattle.coherence_core.proofs.core_state.Core.request.Goals as goal

pub returns-clause-log : goal.returns-clause-log
returns-clause-log g c = rw (c.answer.ensures.files) (request_owes _ _ _ _ _ (c.coverage_by_three_facts.ensures c.args.self.now.farm) c.the_numbers_of_flights_rise.ensures.asked c.the_numbers_of_flights_rise.ensures.voided c.a_page_is_its_head_and_its_body.ensures c.answer.result c.answer.ensures.came).log

pub returns-clause-cause : goal.returns-clause-cause
returns-clause-cause g c = (request_owes _ _ _ _ _ (c.coverage_by_three_facts.ensures c.args.self.now.farm) c.the_numbers_of_flights_rise.ensures.asked c.the_numbers_of_flights_rise.ensures.voided c.a_page_is_its_head_and_its_body.ensures c.answer.result c.answer.ensures.came).cause

pub returns-clause-flights : goal.returns-clause-flights
returns-clause-flights g c = (request_owes _ _ _ _ _ (c.coverage_by_three_facts.ensures c.args.self.now.farm) c.the_numbers_of_flights_rise.ensures.asked c.the_numbers_of_flights_rise.ensures.voided c.a_page_is_its_head_and_its_body.ensures c.answer.result c.answer.ensures.came).flights

pub returns-clause-labels : goal.returns-clause-labels
returns-clause-labels g c = (request_owes _ _ _ _ _ (c.coverage_by_three_facts.ensures c.args.self.now.farm) c.the_numbers_of_flights_rise.ensures.asked c.the_numbers_of_flights_rise.ensures.voided c.a_page_is_its_head_and_its_body.ensures c.answer.result c.answer.ensures.came).labels

pub returns-clause-flushes : goal.returns-clause-flushes
returns-clause-flushes g c = (request_owes _ _ _ _ _ (c.coverage_by_three_facts.ensures c.args.self.now.farm) c.the_numbers_of_flights_rise.ensures.asked c.the_numbers_of_flights_rise.ensures.voided c.a_page_is_its_head_and_its_body.ensures c.answer.result c.answer.ensures.came).flushes

pub returns-clause-rising : goal.returns-clause-rising
returns-clause-rising g c = (request_owes _ _ _ _ _ (c.coverage_by_three_facts.ensures c.args.self.now.farm) c.the_numbers_of_flights_rise.ensures.asked c.the_numbers_of_flights_rise.ensures.voided c.a_page_is_its_head_and_its_body.ensures c.answer.result c.answer.ensures.came).rising

pub returns-clause-kept : goal.returns-clause-kept
returns-clause-kept g c = (request_owes _ _ _ _ _ (c.coverage_by_three_facts.ensures c.args.self.now.farm) c.the_numbers_of_flights_rise.ensures.asked c.the_numbers_of_flights_rise.ensures.voided c.a_page_is_its_head_and_its_body.ensures c.answer.result c.answer.ensures.came).kept

pub returns-clause-knows : goal.returns-clause-knows
returns-clause-knows g c = rw (c.answer.ensures.files) (request_owes _ _ _ _ _ (c.coverage_by_three_facts.ensures c.args.self.now.farm) c.the_numbers_of_flights_rise.ensures.asked c.the_numbers_of_flights_rise.ensures.voided c.a_page_is_its_head_and_its_body.ensures c.answer.result c.answer.ensures.came).knows
