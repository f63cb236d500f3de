use Rattle.coherence_core.proofs.DrawnLemmas.{core_next, core_drawn}
use Rattle.coherence_core.proofs.FlightLemmas.{flying_in}
use Rattle.coherence_core.proofs.FlushLemmas.{flushing_in}
use Rattle.coherence_core.proofs.laws.each_stamp_is_before_the_next.Goals as goal

pub returns-clause-head : goal.returns-clause-head
returns-clause-head c = λ found files core log key head s good is. s.heads key head good is

pub returns-clause-folder : goal.returns-clause-folder
returns-clause-folder c = λ found files core log folder stamp s good is. s.stands.before.stats folder stamp good is

pub returns-clause-flight : goal.returns-clause-flight
returns-clause-flight c = λ found files core log flight s there. (flying_in core.farm log _ core.asked _ core.flights flight s.stands.flying.each there).drawn

pub returns-clause-flush : goal.returns-clause-flush
returns-clause-flush c = λ found files core log flush s there. (flushing_in core.farm _ log core.begun _ core.queue.items flush s.stands.flushing.each there).drawn

pub returns-clause-next : goal.returns-clause-next
returns-clause-next c = core_next

pub returns-clause-drawn : goal.returns-clause-drawn
returns-clause-drawn c = core_drawn
