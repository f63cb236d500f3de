use Rattle.content_json.proofs.InOrder.{in_order_read}
use Rattle.content_json.proofs.FaultLemmas.{fault_placed}
use Rattle.content_json.proofs.laws.a_fault_is_at_its_place.Goals as goal

pub returns : goal.returns
returns c bytes top found is fault = fault_placed top found (in_order_read bytes top is) fault
