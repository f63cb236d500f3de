use Rattle.content_json.proofs.InOrder.{in_order_read}
use Rattle.content_json.proofs.FaultLemmas.{no_cause_at, faultless_from}
use Rattle.content_json.proofs.laws.no_fault_without_a_cause.Goals as goal

pub returns : goal.returns
returns c = record {
  none = λ bytes top is faultless way value at. no_cause_at top (in_order_read bytes top is) faultless way value at;
  all = λ bytes top is all. faultless_from top (in_order_read bytes top is) all;
}
