use Rattle.content_json.proofs.LawLemmas.{others_in_order}
use Rattle.content_json.proofs.laws.other_kids_in_byte_order.Goals as goal

pub returns : goal.returns
returns c = others_in_order
