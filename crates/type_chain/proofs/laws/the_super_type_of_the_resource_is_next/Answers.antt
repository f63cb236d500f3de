use Rattle.type_chain.proofs.StepLemmas.{of_the_type, own_text, typed_first, untyped_first}
use Rattle.type_chain.proofs.laws.the_super_type_of_the_resource_is_next.Goals as goal

pub returns : goal.returns
returns c = record { typed = typed_first; untyped = untyped_first; own_text = own_text; of_the_type = of_the_type }
