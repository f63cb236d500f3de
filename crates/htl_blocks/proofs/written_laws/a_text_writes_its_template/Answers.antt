use Rattle.htl_blocks.proofs.ElementLemmas.{text_is}
use Rattle.htl_blocks.proofs.written_laws.a_text_writes_its_template.Goals as goal

pub returns : goal.returns
returns c = λ scope pieces. text_is pieces scope
