use Rattle.htl_blocks.proofs.Plain.{plain_is_template}
use Rattle.htl_blocks.proofs.laws.a_text_without_blocks_is_a_template.Goals as goal

pub returns : goal.returns
returns c = plain_is_template
