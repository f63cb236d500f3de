use Rattle.htl_blocks.proofs.Plain.{parts_whole}
use Rattle.htl_blocks.proofs.laws.the_parts_are_the_text.Goals as goal

pub returns : goal.returns
returns c = parts_whole
