use Rattle.get_servlet.proofs.ReadBackLemmas.{text_reads_back}
use Rattle.get_servlet.proofs.laws.texts_read_back.Goals as goal

pub returns : goal.returns
returns c = text_reads_back
