use Rattle.std.proofs.Common.{◌∙◌, sym}
use Rattle.publisher.proofs.RenderingLemmas.{read_is}
use Rattle.page_laws.proofs.laws.a_slash_changes_no_answer_to_a_read.Goals as goal

pub returns : goal.returns
returns c tree ask slash reads = read_is tree (record ask { slash = slash }) reads ∙ sym (read_is tree ask reads)
