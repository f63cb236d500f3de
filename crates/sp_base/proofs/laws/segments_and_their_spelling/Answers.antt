use Rattle.sp_base.proofs.BoolLemmas.{true_from_T}
use Rattle.sp_base.proofs.PathLemmas.{true_test, path_pieces, pieces_lack}
use Rattle.sp_base.proofs.PathOrder.{segments_under}
use Rattle.sp_base.proofs.PathText.{spelled-pieces}
use Rattle.sp_base.proofs.MangledLemmas.{mangled_lacks, segs_back}
use Rattle.sp_base.proofs.laws.segments_and_their_spelling.Goals as goal

pub returns-clause-under : goal.returns-clause-under
returns-clause-under c = λ path other h k. segments_under path other (true_test _ h) (true_test _ k)

pub returns-clause-path : goal.returns-clause-path
returns-clause-path c = λ path h. true_from_T _ (path_pieces path h)

pub returns-clause-mangled : goal.returns-clause-mangled
returns-clause-mangled c = λ path h. true_from_T _ (mangled_lacks path (true_test _ h))

pub returns-clause-pieces : goal.returns-clause-pieces
returns-clause-pieces c = λ text. true_from_T _ (pieces_lack text)

pub returns-clause-spelled : goal.returns-clause-spelled
returns-clause-spelled c = spelled-pieces

pub returns-clause-back : goal.returns-clause-back
returns-clause-back c = λ path h. segs_back path (true_test _ h)
