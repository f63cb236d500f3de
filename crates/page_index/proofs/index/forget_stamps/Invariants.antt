use Rattle.page_index.proofs.StampLemmas.{ForgottenTo}
use Rattle.page_index.proofs.index.forget_stamps.Given as goal

abbrev pub invariant-loop-folder : goal.invariant-loop-folder
invariant-loop-folder l = ForgottenTo l.folders l.folder-index l.fn.stamps l.stamps
