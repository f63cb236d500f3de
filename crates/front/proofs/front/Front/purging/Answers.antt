use Rattle.std.proofs.Common.{sym, ◌∙◌}
use Rattle.front.proofs.front.Front.purging.Goals as goal

pub returns-clause-some : goal.returns-clause-some
returns-clause-some g c = λ content files faults w s is none. c.is_purging.ensures.some is (s.board_is.behind_is.flushing_is ∙ none)

pub returns-clause-none : goal.returns-clause-none
returns-clause-none g c = λ content files faults w s is. sym s.board_is.behind_is.flushing_is ∙ c.is_purging.ensures.none is
