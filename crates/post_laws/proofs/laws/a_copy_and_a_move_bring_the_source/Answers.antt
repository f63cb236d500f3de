use Rattle.post_laws.proofs.BroughtLemmas.{copy_brings, copy_leaves, move_brings, move_empties}
use Rattle.post_laws.proofs.laws.a_copy_and_a_move_bring_the_source.Goals as goal

pub returns : goal.returns
returns c = record { copy_goal = copy_brings; copy_source = copy_leaves; move_goal = move_brings; move_source = move_empties }
