use Rattle.replay_text.proofs.ActLaws.{first_told, none_told}
use Rattle.replay_text.proofs.acts.acts_are_told_by_their_lines.Goals as goal

pub returns-clause-first : goal.returns-clause-first
returns-clause-first c = first_told

pub returns-clause-none : goal.returns-clause-none
returns-clause-none c = none_told
