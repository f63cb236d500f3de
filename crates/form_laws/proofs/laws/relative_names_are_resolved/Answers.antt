use Rattle.form_laws.proofs.RelativeNameLemmas.{spot_to, spot_from}
use Rattle.form_laws.proofs.GoalLemmas.{goal_to, goal_from}
use Rattle.form_laws.proofs.DotsAlone.{one_outcome}
use Rattle.form_laws.proofs.laws.relative_names_are_resolved.Goals as goal

pub returns-clause-spot : goal.returns-clause-spot
returns-clause-spot c = λ node text spot is. spot_to node text spot is.path is.relative

pub returns-clause-spot_only : goal.returns-clause-spot_only
returns-clause-spot_only c = λ node text spot is. spot_from node text spot is.path is.relative

pub returns-clause-goal : goal.returns-clause-goal
returns-clause-goal c = λ target word path is. goal_to target word path is.path is.relative

pub returns-clause-goal_only : goal.returns-clause-goal_only
returns-clause-goal_only c = λ target word path is. goal_from target word path is.path is.relative

pub returns-clause-alone : goal.returns-clause-alone
returns-clause-alone c = one_outcome
