use Rattle.post_plan.proofs.MadeLemmas.{name_of_runs, has_runs, made_of_bytes, made_size, made_single}
use Rattle.post_plan.proofs.laws.made_names_are_their_words_runs.Goals as goal

pub returns-clause-runs : goal.returns-clause-runs
returns-clause-runs c = has_runs

pub returns-clause-name : goal.returns-clause-name
returns-clause-name c = name_of_runs

pub returns-clause-bytes : goal.returns-clause-bytes
returns-clause-bytes c = made_of_bytes

pub returns-clause-some : goal.returns-clause-some
returns-clause-some c = λ word. (made_size word).0

pub returns-clause-few : goal.returns-clause-few
returns-clause-few c = λ word. (made_size word).1

pub returns-clause-single : goal.returns-clause-single
returns-clause-single c = made_single
