use Rattle.cover_rules.proofs.TouchLemmas.{touched_where, outdated_where, above_where}
use Rattle.cover_rules.proofs.laws.a_touch_outdates_the_pages_of_its_folders.Goals as goal

pub returns-clause-folders : goal.returns-clause-folders
returns-clause-folders c = λ level inv key names. (touched_where level inv key names, outdated_where level inv key)

pub returns-clause-above : goal.returns-clause-above
returns-clause-above c = above_where
