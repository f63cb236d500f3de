use Rattle.overlay_merge.proofs.StandLemmas.{kid_stands, kids_differ, not_moved, others_stay, still_differ}
use Rattle.overlay_merge.proofs.laws.a_moved_kid_stands_before_the_one_it_names.Goals as goal

pub returns-clause-directly : goal.returns-clause-directly
returns-clause-directly c = λ name other names is. kid_stands name other names is.distinct is.two is.moved is.named

pub returns-clause-others : goal.returns-clause-others
returns-clause-others c = λ name other names is. others_stay name other names is.distinct is.two is.moved is.named

pub returns-clause-stays : goal.returns-clause-stays
returns-clause-stays c = not_moved

pub returns-clause-kids : goal.returns-clause-kids
returns-clause-kids c = kids_differ

pub returns-clause-after : goal.returns-clause-after
returns-clause-after c = still_differ
