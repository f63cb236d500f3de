use Rattle.std.proofs.Common.{[]}
use Rattle.outside_world.specs.declared.world.Happening.TheVariants.{Opened}
use Rattle.outside_world.proofs.ComingLemmas.{is_news_at}
use Rattle.outside_world.proofs.laws.happenings_that_may_come.Goals as goal

pub returns-clause-sizes : goal.returns-clause-sizes
returns-clause-sizes c before later happening may = (is_news_at [] before later happening may).size

pub returns-clause-numbers : goal.returns-clause-numbers
returns-clause-numbers c before later conn peer may = (is_news_at [] before later (Opened conn peer) may).number
