use Rattle.cache_log.proofs.LegalLemmas.{above-has, above-more, has-above, last-most}
use Rattle.cache_log.proofs.laws.epochs_rise.Goals as goal

pub returns-clause-above : goal.returns-clause-above
returns-clause-above c = λ epoch log. (above-has epoch log, has-above epoch log)

pub returns-clause-last : goal.returns-clause-last
returns-clause-last c = last-most

pub returns-clause-more : goal.returns-clause-more
returns-clause-more c = above-more
