use Rattle.regex_rules.proofs.WayLemmas.{ways_are_language}
use Rattle.regex_rules.proofs.laws.the_ways_are_the_language.Goals as goal

pub returns : goal.returns
returns c = ways_are_language
