use Rattle.regex_rules.proofs.CuttingLemmas.{tells_language}
use Rattle.regex_rules.proofs.laws.the_test_is_the_language.Goals as goal

pub returns : goal.returns
returns c = tells_language
