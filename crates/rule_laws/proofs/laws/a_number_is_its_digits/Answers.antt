use Rattle.rule_laws.proofs.NumberLemmas.{numbers_are_written}
use Rattle.rule_laws.proofs.laws.a_number_is_its_digits.Goals as goal

pub returns : goal.returns
returns c = λ most n text. numbers_are_written most text n
