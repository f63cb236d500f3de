use Rattle.std.proofs.Common.{sym}
use Rattle.url_split.proofs.ValueLemmas.{split_is_longest, no_split_is_lost, split_value}
use Rattle.url_split.proofs.laws.the_split_is_the_longest.Goals as goal

pub returns : goal.returns
returns c = record {
  some = split_is_longest;
  none = no_split_is_lost;
  only = λ known text parts is. sym (split_value known text parts is);
}
