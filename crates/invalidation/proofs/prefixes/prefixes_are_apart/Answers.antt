use Rattle.invalidation.proofs.PrefixLemmas.{prefixes_apart}
use Rattle.invalidation.proofs.prefixes.prefixes_are_apart.Goals as goal

pub returns : goal.returns
returns c = prefixes_apart
