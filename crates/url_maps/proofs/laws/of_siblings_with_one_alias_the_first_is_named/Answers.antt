use Rattle.resource_tree.specs.Content.{kid}
use Rattle.resource_tree.specs.Changes.{kids_at}
use Rattle.url_maps.specs.Aliases.{has_alias}
use Rattle.url_maps.proofs.FirstLemmas.{found_before}
use Rattle.url_maps.proofs.laws.of_siblings_with_one_alias_the_first_is_named.Goals as goal

pub returns : goal.returns
returns c = λ tree text path named place other there passes_it. found_before (λ sibling. has_alias tree (kid named.parent sibling) named.alias) (kids_at tree named.parent) place other named.name there passes_it named.first
