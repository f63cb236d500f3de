use Rattle.url_maps.proofs.FirstLemmas.{greatest_order, least_path}
use Rattle.url_maps.proofs.laws.of_nodes_with_one_vanity_path_the_greatest_order_is_named.Goals as goal

pub returns-clause-greatest : goal.returns-clause-greatest
returns-clause-greatest c = greatest_order

pub returns-clause-least : goal.returns-clause-least
returns-clause-least c = least_path
