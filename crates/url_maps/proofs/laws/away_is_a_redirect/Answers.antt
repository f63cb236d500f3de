use Rattle.url_maps.proofs.RedirectLemmas.{away_redirects}
use Rattle.url_maps.proofs.laws.away_is_a_redirect.Goals as goal

pub returns : goal.returns
returns c = away_redirects
