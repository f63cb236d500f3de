use Rattle.dispatch_rules.proofs.AskLemmas.{page_of}
use Rattle.dispatch_rules.proofs.laws.a_request_has_the_page_at_its_path.Goals as goal

pub returns : goal.returns
returns c = page_of
