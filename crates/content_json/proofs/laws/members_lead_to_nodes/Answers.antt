use Rattle.content_json.proofs.LawLemmas.{node_at_path}
use Rattle.content_json.proofs.laws.members_lead_to_nodes.Goals as goal

pub returns : goal.returns
returns c = node_at_path
