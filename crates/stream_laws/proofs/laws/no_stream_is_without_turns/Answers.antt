use Rattle.stream_laws.proofs.StreamLemmas.{spelled}
use Rattle.stream_laws.proofs.laws.no_stream_is_without_turns.Goals as goal

pub returns : goal.returns
returns c = spelled
