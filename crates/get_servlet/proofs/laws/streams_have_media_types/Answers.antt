use Rattle.get_servlet.proofs.StreamLemmas.{stream_has_kind}
use Rattle.get_servlet.proofs.laws.streams_have_media_types.Goals as goal

pub returns : goal.returns
returns c = stream_has_kind
