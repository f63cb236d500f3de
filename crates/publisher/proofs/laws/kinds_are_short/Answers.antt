use Rattle.publisher.proofs.KindLemmas.{answer_kind, error_kind}
use Rattle.publisher.proofs.laws.kinds_are_short.Goals as goal

pub returns : goal.returns
returns c = record { rendered = answer_kind c.streams_have_media_types.ensures; error = error_kind }
