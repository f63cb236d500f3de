use Rattle.http_front.proofs.HeadLemmas.{name_at}
use Rattle.http_front.proofs.fields.named_fields.Goals as goal

pub named_field-requires-clause-name : goal.named_field-requires-clause-name
named_field-requires-clause-name c = name_at c.args.bytes.now c.args.spans.now c.loop-span.span-index _ c.requires.names c.loop-span-test.true
