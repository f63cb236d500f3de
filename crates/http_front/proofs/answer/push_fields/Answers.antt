use Rattle.std.proofs.Common.{ap, ◌∙◌}
use Rattle.std.specs.Prelude.{codes}
use Rattle.location_field.specs.Location.{location_of}
use Rattle.http_front.specs.Answers as spec
use Rattle.http_front.proofs.FieldLemmas.{six, of_value}
use Rattle.http_front.proofs.answer.push_fields.Goals as goal

pub returns : goal.returns
returns c =
    six spec.field_line c.args.out.now.items _ _ _ _ _ _
    (spec.unless_empty (codes "Content-Type") (spec.printable_value c.args.answer.now.kind))
    (spec.unless_empty (codes "Location") (location_of c.args.answer.now.location))
    (spec.unless_empty (codes "Allow") (spec.allowed_methods c.args.answer.now.status))
    (spec.unless_empty (codes "Cache-Control") (spec.directive_of c.args.answer.now.mark))
    (spec.unless_empty (codes "Content-Length") (spec.content_length c.args.head_only c.args.answer.now))
    (spec.unless_empty (codes "Connection") (spec.connection c.args.close))
    (of_value _ _ _ _ (spec.printable_value c.args.answer.now.kind) c.in_ok-push_unless_empty.ensures (c.as_slice.ensures.value ∙ c.in_ok-kind.ensures ∙ ap spec.printable_value c.text.ensures))
    (of_value _ _ _ _ (location_of c.args.answer.now.location) c.in_ok-push_unless_empty-2.ensures (c.as_bytes.ensures.value ∙ c.text-3.ensures ∙ c.in_ok-location.ensures ∙ ap location_of c.text-2.ensures))
    (of_value _ _ _ _ (spec.allowed_methods c.args.answer.now.status) c.in_ok-push_unless_empty-3.ensures (c.as_bytes-2.ensures.value ∙ c.allowed_methods.ensures))
    (of_value _ _ _ _ (spec.directive_of c.args.answer.now.mark) c.in_ok-push_unless_empty-4.ensures (c.as_bytes-3.ensures.value ∙ c.directive_of.ensures))
    (of_value _ _ _ _ (spec.content_length c.args.head_only c.args.answer.now) c.in_ok-push_unless_empty-5.ensures (c.as_bytes-4.ensures.value ∙ c.in_ok-length.ensures))
    (of_value _ _ _ _ (spec.connection c.args.close) c.in_ok-push_unless_empty-6.ensures (c.as_bytes-5.ensures.value ∙ c.connection.ensures))
