use Rattle.std.proofs.Common.{◌≡◌, ◌∙◌, List, None, Some, ap, subst}
use Rattle.std.specs.Prelude.{map}
use Rattle.sp_base.specs.declared.field.FieldSpan.{FieldSpan}
use Rattle.sp_base.specs.Fields.{field_at}
use Rattle.http_front.specs.LentHeads.{asked_by}
use Rattle.http_front.specs.Heads as spec
use Rattle.http_front.proofs.HeadLemmas.{asks}
use Rattle.http_front.proofs.head.read_bytes.Goals as goal

pub returns-clause-ok : goal.returns-clause-ok
returns-clause-ok c =
    let p = spec.request_parts_at c.args.bytes.now c.args.spans.now c.args.at.now in
    let target = c.text_of-target.result.now in
    let asked = asked_by c.in-Ok.asked in
    let read = λ (fields : List FieldSpan). map (field_at c.args.bytes.now) fields in
    asks p target (read c.in_ok-fields.fields.items) asked (c.text_of-target.ensures ∙ c.of.ensures) c.in_ok-fields.ensures.fields
    (subst (λ fields. spec.first_refusal p.minor target (read fields) ≡ None) c.as_slice.ensures.value c.in-Ok.ensures.faultless)
    (subst (λ fields. spec.asked_of p.minor target (read fields) ≡ Some asked) c.as_slice.ensures.value c.in-Ok.ensures.ok)
    c.in_ok-request.request c.awaits_continue-awaits_continue.result c.in_ok-request.ensures
    (c.awaits_continue-awaits_continue.ensures ∙ ap (λ fields. spec.awaits_continue p.minor asked.body_length (read fields)) c.as_slice-2.ensures.value)
