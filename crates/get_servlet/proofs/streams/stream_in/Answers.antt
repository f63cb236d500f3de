use Rattle.std.proofs.Common.{Some, ◌∙◌, ap}
use Rattle.std.specs.Prelude.{codes, option_map}
use Rattle.sp_base.specs.Properties.{text_in}
use Rattle.get_servlet.specs.Streams.{make_stream, media_type_of}
use Rattle.get_servlet.proofs.streams.stream_in.Goals as goal

pub returns : goal.returns
returns c =
    let props = c.args.props.now in
    let kind = c.in_ok-media_type_of.ensures ∙ ap media_type_of c.text-2.ensures in
    ap (λ k. Some (record { kind = k; body = c.in_ok-duplicate.field-0 })) kind
    ∙ ap (λ b. Some (make_stream (text_in props (codes "jcr:mimeType")) b)) (c.in_ok-duplicate.ensures)
    ∙ ap (option_map (make_stream (text_in props (codes "jcr:mimeType")))) c.in-Some.ensures
