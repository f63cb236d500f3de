use Rattle.std.proofs.Common.{◌++◌, ◌∙◌, ap}
use Rattle.location_field.proofs.LocationLemmas.{location_is}
use Rattle.percent_encoding.specs.Iter.{encoded_text}
use Rattle.percent_encoding.specs.Percent.{percent_encode}
use Rattle.location_field.specs.declared.location.TheConstants.{UNSEEN}
use Rattle.location_field.proofs.location.location_of.Goals as goal

pub returns : goal.returns
returns c =
    c.from.ensures ∙ c.in_ok-append_to.ensures.ok ∙ ap (λ t. t ++ encoded_text c.percent_encode.result) c.in_ok-text.ensures.bytes ∙ c.percent_encode.ensures.text ∙ ap (percent_encode UNSEEN) c.as_bytes.ensures.value ∙ location_is c.args.target.now
