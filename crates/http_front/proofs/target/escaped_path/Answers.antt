use Rattle.std.proofs.Common.{◌≡◌, ◌∙◌, sym, subst}
use Rattle.std.specs.Prelude.{IfOk}
use Rattle.std.specs.Str.{IsUtf8}
use Rattle.percent_encoding.specs.Percent.{percent_decode}
use Rattle.http_front.proofs.LiteralPaths.{text_says, no_text_says}
use Rattle.http_front.proofs.target.escaped_path.Goals as goal

pub returns-in-Ok : goal.returns-in-Ok
returns-in-Ok c =
    let bytes = percent_decode c.args.path.now in
    let same : c.deref.result.now ≡ bytes = c.deref.ensures.value ∙ c.in-Ok.ensures.value ∙ c.percent_decode.ensures.bytes in
    let text = subst IsUtf8 c.percent_decode.ensures.bytes c.in-Ok.ensures.ok_only_if_utf8 in
    subst (λ o. IfOk c.path_and_slash.result (λ p. p ≡ o)) (text_says c.deref.result.now bytes same text) c.path_and_slash.ensures

pub returns-in-Err-Utf8 : goal.returns-in-Err-Utf8
returns-in-Err-Utf8 c =
    no_text_says (percent_decode c.args.path.now) (λ h.
    let k = c.in-Err-Utf8.ensures.utf8 (subst IsUtf8 (sym c.percent_decode.ensures.bytes) h) in
    cc (k, c.in-Err-Utf8.field-0-is))
