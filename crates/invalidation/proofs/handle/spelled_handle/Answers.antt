use Rattle.std.proofs.Common.{◌≡◌, ◌∙◌, sym, subst}
use Rattle.std.specs.Prelude.{IfOk}
use Rattle.std.specs.Str.{IsUtf8}
use Rattle.percent_encoding.specs.Percent.{percent_decode}
use Rattle.invalidation.proofs.HandleLemmas.{text_spells, no_text_spells}
use Rattle.invalidation.proofs.handle.spelled_handle.Goals as goal

pub returns-in-Ok : goal.returns-in-Ok
returns-in-Ok c =
    let bytes = percent_decode c.args.value.now in
    let same : c.deref.result.now ≡ bytes = c.deref.ensures.value ∙ c.in-Ok.ensures.value ∙ c.percent_decode.ensures.bytes in
    let text = subst IsUtf8 c.percent_decode.ensures.bytes c.in-Ok.ensures.ok_only_if_utf8 in
    subst (λ o. IfOk c.unmangled_path.result (λ p. p ≡ o)) (text_spells c.deref.result.now bytes same text) c.unmangled_path.ensures

pub returns-in-Err-Utf8 : goal.returns-in-Err-Utf8
returns-in-Err-Utf8 c =
    no_text_spells (percent_decode c.args.value.now) (λ h.
    let k = c.in-Err-Utf8.ensures.utf8 (subst IsUtf8 (sym c.percent_decode.ensures.bytes) h) in
    cc (k, c.in-Err-Utf8.field-0-is))
