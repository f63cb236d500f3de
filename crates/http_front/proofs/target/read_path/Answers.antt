use Rattle.std.proofs.Common.{◌≡◌, ◌∙◌, ap, refl, sym, subst}
use Rattle.std.specs.Prelude.{IfOk, option_and_then}
use Rattle.http_front.specs.PathReading.{path_and_slash}
use Rattle.http_front.specs.Targets.{utf8_text}
use Rattle.http_front.proofs.LiteralPaths.{no_escape, text_says}
use Rattle.http_front.proofs.target.read_path.Goals as goal

pub returns-else-has_percent : goal.returns-else-has_percent
returns-else-has_percent c =
    let path = c.args.path.now in
    let literal = no_escape path (sym c.has_percent.ensures ∙ c.if-has_percent.false) in
    let said = text_says path path refl c.utf8.path ∙ ap (λ bytes. option_and_then path_and_slash (utf8_text bytes)) (sym literal) in
    subst (λ o. IfOk c.path_and_slash.result (λ p. p ≡ o)) said c.path_and_slash.ensures
