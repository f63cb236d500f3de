use Rattle.std.proofs.Common.{rules, ◌≡◌, ◌∙◌, sym, ap, subst}
use Rattle.std.specs.Fmt.{decimal}
use Rattle.std.specs.Str.{IsAscii}
use Rattle.std.proofs.lemmas.Bool.{false≢true}
use Rattle.std.proofs.lemmas.Fmt.{parse-decimal, IsAscii-decimal}
use Rattle.std.proofs.lemmas.Str.{IsUtf8-from_ascii}
use Rattle.replay_text.proofs.event_reader.number.Goals as goal

pub returns-in_default-clause-none : goal.returns-in_default-clause-none
returns-in_default-clause-none c = λ n small e.
    c.in_default.ensures.cases.0 (IsUtf8-from_ascii c.args.word.now (subst IsAscii (sym e) (IsAscii-decimal n small)))

pub returns-in_default-parse-clause-none : goal.returns-in_default-parse-clause-none
returns-in_default-parse-clause-none c = λ n small e.
    let text_is : c.in-Ok.text.now ≡ decimal n = search rules in
    c.in_default-parse.not-Ok n (parse-decimal 64 n c.in-Ok.text.now c.parse.result small small text_is c.parse.ensures.value.0)

pub returns-clause-none : goal.returns-clause-none
returns-clause-none c = λ n small e.
    let text_is : c.in-Ok.text.now ≡ decimal n = search rules in
    let told = parse-decimal 64 n c.in-Ok.text.now c.parse.result small small text_is c.parse.ensures.value.0 in
    let read : c.in-Ok-parse.n ≡ n = cc (told, c.in-Ok-parse.is) in
    let again : c.in_ok-again.again.bytes.items ≡ decimal c.in-Ok-parse.n = search rules in
    let spelled : c.as_bytes.result.now ≡ c.args.word.now = c.as_bytes.ensures.value ∙ again ∙ ap decimal read ∙ sym e in
    false≢true (sym c.if-same.false ∙ c.same.ensures.1 spelled)
