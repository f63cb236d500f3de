use Rattle.std.proofs.Common.{◌≡◌, ◌++◌, length, arith, sym, ap, ◌∙◌, subst}
use Rattle.std.proofs.lemmas.List.{length-append}
use Rattle.replay_text.specs.Transcript.{quoted_byte}
use Rattle.replay_text.proofs.Escapes.{value_of-spelled, spelling_has_bytes}
use Rattle.replay_text.proofs.quoted.first_byte.Goals as goal

pub returns-then-value-gt255-clause-none : goal.returns-then-value-gt255-clause-none
returns-then-value-gt255-clause-none c = λ b rest small e.
    omega (arith, c.value-value.ensures, value_of-spelled c.args.text.now b rest e, c.if-value-gt255.true, small)

pub returns-clause-shorter : goal.returns-clause-shorter
returns-clause-shorter c =
    let whole = ap length c.in-Some.ensures.some ∙ length-append (quoted_byte c.value-value.result) c.in-Some.rest.now in
    omega (arith, whole, spelling_has_bytes c.value-value.result)

pub returns-in_default-clause-none : goal.returns-in_default-clause-none
returns-in_default-clause-none c = λ b rest small e.
    let same : b ≡ c.value-value.result = sym (c.value-value.ensures ∙ value_of-spelled c.args.text.now b rest e) in
    c.in_default.ensures.none rest (subst (λ v. c.args.text.now ≡ quoted_byte v ++ rest) same e)
