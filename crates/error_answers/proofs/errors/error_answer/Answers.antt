use Rattle.std.proofs.Common.{◌≡◌, ◌++◌, ◌∷◌, [], IfOk, sym, ◌∙◌, ap, subst, append_assoc}
use Rattle.std.specs.Prelude.{codes, decimal}
use Rattle.error_answers.specs.Errors.{line_answer, error_answer}
use Rattle.error_answers.proofs.errors.error_answer.Goals as goal

pub returns : goal.returns
unfolding error_answer
returns c =
    let digits = decimal c.args.status in
    let phrase = c.phrase_of.result.now in
    let line = c.from-body.ensures ∙ c.from.ensures ∙ c.in_ok-body.ensures.ok
    ∙ sym (append_assoc (digits ++ codes " ") phrase (10 ∷ []) ∙ append_assoc digits (codes " ") (phrase ++ 10 ∷ []))
    ∙ ap (λ p. digits ++ codes " " ++ p ++ 10 ∷ []) c.phrase_of.ensures in
    subst (λ body. IfOk c.line_answer.result (λ a. a ≡ line_answer c.args.status body)) line c.line_answer.ensures
