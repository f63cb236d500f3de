use Rattle.std.proofs.Common.{rules, ◌≡◌, ◌==◌, false}
use Rattle.http.specs.StatusCode.{IsStatusCode}
use Rattle.error_answers.proofs.PhraseLemmas.{no_phrase}
use Rattle.error_answers.proofs.errors.phrase_of.Goals as goal

pub returns-in-Err : goal.returns-in-Err
returns-in-Err c =
    let other : (c.args.status == 413) ≡ false = search rules in
    let no : IsStatusCode c.args.status → ⊥ = search rules in
    no_phrase c.args.status no other
