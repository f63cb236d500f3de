use Rattle.std.specs.Str.{chars}
use Rattle.std.proofs.lemmas.Result.{err_from_is_err_and}
use Rattle.regex_rules.specs.Spelling.{strict}
use Rattle.regex_rules.specs.Reading.{read_from, unread}
use Rattle.regex_rules.proofs.ReadLemmas.{read_stops}
use Rattle.regex_rules.proofs.read.read_places.Goals as goal

pub returns-in_err-step-clause-err : goal.returns-in_err-step-clause-err
returns-in_err-step-clause-err c =
    let p = err_from_is_err_and c.from_residual.result c.from_residual.ensures.1 in
    rw (p.1, p.2) (λ known. read_stops c.args.text.now c.loop-c.rest.now c.in-Some.later.now c.in-Some.c c.loop-c.reader c.in_err-step.field-0.0 (read_from strict 0 unread (chars c.args.text.now))
    c.in-Some.ensures.value (c.in_err-step.ensures.err known) c.loop-c.invariant.2)
