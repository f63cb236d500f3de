use Rattle.std.proofs.Common.{sym}
use Rattle.form_input.proofs.ParameterLemmas.{ends_in_word, ends_in_blank}
use Rattle.form_input.proofs.parameters.before_blanks.Goals as goal

pub returns-then-not-is_blank : goal.returns-then-not-is_blank
returns-then-not-is_blank c = ends_in_word c.loop-rest.rest.now c.args.text.now c.in-len1-up.len_at_least (sym c.if-not-is_blank.ensures) c.loop-rest.invariant

pub loop-rest-preserved : goal.loop-rest-preserved
loop-rest-preserved c = ends_in_blank c.loop-rest.rest.now c.args.text.now c.in-len1-up.len_at_least (sym c.if-not-is_blank.ensures) c.loop-rest.invariant
