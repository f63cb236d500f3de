use Rattle.std.proofs.Common.{◌≡◌, [], ap, sym, ◌∙◌, rules, None}
use Rattle.std.specs.Str.{chars}
use Rattle.glob_rules.specs.Runs.{after_run, after_first_run}
use Rattle.glob_rules.proofs.RunLemmas.{first_here, first_none, first_later}
use Rattle.glob_rules.proofs.runs.after_first_run.Goals as goal

pub returns-in-Some : goal.returns-in-Some
returns-in-Some c = sym c.loop-after.invariant.1 ∙ first_here c.args.run.now (chars c.loop-after.rest.now) _ c.in-Some.ensures

pub returns-in_default-first_char : goal.returns-in_default-first_char
returns-in_default-first_char c =
    let over : chars c.loop-after.rest.now ≡ [] = search rules in
    let stops : after_run c.args.run.now (chars c.loop-after.rest.now) ≡ None = search rules in
    sym c.loop-after.invariant.1 ∙ ap (after_first_run c.args.run.now) over ∙ first_none c.args.run.now (ap (after_run c.args.run.now) (sym over) ∙ stops)

pub loop-after-preserved : goal.loop-after-preserved
loop-after-preserved c =
    let stops : after_run c.args.run.now (chars c.loop-after.rest.now) ≡ None = search rules in
    let more = c.in-Some-first_char.ensures.value in
    (search rules, first_later c.args.run.now _ _ (ap (after_run c.args.run.now) (sym more) ∙ stops) ∙ ap (after_first_run c.args.run.now) (sym more) ∙ c.loop-after.invariant.1)
