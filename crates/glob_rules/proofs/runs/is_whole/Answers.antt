use Rattle.std.proofs.Common.{sym, ◌∙◌, ap, []}
use Rattle.std.specs.Str.{chars}
use Rattle.glob_rules.proofs.RunLemmas.{run_whole, over, then_match}
use Rattle.glob_rules.proofs.runs.is_whole.Goals as goal

pub returns-in-Some : goal.returns-in-Some
returns-in-Some c = c.is_empty.ensures ∙ sym (over _) ∙ ap (then_match []) (sym c.in-Some.ensures) ∙ sym (run_whole c.args.run.now (chars c.args.text.now) c.requires)

pub returns-in-None : goal.returns-in-None
returns-in-None c = ap (then_match []) (sym c.in-None.ensures) ∙ sym (run_whole c.args.run.now (chars c.args.text.now) c.requires)
