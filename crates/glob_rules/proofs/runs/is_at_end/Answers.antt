use Rattle.std.proofs.Common.{◌≡◌, ◌∷◌, [], ap, sym, ◌∙◌, rules, true, false}
use Rattle.std.specs.Str.{chars}
use Rattle.glob_rules.specs.declared.piece.GlobPiece.TheVariants.{Star}
use Rattle.glob_rules.specs.Globs.{is_match}
use Rattle.glob_rules.proofs.RunLemmas.{end_here, end_over, end_step}
use Rattle.glob_rules.proofs.runs.is_at_end.Goals as goal

pub returns-then-is_whole : goal.returns-then-is_whole
returns-then-is_whole c =
    let whole : is_match c.args.run.now (chars c.loop-rest.rest.now) ≡ true = search rules in
    sym (end_here c.args.run.now (chars c.loop-rest.rest.now) whole) ∙ c.loop-rest.invariant.1

pub returns-in_default : goal.returns-in_default
returns-in_default c =
    let over : chars c.loop-rest.rest.now ≡ [] = search rules in
    let part : is_match c.args.run.now (chars c.loop-rest.rest.now) ≡ false = search rules in
    sym part ∙ ap (is_match c.args.run.now) over ∙ sym (end_over c.args.run.now) ∙ ap (is_match (Star ∷ c.args.run.now)) (sym over) ∙ c.loop-rest.invariant.1

pub loop-rest-preserved : goal.loop-rest-preserved
loop-rest-preserved c =
    let part : is_match c.args.run.now (chars c.loop-rest.rest.now) ≡ false = search rules in
    let more = c.in-Some.ensures.value in
    (search rules, end_step c.args.run.now _ _ (ap (is_match c.args.run.now) (sym more) ∙ part) ∙ ap (is_match (Star ∷ c.args.run.now)) (sym more) ∙ c.loop-rest.invariant.1)
