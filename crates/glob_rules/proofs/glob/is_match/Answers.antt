use Rattle.std.proofs.Common.{◌≡◌, ◌∷◌, ◌∙◌, sym, ap, rules, arith, None, length, ◌-◌, take, drop}
use Rattle.std.specs.Str.{chars}
use Rattle.glob_rules.specs.declared.piece.GlobPiece.TheVariants.{Star}
use Rattle.glob_rules.specs.Runs.{after_run}
use Rattle.glob_rules.proofs.RunLemmas.{prefix_at, prefix_fails, prefix_whole, then_match}
use Rattle.glob_rules.proofs.glob.is_match.Goals as goal

pub returns-in_default : goal.returns-in_default
returns-in_default c =
    let none : after_run c.split_at_star.result.0.now (chars c.args.text.now) ≡ None = search rules in
    sym (prefix_fails c.args.pieces.now c.split_at_star.result.0.now c.split_at_star.result.1.now (chars c.args.text.now) c.split_at_star.ensures.parts c.split_at_star.ensures.run none)

pub returns-in-empty : goal.returns-in-empty
returns-in-empty c =
    c.is_empty.ensures
    ∙ sym (prefix_whole c.args.pieces.now c.split_at_star.result.0.now c.split_at_star.result.1.now (chars c.args.text.now) _ c.split_at_star.ensures.parts (omega arith) c.split_at_star.ensures.run c.in-Some.ensures)

pub returns-in-len1-up : goal.returns-in-len1-up
returns-in-len1-up c =
    let later = c.split_at_star.result.1.now in
    let all = prefix_at c.args.pieces.now c.split_at_star.result.0.now later (chars c.args.text.now) c.split_at_star.ensures.parts c.split_at_star.ensures.run c.split_at_star.ensures.rest (omega arith) in
    c.matches_somewhere.ensures ∙ sym (ap (then_match (Star ∷ take (length later - 1) (drop 1 later))) c.in-Some.ensures) ∙ sym all
