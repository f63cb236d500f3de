use Rattle.std.proofs.Common.{◌≡◌, ◌∷◌, ◌∙◌, sym, ap, rules, arith, None, length, ◌-◌, take, drop}
use Rattle.std.specs.Str.{chars}
use Rattle.glob_rules.specs.declared.piece.GlobPiece.TheVariants.{Star}
use Rattle.glob_rules.specs.Runs.{after_first_run}
use Rattle.glob_rules.proofs.RunLemmas.{greedy_at, then_match}
use Rattle.glob_rules.proofs.glob.matches_somewhere.Goals as goal

pub returns-in_default : goal.returns-in_default
returns-in_default c =
    let none : after_first_run c.split_at_star.result.0.now (chars c.loop-later.rest.now) ≡ None = search rules in
    let later = c.split_at_star.result.1.now in
    let all = greedy_at c.loop-later.left.now c.split_at_star.result.0.now later (chars c.loop-later.rest.now) c.split_at_star.ensures.parts c.split_at_star.ensures.run c.split_at_star.ensures.rest (omega arith) in
    sym (ap (then_match (Star ∷ take (length later - 1) (drop 1 later))) none) ∙ sym all ∙ c.loop-later.invariant.1

pub loop-later-preserved : goal.loop-later-preserved
loop-later-preserved c =
    let later = c.split_at_star.result.1.now in
    let all = greedy_at c.loop-later.left.now c.split_at_star.result.0.now later (chars c.loop-later.rest.now) c.split_at_star.ensures.parts c.split_at_star.ensures.run c.split_at_star.ensures.rest (omega arith) in
    (search rules, sym (ap (then_match (Star ∷ take (length later - 1) (drop 1 later))) c.in-Some.ensures) ∙ sym all ∙ c.loop-later.invariant.1)
