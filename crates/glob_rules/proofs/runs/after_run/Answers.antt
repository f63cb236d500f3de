use Rattle.std.proofs.Common.{◌≡◌, ◌∷◌, [], ◌+◌, drop, ap, sym, ◌∙◌, rules, arith, List, ℕ}
use Rattle.std.specs.Str.{chars}
use Rattle.glob_rules.specs.declared.piece.GlobPiece.{GlobPiece}
use Rattle.glob_rules.specs.Runs.{after_run}
use Rattle.glob_rules.proofs.RunLemmas.{run_over, run_stops, run_goes_on, run_done, piece_at, drop_past}
use Rattle.glob_rules.proofs.runs.after_run.Goals as goal

pub returns-in_default : goal.returns-in_default
returns-in_default c =
    let over : chars c.loop-piece.rest.now ≡ [] = search rules in
    let here = piece_at c.args.run.now c.loop-piece.piece-index c.piece-item.result (omega arith) c.piece-item.is in
    sym c.loop-piece.invariant.1 ∙ ap (λ (p : List GlobPiece). after_run p (chars c.loop-piece.rest.now)) here
    ∙ ap (λ (cs : List ℕ). after_run (c.piece-item.result ∷ drop (c.loop-piece.piece-index + 1) c.args.run.now) cs) over ∙ run_over _ _

pub returns-then-not-stands_for : goal.returns-then-not-stands_for
returns-then-not-stands_for c =
    let here = piece_at c.args.run.now c.loop-piece.piece-index c.piece-item.result (omega arith) c.piece-item.is in
    sym c.loop-piece.invariant.1 ∙ ap (λ (p : List GlobPiece). after_run p (chars c.loop-piece.rest.now)) here
    ∙ ap (λ (cs : List ℕ). after_run (c.piece-item.result ∷ drop (c.loop-piece.piece-index + 1) c.args.run.now) cs) c.in-Some.ensures.value ∙ run_stops _ _ _ _ (search rules)

pub loop-piece-preserved : goal.loop-piece-preserved
loop-piece-preserved c =
    let here = piece_at c.args.run.now c.loop-piece.piece-index c.piece-item.result (omega arith) c.piece-item.is in
    let on = run_goes_on c.piece-item.result (drop (c.loop-piece.piece-index + 1) c.args.run.now) c.in-Some.c (chars c.in-Some.later.now) (search rules) in (
      search rules,
      sym on ∙ ap (λ (cs : List ℕ). after_run (c.piece-item.result ∷ drop (c.loop-piece.piece-index + 1) c.args.run.now) cs) (sym c.in-Some.ensures.value)
          ∙ ap (λ (p : List GlobPiece). after_run p (chars c.loop-piece.rest.now)) (sym here) ∙ c.loop-piece.invariant.1,
    )

pub returns : goal.returns
returns c =
    sym c.loop-piece.invariant.1 ∙ ap (λ (p : List GlobPiece). after_run p (chars c.loop-piece.rest.now)) (drop_past c.args.run.now c.loop-piece.piece-index (omega arith))
    ∙ run_done (chars c.loop-piece.rest.now)
