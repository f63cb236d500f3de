use Rattle.std.proofs.Common.{◌≡◌, ◌∙◌, ◌++◌, ◌∷◌, ◌≤◌, [], length, take, sym, ap, arith, List, ℕ}
use Rattle.cover_rules.specs.Coverage.{lineage}
use Rattle.cover_rules.proofs.TouchLemmas.{lineage_more, lineage_whole}
use Rattle.cover_rules.proofs.touch.lineage.Goals as goal

pub loop-n-preserved : goal.loop-n-preserved
loop-n-preserved c =
    let path = c.args.path.now in
    let within : c.loop-n.n ≤ length path = omega (arith, c.depth-n-end.ensures.depth) in
    c.in_ok-push.ensures.ok ∙ ap (λ (paths : List (List (List ℕ))). paths ++ c.in_ok-first.field-0 ∷ []) c.loop-n.invariant
    ∙ ap (λ (p : List (List ℕ)). take c.loop-n.n (lineage path) ++ p ∷ []) c.in_ok-first.ensures ∙ sym (lineage_more path c.loop-n.n within)

pub returns : goal.returns
returns c =
    let path = c.args.path.now in
    let all : c.loop-n.n ≡ length path = omega (arith, c.depth-n-end.ensures.depth) in
    c.in_ok-push-2.ensures.ok ∙ ap (λ (paths : List (List (List ℕ))). paths ++ c.in_ok-duplicate.field-0 ∷ []) c.loop-n.invariant
    ∙ ap (λ (p : List (List ℕ)). take c.loop-n.n (lineage path) ++ p ∷ []) c.in_ok-duplicate.ensures ∙ ap (λ n. take n (lineage path) ++ path ∷ []) all ∙ lineage_whole path
