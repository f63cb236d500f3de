use Rattle.std.proofs.Common.{◌≡◌, ◌-◌, ◌++◌, ◌∷◌, [], sym, ◌∙◌, ap, arith}
use Rattle.script_rank.specs.declared.naming.Naming.TheVariants.{Selectors}
use Rattle.script_rank.specs.Search.{with_selectors}
use Rattle.script_rank.proofs.NamingLemmas.{with_selectors-done, with_both, with_one}
use Rattle.script_rank.proofs.naming.add_with_selectors.Goals as goal
use Rattle.script_rank.proofs.naming.add_with_selectors.Goals.{then-html+in_ok-push-2, else-html}

pub loop-left-preserved : goal.loop-left-preserved
loop-left-preserved c =
    let html = c.args.html in
    let left = c.loop-left.left in
    let prefix = c.loop-left.list.items in
    let fewer = with_selectors html (left - 1) in
    elim c.if-html.branch [
      | then-html+in_ok-push-2 w ↦
          ap (λ list. list.items ++ fewer) w.list-is ∙ ap (λ xs. xs ++ fewer) w.in_ok-push-2.ensures.items ∙ ap (λ xs. (xs ++ Selectors left ∷ []) ++ fewer) c.in_ok-push.ensures.items
          ∙ with_both html prefix left w.if-html.true (omega arith) ∙ c.loop-left.invariant
      | else-html w ↦
          ap (λ list. list.items ++ fewer) w.list-is ∙ ap (λ xs. xs ++ fewer) c.in_ok-push.ensures.items
          ∙ with_one html prefix left w.if-html.false (omega arith) ∙ c.loop-left.invariant
    ]

pub returns : goal.returns
returns c =
    let none : c.loop-left.left ≡ 0 = omega arith in
    sym (with_selectors-done c.args.html c.loop-left.list.items) ∙ ap (λ n. c.loop-left.list.items ++ with_selectors c.args.html n) (sym none) ∙ c.loop-left.invariant
