use Rattle.std.proofs.Common.{sym, subst}
use Rattle.run_laws.specs.Histories.{HasReadAll}
use Rattle.run_laws.proofs.StreamLemmas.{same-turns}
use Rattle.run_laws.proofs.laws.a_cutting_changes_no_turn.Goals as goal

pub returns : goal.returns
returns c p q a b n m x y run after some there reads on same =
    let first = c.connections_are_answered_in_order.ensures.reads p a n x run some reads in
    let second = c.connections_are_answered_in_order.ensures.reads q b m y after there on in
    same-turns c.the_turns_of_a_beginning.ensures _ x y first (subst (λ came. HasReadAll came y) (sym same) second)
