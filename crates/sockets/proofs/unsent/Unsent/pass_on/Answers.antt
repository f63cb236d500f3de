use Rattle.sockets.proofs.Giving.{given_at_once, given_nothing, given_then_flushed, cut_off, on_any_err, on_any_ok}
use Rattle.sockets.proofs.unsent.Unsent.pass_on.Goals as goal

pub returns-in_err-keep_rest-clause-err : goal.returns-in_err-keep_rest-clause-err
returns-in_err-keep_rest-clause-err g c =
    on_any_err _ _ (cut_off _ _ _ _ (given_at_once _ _ _ _ _ (c.is_empty.ensures.0 c.if-is_empty.true) c.in_ok-taken.ensures.ok))

pub returns-in_err-keep_rest-2-clause-err : goal.returns-in_err-keep_rest-2-clause-err
returns-in_err-keep_rest-2-clause-err g c = on_any_err _ _ (cut_off _ _ _ _ (given_nothing _ _))

pub returns-then-is_empty-clause-ok : goal.returns-then-is_empty-clause-ok
returns-then-is_empty-clause-ok g c =
    on_any_ok _ _ (given_then_flushed _ _ _ _ _ _ _ _ (c.is_empty.ensures.0 c.if-is_empty.true) c.in_ok-taken.ensures.ok c.in_ok-keep_rest.ensures c.flush.ensures)

pub returns-then-is_empty-clause-err : goal.returns-then-is_empty-clause-err
returns-then-is_empty-clause-err g c =
    on_any_err _ _ (cut_off _ _ _ _ (given_then_flushed _ _ _ _ _ _ _ _ (c.is_empty.ensures.0 c.if-is_empty.true) c.in_ok-taken.ensures.ok c.in_ok-keep_rest.ensures c.flush.ensures))
