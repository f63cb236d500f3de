use Rattle.any_config.proofs.EntryLemmas.{query_fails, gives_fault, is_err}
use Rattle.any_config.proofs.entries.filter.Goals as goal

pub returns-in_err-test_at-8 : goal.returns-in_err-test_at-8
returns-in_err-test_at-8 c =
    gives_fault c.in_err-test_at-8.field-0.0 c.from_residual-in_err-test_at-8.result _ (is_err c.from_residual-in_err-test_at-8.ensures)
    (query_fails c.args.members.now c.in_err-test_at-8.field-0.0 _ _ _ _ _ _ _ _ c.in_ok-allow.ensures c.in_ok-test_at.ensures c.in_ok-test_at-2.ensures c.in_ok-test_at-3.ensures c.in_ok-test_at-4.ensures c.in_ok-test_at-5.ensures
    c.in_ok-test_at-6.ensures c.in_ok-test_at-7.ensures c.in_err-test_at-8.ensures)
