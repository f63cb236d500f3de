use Rattle.std.proofs.Common.{[], sym, subst}
use Rattle.cache_log.specs.Rules.{IsLegal}
use Rattle.serve_loop.proofs.laws.sessions_begin_in_legal_logs.Goals as goal

pub returns-clause-over : goal.returns-clause-over
returns-clause-over c = λ s files log epoch closed legal next is. record {
  epoch = epoch;
  earlier = log;
  log_is = is;
  legal = subst (IsLegal s.farm) (sym is) (c.a_session_begins_in_a_legal_log.ensures.over s.farm files log epoch closed legal next);
}

pub returns-clause-first : goal.returns-clause-first
returns-clause-first c = λ s epoch is. record {
  epoch = epoch;
  earlier = [];
  log_is = is;
  legal = subst (IsLegal s.farm) (sym is) (c.a_session_begins_in_a_legal_log.ensures.first s.farm epoch);
}
