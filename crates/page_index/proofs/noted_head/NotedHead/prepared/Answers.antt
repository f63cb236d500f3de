use Rattle.std.proofs.Common.{sym, ◌∙◌}
use Rattle.page_index.proofs.AnswerHeadLemmas.{is_head_of_each}
use Rattle.page_index.proofs.noted_head.NotedHead.prepared.Goals as goal

pub invariant_of-result : goal.invariant_of-result
invariant_of-result c =
    is_head_of_each c.self.inside.head c.args.body c.in_ok-bytes.bytes c.in-Some.page (sym c.in_ok-page.ensures.page ∙ c.in-Some.is) c.in_ok-bytes.ensures
