use Rattle.std.proofs.Common.{◌∙◌, ◌++◌, ap, codes}
use Rattle.sling_dispatch.specs.Summaries.{counts_text, row}
use Rattle.sling_dispatch.proofs.Counting.{grown_on}
use Rattle.sling_dispatch.proofs.summary.Counts.text.Goals as goal

pub returns : goal.returns
unfolding counts_text
returns c =
    let n = c.args.self.now in
    let all = grown_on _ _ _ (row (codes "events") n.events) _ c.in_ok-push_row.ensures
    (grown_on _ _ _ (row (codes "asks") n.asks) _ c.in_ok-push_row-2.ensures
    (grown_on _ _ _ (row (codes "hits") n.hits) _ c.in_ok-push_row-3.ensures
    (grown_on _ _ _ (row (codes "kept") n.kept) _ c.in_ok-push_row-4.ensures
    (grown_on _ _ _ (row (codes "passed") n.passed) _ c.in_ok-push_row-5.ensures
    (grown_on _ _ _ (row (codes "unkept") n.unkept) _ c.in_ok-push_row-6.ensures
    (grown_on _ _ _ (row (codes "lost") n.lost) _ c.in_ok-push_row-7.ensures
    (grown_on _ _ _ (row (codes "flushes") n.flushes) _ c.in_ok-push_row-8.ensures
    (grown_on _ _ _ (row (codes "done") n.done) _ c.in_ok-push_row-9.ensures
    (grown_on _ _ _ (row (codes "failed") n.failed) _ c.in_ok-push_row-10.ensures
    (grown_on _ _ _ (row (codes "sent") n.sent) _ c.in_ok-push_row-11.ensures
    (grown_on _ _ _ (row (codes "hurt") n.disk_failed) _ c.in_ok-push_row-12.ensures c.in_ok-push_row-13.ensures))))))))))) in
    all ∙ ap (λ t. t ++ counts_text n) c.new-out.ensures.items
