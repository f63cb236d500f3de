use Rattle.std.proofs.Common.{◌∙◌, ap}
use Rattle.sling_dispatch.specs.Summaries.{counts, counts_of, plus}
use Rattle.sling_dispatch.proofs.Counting.{counts_all, counts_more, counts_of_more, plus_event}
use Rattle.sling_dispatch.proofs.summary.Counts.count.Goals as goal

pub loop-note-init : goal.loop-note-init
loop-note-init c = plus_event c.args.self.now c.add.new.count c.in_ok-add.ensures

pub loop-note-preserved : goal.loop-note-preserved
loop-note-preserved c =
    c.in_ok-count_note.ensures
    ∙ counts_more c.args.self.now c.loop-note.self c.args.notes.now c.loop-note.note-index c.note-item.result c.loop-note-test.true c.note-item.is c.loop-note.invariant

pub returns-clause-added : goal.returns-clause-added
returns-clause-added c =
    counts_all c.args.self.now c.loop-note.self c.args.notes.now c.loop-note.note-index c.loop-note.auto.note-index-end c.loop-note-test.false c.loop-note.invariant

pub returns-clause-counted : goal.returns-clause-counted
returns-clause-counted c = λ events event before notes.
    returns-clause-added c ∙ ap (λ x. plus x (counts 1 c.args.notes.now)) before ∙ ap (λ ns. plus (counts_of events) (counts 1 ns)) notes ∙ counts_of_more events event
