use Rattle.std.proofs.Common.{◌≡◌, take}
use Rattle.sling_dispatch.specs.Summaries.{counts, plus}
use Rattle.sling_dispatch.proofs.summary.Counts.count.Given as goal

abbrev pub invariant-loop-note : goal.invariant-loop-note
invariant-loop-note l = l.self ≡ plus l.fn.self (counts 1 (take l.note-index l.notes))
