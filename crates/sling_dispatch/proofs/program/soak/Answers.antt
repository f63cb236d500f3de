use Rattle.sling_dispatch.specs.Reports.{report_of}
use Rattle.sling_dispatch.proofs.SoakLemmas.{told_summary}
use Rattle.sling_dispatch.proofs.program.soak.Goals as goal

pub returns : goal.returns
returns g c =
    let sink = report_of (g.K.Sink.held c.args.sink.now) (g.K.Sink.held c.say_line.new.sink) (g.K.Sink.faults c.args.sink.now) (g.K.Sink.faults c.say_line.new.sink) in
    told_summary (λ text. text.items) c.args.number c.say_line.result c.summary_of.result sink c.summary_of.ensures c.say_line.ensures.made c.say_line.ensures.not_made
