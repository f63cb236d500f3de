use Rattle.sling_dispatch.specs.Reports.{report_of}
use Rattle.sling_dispatch.proofs.Meanings.{content_told}
use Rattle.sling_dispatch.proofs.replaying.session.Goals as goal

pub returns-in-Err : goal.returns-in-Err
returns-in-Err g c =
    content_told c.args.scenario c.in-Err.fault c.bytes.result.now c.refuse_content.result
    (report_of (g.K.Sink.held c.args.sink.now) (g.K.Sink.held c.refuse_content.new.sink) (g.K.Sink.faults c.args.sink.now) (g.K.Sink.faults c.refuse_content.new.sink))
    c.bytes.ensures c.in-Err.ensures.err c.refuse_content.ensures
