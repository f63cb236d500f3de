use Rattle.std.proofs.Common.{◌∙◌, ap}
use Rattle.sling_dispatch.specs.Reports.{report_of}
use Rattle.sling_dispatch.specs.InnerEndings.{IsDueIn, IsDueOf, IsFarmOr}
use Rattle.sling_dispatch.specs.Farms.{farm_in, farm_text}
use Rattle.sling_dispatch.proofs.Meanings.{means_weaker, due_acts, due_farm}
use Rattle.sling_dispatch.proofs.replaying.run_on.Goals as goal

pub returns-in-Ok : goal.returns-in-Ok
returns-in-Ok g c = λ s same given reads.
    means_weaker (IsDueOf s) (IsDueIn s) (due_acts s) c.play.result
    (report_of (g.K.Sink.held c.args.sink.now) (g.K.Sink.held c.play.new.sink) (g.K.Sink.faults c.args.sink.now) (g.K.Sink.faults c.play.new.sink))
    (c.play.ensures s same reads (ap (λ x. farm_in (farm_text x)) given ∙ c.in-Ok.ensures.ok))

pub returns-in-Err : goal.returns-in-Err
returns-in-Err g c = λ s same given reads.
    means_weaker (IsFarmOr c.in-Err.refusal) (IsDueIn s) (due_farm s c.in-Err.refusal (_, reads) (λ h. ap (λ x. farm_in (farm_text x)) given ∙ c.in-Err.ensures.err h)) c.refuse_farm.result
    (report_of (g.K.Sink.held c.args.sink.now) (g.K.Sink.held c.refuse_farm.new.sink) (g.K.Sink.faults c.args.sink.now) (g.K.Sink.faults c.refuse_farm.new.sink))
    c.refuse_farm.ensures
