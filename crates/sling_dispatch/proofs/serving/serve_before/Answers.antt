use Rattle.std.proofs.Common.{◌∙◌, ap, sym, refl}
use Rattle.serve_loop.specs.Served.{disk_report, world_report}
use Rattle.sling_dispatch.specs.Endings.{IsDue}
use Rattle.sling_dispatch.specs.Farms.{farm_in}
use Rattle.sling_dispatch.specs.InnerEndings.{IsFarmOr}
use Rattle.sling_dispatch.specs.Reports.{call_of, report_of}
use Rattle.sling_dispatch.proofs.InputLemmas.{due_farm_read, has_inputs}
use Rattle.sling_dispatch.proofs.Meanings.{means_weaker}
use Rattle.sling_dispatch.proofs.serving.serve_before.Goals as goal

pub returns-in-Ok-clause-ending : goal.returns-in-Ok-clause-ending
returns-in-Ok-clause-ending g c = λ asked source inputs content reads read.
    c.serve_site.ensures.ending asked source inputs
    (has_inputs asked source inputs c.args.words.now content c.args.any c.args.publisher c.in-Ok.farm read reads (ap farm_in (sym c.bytes.ensures) ∙ c.in-Ok.ensures.ok))

pub returns-in-Err-clause-ending : goal.returns-in-Err-clause-ending
returns-in-Err-clause-ending g c = λ asked source inputs content reads read.
    let o = c.args.outside.now in
    let files = g.D.Disk.files o.disk in
    let faults = g.D.Disk.faults o.disk in
    let log = g.W.World.log o.world in
    let next = g.W.World.next_faults o.world in
    let send = g.W.World.send_faults o.world in
    let disk = disk_report files files faults faults in
    let world = world_report log log next next send send in
    let refusal = c.in-Err.refusal in
    means_weaker (IsFarmOr refusal) (IsDue (call_of asked source inputs disk world))
    (due_farm_read asked source inputs disk world c.args.words.now content c.args.any c.args.publisher refusal read reads (record { files = refl; count = refl })
    (record { log = refl; next_count = refl; send_count = refl }) (λ h. ap farm_in (sym c.bytes.ensures) ∙ c.in-Err.ensures.err h))
    c.refuse_farm.result
    (report_of (g.K.Sink.held o.sink) (g.K.Sink.held c.refuse_farm.new.sink) (g.K.Sink.faults o.sink) (g.K.Sink.faults c.refuse_farm.new.sink))
    c.refuse_farm.ensures
