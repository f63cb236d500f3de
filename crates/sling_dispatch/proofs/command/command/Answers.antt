use Rattle.std.proofs.Common.{◌∙◌, map, ap, sym, subst, refl}
use Rattle.serve_loop.specs.Served.{disk_report, world_report}
use Rattle.sling_dispatch.specs.Endings.{AreWordsOf}
use Rattle.sling_dispatch.specs.Reports.{report_of}
use Rattle.sling_dispatch.proofs.Words.{words_unread}
use Rattle.sling_dispatch.proofs.command.command.Goals as goal

pub returns-in_default-clause-ending : goal.returns-in_default-clause-ending
returns-in_default-clause-ending g c =
    let o = c.args.outside.now in
    let left = g.S.Source.left o.source in
    let reads = g.S.Source.faults o.source in
    let held = g.K.Sink.held o.sink in
    let writes = g.K.Sink.faults o.sink in
    let contents = g.I.Inputs.contents o.inputs in
    let inputs = g.I.Inputs.faults o.inputs in
    let files = g.D.Disk.files o.disk in
    let faults = g.D.Disk.faults o.disk in
    let log = g.W.World.log o.world in
    let next = g.W.World.next_faults o.world in
    let send = g.W.World.send_faults o.world in
    words_unread (g.L.Words.told c.args.line.now) (report_of left left reads reads) (report_of contents contents inputs inputs) (disk_report files files faults faults)
    (world_report log log next next send send) (report_of held held writes writes) c.status.result (g.D.Disk.calls o.disk) c.status.ensures (refl, refl) (refl, refl)
    (record { files = refl; count = refl }) (record { log = refl; next_count = refl; send_count = refl }) refl refl

pub returns-in_default-slices_of-clause-ending : goal.returns-in_default-slices_of-clause-ending
returns-in_default-slices_of-clause-ending g c =
    let o = c.args.outside.now in
    let left = g.S.Source.left o.source in
    let reads = g.S.Source.faults o.source in
    let held = g.K.Sink.held o.sink in
    let writes = g.K.Sink.faults o.sink in
    let contents = g.I.Inputs.contents o.inputs in
    let inputs = g.I.Inputs.faults o.inputs in
    let files = g.D.Disk.files o.disk in
    let faults = g.D.Disk.faults o.disk in
    let log = g.W.World.log o.world in
    let next = g.W.World.next_faults o.world in
    let send = g.W.World.send_faults o.world in
    words_unread (g.L.Words.told c.args.line.now) (report_of left left reads reads) (report_of contents contents inputs inputs) (disk_report files files faults faults)
    (world_report log log next next send send) (report_of held held writes writes) c.status-in_default-slices_of.result (g.D.Disk.calls o.disk)
    c.status-in_default-slices_of.ensures (refl, refl) (refl, refl) (record { files = refl; count = refl }) (record { log = refl; next_count = refl; send_count = refl }) refl refl

pub returns-clause-ending : goal.returns-clause-ending
returns-clause-ending g c =
    let run = c.run.ensures in
    let same = ap (map (λ w. w.now)) c.deref.ensures.value ∙ c.in-Ok-slices_of.ensures in
    (map (λ w. w.now) c.deref.result.now, subst (AreWordsOf (g.L.Words.told c.args.line.now)) (sym same) c.in-Ok.ensures, run.ending.0, run.ending.1, run.ending.2, (λ none. (run.apart none, run.uncalled none)), run.source)
