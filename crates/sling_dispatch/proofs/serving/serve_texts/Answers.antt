use Rattle.std.proofs.Common.{◌≡◌, ◌∙◌, Ok, ap, sym, refl}
use Rattle.content_json.specs.ContentOf.{content as content_of}
use Rattle.serve_loop.specs.Served.{disk_report, world_report}
use Rattle.sling_dispatch.specs.Endings.{IsDue}
use Rattle.sling_dispatch.specs.InnerEndings.{IsContentOr}
use Rattle.sling_dispatch.specs.Reports.{call_of, report_of}
use Rattle.sling_dispatch.proofs.InputLemmas.{due_content_read}
use Rattle.sling_dispatch.proofs.Meanings.{means_weaker}
use Rattle.sling_dispatch.proofs.serving.serve_texts.Goals as goal

pub returns-in-Ok-clause-ending : goal.returns-in-Ok-clause-ending
returns-in-Ok-clause-ending g c = λ asked source inputs read.
    let reads : content_of c.args.texts.content ≡ Ok c.new.result = ap content_of (sym c.bytes.ensures) ∙ c.in-Ok.ensures.ok ∙ ap Ok (sym c.new.ensures) in
    c.serve_before.ensures.ending asked source inputs c.args.texts.content reads read

pub returns-clause-ending : goal.returns-clause-ending
returns-clause-ending g c = λ asked source inputs read.
    let o = c.args.outside.now in
    let files = g.D.Disk.files o.disk in
    let faults = g.D.Disk.faults o.disk in
    let log = g.W.World.log o.world in
    let next = g.W.World.next_faults o.world in
    let send = g.W.World.send_faults o.world in
    let disk = disk_report files files faults faults in
    let world = world_report log log next next send send in
    let fault = c.in-Err.fault in
    means_weaker (IsContentOr fault) (IsDue (call_of asked source inputs disk world))
    (due_content_read asked source inputs disk world c.args.words c.args.texts.content c.args.texts.any fault read (record { files = refl; count = refl })
    (record { log = refl; next_count = refl; send_count = refl }) (λ h. ap content_of (sym c.bytes.ensures) ∙ c.in-Err.ensures.err h))
    c.refuse_content.result
    (report_of (g.K.Sink.held o.sink) (g.K.Sink.held c.refuse_content.new.sink) (g.K.Sink.faults o.sink) (g.K.Sink.faults c.refuse_content.new.sink))
    c.refuse_content.ensures
