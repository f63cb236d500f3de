use Rattle.std.proofs.Common.{refl}
use Rattle.front.specs.Boards.{at_disk}
use Rattle.serve_loop.specs.Served.{disk_report, world_report}
use Rattle.sling_dispatch.specs.Endings.{IsDue}
use Rattle.sling_dispatch.specs.InnerServing.{IsOfServeEnd, IsOpeningOr}
use Rattle.sling_dispatch.specs.Reports.{call_of, report_of}
use Rattle.sling_dispatch.proofs.Meanings.{means_weaker}
use Rattle.sling_dispatch.proofs.Openings.{due_unopened, serves}
use Rattle.sling_dispatch.proofs.ServingLemmas.{due_end}
use Rattle.sling_dispatch.proofs.serving.serve_site.Goals as goal

pub returns-in-Err-clause-ending : goal.returns-in-Err-clause-ending
returns-in-Err-clause-ending g c = λ asked source inputs has.
    let o = c.args.outside.now in
    let old = g.D.Disk.files o.disk in
    let new = g.D.Disk.files c.open_front-opened.new.disk in
    let before = g.D.Disk.faults o.disk in
    let after = g.D.Disk.faults c.open_front-opened.new.disk in
    let log = g.W.World.log o.world in
    let next = g.W.World.next_faults o.world in
    let send = g.W.World.send_faults o.world in
    let world = world_report log log next next send send in
    let fault = c.in-Err.fault in
    let e = c.in-Err.ensures in
    means_weaker (IsOpeningOr fault) (IsDue (call_of asked source inputs (disk_report old new before after) world))
    (due_unopened (Unit {0}) asked source inputs old new before after world c.args.words.now c.args.publisher c.args.farm fault has e.cause e.keeps e.err e.unopened
    (record { log = refl; next_count = refl; send_count = refl }))
    c.refuse_opening.result
    (report_of (g.K.Sink.held o.sink) (g.K.Sink.held c.refuse_opening.new.sink) (g.K.Sink.faults o.sink) (g.K.Sink.faults c.refuse_opening.new.sink))
    c.refuse_opening.ensures

pub returns-clause-ending : goal.returns-clause-ending
returns-clause-ending g c = λ asked source inputs has.
    let o = c.args.outside.now in
    let front = c.in-Ok.front in
    let old = g.D.Disk.files o.disk in
    let mid = g.D.Disk.files c.open_front-opened.new.disk in
    let new = g.D.Disk.files c.serve-end.new.disk in
    let before = g.D.Disk.faults o.disk in
    let count = g.D.Disk.faults c.open_front-opened.new.disk in
    let after = g.D.Disk.faults c.serve-end.new.disk in
    let world = world_report (g.W.World.log o.world) (g.W.World.log c.serve-end.new.world) (g.W.World.next_faults o.world) (g.W.World.next_faults c.serve-end.new.world)
    (g.W.World.send_faults o.world) (g.W.World.send_faults c.serve-end.new.world) in
    let b = at_disk front.board mid count in
    let end = c.serve-end.result in
    let words = c.args.words.now in
    let e = c.in-Ok.ensures in
    let call = call_of asked source inputs (disk_report old new before after) world in
    means_weaker (IsOfServeEnd end words) (IsDue call)
    (due_end call end words
    (serves c.events_leave_nothing_due.ensures.start words c.args.publisher front.renderer.publisher c.args.farm end b asked source inputs old mid new before after count world has e.epoch e.opens e.cause
    c.serve-end.ensures.served c.serve-end.ensures.cause))
    c.say_end.result
    (report_of (g.K.Sink.held o.sink) (g.K.Sink.held c.say_end.new.sink) (g.K.Sink.faults o.sink) (g.K.Sink.faults c.say_end.new.sink))
    c.say_end.ensures

pub returns-clause-calls : goal.returns-clause-calls
returns-clause-calls g c =
    c.docroot_calls_add_up.ensures.more (g.D.Disk.calls c.args.outside.now.disk) (g.D.Disk.calls c.open_front-opened.new.disk) (g.D.Disk.calls c.serve-end.new.disk)
    c.in-Ok.ensures.calls c.serve-end.ensures.calls
