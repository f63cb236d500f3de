use Rattle.std.proofs.Common.{◌∙◌, ℕ, List, Option, IfSome, Ok, Err, ap, refl, subst}
use Rattle.sp_outside.specs.Files.{Files}
use Rattle.outside_world.specs.Faults.{HasInputCause}
use Rattle.outside_world.specs.InputFiles.{IsAnswerFor}
use Rattle.serve_loop.specs.Served.{disk_report, world_report}
use Rattle.sling_dispatch.specs.Endings.{IsDue, Means}
use Rattle.sling_dispatch.specs.InnerServing.{IsInputOr}
use Rattle.sling_dispatch.specs.Reports.{call_of, report_of}
use Rattle.sling_dispatch.proofs.InputLemmas.{due_first, due_second, was_read}
use Rattle.sling_dispatch.proofs.Meanings.{means_weaker}
use Rattle.sling_dispatch.proofs.serving.serve_named.Goals as goal

pub returns-in-Err-clause-ending : goal.returns-in-Err-clause-ending
returns-in-Err-clause-ending g c = λ asked source asks same.
    let o = c.args.outside.now in
    let told = g.I.Inputs.contents o.inputs in
    let new = g.I.Inputs.contents c.whole.new.self in
    let before = g.I.Inputs.faults o.inputs in
    let after = g.I.Inputs.faults c.whole.new.self in
    let files = g.D.Disk.files o.disk in
    let faults = g.D.Disk.faults o.disk in
    let log = g.W.World.log o.world in
    let next = g.W.World.next_faults o.world in
    let send = g.W.World.send_faults o.world in
    let disk = disk_report files files faults faults in
    let world = world_report log log next next send send in
    let words = c.args.words in
    let fault = c.in-Err.fault in
    let value = subst (λ (name : List ℕ). IfSome told (λ x. IsAnswerFor x name (Err fault))) c.text.ensures c.in-Err.ensures.value in
    let sink = report_of (g.K.Sink.held o.sink) (g.K.Sink.held c.refuse_input.new.sink) (g.K.Sink.faults o.sink) (g.K.Sink.faults c.refuse_input.new.sink) in
    means_weaker (IsInputOr fault words.content) (IsDue (call_of asked source (report_of told new before after) disk world))
    (due_first (Unit {0}) asked source told new before after disk world words fault asks same c.in-Err.ensures.same (record { files = refl; count = refl })
    (record { log = refl; next_count = refl; send_count = refl }) c.in-Err.ensures.cause value)
    c.refuse_input.result sink
    (subst (λ (name : List ℕ). Means (IsInputOr fault name) c.refuse_input.result sink) c.text-in-Err.ensures c.refuse_input.ensures)

pub returns-in-Err-whole-clause-ending : goal.returns-in-Err-whole-clause-ending
returns-in-Err-whole-clause-ending g c = λ asked source asks same.
    let o = c.args.outside.now in
    let told = g.I.Inputs.contents o.inputs in
    let mid = g.I.Inputs.contents c.whole.new.self in
    let new = g.I.Inputs.contents c.whole-2.new.self in
    let before = g.I.Inputs.faults o.inputs in
    let after = g.I.Inputs.faults c.whole-2.new.self in
    let files = g.D.Disk.files o.disk in
    let faults = g.D.Disk.faults o.disk in
    let log = g.W.World.log o.world in
    let next = g.W.World.next_faults o.world in
    let send = g.W.World.send_faults o.world in
    let disk = disk_report files files faults faults in
    let world = world_report log log next next send send in
    let words = c.args.words in
    let fault = c.in-Err-whole.fault in
    let first = c.in-Ok.ensures in
    let second = c.in-Err-whole.ensures in
    let read = subst (λ (name : List ℕ). IfSome told (λ x. IsAnswerFor x name (Ok c.in-Ok.bytes))) c.text.ensures first.value in
    let value = subst (λ (held : Option Files). IfSome held (λ x. IsAnswerFor x words.any (Err fault))) first.same
    (subst (λ (name : List ℕ). IfSome mid (λ x. IsAnswerFor x name (Err fault))) c.text-2.ensures second.value) in
    let sink = report_of (g.K.Sink.held o.sink) (g.K.Sink.held c.refuse_input-in-Err-whole.new.sink) (g.K.Sink.faults o.sink) (g.K.Sink.faults c.refuse_input-in-Err-whole.new.sink) in
    let cause = subst (λ (n : ℕ). HasInputCause {T = Unit {0}} n after (Err fault)) first.cause second.cause in
    means_weaker (IsInputOr fault words.any) (IsDue (call_of asked source (report_of told new before after) disk world))
    (due_second (Unit {0}) asked source told new before after disk world words c.in-Ok.bytes fault asks same (second.same ∙ first.same) (record { files = refl; count = refl })
    (record { log = refl; next_count = refl; send_count = refl }) (was_read told words.content c.in-Ok.bytes read first.size) cause value)
    c.refuse_input-in-Err-whole.result sink
    (subst (λ (name : List ℕ). Means (IsInputOr fault name) c.refuse_input-in-Err-whole.result sink) c.text-in-Err-whole.ensures c.refuse_input-in-Err-whole.ensures)

pub returns-clause-ending : goal.returns-clause-ending
returns-clause-ending g c = λ asked source asks same.
    let o = c.args.outside.now in
    let told = g.I.Inputs.contents o.inputs in
    let new = g.I.Inputs.contents c.serve_texts.new.outside.inputs in
    let before = g.I.Inputs.faults o.inputs in
    let after = g.I.Inputs.faults c.serve_texts.new.outside.inputs in
    let kept = c.serve_texts.ensures.inputs in
    let words = c.args.words in
    let first = c.in-Ok.ensures in
    let second = c.in-Ok-whole.ensures in
    let mid = g.I.Inputs.contents c.whole.new.self in
    let read = subst (λ (name : List ℕ). IfSome told (λ x. IsAnswerFor x name (Ok c.in-Ok.bytes))) c.text.ensures first.value in
    let value = subst (λ (held : Option Files). IfSome held (λ x. IsAnswerFor x words.any (Ok c.in-Ok-whole.bytes))) first.same
    (subst (λ (name : List ℕ). IfSome mid (λ x. IsAnswerFor x name (Ok c.in-Ok-whole.bytes))) c.text-2.ensures second.value) in
    c.serve_texts.ensures.ending asked source (report_of told new before after) (record {
      asks = asks;
      source_is = same;
      inputs_are = (ap g.I.Inputs.contents kept ∙ (second.same ∙ first.same), ap g.I.Inputs.faults kept ∙ (second.cause ∙ first.cause));
      content_is = was_read told words.content c.in-Ok.bytes read first.size;
      any_is = was_read told words.any c.in-Ok-whole.bytes value second.size;
    })
