use Rattle.std.proofs.Common.{◌++◌, ◌∷◌, [], Option, IfNone, IfSome, codes, map, refl, ap, subst}
use Rattle.serve_loop.specs.Served.{disk_report, world_report}
use Rattle.sling_dispatch.specs.Endings.{IsDue, UsageLine}
use Rattle.sling_dispatch.specs.Forms.{AsksFor, HasForm}
use Rattle.sling_dispatch.specs.InnerServing.{IsScenarioOr, IsSummaryOr}
use Rattle.sling_dispatch.specs.Reports.{IsWorldUntouched, RunCall, call_of, report_of}
use Rattle.sling_dispatch.specs.declared.ending.Ending.TheVariants.{Usage}
use Rattle.sling_dispatch.specs.declared.form.Form.{Form}
use Rattle.sling_dispatch.proofs.Meanings.{means_weaker, out_of_memory, told_line}
use Rattle.sling_dispatch.proofs.ServingLemmas.{due_generated, due_summary}
use Rattle.sling_dispatch.proofs.program.ending.Goals as goal

pub returns-in_default-clause-ending : goal.returns-in_default-clause-ending
returns-in_default-clause-ending g c =
    let o = c.args.outside.now in
    let left = g.S.Source.left o.source in
    let reads = g.S.Source.faults o.source in
    let contents = g.I.Inputs.contents o.inputs in
    let tries = g.I.Inputs.faults o.inputs in
    let files = g.D.Disk.files o.disk in
    let faults = g.D.Disk.faults o.disk in
    let log = g.W.World.log o.world in
    let next = g.W.World.next_faults o.world in
    let send = g.W.World.send_faults o.world in
    let words = map (λ w. w.now) c.args.words.now in
    let call : RunCall = call_of words (report_of left left reads reads) (report_of contents contents tries tries) (disk_report files files faults faults) (world_report log log next next send send) in
    let apart : IsWorldUntouched call.world = record { log = refl; next_count = refl; send_count = refl } in
    let held = g.K.Sink.held o.sink in
    let writes = g.K.Sink.faults o.sink in
    out_of_memory (IsDue call) apart (report_of held held writes writes) refl refl

pub returns-in_default-asked-clause-ending : goal.returns-in_default-asked-clause-ending
returns-in_default-asked-clause-ending g c =
    let o = c.args.outside.now in
    let left = g.S.Source.left o.source in
    let reads = g.S.Source.faults o.source in
    let contents = g.I.Inputs.contents o.inputs in
    let tries = g.I.Inputs.faults o.inputs in
    let files = g.D.Disk.files o.disk in
    let faults = g.D.Disk.faults o.disk in
    let log = g.W.World.log o.world in
    let next = g.W.World.next_faults o.world in
    let send = g.W.World.send_faults o.world in
    let words = map (λ w. w.now) c.args.words.now in
    let call : RunCall = call_of words (report_of left left reads reads) (report_of contents contents tries tries) (disk_report files files faults faults) (world_report log log next next send send) in
    let apart : IsWorldUntouched call.world = record { log = refl; next_count = refl; send_count = refl } in
    let none = subst (λ (f : Option Form). IfNone f (HasForm words → ⊥)) c.in_default-asked.is c.in-Ok.ensures.none in
    let due : IsDue call UsageLine = (none, (refl, refl)) in
    let text = codes "usage: replay | soak N | scenario N | serve CONTENT ANY TURNS fresh|warm" ++ 10 ∷ [] in
    told_line (IsDue call) UsageLine Usage c.say.result text (report_of (g.K.Sink.held o.sink) (g.K.Sink.held c.say.new.sink) (g.K.Sink.faults o.sink) (g.K.Sink.faults c.say.new.sink)) due refl (λ m. m) refl c.say.ensures

pub returns-in-Replay-clause-ending : goal.returns-in-Replay-clause-ending
returns-in-Replay-clause-ending g c =
    let o = c.args.outside.now in
    let contents = g.I.Inputs.contents o.inputs in
    let tries = g.I.Inputs.faults o.inputs in
    let files = g.D.Disk.files o.disk in
    let faults = g.D.Disk.faults o.disk in
    let log = g.W.World.log o.world in
    let next = g.W.World.next_faults o.world in
    let send = g.W.World.send_faults o.world in
    let words = map (λ w. w.now) c.args.words.now in
    let asks = subst (λ (f : Option Form). IfSome f (AsksFor words)) c.in-Some.is c.in-Ok.ensures.some in
    let is = subst (AsksFor words) c.in-Replay.is asks in
    c.replay_source.ensures.ending words (report_of contents contents tries tries) (disk_report files files faults faults) (world_report log log next next send send) is.words_are
    (record { log = refl; next_count = refl; send_count = refl })

pub returns-in-Scenario-clause-ending : goal.returns-in-Scenario-clause-ending
returns-in-Scenario-clause-ending g c =
    let o = c.args.outside.now in
    let left = g.S.Source.left o.source in
    let reads = g.S.Source.faults o.source in
    let contents = g.I.Inputs.contents o.inputs in
    let tries = g.I.Inputs.faults o.inputs in
    let files = g.D.Disk.files o.disk in
    let faults = g.D.Disk.faults o.disk in
    let log = g.W.World.log o.world in
    let next = g.W.World.next_faults o.world in
    let send = g.W.World.send_faults o.world in
    let words = map (λ w. w.now) c.args.words.now in
    let call : RunCall = call_of words (report_of left left reads reads) (report_of contents contents tries tries) (disk_report files files faults faults) (world_report log log next next send send) in
    let apart : IsWorldUntouched call.world = record { log = refl; next_count = refl; send_count = refl } in
    let asks = subst (λ (f : Option Form). IfSome f (AsksFor words)) c.in-Some.is c.in-Ok.ensures.some in
    let number = c.in-Scenario.number in
    means_weaker (IsScenarioOr number) (IsDue call) (due_generated call number apart (subst (AsksFor words) c.in-Scenario.is asks) (refl, refl)) c.write_scenario.result
    (report_of (g.K.Sink.held o.sink) (g.K.Sink.held c.write_scenario.new.sink) (g.K.Sink.faults o.sink) (g.K.Sink.faults c.write_scenario.new.sink))
    c.write_scenario.ensures

pub returns-in-Soak-clause-ending : goal.returns-in-Soak-clause-ending
returns-in-Soak-clause-ending g c =
    let o = c.args.outside.now in
    let left = g.S.Source.left o.source in
    let reads = g.S.Source.faults o.source in
    let contents = g.I.Inputs.contents o.inputs in
    let tries = g.I.Inputs.faults o.inputs in
    let files = g.D.Disk.files o.disk in
    let faults = g.D.Disk.faults o.disk in
    let log = g.W.World.log o.world in
    let next = g.W.World.next_faults o.world in
    let send = g.W.World.send_faults o.world in
    let words = map (λ w. w.now) c.args.words.now in
    let call : RunCall = call_of words (report_of left left reads reads) (report_of contents contents tries tries) (disk_report files files faults faults) (world_report log log next next send send) in
    let apart : IsWorldUntouched call.world = record { log = refl; next_count = refl; send_count = refl } in
    let asks = subst (λ (f : Option Form). IfSome f (AsksFor words)) c.in-Some.is c.in-Ok.ensures.some in
    let number = c.in-Soak.number in
    means_weaker (IsSummaryOr number) (IsDue call) (due_summary call number apart (subst (AsksFor words) c.in-Soak.is asks) (refl, refl)) c.soak.result
    (report_of (g.K.Sink.held o.sink) (g.K.Sink.held c.soak.new.sink) (g.K.Sink.faults o.sink) (g.K.Sink.faults c.soak.new.sink))
    c.soak.ensures

pub returns-in-Serve-clause-ending : goal.returns-in-Serve-clause-ending
returns-in-Serve-clause-ending g c =
    let o = c.args.outside.now in
    let n = c.serve_named.new.outside in
    let words = map (λ w. w.now) c.args.words.now in
    let asks = subst (λ (f : Option Form). IfSome f (AsksFor words)) c.in-Some.is c.in-Ok.ensures.some in
    let same = c.serve_named.ensures.source in
    c.serve_named.ensures.ending words (report_of (g.S.Source.left o.source) (g.S.Source.left n.source) (g.S.Source.faults o.source) (g.S.Source.faults n.source))
    (subst (AsksFor words) c.in-Serve.is asks) (ap g.S.Source.left same, ap g.S.Source.faults same)
