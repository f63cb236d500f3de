use Rattle.std.proofs.Common.{◌++◌, ◌∷◌, [], codes, refl}
use Rattle.sling_dispatch.specs.Endings.{IsDue, SourceLine}
use Rattle.sling_dispatch.specs.InnerEndings.{IsDueAt}
use Rattle.sling_dispatch.specs.Reports.{call_of, report_of}
use Rattle.sling_dispatch.specs.declared.ending.Ending.TheVariants.{SourceFailed}
use Rattle.sling_dispatch.proofs.Meanings.{due_of_source, means_weaker, out_of_memory, told_line}
use Rattle.sling_dispatch.proofs.program.replay_source.Goals as goal

pub returns-in-Ok-clause-ending : goal.returns-in-Ok-clause-ending
returns-in-Ok-clause-ending g c = λ asked inputs disk world is apart.
    let source = report_of (g.S.Source.left c.args.source.now) (g.S.Source.left c.read_whole.new.source)
    (g.S.Source.faults c.args.source.now) (g.S.Source.faults c.read_whole.new.source) in
    let text = c.in-Ok.text.items in
    let call = call_of asked source inputs disk world in
    means_weaker (IsDueAt text) (IsDue call)
    (due_of_source call text is apart c.in-Ok.ensures.cause c.in-Ok.ensures.read c.in-Ok.ensures.end c.in-Ok.ensures.most)
    c.replay.result
    (report_of (g.K.Sink.held c.args.sink.now) (g.K.Sink.held c.replay.new.sink) (g.K.Sink.faults c.args.sink.now) (g.K.Sink.faults c.replay.new.sink))
    c.replay.ensures

pub returns-in-Err-Failed-clause-ending : goal.returns-in-Err-Failed-clause-ending
returns-in-Err-Failed-clause-ending g c = λ asked inputs disk world is apart.
    let source = report_of (g.S.Source.left c.args.source.now) (g.S.Source.left c.read_whole.new.source)
    (g.S.Source.faults c.args.source.now) (g.S.Source.faults c.read_whole.new.source) in
    let call = call_of asked source inputs disk world in
    let sink = report_of (g.K.Sink.held c.args.sink.now) (g.K.Sink.held c.say.new.sink) (g.K.Sink.faults c.args.sink.now) (g.K.Sink.faults c.say.new.sink) in
    let cause = rw c.in-Err-Failed.field-0-is at c.in-Err-Failed.ensures.cause in
    let due : IsDue call SourceLine = (is, cause) in
    told_line (IsDue call) SourceLine SourceFailed c.say.result (codes "source failed" ++ 10 ∷ []) sink due refl (λ m. m) refl c.say.ensures

pub returns-in-Err-NoMemory-clause-ending : goal.returns-in-Err-NoMemory-clause-ending
returns-in-Err-NoMemory-clause-ending g c = λ asked inputs disk world is apart.
    let source = report_of (g.S.Source.left c.args.source.now) (g.S.Source.left c.read_whole.new.source)
    (g.S.Source.faults c.args.source.now) (g.S.Source.faults c.read_whole.new.source) in
    let call = call_of asked source inputs disk world in
    let held = g.K.Sink.held c.args.sink.now in
    let count = g.K.Sink.faults c.args.sink.now in
    out_of_memory (IsDue call) apart (report_of held held count count) refl refl
