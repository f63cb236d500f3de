use Rattle.std.proofs.Common.{refl, arith}
use Rattle.sling_dispatch.specs.Endings.{RefusalLine}
use Rattle.sling_dispatch.specs.Reports.{report_of}
use Rattle.sling_dispatch.specs.InnerEndings.{IsDueAt, IsDueIn}
use Rattle.sling_dispatch.specs.declared.ending.Ending.TheVariants.{Refused}
use Rattle.sling_dispatch.proofs.Meanings.{means_weaker, in_text, told_made, out_of_memory}
use Rattle.sling_dispatch.proofs.replaying.replay.Goals as goal

pub returns-in-Ok : goal.returns-in-Ok
returns-in-Ok g c =
    let s = c.in-Ok.scenario in
    means_weaker (IsDueIn s) (IsDueAt c.args.text.items) (in_text c.args.text.items s c.in-Ok.ensures.ok) c.session.result
    (report_of (g.K.Sink.held c.args.sink.now) (g.K.Sink.held c.session.new.sink) (g.K.Sink.faults c.args.sink.now) (g.K.Sink.faults c.session.new.sink))
    c.session.ensures

pub returns-in-Err-Line : goal.returns-in-Err-Line
returns-in-Err-Line g c =
    let text = c.args.text.items in
    let r = rw c.in-Err-Line.field-0-is at c.in-Err-Line.ensures.err in
    let before = c.in-Err-Line.before in
    let line = rw c.in-Err-Line.field-0-is at c.refusal_line.ensures in
    told_made (λ line. line.items) (IsDueAt text) (RefusalLine before) Refused c.say_line.result c.refusal_line.result
    (report_of (g.K.Sink.held c.args.sink.now) (g.K.Sink.held c.say_line.new.sink) (g.K.Sink.faults c.args.sink.now) (g.K.Sink.faults c.say_line.new.sink))
    r.0 refl (λ m. m) line c.say_line.ensures.made c.say_line.ensures.not_made

pub refusal_line-requires : goal.refusal_line-requires
refusal_line-requires g c =
    let r = rw c.in-Err-Line.field-0-is at c.in-Err-Line.ensures.err in
    omega (arith, r.1)

pub returns-in-Err-NoMemory : goal.returns-in-Err-NoMemory
returns-in-Err-NoMemory g c =
    let held = g.K.Sink.held c.args.sink.now in
    let count = g.K.Sink.faults c.args.sink.now in
    out_of_memory (IsDueAt c.args.text.items) tt (report_of held held count count) refl refl
