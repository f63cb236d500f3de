use Rattle.std.proofs.Common.{refl}
use Rattle.sling_dispatch.specs.Endings.{InputLine, OfServing}
use Rattle.sling_dispatch.specs.InnerServing.{IsInputOr}
use Rattle.sling_dispatch.specs.Reports.{report_of}
use Rattle.sling_dispatch.specs.declared.ending.Ending.TheVariants.{InputFailed}
use Rattle.sling_dispatch.proofs.Meanings.{out_of_memory, told_made}
use Rattle.sling_dispatch.proofs.serving.refuse_input.Goals as goal

pub returns-in-NoMemory : goal.returns-in-NoMemory
returns-in-NoMemory g c =
    let held = g.K.Sink.held c.args.sink.now in
    let count = g.K.Sink.faults c.args.sink.now in
    out_of_memory (IsInputOr c.args.fault c.args.name.now) tt (report_of held held count count) refl refl

pub returns-in_default : goal.returns-in_default
returns-in_default g c =
    let fault = c.args.fault in
    let name = c.args.name.now in
    let sink = report_of (g.K.Sink.held c.args.sink.now) (g.K.Sink.held c.say_line.new.sink) (g.K.Sink.faults c.args.sink.now) (g.K.Sink.faults c.say_line.new.sink) in
    told_made (λ text. text.items) (IsInputOr fault name) (OfServing (InputLine fault name)) InputFailed c.say_line.result c.unread_line.result sink (refl, refl, c.in_default.not-NoMemory)
    refl (λ m. m) c.unread_line.ensures c.say_line.ensures.made c.say_line.ensures.not_made
