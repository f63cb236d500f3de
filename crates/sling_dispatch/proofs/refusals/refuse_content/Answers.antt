use Rattle.std.proofs.Common.{refl}
use Rattle.sling_dispatch.specs.Endings.{ContentLine}
use Rattle.sling_dispatch.specs.Reports.{report_of}
use Rattle.sling_dispatch.specs.InnerEndings.{IsContentOr}
use Rattle.sling_dispatch.specs.declared.ending.Ending.TheVariants.{ContentRefused}
use Rattle.sling_dispatch.proofs.Meanings.{told_made, out_of_memory}
use Rattle.sling_dispatch.proofs.refusals.refuse_content.Goals as goal

pub returns-then-is_memory : goal.returns-then-is_memory
returns-then-is_memory g c =
    let held = g.K.Sink.held c.args.sink.now in
    let count = g.K.Sink.faults c.args.sink.now in
    out_of_memory (IsContentOr c.args.fault.now) tt (report_of held held count count) refl refl

pub returns : goal.returns
returns g c =
    let fault = c.args.fault.now in
    let sink = report_of (g.K.Sink.held c.args.sink.now) (g.K.Sink.held c.say_line.new.sink) (g.K.Sink.faults c.args.sink.now) (g.K.Sink.faults c.say_line.new.sink) in
    let due : IsContentOr fault (ContentLine fault) = (refl, λ h. let k = c.is_memory.ensures.1 h in cc (k, c.if-is_memory.false)) in
    told_made (λ text. text.items) (IsContentOr fault) (ContentLine fault) ContentRefused c.say_line.result c.content_line.result sink due
    refl (λ m. m) c.content_line.ensures c.say_line.ensures.made c.say_line.ensures.not_made
