use Rattle.std.proofs.Common.{refl}
use Rattle.sling_dispatch.specs.Endings.{FarmLine}
use Rattle.sling_dispatch.specs.Reports.{report_of}
use Rattle.sling_dispatch.specs.InnerEndings.{IsFarmOr}
use Rattle.sling_dispatch.specs.declared.ending.Ending.TheVariants.{FarmRefused}
use Rattle.sling_dispatch.proofs.Meanings.{told_made, out_of_memory}
use Rattle.sling_dispatch.proofs.refusals.refuse_farm.Goals as goal

pub returns-then-is_out_of_memory : goal.returns-then-is_out_of_memory
returns-then-is_out_of_memory g c =
    let held = g.K.Sink.held c.args.sink.now in
    let count = g.K.Sink.faults c.args.sink.now in
    out_of_memory (IsFarmOr c.args.refusal.now) tt (report_of held held count count) refl refl

pub returns : goal.returns
returns g c =
    let refusal = c.args.refusal.now in
    let sink = report_of (g.K.Sink.held c.args.sink.now) (g.K.Sink.held c.say_line.new.sink) (g.K.Sink.faults c.args.sink.now) (g.K.Sink.faults c.say_line.new.sink) in
    let due : IsFarmOr refusal (FarmLine refusal) = (refl, let k = c.is_out_of_memory.ensures in cc (k, c.if-is_out_of_memory.false)) in
    told_made (λ text. text.items) (IsFarmOr refusal) (FarmLine refusal) FarmRefused c.say_line.result c.farm_line.result sink due
    refl (λ m. m) c.farm_line.ensures c.say_line.ensures.made c.say_line.ensures.not_made
