use Rattle.std.proofs.Common.{refl}
use Rattle.sling_dispatch.specs.Endings.{Generated}
use Rattle.sling_dispatch.specs.InnerServing.{IsScenarioOr}
use Rattle.sling_dispatch.specs.Reports.{report_of}
use Rattle.sling_dispatch.specs.declared.ending.Ending.TheVariants.{Done}
use Rattle.sling_dispatch.proofs.Meanings.{told_made}
use Rattle.sling_dispatch.proofs.program.write_scenario.Goals as goal

pub returns : goal.returns
returns g c =
    let number = c.args.number in
    let sink = report_of (g.K.Sink.held c.args.sink.now) (g.K.Sink.held c.say_line.new.sink) (g.K.Sink.faults c.args.sink.now) (g.K.Sink.faults c.say_line.new.sink) in
    told_made (λ text. text.items) (IsScenarioOr number) (Generated number) Done c.say_line.result c.generated.result sink refl
    refl (λ m. m) c.generated.ensures c.say_line.ensures.made c.say_line.ensures.not_made
