use Rattle.std.proofs.Common.{◌++◌, ◌∷◌, [], codes, refl}
use Rattle.sling_dispatch.specs.Endings.{CutOff, OfServing, Served, WorldLine}
use Rattle.sling_dispatch.specs.InnerServing.{IsOfServeEnd}
use Rattle.sling_dispatch.specs.Reports.{report_of}
use Rattle.sling_dispatch.specs.declared.ending.Ending.TheVariants.{Done, WorldFailed}
use Rattle.sling_dispatch.proofs.Meanings.{nothing_written, told_line, told_made}
use Rattle.sling_dispatch.proofs.serving.say_end.Goals as goal

pub returns-in-Turns : goal.returns-in-Turns
returns-in-Turns g c =
    let words = c.args.words.now in
    let sink = report_of (g.K.Sink.held c.args.sink.now) (g.K.Sink.held c.say_line.new.sink) (g.K.Sink.faults c.args.sink.now) (g.K.Sink.faults c.say_line.new.sink) in
    told_made (λ text. text.items) (IsOfServeEnd c.args.end words) (OfServing (Served words)) Done c.say_line.result c.served_line.result sink (refl, c.in-Turns.is)
    refl (λ m. m) c.served_line.ensures c.say_line.ensures.made c.say_line.ensures.not_made

pub returns-in-WorldFailed : goal.returns-in-WorldFailed
returns-in-WorldFailed g c =
    let sink = report_of (g.K.Sink.held c.args.sink.now) (g.K.Sink.held c.say.new.sink) (g.K.Sink.faults c.args.sink.now) (g.K.Sink.faults c.say.new.sink) in
    told_line (IsOfServeEnd c.args.end c.args.words.now) (OfServing WorldLine) WorldFailed c.say.result (codes "world failed" ++ 10 ∷ []) sink c.in-WorldFailed.is refl (λ m. m) refl c.say.ensures

pub returns-in-NoMemory : goal.returns-in-NoMemory
returns-in-NoMemory g c =
    let held = g.K.Sink.held c.args.sink.now in
    let count = g.K.Sink.faults c.args.sink.now in
    nothing_written (IsOfServeEnd c.args.end c.args.words.now) (OfServing CutOff) c.in-NoMemory.is (report_of held held count count) refl refl
