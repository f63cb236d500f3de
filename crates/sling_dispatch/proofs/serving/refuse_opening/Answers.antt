use Rattle.std.proofs.Common.{◌++◌, ◌∷◌, [], codes, refl, sym}
use Rattle.cache_files.specs.declared.epoch.OpenFault.TheVariants as open_fault
use Rattle.sling_dispatch.specs.Endings.{DocrootLine, OfServing, OpeningLine}
use Rattle.sling_dispatch.specs.InnerServing.{IsOpeningOr}
use Rattle.sling_dispatch.specs.Reports.{report_of}
use Rattle.sling_dispatch.specs.declared.ending.Ending.TheVariants.{DocrootFailed, NotOpened}
use Rattle.sling_dispatch.proofs.Meanings.{out_of_memory, told_line}
use Rattle.sling_dispatch.proofs.serving.refuse_opening.Goals as goal

pub returns-in-Disk : goal.returns-in-Disk
returns-in-Disk g c =
    let say = c.say in
    let sink = report_of (g.K.Sink.held c.args.sink.now) (g.K.Sink.held say.new.sink) (g.K.Sink.faults c.args.sink.now) (g.K.Sink.faults say.new.sink) in
    told_line (IsOpeningOr c.args.fault) (OfServing DocrootLine) DocrootFailed say.result (codes "docroot failed" ++ 10 ∷ []) sink c.in-Disk.is refl (λ m. m) refl say.ensures

pub returns-in-Foreign : goal.returns-in-Foreign
returns-in-Foreign g c =
    let say = c.say-in-Foreign in
    let is = c.in-Foreign.is in
    let sink = report_of (g.K.Sink.held c.args.sink.now) (g.K.Sink.held say.new.sink) (g.K.Sink.faults c.args.sink.now) (g.K.Sink.faults say.new.sink) in
    told_line (IsOpeningOr c.args.fault) (OfServing (OpeningLine open_fault.Foreign)) NotOpened say.result (codes "docroot foreign" ++ 10 ∷ []) sink
    (sym is, λ h. cc (is, h), λ h. cc (is, h)) refl (λ m. m) refl say.ensures

pub returns-in-EpochEnd : goal.returns-in-EpochEnd
returns-in-EpochEnd g c =
    let say = c.say-in-EpochEnd in
    let is = c.in-EpochEnd.is in
    let sink = report_of (g.K.Sink.held c.args.sink.now) (g.K.Sink.held say.new.sink) (g.K.Sink.faults c.args.sink.now) (g.K.Sink.faults say.new.sink) in
    told_line (IsOpeningOr c.args.fault) (OfServing (OpeningLine open_fault.EpochEnd)) NotOpened say.result (codes "epoch at its end" ++ 10 ∷ []) sink
    (sym is, λ h. cc (is, h), λ h. cc (is, h)) refl (λ m. m) refl say.ensures

pub returns-in-NoMemory : goal.returns-in-NoMemory
returns-in-NoMemory g c =
    let held = g.K.Sink.held c.args.sink.now in
    let count = g.K.Sink.faults c.args.sink.now in
    out_of_memory (IsOpeningOr c.args.fault) tt (report_of held held count count) refl refl
