use Rattle.std.proofs.Common.{Some, ◌∙◌, ap, arith}
use Rattle.get_servlet.specs.Rendering.{shown_count}
use Rattle.get_servlet.proofs.AnswerLemmas.{some_instead, fits_whole}
use Rattle.get_servlet.proofs.measure.depth_instead.Goals as goal

pub returns-then-fitting-depth : goal.returns-then-fitting-depth
returns-then-fitting-depth g c =
    let count = shown_count (g.L.Look.seen c.args.look.now) c.args.res.now in
    ap Some c.in_ok-fitting.ensures
    ∙ some_instead count c.args.depth (omega (arith, c.if-depth-le1.false)) (omega (arith, c.in_ok-fitting.ensures, c.if-fitting-depth.true))

pub returns : goal.returns
returns g c =
    let count = shown_count (g.L.Look.seen c.args.look.now) c.args.res.now in
    fits_whole count c.args.depth (omega (arith, c.if-depth-le1.false)) (omega (arith, c.in_ok-fitting.ensures, c.if-fitting-depth.false))
