use Rattle.std.proofs.Common.{subst}
use Rattle.url_split.specs.Walk.{IsReading}
use Rattle.url_split.proofs.ValueLemmas.{split_value}
use Rattle.url_split.proofs.WalkLemmas.{split_whole}
use Rattle.url_split.proofs.decompose.split.Goals as goal

pub returns-in-Some-clause-some : goal.returns-in-Some-clause-some
returns-in-Some-clause-some g c =
    let known = g.K.Known.known c.args.known.now in
    let parts = c.in_ok-parts_after in
    split_whole known c.args.text.now c.in-Some.path parts.field-0 (subst (IsReading known c.args.text.now) c.in-Some.is c.in_ok-path.ensures)
    parts.ensures.path parts.ensures.selectors parts.ensures.extension parts.ensures.suffix

pub returns-in-Some-clause-value : goal.returns-in-Some-clause-value
returns-in-Some-clause-value g c = split_value (g.K.Known.known c.args.known.now) c.args.text.now c.in_ok-parts_after.field-0 (returns-in-Some-clause-some g c)
