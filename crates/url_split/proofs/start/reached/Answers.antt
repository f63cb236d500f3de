use Rattle.std.proofs.Common.{ap, ◌+◌}
use Rattle.url_split.proofs.LongLemmas.{reached_shorter}
use Rattle.url_split.proofs.StartLemmas.{reached_is}
use Rattle.url_split.proofs.start.reached.Goals as goal

pub returns : goal.returns
returns g c =
    let known = g.K.Known.known c.args.known.now in
    reached_shorter known c.args.text.now c.before_slash.result.now c.before_long.result.now c.a_path_and_its_text.ensures.valid
    (reached_is known c.args.text.now c.before_slash.result.now c.in_ok-path.path c.in_ok-reach.field-0 (c.min-most.result + 1) (ap (λ n. n + 1) c.min-most.ensures) c.in_ok-path.ensures c.in_ok-reach.ensures
    c.a_path_and_its_text.ensures.valid c.before_slash.ensures)
    c.before_long.ensures
