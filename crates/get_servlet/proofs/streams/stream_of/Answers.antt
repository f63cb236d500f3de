use Rattle.std.proofs.Common.{rules, ◌≡◌, true, IfOk, sym, ◌∙◌, ap, subst}
use Rattle.std.specs.Prelude.{codes}
use Rattle.get_servlet.specs.Rendering.{lists_kid, kid_of_name}
use Rattle.get_servlet.specs.Streams.{stream_in, kid_stream, stream_of}
use Rattle.get_servlet.proofs.streams.stream_of.Goals as goal

pub returns : goal.returns
unfolding stream_of
returns g c =
    let seen = g.L.Look.seen c.args.look.now in
    let named : lists_kid c.args.res.now (codes "jcr:content") ≡ true = search rules in
    let there = sym c.in-Some.is ∙ c.in_ok-content.ensures in
    let found =
    ap stream_in c.props.ensures ∙ ap kid_stream there
    ∙ ap (λ path. kid_stream (kid_of_name seen path (codes "jcr:content"))) c.path.ensures in
    rw named (subst (λ s. IfOk c.stream_in.result (λ stream. stream ≡ s)) found c.stream_in.ensures)
