use Rattle.std.proofs.Common.{sym, ◌∙◌, ap}
use Rattle.std.specs.Prelude.{option_map, option_and_then}
use Rattle.sp_base.specs.Paths.{child_of}
use Rattle.get_servlet.specs.Rendering.{make_kid, kid_of_name}
use Rattle.get_servlet.proofs.KidLemmas.{made_is, kid_is}
use Rattle.get_servlet.proofs.kids.kid_of_name.Goals as goal

pub returns-in_default : goal.returns-in_default
unfolding kid_of_name
returns-in_default g c =
    let seen = g.L.Look.seen c.args.look.now in
    let made = made_is c.child.result (child_of c.args.path.now c.args.name.now) c.child.ensures.ok c.child.ensures.err c.in_ok-path.ensures.told in
    sym (kid_is seen (child_of c.args.path.now c.args.name.now)
    ∙ ap (option_and_then (λ path. option_map (make_kid path) (seen path))) (made ∙ sym (sym c.in_default.is ∙ c.in_ok-path.ensures.value)))

pub returns-in-Some-2 : goal.returns-in-Some-2
unfolding kid_of_name
returns-in-Some-2 g c =
    let seen = g.L.Look.seen c.args.look.now in
    let made = made_is c.child.result (child_of c.args.path.now c.args.name.now) c.child.ensures.ok c.child.ensures.err c.in_ok-path.ensures.told in
    sym (kid_is seen (child_of c.args.path.now c.args.name.now)
    ∙ ap (option_and_then (λ path. option_map (make_kid path) (seen path))) (made ∙ sym (sym c.in-Some.is ∙ c.in_ok-path.ensures.value))
    ∙ ap (option_map (make_kid c.in-Some.path)) (sym (sym c.in-Some-2.is ∙ c.in_ok-res.ensures)))

pub returns : goal.returns
unfolding kid_of_name
returns g c =
    let seen = g.L.Look.seen c.args.look.now in
    let made = made_is c.child.result (child_of c.args.path.now c.args.name.now) c.child.ensures.ok c.child.ensures.err c.in_ok-path.ensures.told in
    sym (kid_is seen (child_of c.args.path.now c.args.name.now)
    ∙ ap (option_and_then (λ path. option_map (make_kid path) (seen path))) (made ∙ sym (sym c.in-Some.is ∙ c.in_ok-path.ensures.value))
    ∙ ap (option_map (make_kid c.in-Some.path)) (sym (sym c.in-None.is ∙ c.in_ok-res.ensures)))
