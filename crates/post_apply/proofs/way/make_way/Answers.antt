use Rattle.std.proofs.Common.{◌≡◌, ◌≢◌, ◌<◌, ◌≤◌, ◌∙◌, ap, sym, rules, arith, length, Err}
use Rattle.post_apply.specs.declared.fault.ApplyFault.TheVariants.{NoMemory}
use Rattle.post_apply.specs.Steps.{with_node, with_way}
use Rattle.post_apply.proofs.WayLemmas.{goes_on, stops, ends}
use Rattle.post_apply.proofs.way.make_way.Goals as goal

pub returns-in_err-make_missing-clause-err : goal.returns-in_err-make_missing-clause-err
returns-in_err-make_missing-clause-err c =
    let test = c.loop-n-test.true in
    let size = c.depth-n-end.ensures.depth in
    let within : c.loop-n.n < length c.args.path.now = omega (arith, test, size) in
    let fails : c.in_err-make_missing.field-0.0 ≢ NoMemory → with_way c.args.path.now c.args.draft.now.content ≡ Err c.in_err-make_missing.field-0.0 =
    λ known.
    stops c.loop-n.n c.args.path.now c.loop-n.draft.content c.in_err-make_missing.field-0.0 _ within c.loop-n.invariant.0
    (ap (with_node c.loop-n.draft.content) (sym c.in_ok-above.ensures) ∙ c.in_err-make_missing.ensures.err known) in
    search rules

pub loop-n-preserved : goal.loop-n-preserved
loop-n-preserved c =
    let test = c.loop-n-test.true in
    let size = c.depth-n-end.ensures.depth in
    let within : c.loop-n.n < length c.args.path.now = omega (arith, test, size) in (
      goes_on c.loop-n.n c.args.path.now c.loop-n.draft.content c.make_missing.new.draft.content _ within c.loop-n.invariant.0
          (ap (with_node c.loop-n.draft.content) (sym c.in_ok-above.ensures) ∙ c.in_ok-make_missing.ensures.ok),
      c.in_ok-make_missing.ensures.follows.sound,
      c.in_ok-make_missing.ensures.follows.tree ∙ c.loop-n.invariant.2,
    )

pub returns-clause-ok : goal.returns-clause-ok
returns-clause-ok c =
    let test = c.loop-n-test.false in
    let size = c.depth-n-end.ensures.depth in
    let all : length c.args.path.now ≤ c.loop-n.n = omega (arith, test, size) in
    ends c.loop-n.n c.args.path.now c.loop-n.draft.content _ all c.loop-n.invariant.0
