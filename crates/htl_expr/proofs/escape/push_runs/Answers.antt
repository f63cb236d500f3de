use Rattle.std.proofs.Common.{sym, rules, arith}
use Rattle.std.proofs.lemmas.Result.{err_from_is_err_and}
use Rattle.sp_base.proofs.ListLemmas.{rest_short}
use Rattle.htl_expr.proofs.EscapeLemmas.{run_boundary, run_ends, run_goes_on, run_stops_at, reference_stops_at, marked}
use Rattle.htl_expr.proofs.Writing.{begins_more}
use Rattle.htl_expr.proofs.escape.push_runs.Goals as goal

pub split_at-requires : goal.split_at-requires
split_at-requires c = rw (c.reference_place.ensures, c.as_bytes.ensures.value) (run_boundary c.loop-reference.rest.now)

pub returns-in_err-push_within : goal.returns-in_err-push_within
returns-in_err-push_within c =
    let p = err_from_is_err_and c.from_residual.result c.from_residual.ensures.1 in
    rw (p.1, p.2) (run_stops_at c.reference_place.result _ _ _ _ _ c.loop-reference.rest.now c.args.plain.now c.split_at.result.0.now (rw c.as_bytes.ensures.value at c.reference_place.ensures) c.split_at.ensures.front c.loop-reference.invariant.1 c.loop-reference.invariant.3 c.in_err-push_within.ensures)

pub returns-in_default : goal.returns-in_default
returns-in_default c =
    let none = sym c.in_default.ensures in (
      run_ends c.reference_place.result _ _ _ c.loop-reference.rest.now c.args.plain.now c.split_at.result.0.now c.split_at.result.1.now (rw c.as_bytes.ensures.value at c.reference_place.ensures) c.split_at.ensures.front c.split_at.ensures.back
          (rw c.as_bytes-in-loop-reference.ensures.value at none) c.in_ok-push_within.ensures.0 c.loop-reference.invariant.1,
      c.in_ok-push_within.ensures.1,
    )

pub returns-in_err-push_within-2 : goal.returns-in_err-push_within-2
returns-in_err-push_within-2 c =
    let p = err_from_is_err_and c.from_residual-in_err-push_within-2.result c.from_residual-in_err-push_within-2.ensures.1 in
    let some = sym c.in-Some.ensures in
    rw (p.1, p.2) (reference_stops_at c.reference_place.result _ _ _ _ _ _ c.loop-reference.rest.now c.args.plain.now c.split_at.result.0.now c.split_at.result.1.now c.in-Some.reference.now (rw c.as_bytes.ensures.value at c.reference_place.ensures) c.split_at.ensures.front c.split_at.ensures.back
    (rw c.as_bytes-in-loop-reference.ensures.value at some) c.in_ok-push_within.ensures.0 c.loop-reference.invariant.1 c.loop-reference.invariant.3 c.in_err-push_within-2.ensures)

pub tail-rest-requires : goal.tail-rest-requires
tail-rest-requires c =
    let some = sym c.in-Some.ensures in
    (marked c.split_at.result.1.now c.in-Some.reference.now (rw c.as_bytes-in-loop-reference.ensures.value at some)).first

pub loop-reference-smaller : goal.loop-reference-smaller
loop-reference-smaller c =
    let some = sym c.in-Some.ensures in
    let less = (marked c.split_at.result.1.now c.in-Some.reference.now (rw c.as_bytes-in-loop-reference.ensures.value at some)).less in
    let most = rest_short c.reference_place.result c.loop-reference.rest.now c.split_at.result.1.now c.split_at.ensures.back in
    rw c.tail-rest.ensures (omega (arith, less, most))

pub loop-reference-preserved : goal.loop-reference-preserved
loop-reference-preserved c =
    let some = sym c.in-Some.ensures in
    let same = run_goes_on c.reference_place.result _ _ _ _ c.loop-reference.rest.now c.args.plain.now c.split_at.result.0.now c.split_at.result.1.now c.in-Some.reference.now (rw c.as_bytes.ensures.value at c.reference_place.ensures) c.split_at.ensures.front c.split_at.ensures.back
    (rw c.as_bytes-in-loop-reference.ensures.value at some) c.in_ok-push_within.ensures.0 c.in_ok-push_within-2.ensures.0 c.loop-reference.invariant.1 in
    let begins = begins_more _ _ _ _ (begins_more _ _ _ _ c.loop-reference.invariant.3 c.in_ok-push_within.ensures.0) c.in_ok-push_within-2.ensures.0 in
    (search rules, rw c.tail-rest.ensures same, c.in_ok-push_within-2.ensures.1, begins)
