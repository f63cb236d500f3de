use Rattle.std.proofs.Common.{arith, ◌∙◌, sym, ap, subst, IsUtf8, List, ℕ}
use Rattle.std.proofs.lemmas.Str.{IsCharBoundary-from_drop}
use Rattle.htl_syntax.proofs.Scan.{run_more, name_less, drop_more}
use Rattle.htl_syntax.proofs.tokens.name_len.Goals as goal

pub loop-rest-preserved : goal.loop-rest-preserved
loop-rest-preserved c =
    let on = sym c.goes_on.ensures ∙ c.loop-rest-test.true in
    let seen = ap (λ (t : List ℕ). t) c.as_bytes.ensures.value in
    let more = run_more c.args.kind c.loop-rest.rest.now (rw seen at on) in
    let less = name_less c.args.kind c.loop-rest.rest.now (rw seen at on) in
    let inv = c.loop-rest.invariant in
    rw c.tail-rest.ensures (
      rw c.tail-rest.ensures at c.tail-rest.utf8,
      omega (arith, more, inv.1),
      omega (arith, less, inv.2),
      drop_more c.args.text.now c.loop-rest.rest.now c.loop-rest.len inv.3,
    )

pub returns-clause-boundary : goal.returns-clause-boundary
returns-clause-boundary c =
    let inv = c.loop-rest.invariant in
    IsCharBoundary-from_drop c.args.text.now c.loop-rest.len (omega (arith, inv.2)) (subst IsUtf8 inv.3 inv.0)
