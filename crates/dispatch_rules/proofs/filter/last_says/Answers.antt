use Rattle.std.proofs.Common.{◌≡◌, ◌∙◌, sym, ap, arith, true, false}
use Rattle.glob_rules.specs.Rules.{decision}
use Rattle.dispatch_rules.specs.RequestParts.{applies_to}
use Rattle.dispatch_rules.proofs.EntryLemmas.{decides_here, passes_here}
use Rattle.dispatch_rules.proofs.filter.last_says.Goals as goal

pub returns-then-branch : goal.returns-then-branch
returns-then-branch c =
    let list = c.as_slice-entries.result.now in
    let holds : applies_to c.args.seen.now c.index-entries-left.result ≡ true = sym c.in_ok-applies.ensures ∙ c.if-branch.true in
    sym (decides_here (applies_to c.args.seen.now) (λ entry. entry.allow) list c.loop-left.left c.index-entries-left.result (omega arith) (omega arith) c.index-entries-left.is holds) ∙ c.loop-left.invariant.1
    ∙ ap (decision (applies_to c.args.seen.now) (λ entry. entry.allow)) c.as_slice-entries.ensures

pub loop-left-preserved : goal.loop-left-preserved
loop-left-preserved c =
    let list = c.as_slice-entries.result.now in
    let fails : applies_to c.args.seen.now c.index-entries-left.result ≡ false = sym c.in_ok-applies.ensures ∙ c.if-branch.false in
    (omega arith, sym (passes_here (applies_to c.args.seen.now) (λ entry. entry.allow) list c.loop-left.left c.index-entries-left.result (omega arith) (omega arith) c.index-entries-left.is fails) ∙ c.loop-left.invariant.1)
