use Rattle.std.proofs.Common.{◌≤◌, length, sym, subst, arith}
use Rattle.std.proofs.lemmas.List.{take_all}
use Rattle.resource_tree.specs.Patches.{PatchEntries}
use Rattle.publisher.proofs.ForgetLemmas.{AreClear, forgets_next, forgets_none, unpatched}
use Rattle.publisher.proofs.changes.forget_patched.Goals as goal

pub loop-position-init : goal.loop-position-init
loop-position-init c = forgets_none c.args.templates.now

pub loop-position-preserved : goal.loop-position-preserved
loop-position-preserved c =
    forgets_next c.args.templates.now c.loop-position.templates c.forget_text.new.templates c.args.patch.now c.loop-position.position c.in-Some.path.now c.in-Some._row.now (sym c.in-Some.ensures)
    c.loop-position.invariant c.in_ok-forget_text.ensures.fewer c.in_ok-forget_text.ensures.forgotten

pub returns-clause-unpatched : goal.returns-clause-unpatched
returns-clause-unpatched c =
    let patch = c.args.patch.now in
    let end : length patch ≤ c.loop-position.position = omega (arith, c.loop-position-test.false, c.len-position-end.ensures.len) in
    unpatched patch c.loop-position.templates (subst (λ (entries : PatchEntries). AreClear entries c.loop-position.templates) (take_all c.loop-position.position patch end) c.loop-position.invariant.clear)
