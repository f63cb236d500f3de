use Rattle.std.proofs.Common.{◌≡◌, ◌≢◌, sym, subst, OnOk, IfErr, Ok, Err}
use Rattle.resource_tree.specs.Content.{Content}
use Rattle.post_apply.specs.declared.fault.ApplyFault.TheVariants.{NoMemory}
use Rattle.post_apply.specs.Steps.{ApplyOutcome}
use Rattle.post_apply.proofs.PathLemmas.{put_is}
use Rattle.post_apply.proofs.values.put_at.Goals as goal

pub returns-clause-ok : goal.returns-clause-ok
returns-clause-ok c =
    subst (λ (o : ApplyOutcome Content). OnOk c.set.result (o ≡ Ok c.set.new.draft.content))
    (sym (put_is c.args.draft.now.content c.args.path.now c.in_ok-parent.parent c.in-Some.name.now c.args.value c.in-Some.ensures.value c.in_ok-parent.ensures))
    c.set.ensures.ok

pub returns-clause-err : goal.returns-clause-err
returns-clause-err c =
    subst (λ (o : ApplyOutcome Content). IfErr c.set.result (λ e. e ≢ NoMemory → o ≡ Err e))
    (sym (put_is c.args.draft.now.content c.args.path.now c.in_ok-parent.parent c.in-Some.name.now c.args.value c.in-Some.ensures.value c.in_ok-parent.ensures))
    c.set.ensures.err
