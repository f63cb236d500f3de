use Rattle.std.proofs.Common.{◌≡◌, sym, ◌∙◌, ap, subst, List, ℕ}
use Rattle.sp_base.specs.Paths.{pieces, fault_of, path_or_fault, path_of}
use Rattle.sp_base.specs.PathTexts.{segs_in, spelling_of}
use Rattle.sp_base.proofs.PathLemmas.{of_pieces, IfOk-from, IfErr-from}
use Rattle.sp_base.proofs.PathFaults.{fault_after_none}
use Rattle.sp_base.proofs.PathText.{slash_then, segs_after}
use Rattle.sp_base.proofs.path.Path.read.Goals as goal

pub made-requires-clause-fault : goal.made-requires-clause-fault
made-requires-clause-fault c =
    let rest = c.in-Some.rest.now in
    let own = ap segs_in c.in_ok-from_str.ensures.ok ∙ segs_after c.args.text.now rest c.in-Some.ensures.some in
    c.fault_after.ensures ∙ fault_after_none (pieces rest) ∙ ap fault_of (sym own)

pub made-requires-clause-whole : goal.made-requires-clause-whole
made-requires-clause-whole c = subst (λ (t : List ℕ). spelling_of (segs_in t) ≡ t) (sym (c.in_ok-from_str.ensures.ok ∙ c.in-Some.ensures.some)) (slash_then c.in-Some.rest.now)

-- what was made is the path by its definition
made_of : (c : goal.After-made) → c.made.result ≡ path_of c.args.text.now
made_of c =
    let text = c.args.text.now in
    let rest = c.in-Some.rest.now in
    c.made.ensures ∙ ap path_or_fault (ap segs_in c.in_ok-from_str.ensures.ok ∙ segs_after text rest c.in-Some.ensures.some) ∙ sym (of_pieces text rest c.in-Some.ensures.some (sym c.if-is_empty.ensures))

pub returns-clause-ok : goal.returns-clause-ok
returns-clause-ok c = IfOk-from c.made.result (λ p e. sym (made_of c) ∙ e)

pub returns-clause-err : goal.returns-clause-err
returns-clause-err c = IfErr-from c.made.result (λ e is _. sym (made_of c) ∙ is)
