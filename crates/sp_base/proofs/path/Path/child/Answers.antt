use Rattle.std.proofs.Common.{length, ◌≡◌, ◌∙◌, ◌++◌, ◌∷◌, true, sym, ap, subst, string_bytes, List, ℕ}
use Rattle.sp_base.specs.Paths.{fault_of, pieces, path_or_fault, child_of, is_path}
use Rattle.sp_base.specs.PathTexts.{segs_in, fault_after}
use Rattle.sp_base.proofs.PathLemmas.{IfOk-from, IfErr-from, child_whole, no_fault_left}
use Rattle.sp_base.proofs.PathFaults.{fault_after_is}
use Rattle.sp_base.proofs.PathText.{child_text}
use Rattle.sp_base.proofs.path.Path.child.Goals as goal

pub made-requires-clause-fault : goal.made-requires-clause-fault
made-requires-clause-fault c =
    let own = string_bytes c.self.inside.text in
    let name = c.args.name.now in
    let text = c.in_ok-glued.ensures ∙ ap (λ (t : List ℕ). t ++ 47 ∷ name) c.as_str.ensures.value in
    c.fault_after-fault.ensures ∙ ap (λ (n : ℕ). fault_after n (pieces name)) (c.depth.ensures.depth ∙ ap length (sym c.self.view_is))
    ∙ sym (fault_after_is (segs_in own) (pieces name) c.self.invariant.valid)
    ∙ ap fault_of (sym (child_text own name (string_bytes c.in_ok-glued.field-0) c.self.invariant.valid c.self.invariant.whole text).0)

pub made-requires-clause-whole : goal.made-requires-clause-whole
made-requires-clause-whole c =
    (child_text (string_bytes c.self.inside.text) c.args.name.now (string_bytes c.in_ok-glued.field-0) c.self.invariant.valid c.self.invariant.whole
    (c.in_ok-glued.ensures ∙ ap (λ (t : List ℕ). t ++ 47 ∷ c.args.name.now) c.as_str.ensures.value)).1

-- what was made is the child by its definition
made_of : (c : goal.After-made) → c.made.result ≡ child_of c.args.self.now c.args.name.now
made_of c =
    let text = c.in_ok-glued.ensures ∙ ap (λ (t : List ℕ). t ++ 47 ∷ c.args.name.now) c.as_str.ensures.value in
    c.made.ensures ∙ ap path_or_fault ((child_text (string_bytes c.self.inside.text) c.args.name.now (string_bytes c.in_ok-glued.field-0) c.self.invariant.valid c.self.invariant.whole text).0
    ∙ ap (λ (segs : List (List ℕ)). segs ++ pieces c.args.name.now) c.self.view_is)

pub returns-clause-ok : goal.returns-clause-ok
returns-clause-ok c = IfOk-from c.made.result (λ p e. sym (made_of c) ∙ e)

pub returns-clause-err : goal.returns-clause-err
returns-clause-err c = IfErr-from c.made.result (λ e is _. sym (made_of c) ∙ is)

pub returns-clause-whole : goal.returns-clause-whole
returns-clause-whole c = IfOk-from c.made.result (λ p e ok. child_whole c.args.self.now c.args.name.now p (sym (made_of c) ∙ e) ok)

pub returns-clause-fits : goal.returns-clause-fits
returns-clause-fits c = IfErr-from c.made.result
    (λ e is ok less. absurd (no_fault_left c.args.self.now c.args.name.now e (subst (λ (segs : List (List ℕ)). is_path segs ≡ true) c.self.view_is c.self.invariant.valid) (sym (made_of c) ∙ is) ok less))
