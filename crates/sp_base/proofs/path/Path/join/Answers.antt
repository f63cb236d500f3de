use Rattle.std.proofs.Common.{length, ◌+◌, None, ◌≡◌, ◌∙◌, ◌++◌, sym, ap, string_bytes, List, ℕ}
use Rattle.sp_base.specs.Paths.{fault_of, size_fault, path_or_fault, join_of}
use Rattle.sp_base.specs.PathTexts.{segs_in}
use Rattle.sp_base.proofs.PathLemmas.{IfOk-from, IfErr-from}
use Rattle.sp_base.proofs.PathFaults.{fault_after_is, fault_after_path}
use Rattle.sp_base.proofs.PathText.{joined_text}
use Rattle.sp_base.proofs.path.Path.join.Goals as goal

pub made-requires-clause-fault : goal.made-requires-clause-fault
made-requires-clause-fault c =
    let own = string_bytes c.self.inside.text in
    let more = string_bytes c.rest.inside.text in
    let text = c.in_ok-glued.ensures ∙ ap (λ (t : List ℕ). t ++ c.as_str-2.result.now) c.as_str.ensures.value ∙ ap (λ (t : List ℕ). own ++ t) c.as_str-2.ensures.value in
    c.size_fault-fault.ensures ∙ ap (λ (n : ℕ). size_fault None (n + c.depth-2.result)) (c.depth.ensures.depth ∙ ap length (sym c.self.view_is))
    ∙ ap (λ (n : ℕ). size_fault None (length (segs_in own) + n)) (c.depth-2.ensures.depth ∙ ap length (sym c.rest.view_is))
    ∙ sym (fault_after_is (segs_in own) (segs_in more) c.self.invariant.valid ∙ fault_after_path (segs_in own) (segs_in more) c.rest.invariant.valid)
    ∙ ap fault_of (sym (joined_text own more (string_bytes c.in_ok-glued.field-0) c.self.invariant.valid c.rest.invariant.valid c.self.invariant.whole c.rest.invariant.whole text).0)

pub made-requires-clause-whole : goal.made-requires-clause-whole
made-requires-clause-whole c =
    (joined_text (string_bytes c.self.inside.text) (string_bytes c.rest.inside.text) (string_bytes c.in_ok-glued.field-0) c.self.invariant.valid c.rest.invariant.valid c.self.invariant.whole c.rest.invariant.whole
    (c.in_ok-glued.ensures ∙ ap (λ (t : List ℕ). t ++ c.as_str-2.result.now) c.as_str.ensures.value ∙ ap (λ (t : List ℕ). string_bytes c.self.inside.text ++ t) c.as_str-2.ensures.value)).1

-- what was made is the join by its definition
made_of : (c : goal.After-made) → c.made.result ≡ join_of c.args.self.now c.args.rest.now
made_of c =
    let own = string_bytes c.self.inside.text in
    let more = string_bytes c.rest.inside.text in
    let text = c.in_ok-glued.ensures ∙ ap (λ (t : List ℕ). t ++ c.as_str-2.result.now) c.as_str.ensures.value ∙ ap (λ (t : List ℕ). own ++ t) c.as_str-2.ensures.value in
    c.made.ensures ∙ ap path_or_fault ((joined_text own more (string_bytes c.in_ok-glued.field-0) c.self.invariant.valid c.rest.invariant.valid c.self.invariant.whole c.rest.invariant.whole text).0
    ∙ ap (λ (segs : List (List ℕ)). segs ++ segs_in more) c.self.view_is ∙ ap (λ (segs : List (List ℕ)). c.args.self.now ++ segs) c.rest.view_is)

pub returns-clause-ok : goal.returns-clause-ok
returns-clause-ok c = IfOk-from c.made.result (λ p e. sym (made_of c) ∙ e)

pub returns-clause-err : goal.returns-clause-err
returns-clause-err c = IfErr-from c.made.result (λ e is _. sym (made_of c) ∙ is)
