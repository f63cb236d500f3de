use Rattle.std.proofs.Common.{◌≡◌, ◌==◌, ◌++◌, List, ℕ, drop, length, true, false, sym, ◌∙◌, ap, subst}
use Rattle.sp_base.proofs.PathLemmas.{mangled_on, mangled_alone, not_mangled}
use Rattle.sp_base.proofs.segments.after_namespace_mark.Goals as goal
use Rattle.sp_base.proofs.segments.after_namespace_mark.Goals.{in_default-via-in-Some+else-not-is_empty, in_default-via-in_default}

pub returns-in-Some-clause-some : goal.returns-in-Some-clause-some
returns-in-Some-clause-some c =
    let seg = c.args.seg.now in
    let namespace_mark = c.args.namespace_mark.now in
    let h = c.in-Some.ensures.cases in
    let e : seg ≡ namespace_mark ++ drop (length namespace_mark) seg = subst (λ k. seg ≡ namespace_mark ++ drop k seg) h.1.0 h.1.1 in
    let rest : c.in-Some.rest.now ≡ drop (length namespace_mark) seg = h.2 ∙ ap (λ k. drop k seg) h.1.0 in
    let some : (length (drop (length namespace_mark) seg) == 0) ≡ false = ap (λ (r : List ℕ). length r == 0) (sym rest) ∙ sym c.if-not-is_empty.ensures in
    (mangled_on namespace_mark seg e some, rest)

pub returns-in_default-clause-none : goal.returns-in_default-clause-none
returns-in_default-clause-none c =
    let seg = c.args.seg.now in
    let namespace_mark = c.args.namespace_mark.now in
    elim c.in_default.branch [
      | in_default-via-in-Some+else-not-is_empty w ↦
          let h = w.in-Some.ensures.cases in
          let e : seg ≡ namespace_mark ++ drop (length namespace_mark) seg = subst (λ k. seg ≡ namespace_mark ++ drop k seg) h.1.0 h.1.1 in
          let rest : w.in-Some.rest.now ≡ drop (length namespace_mark) seg = h.2 ∙ ap (λ k. drop k seg) h.1.0 in
          let none : (length (drop (length namespace_mark) seg) == 0) ≡ true = ap (λ (r : List ℕ). length r == 0) (sym rest) ∙ sym w.if-not-is_empty.ensures in
          mangled_alone namespace_mark seg e none
      | in_default-via-in_default w ↦ not_mangled namespace_mark seg w.in_default.ensures.cases
    ]
