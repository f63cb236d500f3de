use Rattle.std.proofs.Common.{◌≡◌, ◌≢◌, ◌∷◌, ◌∙◌, Ok, sym, ap, subst, string_bytes, List, ℕ}
use Rattle.sp_base.specs.Paths.{path_or_fault, mangled_segs, mangled_of}
use Rattle.sp_base.specs.PathTexts.{segs_in, spelling_of}
use Rattle.sp_base.proofs.PathLemmas.{IfOk-from, IfErr-from}
use Rattle.sp_base.proofs.PathText.{segs_after, root_segs}
use Rattle.sp_base.proofs.MangledLemmas.{mangled_in}
use Rattle.sp_base.proofs.path.Path.mangled.Goals as goal

pub made-requires-clause-whole : goal.made-requires-clause-whole
made-requires-clause-whole c = (mangled_in (string_bytes c.in_ok-text-in-Some.text) c.in-Some.rest.now c.in_ok-text-in-Some.ensures).1

pub fault_in-requires : goal.fault_in-requires
fault_in-requires c =
    subst (λ (t : List ℕ). spelling_of (segs_in t) ≡ t) (sym c.as_str-in-Some.ensures.value) (mangled_in (string_bytes c.in_ok-text-in-Some.text) c.in-Some.rest.now c.in_ok-text-in-Some.ensures).1

made_of : (c : goal.After-made) → c.made.result ≡ mangled_of c.args.self.now
made_of c =
    let own = segs_after (string_bytes c.self.inside.text) c.in-Some.rest.now (sym c.as_str.ensures.value ∙ c.in-Some.ensures.some) in
    c.made.ensures ∙ ap path_or_fault ((mangled_in (string_bytes c.in_ok-text-in-Some.text) c.in-Some.rest.now c.in_ok-text-in-Some.ensures).0
    ∙ ap mangled_segs (sym own ∙ c.self.view_is))

pub returns-in_ok-text-in-Some-clause-ok : goal.returns-in_ok-text-in-Some-clause-ok
returns-in_ok-text-in-Some-clause-ok c = IfOk-from c.made.result (λ p e. sym (made_of c) ∙ e)

pub returns-in_ok-text-in-Some-clause-err : goal.returns-in_ok-text-in-Some-clause-err
returns-in_ok-text-in-Some-clause-err c = IfErr-from c.made.result (λ e is _. sym (made_of c) ∙ is)

pub returns-in-None-clause-ok : goal.returns-in-None-clause-ok
returns-in-None-clause-ok c =
    let none = subst (λ (t : List ℕ). (rest : List ℕ) → t ≢ 47 ∷ rest) c.as_str.ensures.value c.in-None.ensures.none in
    ap mangled_of (sym c.self.view_is ∙ root_segs (string_bytes c.self.inside.text) c.self.invariant.whole none) ∙ ap Ok (sym c.root.ensures)
