use Rattle.std.proofs.Common.{◌≡◌, ◌≢◌, ◌∷◌, ◌∙◌, sym, ap, subst, string_bytes, List, ℕ}
use Rattle.sp_base.specs.Paths.{unmangled_segs}
use Rattle.sp_base.specs.PathTexts.{segs_in, spelling_of}
use Rattle.sp_base.proofs.PathLemmas.{unmangled_path}
use Rattle.sp_base.proofs.PathText.{segs_after, segs_of, spells, root_segs}
use Rattle.sp_base.proofs.path.Path.unmangled.Goals as goal

text_is : (c : goal.In_ok-pieces_unmangled-in-Some) → string_bytes c.in_ok-pieces_unmangled-in-Some.field-0 ≡ spelling_of (unmangled_segs (segs_in (string_bytes c.self.inside.text)))
text_is c =
    c.in_ok-pieces_unmangled-in-Some.ensures
    ∙ ap (λ (segs : List (List ℕ)). spelling_of (unmangled_segs segs)) (sym (segs_after (string_bytes c.self.inside.text) c.in-Some.rest.now (sym c.as_str.ensures.value ∙ c.in-Some.ensures.some)))

pub invariant_of-result : goal.invariant_of-result
invariant_of-result c =
    let own = segs_in (string_bytes c.self.inside.text) in
    spells (string_bytes c.in_ok-pieces_unmangled-in-Some.field-0) (unmangled_segs own) (text_is c) (unmangled_path own c.self.invariant.valid)

pub returns-in_ok-pieces_unmangled-in-Some : goal.returns-in_ok-pieces_unmangled-in-Some
returns-in_ok-pieces_unmangled-in-Some c =
    let own = segs_in (string_bytes c.self.inside.text) in
    segs_of (string_bytes c.in_ok-pieces_unmangled-in-Some.field-0) (unmangled_segs own) (text_is c) (unmangled_path own c.self.invariant.valid) ∙ ap unmangled_segs c.self.view_is

pub returns-in-None : goal.returns-in-None
returns-in-None c =
    let none = subst (λ (t : List ℕ). (rest : List ℕ) → t ≢ 47 ∷ rest) c.as_str.ensures.value c.in-None.ensures.none in
    c.root.ensures ∙ ap unmangled_segs (sym (root_segs (string_bytes c.self.inside.text) c.self.invariant.whole none) ∙ c.self.view_is)
