use Rattle.std.proofs.Common.{◌≡◌, ◌∙◌, sym, ap, string_bytes, List, ℕ, take}
use Rattle.sp_base.specs.PathTexts.{segs_in, spelling_of}
use Rattle.sp_base.proofs.PathLemmas.{first_path}
use Rattle.sp_base.proofs.PathText.{segs_after, segs_of, spells}
use Rattle.sp_base.proofs.path.Path.first.Goals as goal

text_is : (c : goal.In_ok-first_pieces-in-Some) → string_bytes c.in_ok-first_pieces-in-Some.field-0 ≡ spelling_of (take c.args.n (segs_in (string_bytes c.self.inside.text)))
text_is c =
    c.in_ok-first_pieces-in-Some.ensures
    ∙ ap (λ (segs : List (List ℕ)). spelling_of (take c.args.n segs)) (sym (segs_after (string_bytes c.self.inside.text) c.in-Some.rest.now (sym c.as_str.ensures.value ∙ c.in-Some.ensures.some)))

pub invariant_of-result : goal.invariant_of-result
invariant_of-result c =
    let own = segs_in (string_bytes c.self.inside.text) in
    spells (string_bytes c.in_ok-first_pieces-in-Some.field-0) (take c.args.n own) (text_is c) (first_path own c.args.n c.self.invariant.valid)

pub returns-in_ok-first_pieces-in-Some : goal.returns-in_ok-first_pieces-in-Some
returns-in_ok-first_pieces-in-Some c =
    let own = segs_in (string_bytes c.self.inside.text) in
    segs_of (string_bytes c.in_ok-first_pieces-in-Some.field-0) (take c.args.n own) (text_is c) (first_path own c.args.n c.self.invariant.valid) ∙ ap (take c.args.n) c.self.view_is
