-- Paths: one test either way round, and a path as its parent's kid.
use Rattle.std.proofs.Common.{[], ap, arith, length, sym, take, ℕ, ◌+◌, ◌-◌, ◌<◌, ◌∙◌, ◌∷◌, ◌≡◌}
use Rattle.std.specs.Cmp.{eq_by_cmp_equiv}
use Rattle.std.proofs.Math.Seq.{take-length}
use Rattle.std.proofs.lemmas.List.{take_more}
use Rattle.sp_base.specs.Paths.{parent_of}
use Rattle.sp_base.specs.Texts.{Segments}
use Rattle.sp_base.proofs.OrderingLemmas.{by_path_total}
use Rattle.resource_tree.specs.Content.{kid, name_of, same_path}

pub same_path_swapped : (p q : Segments) → same_path p q ≡ same_path q p
same_path_swapped p q = (eq_by_cmp_equiv by_path_total).symm p q

pub kid_of_parent : (path : Segments) → 0 < length path → kid (parent_of path) (name_of path) ≡ path
kid_of_parent [] some = absurd (omega (arith, some))
kid_of_parent (s ∷ path) some =
    let size : (length (s ∷ path) - 1) + 1 ≡ length (s ∷ path) = omega arith in
    let within : length (s ∷ path) - 1 < length (s ∷ path) = omega arith in
    sym (take_more (s ∷ path) (length (s ∷ path) - 1) [] within) ∙ ap (λ i. take i (s ∷ path)) size ∙ take-length (s ∷ path)
