-- What is said where segments are a path, and where they are none.
use Rattle.std.proofs.Common.{◌≡◌, ◌∙◌, ◌++◌, ℕ, true, false, cond, List, drop, length, refl, ap, Some, None}
use Rattle.std.specs.Prelude.{is_some, unwrap_or}
use Rattle.std.proofs.lemmas.Bool.{true≢false}
use Rattle.sp_base.specs.Paths.{is_path, path_or_none}
use Rattle.resource_tree.specs.Moves.{path_there}

pub path_is : (p b : List (List ℕ)) → Some b ≡ path_or_none p → (b ≡ p) × (is_path p ≡ true)
path_is p b =
    elim (is_path p) as (λ t. Some b ≡ cond t (Some p) None → (b ≡ p) × (t ≡ true)) [
      | true ↦ λ e. (ap (λ o. unwrap_or o b) e, refl)
      | false ↦ λ e. absurd (true≢false (ap is_some e))
    ]

-- what is joined after the target is the path there
pub there_is : (source target path there : List (List ℕ)) (n : ℕ) → Some there ≡ path_or_none (target ++ drop n path) → n ≡ length source
    → (there ≡ path_there source target path) × (is_path (path_there source target path) ≡ true)
there_is source target path there n is same = path_is (path_there source target path) there (is ∙ ap (λ k. path_or_none (target ++ drop k path)) same)
