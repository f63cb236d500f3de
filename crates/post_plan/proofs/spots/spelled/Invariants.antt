use Rattle.std.proofs.Common.{◌≡◌, ◌++◌, List, ℕ, Bor, drop, map, string_bytes}
use Rattle.sp_base.specs.PathTexts.{spelling_of}
use Rattle.post_plan.proofs.spots.spelled.Given as goal

abbrev pub invariant-loop-name : goal.invariant-loop-name
invariant-loop-name l =
    string_bytes l.text ++ spelling_of (map (λ (n : Bor (List ℕ)). n.now) (drop l.name-index l.names)) ≡ spelling_of (map (λ (n : Bor (List ℕ)). n.now) l.names)
