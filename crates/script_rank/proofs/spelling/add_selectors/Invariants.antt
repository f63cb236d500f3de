use Rattle.std.proofs.Common.{◌≡◌, ◌++◌, ◌∷◌, take}
use Rattle.std.specs.Prelude.{flat_map, string_bytes}
use Rattle.script_rank.proofs.spelling.add_selectors.Given as goal

-- the selectors before are added
abbrev pub invariant-loop-selector : goal.invariant-loop-selector
invariant-loop-selector l = string_bytes l.text ≡ string_bytes l.fn.text ++ flat_map (λ s. 47 ∷ s) (take l.selector-index l.selectors)
