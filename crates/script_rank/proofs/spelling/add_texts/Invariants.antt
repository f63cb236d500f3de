use Rattle.std.proofs.Common.{◌≡◌, ◌++◌, take}
use Rattle.std.specs.Prelude.{flat_map, string_bytes}
use Rattle.script_rank.proofs.spelling.add_texts.Given as goal

-- the texts before are added
abbrev pub invariant-loop-part : goal.invariant-loop-part
invariant-loop-part l = string_bytes l.text ≡ string_bytes l.fn.text ++ flat_map (λ s. s.now) (take l.part-index l.more)
