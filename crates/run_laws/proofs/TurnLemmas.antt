-- Turns of a stream, and of one that goes on.
use Rattle.std.proofs.Common.{◌≡◌, ℕ, ◌++◌, List, [], ◌∷◌, ap, sym, ◌∙◌, arith, append-nil, length-append}
use Rattle.std.specs.Prelude.{length}
use Rattle.http_front.specs.Turns.{End, SpellsTurns}
use Rattle.http_front.specs.declared.turn.Turn.{Turn}

abbrev pub Beginnings : Type 0
Beginnings = (stream more : List ℕ) (turns all : List Turn) (end last : End) → SpellsTurns stream turns end → SpellsTurns (stream ++ more) all last → (later : List Turn) × (all ≡ turns ++ later)

pub no-more : (a b later earlier : List Turn) → b ≡ a ++ later → a ≡ b ++ earlier → a ≡ b
no-more a b later earlier first second = by_rest later first (omega (arith, ap length first, ap length second, length-append a later, length-append b earlier))
  where
    by_rest : (rest : List Turn) → b ≡ a ++ rest → length rest ≡ 0 → a ≡ b
    by_rest [] e none = sym (e ∙ append-nil a)
    by_rest (turn ∷ rest) e none = absurd (omega (arith, none))
