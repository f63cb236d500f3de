-- Whether a stream of bytes spells turns.
use Rattle.std.specs.Prelude.{List}
use Rattle.sp_base.specs.Texts.{Text}
use Rattle.http_front.specs.declared.turn.Turn.{Turn}
use Rattle.http_front.specs.Turns.{End, SpellsTurns}

-- no turns and no end are those that the stream spells
abbrev pub SpellsNone : Text → Type 0
SpellsNone stream = (turns : List Turn) (end : End) → SpellsTurns stream turns end → ⊥
