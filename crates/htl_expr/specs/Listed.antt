-- The text of an item of a list. Only the model of `ItemText`, proofs and private functions need this.
use Rattle.std.specs.Prelude.{ℕ, List}
use Rattle.htl_expr.specs.declared.listed.HeldText.{HeldText}
use Rattle.htl_expr.specs.declared.listed.HeldText.TheVariants as held

-- a text that is lent, or one that was made
abbrev pub held_text : HeldText → List ℕ
held_text (held.Lent text) = text.now
held_text (held.Made text) = text
