-- The lines of a text in words of their own (RFC 2046, section 5.1.1): joined by CR LF they are the text, and none holds CR LF.
use Rattle.std.specs.Prelude.{◌≡◌, ◌<◌, ℕ, List, ◌∷◌, ◌++◌, length}
use Rattle.std.specs.List.{AllByRecursion}
use Rattle.sp_base.specs.Texts.{Text}
use Rattle.form_input.specs.Lines.{lines_text}

-- CR LF stands in a text
pub record HoldsLineEnd (text : List ℕ) : Type 0 where
  pub before : List ℕ
  pub after : List ℕ
  pub is : text ≡ before ++ 13 ∷ 10 ∷ after

-- no CR LF does
abbrev pub IsOneLine : List ℕ → Type 0
IsOneLine text = HoldsLineEnd text → ⊥

-- one line at least: with CR LF between each two they are the text, and no CR LF stands in any
pub record AreLinesOf (text : List ℕ) (ls : List Text) : Type 0 where
  pub some : 0 < length ls
  pub joined : lines_text ls ≡ text
  pub each : AllByRecursion IsOneLine ls
