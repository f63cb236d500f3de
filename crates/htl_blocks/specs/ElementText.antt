-- The parts of an element as texts.
use Rattle.std.specs.Prelude.{ℕ, List}

-- an element's tag, its content and its end tag, and what follows it
pub record ElementText : Type 0 where
  pub tag : List ℕ
  pub inside : List ℕ
  pub end_tag : List ℕ
  pub rest : List ℕ
