-- What properties that are lent stand for. What is merged needs none of it: only private functions and proofs cite this.
use Rattle.std.specs.Prelude.{ℕ, List, map}
use Rattle.std.specs.Borrow.{Bor}
use Rattle.sp_base.specs.declared.value.Value.{Value}
use Rattle.sp_base.specs.Texts.{Properties}

-- a property whose name and value are lent
abbrev pub property_lent : Bor (List ℕ) × Bor Value → List ℕ × Value
property_lent e = (e.0.now, e.1.now)

-- properties whose names and values are lent
abbrev pub properties_lent : List (Bor (List ℕ) × Bor Value) → Properties
properties_lent es = map property_lent es
