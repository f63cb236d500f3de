-- Where a name stands in a property list, or would stand. Only proofs and private functions need these.
use Rattle.std.specs.Prelude.{◌≡◌, ◌<◌, ◌≤◌, ◌+◌, ◌++◌, ◌∷◌, ℕ, List, T, length, take, drop, slice_index_or}
use Rattle.std.specs.List.{list_all}
use Rattle.std.specs.Ordering.{is_lt}
use Rattle.std.specs.FinMap.Entries.{below_all}
use Rattle.sp_base.specs.declared.value.Value.{Value}
use Rattle.sp_base.specs.Names.{by_name}
use Rattle.sp_base.specs.Texts.{Properties}

-- each name is before this one
abbrev pub all_before : List ℕ → Properties → Type 0
all_before name props = T (list_all (λ p. is_lt (by_name p.0 name)) props)

-- the name stands at this place
pub record IsAt (name : List ℕ) (props : Properties) (place : ℕ) : Type 0 where
  pub value : Value
  pub within : place < length props
  pub before : all_before name (take place props)
  pub parts : props ≡ take place props ++ (name, value) ∷ drop (place + 1) props
  pub item : (p : List ℕ × Value) → p ≡ slice_index_or props place p → p ≡ (name, value)

-- the name stands nowhere, and would stand at this place
pub record IsGap (name : List ℕ) (props : Properties) (place : ℕ) : Type 0 where
  pub within : place ≤ length props
  pub before : all_before name (take place props)
  pub remainder : T (below_all by_name name (drop place props))
