-- The header fields of a request: where their values stand, and what they say of one name.
use Rattle.std.specs.Prelude.{◌≤◌, ℕ, List, Option, option_map, nat_eq, slice_range}
use Rattle.std.specs.List.{find}
use Rattle.std.specs.Cmp.Lexicographic.{pointwise}
use Rattle.sp_base.specs.declared.field.FieldSpan.{FieldSpan}
use Rattle.sp_base.specs.Texts.{Pairs}

-- the value of the first field of a name
abbrev pub field_of : Pairs → List ℕ → Option (List ℕ)
field_of fields name = option_map (λ field. field.1) (find (λ field. pointwise nat_eq field.0 name) fields)

-- a field whose value stands at a place of the bytes (RFC 9110, section 5)
abbrev pub field_at : List ℕ → FieldSpan → List ℕ × List ℕ
field_at bytes field = (field.name, slice_range bytes field.start field.end)

-- the value lies in the first n bytes
abbrev pub IsFieldWithin : ℕ → FieldSpan → Type 0
IsFieldWithin n field = (field.start ≤ field.end) × (field.end ≤ n)
