-- The entries of a set of names, as its map from names holds them. Only the model of such sets and proofs need these.
use Rattle.std.specs.Prelude.{◌≡◌, ℕ, false, List, String, map, string_bytes, string_cmp}
use Rattle.std.specs.FinMap.{FinMap, from_entries}
use Rattle.std.specs.List.{All}
use Rattle.std.specs.List.Sorted.{IsStrictlySortedBy}
use Rattle.std.specs.Map.{keys_of}
use Rattle.std.specs.Ordering.{is_lt}
use Rattle.std.specs.declared.cmp.Ordering.TheVariants.{Less}
use Rattle.std.specs.declared.ops.Bound.{Bound}
use Rattle.std.specs.declared.ops.Bound.TheVariants.{Included, Excluded, Unbounded}
use Rattle.std.specs.declared.alloc.Global.{Global}
use Rattle.sp_base.specs.Names.{by_name}
use Rattle.sp_outside.specs.Files.{IsName}

-- the entries of the map, in its order
abbrev pub NameEntries : Type 0 → Type 0
NameEntries X = List (String Global × X)

-- the entries under their names' bytes
abbrev pub entries_by_bytes : {X : Type 0} → NameEntries X → List (List ℕ × X)
entries_by_bytes held = map (λ e. (string_bytes e.0, e.1)) held

-- what is kept under each name
abbrev pub kept_by_name : {X : Type 0} → NameEntries X → FinMap by_name X
kept_by_name held = from_entries (entries_by_bytes held)

-- the names rise, and each is one of a file
pub record HasNames {X : Type 0} (held : NameEntries X) : Type 0 where
  pub rising : IsStrictlySortedBy string_cmp (keys_of held)
  pub sizes : All (λ key. IsName (string_bytes key)) (keys_of held)

-- the first place at which a name may stand that is after one and begins with a prefix: the prefix, or right after that name, whichever is later
abbrev pub IsFirstPlace : List ℕ → List ℕ → Bound (String Global) → Type 0
IsFirstPlace prefix after (Included key) = (string_bytes key ≡ prefix) × (by_name after prefix ≡ Less)
IsFirstPlace prefix after (Excluded key) = (string_bytes key ≡ after) × (is_lt (by_name after prefix) ≡ false)
IsFirstPlace prefix after Unbounded = ⊥
