-- Spots by numbers: only private functions and proofs cite this.
use Rattle.std.specs.Prelude.{◌≡◌, ◌==◌, ℕ, Bool, false, if◌then◌else◌, is_some, List, Option, Some, None, filter, map, take}
use Rattle.std.specs.List.{position_or_len}
use Rattle.std.specs.Borrow.{Bor}
use Rattle.std.specs.BTreeMap.{BTreeMap, get_by}
use Rattle.std.specs.declared.cmp.Ordering.{Ordering}
use Rattle.std.specs.Ordering.{bool_cmp, nat_cmp, ordering_then}
use Rattle.std.specs.Cmp.Lexicographic.{slice_cmp}
use Rattle.sp_base.specs.Texts.{Segments}
use Rattle.post_plan.specs.declared.spot.Spot.{Spot}
use Rattle.post_plan.specs.Entries.{Entry, is_spot_named, same_spot}

-- the index of the first entry that names a spot
abbrev pub first_index : List Entry → Spot → ℕ
first_index es spot = position_or_len (λ e. same_spot e.spot spot) es

-- of each entry the index of the first that names the same spot
abbrev pub first_indices : List Entry → List ℕ
first_indices es = map (λ e. first_index es e.spot) es

-- the entries whose spot is first named at an index
abbrev pub numbered : List Entry → ℕ → List Entry
numbered es n = filter (λ e. first_index es e.spot == n) es

-- how a spot compares to a key
abbrev pub spot_cmp : Spot → Bool × Bor Segments → Ordering
spot_cmp spot key = ordering_then (bool_cmp spot.at_target key.0) (slice_cmp (slice_cmp nat_cmp) spot.path key.1.now)

-- the index that is noted for a spot
abbrev pub index_noted : BTreeMap (Bool × Bor Segments) ℕ → Spot → Option ℕ
index_noted first spot = get_by (spot_cmp spot) first

-- what is noted once a spot that has no index yet has this one
abbrev pub noted_after : (Spot → Option ℕ) → Spot → ℕ → Spot → Option ℕ
noted_after noted spot n other = if is_some (noted spot) then noted other else (if same_spot spot other then Some n else noted other)

-- what is noted of a spot is its first index, and nothing is where the first n entries don't name it
pub record NotesIndices (es : List Entry) (n : ℕ) (noted : Spot → Option ℕ) : Type 0 where
  pub first : (spot : Spot) (k : ℕ) → noted spot ≡ Some k → first_index es spot ≡ k
  pub none : (spot : Spot) → noted spot ≡ None → is_spot_named spot (take n es) ≡ false
