-- For the search alone: the pair that patterns give for what is asked, before the prefixes of its text are looked at.
use Rattle.std.specs.Prelude.{⊤, ◌≡◌, ◌≤◌, ◌<◌, ◌⊎◌, ◌==◌, ℕ, Bool, true, nat_lt, drop, Option, Some, None, List, if◌then◌else◌, length, take}
use Rattle.std.specs.Borrow.{Bor}
use Rattle.std.specs.Ordering.{is_lt}
use Rattle.std.specs.declared.cmp.Ordering.TheVariants.{Less}
use Rattle.sp_base.specs.Names.{by_name}
use Rattle.regex_rules.specs.Fronts.{IsFront, IsLastFront, may_cut}
use Rattle.regex_rules.specs.Trees.{tree_of}
use Rattle.resource_tree.specs.Content.{Content}
use Rattle.url_maps.specs.declared.fronts.PatternFront.{PatternFront}
use Rattle.url_maps.specs.declared.fronts.RowFront.{RowFront}
use Rattle.url_maps.specs.declared.patterns.PatternNode.{PatternNode}
use Rattle.url_maps.specs.declared.pairs.Pair.{Pair}
use Rattle.url_maps.specs.declared.pairs.PairKind.TheVariants.{Pattern}
use Rattle.url_maps.specs.Patterns.{Asked}
use Rattle.url_maps.specs.PatternRows.{IsRowAt}
use Rattle.url_maps.specs.Pairs.{IsPairOf}

-- the text is the one that is asked for, if one is
abbrev pub IsTextOf : Option Asked → List ℕ → Type 0
IsTextOf None text = ⊤
IsTextOf (Some asked) text = asked.text ≡ text

-- a front of one of the first n rows is before another row's front, or at its place, where its name isn't less
abbrev pub IsBehind : List PatternNode → List ℕ → ℕ → ℕ → ℕ → List ℕ → Type 0
IsBehind rows whole from n at name = (k : ℕ) (row : PatternNode) (j : ℕ) → k < n → IsRowAt rows k row → IsFront (tree_of row.pattern) whole from j
    → (j < at) ⊎ ((j ≡ at) × ((row.name ≡ name) ⊎ (by_name name row.name ≡ Less)))

-- of the fronts of the first n rows the last, and at a tie the one of the row with the least name
pub record IsFirstRow (rows : List PatternNode) (whole : List ℕ) (from n : ℕ) (best : RowFront) : Type 0 where
  pub place : ℕ
  pub seen : place < n
  pub there : IsRowAt rows place best.row.now
  pub front : IsLastFront (tree_of best.row.now.pattern) whole from (Some best.at)
  pub behind : IsBehind rows whole from n best.at best.row.now.name

-- that front, or that none of the first n rows has one
abbrev pub IsFirstFront : List PatternNode → List ℕ → ℕ → ℕ → Option RowFront → Type 0
IsFirstFront rows whole from n (Some best) = IsFirstRow rows whole from n best
IsFirstFront rows whole from n None = (k : ℕ) (row : PatternNode) (j : ℕ) → k < n → IsRowAt rows k row → IsFront (tree_of row.pattern) whole from j → ⊥

-- a front is after another one, or at its place and of a node with a less name
abbrev pub is_ahead : ℕ → List ℕ → RowFront → Bool
is_ahead at name old = if at == old.at then is_lt (by_name name old.row.now.name) else nat_lt old.at at

-- of the front so far, if there is one, and that of a row, if it has one, the one that is ahead
abbrev pub first_row : Option RowFront → Option ℕ → Bor PatternNode → Option RowFront
first_row best None row = best
first_row None (Some at) row = Some (record { at = at; row = row })
first_row (Some old) (Some at) row = if is_ahead at row.now.name old then Some (record { at = at; row = row }) else Some old

-- The longest prefix with which a pattern gives a pair for what is asked, at whose end the text may be cut, and that pair; or that there is none.
abbrev pub IsLongestPair : Content → Option Asked → List ℕ → Option PatternFront → Type 0
IsLongestPair tree asked text (Some found) = (found.pair.kind ≡ Pattern) × (found.at ≤ length text) × (may_cut (drop found.at text) ≡ true) × IsPairOf Pattern tree asked (take found.at text) found.pair
    × ((prefix : List ℕ) (pair : Pair) → IsPairOf Pattern tree asked prefix pair → length prefix ≤ found.at)
IsLongestPair tree asked text None = (prefix : List ℕ) (pair : Pair) → IsPairOf Pattern tree asked prefix pair → ⊥

-- the pair found, where its prefix has this length
abbrev pub pair_if_at : ℕ → Option PatternFront → Option Pair
pair_if_at n None = None
pair_if_at n (Some found) = if found.at == n then Some found.pair else None
