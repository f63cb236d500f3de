-- The decomposition of a path text (Apache Sling, "URL decomposition"), as a relation and as one answer.
use Rattle.std.specs.Prelude.{◌≡◌, ◌==◌, ◌<◌, ◌⊎◌, ◌-◌, ◌||◌, ℕ, zero, suc, Bool, true, not, if◌then◌else◌, List, [], ◌∷◌, Option, Some, None, option_map, Result, Ok, Err, drop, take, length, filter, slice_index, slice_index_or}
use Rattle.std.specs.Option.{option_or}
use Rattle.std.specs.List.{slice_split, before_first}
use Rattle.sp_base.specs.Texts.{Segments, Text}
use Rattle.sp_base.specs.Bytes.{is_dot, is_slash}
use Rattle.sp_base.specs.Paths.{path_of}
use Rattle.sp_base.specs.declared.path.PathFault.{PathFault}
use Rattle.url_split.specs.declared.decompose.Parts.{Parts}

-- A text may be cut at its end and before each of its dots.
abbrev pub IsCut : List ℕ → ℕ → Type 0
IsCut text at = (at ≡ length text) ⊎ ((at < length text) × (slice_index text at ≡ 46))

-- the prefix up to a cut reads as a path that is known
pub record Leads (known : Segments → Bool) (text : List ℕ) (at : ℕ) (path : Segments) : Type 0 where
  pub cut : IsCut text at
  pub reads : path_of (take at text) ≡ Ok path
  pub there : known path ≡ true

-- the last piece
abbrev pub last_of : Segments → List ℕ
last_of pieces = slice_index_or pieces (length pieces - 1) []

-- the pieces before the last one
abbrev pub but_last : Segments → Segments
but_last pieces = take (length pieces - 1) pieces

-- After the resource path stands nothing, or a dot and a text that goes up to the next slash: its last piece is the extension,
-- and its other pieces that aren't empty are the selectors. What begins with that slash is the suffix.
abbrev pub selectors_of : List ℕ → List Text
selectors_of [] = []
selectors_of (dot ∷ rest) = filter (λ piece. not (length piece == 0)) (but_last (slice_split is_dot (before_first is_slash rest)))

-- the last piece of that text, up to the next slash
abbrev pub extension_of : List ℕ → List ℕ
extension_of [] = []
extension_of (dot ∷ rest) = last_of (slice_split is_dot (before_first is_slash rest))

-- what begins with that slash
abbrev pub suffix_of : List ℕ → List ℕ
suffix_of [] = []
suffix_of (dot ∷ rest) = drop (length (before_first is_slash rest)) rest

-- the decomposition of a text: the longest prefix, up to a dot or the end, that reads as a known path, and what follows it
pub record IsSplit (known : Segments → Bool) (text : List ℕ) (parts : Parts) : Type 0 where
  pub at : ℕ
  pub leads : Leads known text at parts.path
  pub longest : (k : ℕ) (path : Segments) → at < k → Leads known text k path → ⊥
  pub selectors : parts.selectors ≡ selectors_of (drop at text)
  pub extension : parts.extension ≡ extension_of (drop at text)
  pub suffix : parts.suffix ≡ suffix_of (drop at text)

-- no prefix up to a dot or the end reads as a known path
abbrev pub IsLost : (Segments → Bool) → List ℕ → Type 0
IsLost known text = (k : ℕ) (path : Segments) → Leads known text k path → ⊥

-- The same as one answer: of the decompositions at the cuts of a text the one at the last cut.

-- the resource path that a text names, where it is known
abbrev pub known_one : (Segments → Bool) → Result Segments PathFault → Option Segments
known_one known (Ok path) = if known path then Some path else None
known_one known (Err fault) = None

-- a text may be cut here
abbrev pub is_cut : List ℕ → ℕ → Bool
is_cut text at = at == length text || slice_index text at == 46

-- the resource path that ends at a place
abbrev pub path_to : (Segments → Bool) → List ℕ → ℕ → Option Segments
path_to known text at = if is_cut text at then known_one known (path_of (take at text)) else None

-- a resource path, and the parts after it
abbrev pub parts_at : List ℕ → ℕ → Segments → Parts
parts_at text at path = record { path = path; selectors = selectors_of (drop at text); extension = extension_of (drop at text); suffix = suffix_of (drop at text) }

-- what a function gives at the greatest number below this one at which it gives something
abbrev pub at_greatest : {A : Type 0} → (ℕ → Option A) → ℕ → Option A
at_greatest f zero = None
at_greatest f (suc n) = option_or (f n) (at_greatest f n)

-- the decomposition of a text, if it has one
unfoldable pub split_of : (Segments → Bool) → List ℕ → Option Parts
split_of known text = at_greatest (λ at. option_map (parts_at text at) (path_to known text at)) (suc (length text))
