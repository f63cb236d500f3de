-- What the functions of the decomposition promise one another; a reader of its definition needs none of it.
use Rattle.std.specs.Prelude.{◌≡◌, ◌<◌, ◌≤◌, ◌+◌, ◌⊎◌, ◌++◌, ◌∷◌, [], ℕ, Bool, true, false, List, Option, Some, None, Ok, take, length, slice_index}
use Rattle.std.specs.List.{count_by}
use Rattle.sp_base.specs.Texts.{Segments}
use Rattle.sp_base.specs.Bytes.{is_slash}
use Rattle.sp_base.specs.PathTexts.{spelling_of}
use Rattle.sp_base.specs.Paths.{has_slash, is_long, is_path, is_under, parent_of, path_of}
use Rattle.url_split.specs.Split.{Leads}

-- a prefix of a text after which no prefix up to a dot reads as a known path
pub record IsReached (known : Segments → Bool) (text start : List ℕ) : Type 0 where
  pub begins : start ≡ take (length start) text
  pub all : (k : ℕ) (path : Segments) → length start ≤ k → k < length text → Leads known text k path → ⊥

-- a path that begins with the parent of each path that a prefix of a text spells
abbrev pub HasParents : List ℕ → Segments → Type 0
HasParents text path = (k : ℕ) (read : Segments) → k ≤ length text → path_of (take k text) ≡ Ok read → is_under path (parent_of read) ≡ true

-- how many bytes the first of some pieces have with a slash before each, of which as many are taken as make a path
pub record IsFitEnd (parts : Segments) (end : ℕ) : Type 0 where
  pub many : ℕ
  pub fit : is_path (take many parts) ≡ true
  pub bytes : end ≡ length (spelling_of (take many parts))
  pub ends : (length parts ≤ many) ⊎ (is_path (take (many + 1) parts) ≡ false)

-- a text up to the slash that stands after n others, or all of it where there is none
pub record IsBeforeSlash (n : ℕ) (text start : List ℕ) : Type 0 where
  pub begins : start ≡ take (length start) text
  pub ends : (length start ≡ length text) ⊎ ((length start < length text) × (slice_index text (length start) ≡ 47) × (count_by is_slash (take (length start) text) ≡ n))

-- a text whose last bytes, more than a segment has, have no slash
pub record EndsInLong (text : List ℕ) : Type 0 where
  pub leading : List ℕ
  pub long : List ℕ
  pub text_is : text ≡ leading ++ long
  pub one_piece : has_slash long ≡ false
  pub too_long : is_long long ≡ true

-- a text up to a place before which more bytes than a segment has stand without a slash, or all of it
pub record IsBeforeLong (text start : List ℕ) : Type 0 where
  pub begins : start ≡ take (length start) text
  pub ends : (length start ≡ length text) ⊎ EndsInLong start

-- nothing, or a text that begins with a dot
abbrev pub IsAfterPath : List ℕ → Type 0
IsAfterPath rest = (rest ≡ []) ⊎ ((more : List ℕ) × (rest ≡ 46 ∷ more))

-- what a text reads as: the path, where it spells one that is known
abbrev pub IsReading : (Segments → Bool) → List ℕ → Option Segments → Type 0
IsReading known text (Some path) = (path_of text ≡ Ok path) × (known path ≡ true)
IsReading known text None = (path : Segments) → path_of text ≡ Ok path → known path ≡ true → ⊥
