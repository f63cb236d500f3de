-- The removal of dot segments from the text of a path that begins with a slash (RFC 3986, section 5.2.4), as a relation on the input, the output so far and what comes
-- out in the end.
use Rattle.std.specs.Prelude.{◌≡◌, ◌⊎◌, ℕ, true, false, List, [], ◌∷◌, ◌++◌, codes}
use Rattle.sp_base.specs.Texts.{Segments, Text}
use Rattle.sp_base.specs.Paths.{has_slash, is_dots, is_path}
use Rattle.sp_base.specs.PathTexts.{ends_segment, spelling_of}
use Rattle.post_plan.specs.Spots.{is_absolute}

-- the first segment of the input, with the slash before it, and the rest
pub record HasFirstSegment (input segment rest : List ℕ) : Type 0 where
  pub spells : input ≡ 47 ∷ (segment ++ rest)
  pub whole : has_slash segment ≡ false
  pub ends : ends_segment rest ≡ true

-- the rest of the input after a dot segment: a slash where none follows
abbrev pub or_slash : List ℕ → List ℕ
or_slash [] = 47 ∷ []
or_slash (b ∷ rest) = b ∷ rest

-- the output ends in a segment, with the slash before it
pub record EndsInSegment (output kept : List ℕ) : Type 0 where
  pub last : List ℕ
  pub spells : output ≡ kept ++ 47 ∷ last
  pub whole : has_slash last ≡ false

-- the output without its last segment, if it has any
abbrev pub IsWithoutLast : List ℕ → List ℕ → Type 0
IsWithoutLast output kept = EndsInSegment output kept ⊎ ((output ≡ []) × (kept ≡ []))

-- `/.` is taken away up to the next slash, `/..` too, with the last segment of the output, and any other segment moves to the output
pub data RemovesDots : List ℕ → List ℕ → List ℕ → Type 0 where
  Ends : {input output result : List ℕ} → input ≡ [] → result ≡ output → RemovesDots input output result
  Stays : {input output result : List ℕ} (rest : List ℕ) → HasFirstSegment input (codes ".") rest → RemovesDots (or_slash rest) output result → RemovesDots input output result
  Climbs : {input output result : List ℕ} (rest kept : List ℕ) → HasFirstSegment input (codes "..") rest → IsWithoutLast output kept → RemovesDots (or_slash rest) kept result → RemovesDots input output result
  Moves : {input output result : List ℕ} (segment rest : List ℕ) → HasFirstSegment input segment rest → is_dots segment ≡ false → RemovesDots rest (output ++ 47 ∷ segment) result → RemovesDots input output result

-- a name that isn't absolute, at a node
pub record IsRelative (node : Segments) (text : Text) : Type 0 where
  pub path : is_path node ≡ true
  pub relative : is_absolute text ≡ false

-- the path is what is left of the node's text, a slash and the name
abbrev pub LeavesPath : Segments → Text → Segments → Type 0
LeavesPath node text path = RemovesDots (spelling_of node ++ 47 ∷ text) [] (spelling_of path)
