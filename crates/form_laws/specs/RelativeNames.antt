-- What a relative name leads to, both ways: which names lead anywhere, and to what (RFC 3986, section 5.2.4). The root is where the climbing ends: a name that leads
-- above it leads nowhere.
use Rattle.std.specs.Prelude.{◌≡◌, ◌≤◌, ◌+◌, ◌||◌, ◌⊎◌, ℕ, Bool, true, false, List, [], ◌∷◌, ◌++◌, codes, filter, length, take}
use Rattle.std.specs.List.{list_all}
use Rattle.std.specs.Str.{bytes_eq}
use Rattle.sp_base.specs.Texts.{Segments, Text}
use Rattle.sp_base.specs.Paths.{is_dots, is_path, parent_of, pieces, seg_ok}
use Rattle.resource_tree.specs.MergeRoots.{is_merged_path}
use Rattle.post_plan.specs.declared.spot.Spot.{Spot}
use Rattle.post_plan.specs.Spots.{ends_in_name, full_path, goes_under, own_name}
use Rattle.form_laws.specs.DotSegments.{LeavesPath}

-- a piece that leads somewhere: a segment, `.` or `..`
abbrev pub is_step : List ℕ → Bool
is_step piece = is_dots piece || seg_ok piece

-- a piece that leads up
abbrev pub is_climb : List ℕ → Bool
is_climb piece = bytes_eq piece (codes "..")

-- among the first pieces, however many, are no more that lead up than segments, and so many
abbrev pub StaysWithin : ℕ → Text → Type 0
StaysWithin most text = (k : ℕ) → length (filter is_climb (take k (pieces text))) ≤ most + length (filter seg_ok (take k (pieces text)))

-- a relative name leads from a node to a path: each piece leads somewhere, the last is a segment, none leads above the root, and the path is what is left once the dot
-- segments are removed
pub record NamesPath (node : Segments) (text : Text) (path : Segments) : Type 0 where
  pub steps : list_all is_step (pieces text) ≡ true
  pub last : ends_in_name text ≡ true
  pub within : StaysWithin (length node) text
  pub leads : LeavesPath node text path

-- a relative name that may be changed: one that never climbs out of its node is kept relative to that, and what is kept has at most 64 segments
pub record IsSpotOf (node : Segments) (text : Text) (spot : Spot) : Type 0 where
  pub names : NamesPath node text (full_path node spot)
  pub below : StaysWithin 0 text → spot.at_target ≡ true
  pub stays : spot.at_target ≡ true → StaysWithin 0 text
  pub fits : is_path spot.path ≡ true
  pub changeable : is_merged_path (full_path node spot) ≡ false

-- under the path that stands before the slash at the end of a word, the target's own name
pub record IsUnderSlash (target : Segments) (word : Text) (goal : Segments) : Type 0 where
  pub text : Text
  pub base : Segments
  pub slash : word ≡ text ++ 47 ∷ []
  pub names : NamesPath (parent_of target) text base
  pub is : goal ≡ base ++ own_name target

-- without a slash at the end of the word, the path that it names
pub record IsWithoutSlash (target : Segments) (word : Text) (goal : Segments) : Type 0 where
  pub no_slash : goes_under word ≡ false
  pub names : NamesPath (parent_of target) word goal

-- the goal of a relative word, which is seen from the target's parent
pub record IsGoalOf (target : Segments) (word : Text) (goal : Segments) : Type 0 where
  pub is : IsUnderSlash target word goal ⊎ IsWithoutSlash target word goal
  pub fits : is_path goal ≡ true
  pub changeable : is_merged_path goal ≡ false
