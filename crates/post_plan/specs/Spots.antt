-- Paths in the names and words of parameters, relative to a node or absolute (Apache Sling, "SlingPostServlet"; RFC 3986, section 5.2.4).
-- `first_two` is needed by private functions and proofs alone.
use Rattle.std.specs.Prelude.{◌==◌, ◌&&◌, ◌-◌, ℕ, Bool, true, false, nat_eq, nat_le, nat_lt, if◌then◌else◌, List, [], ◌∷◌, ◌++◌, Option, Some, None, option_and_then, codes, length, take, drop, slice_index_or}
use Rattle.std.specs.List.{starts_with, ends_with}
use Rattle.sp_base.specs.Texts.{Segments}
use Rattle.sp_base.specs.Paths.{seg_ok, pieces, path_in, path_or_none, parent_of}
use Rattle.resource_tree.specs.MergeRoots.{is_merged_path}
use Rattle.post_plan.specs.declared.spot.Spot.{Spot}
use Rattle.post_plan.specs.RelativePaths.{RelativePath, relative_path_of}

-- the path that a relative path leads to from a node; none above the root, or where there are too many segments
abbrev pub led_to : Segments → RelativePath → Option Segments
led_to node relative = if nat_le relative.up (length node) then path_or_none (take (length node - relative.up) node ++ relative.down) else None

-- whether a text begins with a slash
abbrev pub is_absolute : List ℕ → Bool
is_absolute text = starts_with nat_eq text (codes "/")

-- the last piece of a path is a name
abbrev pub ends_in_name : List ℕ → Bool
ends_in_name text = seg_ok (slice_index_or (pieces text) (length (pieces text) - 1) [])

-- the spot at a whole path
abbrev pub spot_there : Option Segments → Option Spot
spot_there None = None
spot_there (Some path) = Some (record { at_target = false; path = path })

-- the spot at a path below the node
abbrev pub spot_below : Option Segments → Option Spot
spot_below None = None
spot_below (Some path) = Some (record { at_target = true; path = path })

-- one that stays below its node is kept relative to it
abbrev pub relative_spot : Segments → RelativePath → Option Spot
relative_spot node relative = if relative.up == 0 then spot_below (path_or_none relative.down) else spot_there (led_to node relative)

-- the path of a spot below a node
abbrev pub full_path : Segments → Spot → Segments
full_path node spot = if spot.at_target then node ++ spot.path else spot.path

-- a spot, where it may be changed
abbrev pub if_changeable : Segments → Spot → Option Spot
if_changeable node spot = if is_merged_path (full_path node spot) then None else Some spot

-- the spot of a text that names one, absolute or seen from a node
abbrev pub any_spot : Segments → List ℕ → Option Spot
any_spot node text = if is_absolute text then spot_there (path_in text) else option_and_then (relative_spot node) (relative_path_of text)

-- the property or node that a text names, seen from a node
abbrev pub spot_of : Segments → List ℕ → Option Spot
spot_of node text = if ends_in_name text then option_and_then (if_changeable node) (any_spot node text) else None

-- the goal of a copy or a move: a slash at the end asks for the target's own name under it
abbrev pub goes_under : List ℕ → Bool
goes_under word = ends_with nat_eq word (codes "/")

-- the word without that slash; the root's text is it
abbrev pub word_without_slash : List ℕ → List ℕ
word_without_slash word = if nat_lt 1 (length word) && goes_under word then take (length word - 1) word else word

-- the path that a goal's text names, seen from the target's parent
abbrev pub goal_base : Segments → List ℕ → Option Segments
goal_base parent text = if is_absolute text then path_in text else (if ends_in_name text then option_and_then (led_to parent) (relative_path_of text) else None)

-- a path, where it may be changed
abbrev pub unless_merged : Option Segments → Option Segments
unless_merged None = None
unless_merged (Some path) = if is_merged_path path then None else Some path

-- the last segment of a path, where it has one
abbrev pub own_name : Segments → Segments
own_name path = drop (length path - 1) path

-- a goal under what a word names, or that itself
abbrev pub goal_at : Segments → List ℕ → Segments → Option Segments
goal_at target word base = unless_merged (if goes_under word then path_or_none (base ++ own_name target) else Some base)

-- the goal that a word names for a target; a relative word is seen from the target's parent
abbrev pub goal_of : Segments → List ℕ → Option Segments
goal_of target word = option_and_then (goal_at target word) (goal_base (parent_of target) (word_without_slash word))

-- ---- what the functions that find spots promise one another

-- a new node's name stands below its parent
abbrev pub under : Segments → Option (List ℕ) → Segments
under parent None = parent
under parent (Some name) = parent ++ name ∷ []

-- of two first segments those that are there, but none where the first is not
abbrev pub first_two : Option (List ℕ) → Option (List ℕ) → Segments
first_two None second = []
first_two (Some first) None = first ∷ []
first_two (Some first) (Some second) = first ∷ second ∷ []
