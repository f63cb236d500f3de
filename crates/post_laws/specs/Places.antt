-- Where an operation acts, and what is apart from that (Apache Sling, "SlingPostServlet").
use Rattle.std.specs.Prelude.{◌≡◌, ◌≢◌, ◌++◌, ◌∷◌, [], List, IsSome, false, map}
use Rattle.std.specs.List.{AllByRecursion}
use Rattle.sp_base.specs.Texts.{Segments, Text}
use Rattle.sp_base.specs.Paths.{is_under}
use Rattle.resource_tree.specs.Content.{Content, kid, node_at, parent_of}
use Rattle.post_plan.specs.declared.spot.Carry.{Carry}
use Rattle.post_plan.specs.declared.operation.ModifyOp.{ModifyOp}
use Rattle.post_plan.specs.declared.operation.PropSet.{PropSet}
use Rattle.post_plan.specs.declared.operation.Op.{Op}
use Rattle.post_plan.specs.declared.operation.Op.TheVariants.{Nop, Delete, Copy, Move, Modify}
use Rattle.post_plan.specs.Spots.{full_path}

-- ---- the places that an operation names

-- what a parameter moves or copies, for a node
abbrev pub source_path : Segments → Carry → Segments
source_path node carry = full_path node carry.from

-- where that goes
abbrev pub goal_path : Segments → Carry → Segments
goal_path node carry = full_path node carry.to

-- the property that a parameter sets
abbrev pub set_path : Segments → PropSet → Segments
set_path node set = full_path node set.spot

-- the node that is made or modified, what `@Delete` takes away, what `@MoveFrom` moves and where it goes, where what `@CopyFrom` copies goes, and the
-- properties that are set
abbrev pub places_of_change : Segments → ModifyOp → List Segments
places_of_change node op = node ∷ (map (full_path node) op.deletes
    ++ (map (source_path node) op.moves
    ++ (map (goal_path node) op.moves ++ (map (goal_path node) op.copies ++ map (set_path node) op.sets))))

-- the places of an operation, where this is the node that it makes or modifies. What is copied is none of them: it stays as it is.
abbrev pub places_named : Segments → Op → List Segments
places_named node (Nop target) = []
places_named node (Delete target) = target ∷ []
places_named node (Copy op) = op.to ∷ []
places_named node (Move op) = op.from ∷ op.to ∷ []
places_named node (Modify op) = places_of_change node op

-- ---- what is apart from them

-- A path is apart from a place: it isn't the place and not under it, nor is it the place's parent, whose properties and kids may be others; and
-- where it is further above, the next node on the way to the place was there, so that none has to be made below it.
pub record IsApart (tree : Content) (path place : Segments) : Type 0 where
  pub outside : is_under path place ≡ false
  pub no_parent : parent_of place ≢ path
  pub on_way : (name : Text) (rest : Segments) → place ≡ path ++ name ∷ rest → IsSome (node_at tree (kid path name))

-- the same of each of some places
abbrev pub IsApartFrom : Content → Segments → List Segments → Type 0
IsApartFrom tree path places = AllByRecursion (IsApart tree path) places
