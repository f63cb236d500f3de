-- What an operation leaves as it is, and what it leaves at the places that it names.
use Rattle.std.specs.Prelude.{◌≡◌, ◌++◌, ◌∷◌, IfOk, List, false}
use Rattle.sp_base.specs.Texts.{Segments}
use Rattle.resource_tree.specs.Content.{Content, IsGood, node_at}
use Rattle.post_plan.specs.declared.spot.Spot.{Spot}
use Rattle.post_plan.specs.declared.operation.ModifyOp.{ModifyOp}
use Rattle.post_plan.specs.declared.operation.PropSet.{PropSet}
use Rattle.post_plan.specs.declared.operation.Op.{Op}
use Rattle.post_plan.specs.declared.operation.Op.TheVariants.{Modify}
use Rattle.post_plan.specs.Spots.{full_path}
use Rattle.post_apply.specs.Posting.{PostEffect, post_outcome}
use Rattle.post_laws.specs.Places.{IsApartFrom, places_named, set_path}
use Rattle.post_laws.specs.Decided.{HasItsValue, HasNothingAt, IsNamedNoMore, is_set_at}

-- the node at a path is as before: with the same properties and the same kids in their order, and none where none was
abbrev pub IsAsBefore : Content → Segments → Content → Type 0
IsAsBefore tree path after = node_at after path ≡ node_at tree path

-- what an operation leaves as it was: a path that is apart from all its places
abbrev pub LeavesWhatIsApart : Op → Content → Segments → PostEffect → Type 0
LeavesWhatIsApart op tree path done = IsApartFrom tree path (places_named done.report.path op) → IsAsBefore tree path done.content

-- so does each operation that isn't refused, in the content of a tree
abbrev pub OperationsLeaveWhatIsApart : Type 0
OperationsLeaveWhatIsApart = (op : Op) (tree : Content) (path : Segments) → IsGood tree → IfOk (post_outcome op tree) (LeavesWhatIsApart op tree path)

-- a property that is set has its value, unless one of the later ones is set at its place
abbrev pub HasItsValueUnlessSetLater : PropSet → List PropSet → PostEffect → Type 0
HasItsValueUnlessSetLater set later done = is_set_at done.report.path (set_path done.report.path set) later ≡ false → HasItsValue done.report.path set done.content

-- so has each that a change sets which isn't refused: of those at one place the last decides
abbrev pub LastValuesStay : Type 0
LastValuesStay = (op : ModifyOp) (tree : Content) (before later : List PropSet) (set : PropSet) → op.sets ≡ before ++ set ∷ later
    → IfOk (post_outcome (Modify op) tree) (HasItsValueUnlessSetLater set later)

-- nothing is where something was taken away, unless a move, a copy or a value names that place, or one above or under it
abbrev pub IsGoneUnlessNamed : ModifyOp → Spot → PostEffect → Type 0
IsGoneUnlessNamed op spot done = IsNamedNoMore done.report.path (full_path done.report.path spot) op → HasNothingAt (full_path done.report.path spot) done.content

-- so it is with each removal of a change that isn't refused, in the content of a tree
abbrev pub RemovalsStayUnlessNamed : Type 0
RemovalsStayUnlessNamed = (op : ModifyOp) (tree : Content) (before later : List Spot) (spot : Spot) → IsGood tree → op.deletes ≡ before ++ spot ∷ later
    → IfOk (post_outcome (Modify op) tree) (IsGoneUnlessNamed op spot)
