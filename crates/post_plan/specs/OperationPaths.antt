-- What an operation names: paths, each of segments that a path may have and of at most 64.
use Rattle.std.specs.Prelude.{◌≡◌, ◌&&◌, Bool, IsTrue, Ok}
use Rattle.std.specs.List.{list_all}
use Rattle.sp_base.specs.Texts.{Segments, Pairs}
use Rattle.sp_base.specs.Paths.{is_path}
use Rattle.post_plan.specs.declared.spot.Spot.{Spot}
use Rattle.post_plan.specs.declared.spot.Carry.{Carry}
use Rattle.post_plan.specs.declared.operation.PropSet.{PropSet}
use Rattle.post_plan.specs.declared.operation.ModifyOp.{ModifyOp}
use Rattle.post_plan.specs.declared.operation.CarryOp.{CarryOp}
use Rattle.post_plan.specs.declared.operation.Op.{Op}
use Rattle.post_plan.specs.declared.operation.Op.TheVariants.{Nop, Delete, Copy, Move, Modify}
use Rattle.post_plan.specs.Plan.{plan_of}

-- what a spot names is a path
abbrev pub spot_has_path : Spot → Bool
spot_has_path spot = is_path spot.path

-- both ends of what a parameter copies or moves are paths
abbrev pub carry_has_paths : Carry → Bool
carry_has_paths carry = spot_has_path carry.from && spot_has_path carry.to

-- what is set is at a path
abbrev pub set_has_path : PropSet → Bool
set_has_path set = spot_has_path set.spot

-- all that a change of a node names are paths
abbrev pub modify_has_paths : ModifyOp → Bool
modify_has_paths op = is_path op.target && (list_all spot_has_path op.deletes && (list_all carry_has_paths op.moves && (list_all carry_has_paths op.copies && list_all set_has_path op.sets)))

-- the node that is copied or moved and its goal are paths
abbrev pub ends_are_paths : CarryOp → Bool
ends_are_paths op = is_path op.from && is_path op.to

-- all that an operation names are paths
abbrev pub names_paths : Op → Bool
names_paths (Nop path) = is_path path
names_paths (Delete path) = is_path path
names_paths (Copy op) = ends_are_paths op
names_paths (Move op) = ends_are_paths op
names_paths (Modify op) = modify_has_paths op

-- what a form asks for at a path names paths alone
abbrev pub AsksForPaths : Type 0
AsksForPaths = (target : Segments) (star : Bool) (pairs : Pairs) (op : Op) → IsTrue (is_path target) → plan_of target star pairs ≡ Ok op → IsTrue (names_paths op)
