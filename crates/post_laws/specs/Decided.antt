-- What is at a place after a change of a node that names it (Apache Sling, "SlingPostServlet", "Setting Property Values" and `@Delete`).
use Rattle.std.specs.Prelude.{◌≡◌, ◌++◌, Bool, List, None, Some, Ok, false, map}
use Rattle.std.specs.List.{AllByRecursion, list_any}
use Rattle.sp_base.specs.Texts.{Segments}
use Rattle.sp_base.specs.Paths.{is_under}
use Rattle.sp_base.specs.declared.value.Value.{Value}
use Rattle.resource_tree.specs.Content.{Content, node_at, same_path}
use Rattle.post_plan.specs.declared.operation.ModifyOp.{ModifyOp}
use Rattle.post_plan.specs.declared.operation.PropSet.{PropSet}
use Rattle.post_apply.specs.Carries.{property_at}
use Rattle.post_apply.specs.Values.{hinted_value}
use Rattle.post_laws.specs.Places.{goal_path, set_path}

-- ---- a value that is set

-- whether one of these properties is set at a path, for a node
abbrev pub is_set_at : Segments → Segments → List PropSet → Bool
is_set_at node path sets = list_any (λ set. same_path (set_path node set) path) sets

-- the property at its place has the value that its words have by its hint
pub record HasItsValue (node : Segments) (set : PropSet) (after : Content) : Type 0 where
  pub value : Value
  pub of_words : hinted_value set.hint set.words ≡ Ok value
  pub there : property_at after (set_path node set) ≡ Some value

-- ---- a removal

-- neither a node nor a property is at a path
pub record HasNothingAt (path : Segments) (after : Content) : Type 0 where
  pub no_node : node_at after path ≡ None
  pub no_property : property_at after path ≡ None

-- neither of two paths is the other or under it
pub record IsBeside (path place : Segments) : Type 0 where
  pub not_under : is_under place path ≡ false
  pub not_above : is_under path place ≡ false

-- the places that parameters name after all removals: where moves, copies and values go
abbrev pub goals_of_change : Segments → ModifyOp → List Segments
goals_of_change node op = map (goal_path node) op.moves ++ (map (goal_path node) op.copies ++ map (set_path node) op.sets)

-- none of them names a path, or what is above or under it
abbrev pub IsNamedNoMore : Segments → Segments → ModifyOp → Type 0
IsNamedNoMore node path op = AllByRecursion (IsBeside path) (goals_of_change node op)
