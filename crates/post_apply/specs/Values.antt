-- Properties that a POST sets (Apache Sling, "SlingPostServlet", `@TypeHint`).
use Rattle.std.specs.Prelude.{◌==◌, ◌∷◌, [], ℕ, List, Option, Some, None, Result, Ok, Err, length, if◌then◌else◌}
use Rattle.sp_base.specs.Outcomes.{◌>>=◌}
use Rattle.sp_base.specs.Texts.{Segments}
use Rattle.sp_base.specs.Texts as texts
use Rattle.sp_base.specs.declared.hint.Hint.{Hint}
use Rattle.sp_base.specs.declared.hint.ValueFault.{ValueFault}
use Rattle.sp_base.specs.declared.value.Value.{Value}
use Rattle.sp_base.specs.declared.value.Value.TheVariants.{Text, Texts}
use Rattle.sp_base.specs.Typed.{typed_of}
use Rattle.resource_tree.specs.declared.faults.TreeFault.TheVariants.{Taken}
use Rattle.resource_tree.specs.Content.{Content, name_of, parent_of}
use Rattle.resource_tree.specs.Changes.{set_fault, update}
use Rattle.post_plan.specs.declared.operation.PropSet.{PropSet}
use Rattle.post_apply.specs.declared.fault.ApplyFault.TheVariants.{Tree, Value as ValueOf}
use Rattle.post_apply.specs.Steps.{ApplyOutcome, path_of_spot, changed_unless_fault, with_way}

-- without a hint one word is a text, and more are a list of texts
abbrev pub untyped_value : List texts.Text → Value
untyped_value [] = Texts []
untyped_value (word ∷ []) = Text word
untyped_value (word ∷ next ∷ more) = Texts (word ∷ next ∷ more)

-- the value that words have with a hint or without one
abbrev pub hinted_value : Option Hint → List texts.Text → Result Value ValueFault
hinted_value None words = Ok (untyped_value words)
hinted_value (Some hint) words = typed_of hint words

-- a fault is told with the property's name
abbrev pub named_outcome : List ℕ → Result Value ValueFault → ApplyOutcome Value
named_outcome name (Ok value) = Ok value
named_outcome name (Err fault) = Err (ValueOf name fault)

-- a property of the node at a path, which is to be there
abbrev pub set_outcome : Segments → List ℕ → Value → Content → ApplyOutcome Content
set_outcome path name value tree = changed_unless_fault (set_fault tree path name) (update tree path name value)

-- a property of a node that is there; the root's path is no property's
abbrev pub put_at : Content → Segments → Value → ApplyOutcome Content
put_at tree path value = if length path == 0 then Err (Tree (Taken path))
    else set_outcome (parent_of path) (name_of path) value tree

-- the same, with its node and all above it made where they aren't there
abbrev pub put_on_way : Content → Segments → Value → ApplyOutcome Content
put_on_way tree path value = with_way (parent_of path) tree >>= λ t. put_at t path value

-- the words of a property, set at its spot
abbrev pub set_at : Segments → Content → PropSet → ApplyOutcome Content
set_at node tree set = do
  value ← named_outcome (name_of set.spot.path) (hinted_value set.hint set.words)
  path ← path_of_spot node set.spot
  put_on_way tree path value
