-- The property that a path names: its last segment, at the node above.
use Rattle.std.proofs.Common.{◌≡◌, ◌∙◌, ◌-◌, ap, sym, arith, ne_eqb, ℕ, List, [], Option, Some, length, false}
use Rattle.std.specs.Prelude.{◌==◌, slice_get, cond, unwrap_or, Err}
use Rattle.std.proofs.lemmas.Option.{slice_get_within, unwrap_or-slice_get}
use Rattle.sp_base.specs.declared.value.Value.{Value}
use Rattle.resource_tree.specs.declared.faults.TreeFault.TheVariants.{Taken}
use Rattle.resource_tree.specs.Content.{Content, name_of, parent_of}
use Rattle.resource_tree.specs.Changes.{set_fault, update}
use Rattle.post_apply.specs.declared.fault.ApplyFault.TheVariants.{Tree}
use Rattle.post_apply.specs.Steps.{ApplyOutcome, changed_unless_fault}
use Rattle.post_apply.specs.Values.{put_at}

name_is : (path : List (List ℕ)) (o : Option (List ℕ)) → o ≡ slice_get path (length path - 1) → unwrap_or o [] ≡ name_of path
name_is path o at = ap (λ p. unwrap_or p []) at ∙ unwrap_or-slice_get path (length path - 1) []

-- a property is set under the last segment of its path, at the node above
pub put_is : (tree : Content) (path parent : List (List ℕ)) (name : List ℕ) (value : Value) → Some name ≡ slice_get path (length path - 1) → parent ≡ parent_of path
    → put_at tree path value ≡ changed_unless_fault (set_fault tree parent name) (update tree parent name value)
put_is tree path parent name value at above =
    let within = slice_get_within path (length path - 1) name (sym at) in
    let some : (length path == 0) ≡ false = ne_eqb (length path) 0 (λ none. omega (arith, within, none)) in
    let named : name ≡ name_of path = name_is path (Some name) at in
    ap (λ b. cond b (let r : ApplyOutcome Content = Err (Tree (Taken path)) in r) (changed_unless_fault (set_fault tree (parent_of path) (name_of path)) (update tree (parent_of path) (name_of path) value))) some
    ∙ ap (λ p. changed_unless_fault (set_fault tree p (name_of path)) (update tree p (name_of path) value)) (sym above)
    ∙ ap (λ n. changed_unless_fault (set_fault tree parent n) (update tree parent n value)) (sym named)
