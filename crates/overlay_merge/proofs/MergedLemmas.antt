-- Whether something is seen at a path.
use Rattle.std.proofs.Common.{◌≡◌, ◌==◌, ℕ, arith, Bool, true, false, not, cond, List, [], ◌∷◌, Option, Some, None, length, refl, sym, ◌∙◌, ap}
use Rattle.std.specs.Prelude.{is_some, option_map}
use Rattle.sp_base.proofs.NatLemmas.{not_zero}
use Rattle.resource_tree.specs.Content.{Content, node_at}
use Rattle.resource_tree.specs.Seen.{Resource, res_of}
use Rattle.resource_tree.specs.declared.nodes.Node.{Node}
use Rattle.overlay_merge.specs.Roots.{is_merged_path, is_parent_of_roots}
use Rattle.overlay_merge.specs.Hiding.{merged_from}
use Rattle.overlay_merge.specs.Merged.{has_resource, merge, merged_resource, unmerged_resource, without_roots}

some_merge : (tree : Content) (path : List (List ℕ)) (layers : List Resource) → is_some (merge tree path layers) ≡ not (length layers == 0)
some_merge tree path [] = refl
some_merge tree path (lowest ∷ more) = ap not (sym (not_zero (length (lowest ∷ more)) (omega arith)))

some_unmerged : (parent : Bool) (path : List (List ℕ)) (o : Option Node) → is_some (cond parent (option_map without_roots (option_map (res_of path) o)) (option_map (res_of path) o)) ≡ is_some o
some_unmerged true path (Some node) = refl
some_unmerged true path None = refl
some_unmerged false path (Some node) = refl
some_unmerged false path None = refl

pub has_merged : (tree : Content) (path : List (List ℕ)) → is_merged_path path ≡ true → has_resource tree path ≡ not (length (merged_from tree path) == 0)
unfolding has_resource merged_resource
has_merged tree path is = ap (λ t. is_some (cond t (merge tree path (merged_from tree path)) (unmerged_resource tree path))) is ∙ some_merge tree path (merged_from tree path)

pub has_unmerged : (tree : Content) (path : List (List ℕ)) → is_merged_path path ≡ false → has_resource tree path ≡ is_some (node_at tree path)
unfolding has_resource merged_resource
has_unmerged tree path is =
    ap (λ t. is_some (cond t (merge tree path (merged_from tree path)) (unmerged_resource tree path))) is ∙ some_unmerged (is_parent_of_roots path) path (node_at tree path)
