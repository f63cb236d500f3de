-- Where the nodes of an object stand.
use Rattle.std.proofs.Common.{◌≡◌, ℕ, Bool, true, false, cond, ⊎_elim, List, [], ◌∷◌, ◌++◌, Some, None, if◌then◌else◌, refl, sym, ap, ◌∙◌}
use Rattle.std.specs.Option.{option_or}
use Rattle.std.proofs.lemmas.Bool.{cases_Bool, true≢false}
use Rattle.serde_json.specs.Data.{Data, null, boolean, number, string, array, object, Members, no_members, member}
use Rattle.resource_tree.specs.Content.{Content, node_at, same_path, kid}
use Rattle.resource_tree.proofs.PathLemmas.{path_from_same}
use Rattle.content_json.specs.Names.{is_order}
use Rattle.content_json.specs.Nodes.{nodes_in, nodes_below}
use Rattle.content_json.specs.Steps.{is_at_or_below}
use Rattle.content_json.proofs.Under.{is_at_or_below_itself, is_at_or_below-parent, is_at_or_below-not_parent}

pub node_at-append : (a b : Content) (q : List (List ℕ)) → node_at (a ++ b) q ≡ option_or (node_at a q) (node_at b q)
node_at-append [] b q = refl
node_at-append (e ∷ a) b q = elim (same_path q e.0) as (λ t. cond t (Some e.1) (node_at (a ++ b) q) ≡ option_or (cond t (Some e.1) (node_at a q)) (node_at b q)) [ true ↦ refl | false ↦ node_at-append a b q ]

not_below_kid : (path q : List (List ℕ)) (k : List ℕ) → is_at_or_below path q ≡ false → is_at_or_below (kid path k) q ≡ false
not_below_kid path q k h = ⊎_elim (λ e. absurd (true≢false (sym (is_at_or_below-parent path q k e) ∙ h))) (λ e. e) (cases_Bool (is_at_or_below (kid path k) q))

pub not_same : (path q : List (List ℕ)) → is_at_or_below path q ≡ false → same_path q path ≡ false
not_same path q h = ⊎_elim (λ e. absurd (true≢false (sym (is_at_or_below_itself path) ∙ ap (is_at_or_below path) (sym (path_from_same q path e)) ∙ h))) (λ e. e) (cases_Bool (same_path q path))

pub none_unless : (b : Bool) (nodes : Content) (q : List (List ℕ)) → node_at nodes q ≡ None → node_at (if b then [] else nodes) q ≡ None
none_unless true nodes q h = refl
none_unless false nodes q h = h

-- no node stands elsewhere
mutual
  pub none_in : (path q : List (List ℕ)) (d : Data) → is_at_or_below path q ≡ false → node_at (nodes_in path d) q ≡ None
  none_in path q null h = refl
  none_in path q (boolean b) h = refl
  none_in path q (number n) h = refl
  none_in path q (string s) h = refl
  none_in path q (array ds) h = refl
  none_in path q (object ms) h = rw (not_same path q h) (none_below path q ms h)

  pub none_below : (path q : List (List ℕ)) (ms : Members) → is_at_or_below path q ≡ false → node_at (nodes_below path ms) q ≡ None
  none_below path q no_members h = refl
  none_below path q (member name d ms) h =
      node_at-append (if is_order name then [] else nodes_in (kid path name) d) (nodes_below path ms) q
      ∙ rw (none_unless (is_order name) (nodes_in (kid path name) d) q (none_in (kid path name) q d (not_below_kid path q name h))) (none_below path q ms h)

-- nor at the path of the object itself
pub none_at_parent : (path : List (List ℕ)) (ms : Members) → node_at (nodes_below path ms) path ≡ None
none_at_parent path no_members = refl
none_at_parent path (member name d ms) =
    node_at-append (if is_order name then [] else nodes_in (kid path name) d) (nodes_below path ms) path
    ∙ rw (none_unless (is_order name) (nodes_in (kid path name) d) path (none_in (kid path name) path d (is_at_or_below-not_parent path name))) (none_at_parent path ms)
