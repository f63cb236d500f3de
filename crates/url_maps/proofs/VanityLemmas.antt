-- From the claimants of a text to the node that it names by a vanity path, and back.
use Rattle.std.proofs.Common.{◌≡◌, ℕ, Bool, true, false, List, [], Option, Some, None, Result, Ok, Err, length, refl, sym, ◌∙◌, ap, subst, ◌⊎◌, inl, inr}
use Rattle.std.specs.Prelude.{◌&&◌, is_none, nat_eq, codes, is_some}
use Rattle.std.specs.Cmp.{IsTotalOrder}
use Rattle.std.specs.Cmp.Lexicographic.{pointwise, nat_list_cmp_total}
use Rattle.std.specs.List.{list_any}
use Rattle.std.specs.Option.{option_map_or}
use Rattle.std.specs.Ordering.{int_cmp, is_lt, ordering_then, ordering_reverse}
use Rattle.std.specs.declared.cmp.Ordering.{Ordering}
use Rattle.std.specs.declared.cmp.Ordering.TheVariants.{Less, Equal, Greater}
use Rattle.std.proofs.lemmas.Bool.{true≢false, false≢true}
use Rattle.std.proofs.lemmas.Cmp.{back_total, int_cmp_total, on_total, then_total}
use Rattle.std.proofs.lemmas.List.{nil_from_length}
use Rattle.std.proofs.lemmas.Map.Lookups.{exact_bytes}
use Rattle.sp_base.specs.Names.{by_name}
use Rattle.std.specs.Result.{result_ok}
use Rattle.sp_base.specs.Paths.{is_path, path_in, path_of, text_of}
use Rattle.sp_base.specs.declared.path.PathFault.{PathFault}
use Rattle.resource_tree.specs.declared.nodes.Node.{Node}
use Rattle.resource_tree.specs.Content.{Content, IsTree, node_at, prop_at, same_path}
use Rattle.sp_base.specs.Properties.{value_texts}
use Rattle.url_maps.specs.Claims.{AreClaims, ClaimRows, claimants, claims_vanity_path, node_claims_vanity_path, spells_vanity_path}
use Rattle.url_maps.specs.Search.{IsFirstPath, is_free, is_free_at}
use Rattle.url_maps.specs.VanityPaths.{IsVanityPath, has_vanity_path, vanity_page, vanity_cmp, vanity_order, with_slash}
use Rattle.url_maps.specs.declared.pairs.Pair.{Pair}
use Rattle.url_maps.specs.declared.pairs.PairKind.TheVariants.{VanityPath}
use Rattle.url_maps.specs.Pairs.{HasVanityPath, IsPair, IsPairOf}
use Rattle.url_maps.proofs.AliasLemmas.{any_alike}
use Rattle.url_maps.proofs.PathLemmas.{IsReadBack, path_from_text}

-- ---- the order of nodes with one vanity path

pub vanity_total : (tree : Content) → IsTotalOrder (vanity_cmp tree)
vanity_total tree = then_total (back_total (on_total (vanity_order tree) int_cmp_total)) (on_total text_of nat_list_cmp_total)

then_equal : (a b : Ordering) → ordering_then a b ≡ Equal → b ≡ Equal
then_equal Less b e = absurd (true≢false (ap is_lt e))
then_equal Equal b e = e
then_equal Greater b e = cc

pub after_first : IsReadBack → (tree : Content) (first path : List (List ℕ)) → is_path first ≡ true → is_path path ≡ true → is_lt (vanity_cmp tree path first) ≡ false → (path ≡ first) ⊎ (vanity_cmp tree first path ≡ Less)
after_first read tree first path valid also not_before =
    elim (vanity_cmp tree path first) as (λ o. vanity_cmp tree path first ≡ o → is_lt o ≡ false → (path ≡ first) ⊎ (vanity_cmp tree first path ≡ Less)) [
      | Less ↦ λ is fails. absurd (true≢false fails)
      | Equal ↦ λ is fails. inl (path_from_text read path first also valid (exact_bytes (text_of path) (text_of first) (then_equal (int_cmp (vanity_order tree first) (vanity_order tree path)) (by_name (text_of path) (text_of first)) is)))
      | Greater ↦ λ is fails. inr ((vanity_total tree).antisymm first path ∙ ap ordering_reverse is)
    ] refl not_before

-- ---- claims and vanity paths

-- a node's claims on a text that spells a path are its vanity paths
pub vanity_claims_is : (tree : Content) (q : List (List ℕ)) (text : List ℕ) → is_some (path_in text) ≡ true → claims_vanity_path tree q text ≡ has_vanity_path tree q text
unfolding claims_vanity_path node_claims_vanity_path has_vanity_path
vanity_claims_is tree q text ok =
    ap (λ (test : Node → Bool). option_map_or test (node_at tree q) false)
    (λ i node. any_alike (spells_vanity_path text) (λ word. pointwise nat_eq text (with_slash word)) (λ word. ap (λ b. b && pointwise nat_eq text (with_slash word)) ok) (value_texts (prop_at node (codes "sling:vanityPath"))) i)

ok_from_free : (tree : Content) (r : Result (List (List ℕ)) PathFault) → is_free_at tree (result_ok r) ≡ true → is_some (result_ok r) ≡ true
ok_from_free tree (Ok path) free = refl
ok_from_free tree (Err e) free = absurd (false≢true free)

none_at : (o : Option Node) → is_none o ≡ true → o ≡ None
none_at None is = refl
none_at (Some node) is = absurd (false≢true is)

-- the free text that is claimed is the vanity path of the first node that claims it
pub vanity_from : (tree : Content) (rows : ClaimRows) (text : List ℕ) (path : List (List ℕ)) → AreClaims (claims_vanity_path tree) rows → is_free tree text ≡ true → IsFirstPath tree (claimants rows text) path → IsVanityPath tree text path
vanity_from tree rows text path claims free first =
    let ok = ok_from_free tree (path_of text) free in
    let is = λ (q : List (List ℕ)). claims text q ∙ vanity_claims_is tree q text ok in
    elim (path_of text) as (λ r. path_of text ≡ r → is_free_at tree (result_ok r) ≡ true → IsVanityPath tree text path) [
      | Ok at ↦ λ reads free_at. record {
        at = at;
        reads = reads;
        free = none_at (node_at tree at) free_at;
        has = sym (is path) ∙ first.among;
        first = λ other has. first.first other (is other ∙ has);
      }
      | Err e ↦ λ reads free_at. absurd (false≢true free_at)
    ] refl free

pub vanity_claims : (tree : Content) (text : List ℕ) (path : List (List ℕ)) → IsVanityPath tree text path → claims_vanity_path tree path text ≡ true
vanity_claims tree text path v = vanity_claims_is tree path text (ap (λ r. is_some (result_ok r)) v.reads) ∙ v.has

pub no_vanity_claimed : (tree : Content) (rows : ClaimRows) (text : List ℕ) (path : List (List ℕ)) → AreClaims (claims_vanity_path tree) rows → claimants rows text ≡ [] → IsVanityPath tree text path → ⊥
no_vanity_claimed tree rows text path claims none v = false≢true (sym (ap (list_any (same_path path)) none) ∙ claims text path ∙ vanity_claims tree text path v)

-- ---- from the list of claimants

pub is_vanity_pair : (tree : Content) (rows : ClaimRows) (text : List ℕ) (pair : Pair) (path : List (List ℕ)) → AreClaims (claims_vanity_path tree) rows → is_free tree text ≡ true → IsFirstPath tree (claimants rows text) path
    → pair.target ≡ text_of (vanity_page path) → pair.away ≡ None → HasVanityPath tree text pair
is_vanity_pair tree rows text pair path claims free first target inside = record {
  path = path;
  vanity_path = vanity_from tree rows text path claims free first;
  target = target;
  inside = inside;
}

-- no pair of a vanity path, unless some node claims the text ..
pub no_vanity_pair : (tree : Content) (rows : ClaimRows) (text : List ℕ) → AreClaims (claims_vanity_path tree) rows → length (claimants rows text) ≡ 0 → (pair : Pair) → pair.kind ≡ VanityPath → IsPair tree None text pair → ⊥
no_vanity_pair tree rows text claims none pair is has =
    let v = subst (λ kind. IsPairOf kind tree None text pair) is has in no_vanity_claimed tree rows text v.path claims (nil_from_length (claimants rows text) none) v.vanity_path

-- the claimants of a text are paths
pub vanity_valid : (tree : Content) → IsTree (node_at tree) → (rows : ClaimRows) (text : List ℕ) → AreClaims (claims_vanity_path tree) rows → (q : List (List ℕ)) → list_any (same_path q) (claimants rows text) ≡ true → is_path q ≡ true
unfolding claims_vanity_path
vanity_valid tree good rows text claims q among =
    elim (node_at tree q) as (λ o. node_at tree q ≡ o → option_map_or (λ (node : Node). node_claims_vanity_path node text) o false ≡ true → is_path q ≡ true) [
      | None ↦ λ is fails. absurd (false≢true fails)
      | Some node ↦ λ is passes_it. (good.nodes q node is).is_a_path
    ] refl (sym (claims text q) ∙ among)
