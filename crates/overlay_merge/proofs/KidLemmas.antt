-- The kids of layers, and their order.
use Rattle.std.proofs.Common.{◌≡◌, ◌+◌, ◌<◌, ◌++◌, ◌&&◌, ◌||◌, ◌==◌, ℕ, Bool, true, false, not, cond, List, [], ◌∷◌, Option, Some, None, drop, length, get_or, refl, sym, ◌∙◌, ap, append_assoc}
use Rattle.std.specs.Prelude.{is_some, filter, fold, nat_eq, option_map}
use Rattle.std.specs.List.{list_any}
use Rattle.std.specs.Cmp.Lexicographic.{pointwise, same_text}
use Rattle.std.proofs.lemmas.Bool.{false≢true}
use Rattle.std.proofs.lemmas.List.{drop_more}
use Rattle.std.proofs.lemmas.List.Folds.{list_any-append}
use Rattle.std.proofs.lemmas.List.Sums.{fold-append}
use Rattle.overlay_merge.proofs.PropertyLemmas.{filter_same}
use Rattle.overlay_merge.proofs.WalkLemmas.{not_merged}
use Rattle.std.proofs.lemmas.Map.Views.{any-filter_same}
use Rattle.std.proofs.lemmas.List.Elements.{All-append, All-cons, All-get_or, All-nil, filter-append}
use Rattle.sp_base.specs.Paths.{is_path, path_or_none}
use Rattle.sp_base.proofs.BoolLemmas.{or_assoc}
use Rattle.resource_tree.specs.Content.{Content, IsTree, kid, node_at}
use Rattle.resource_tree.specs.Seen.{Resource, res_at, res_of}
use Rattle.resource_tree.specs.declared.nodes.Node.{Node}
use Rattle.overlay_merge.specs.declared.layers.Layer.{Layer}
use Rattle.overlay_merge.specs.Hiding.{layer_is_cut, resource_list, merged_from, shown_resource, shown_resources}
use Rattle.overlay_merge.specs.Kids.{all_kids, has_text, is_merged_there, with_kids_of}
use Rattle.overlay_merge.specs.Layers.{layers_of}
use Rattle.overlay_merge.specs.Walk.{AreNodesOf}

-- ---- kids by look-ups

pub node_of : (tree : Content) (path : List (List ℕ)) (res : Resource) (o : Option Node) → node_at tree path ≡ o → option_map (res_of path) o ≡ Some res
    → (node : Node) × ((node_at tree path ≡ Some node) × (res ≡ res_of path node))
node_of tree path res (Some node) is e = (node, (is, cc))
node_of tree path res None is e = absurd (cc)

-- a node's kids are the paths one segment longer
pub kid_is : (tree : Content) (res : Resource) (name : List ℕ) → IsTree (node_at tree) → res_at tree res.path ≡ Some res
    → has_text res.kids name ≡ is_some (node_at tree (kid res.path name))
kid_is tree res name good is =
    let at = node_of tree res.path res (node_at tree res.path) refl is in
    ap (λ (r : Resource). has_text r.kids name) at.1.1 ∙ (good.nodes res.path at.0 at.1.0).kids name

-- ---- the kids of layers together

or_both : (a b : Bool) → (a || (not a && b)) ≡ (a || b)
or_both true b = refl
or_both false b = refl

has-with : (names : List (List ℕ)) (layer : Resource) (name : List ℕ) → has_text (with_kids_of names layer) name ≡ (has_text names name || has_text layer.kids name)
unfolding with_kids_of
has-with names layer name =
    list_any-append (pointwise nat_eq name) names (filter (λ k. not (has_text names k)) layer.kids)
    ∙ ap (λ t. has_text names name || t)
    (any-filter_same (pointwise nat_eq name) (λ k. not (has_text names k)) (not (has_text names name)) (λ k e. ap (λ s. not (has_text names s)) (sym (same_text name k (sym e)))) layer.kids)
    ∙ or_both (has_text names name) (has_text layer.kids name)

has-fold : (names : List (List ℕ)) (layers : List Resource) (name : List ℕ)
    → has_text (fold with_kids_of names layers) name ≡ (has_text names name || list_any (λ (l : Resource). has_text l.kids name) layers)
has-fold names [] name = elim (has_text names name) as (λ t. t ≡ (t || false)) [ true ↦ refl | false ↦ refl ]
has-fold names (layer ∷ layers) name =
    has-fold (with_kids_of names layer) layers name
    ∙ ap (λ t. t || list_any (λ (l : Resource). has_text l.kids name) layers) (has-with names layer name)
    ∙ or_assoc (has_text names name) (has_text layer.kids name) (list_any (λ (l : Resource). has_text l.kids name) layers)

-- a name is one of these exactly where a layer has such a kid
pub has-all_kids : (layers : List Resource) (name : List ℕ) → has_text (all_kids layers) name ≡ list_any (λ (l : Resource). has_text l.kids name) layers
unfolding all_kids
has-all_kids layers name = has-fold [] layers name

-- ---- the layers are nodes

nodes_from : (tree : Content) (path : List (List ℕ)) (o : Option Node) → node_at tree path ≡ o → AreNodesOf tree (resource_list (option_map (res_of path) o))
nodes_from tree path (Some node) is =
    All-cons (λ (res : Resource). res_at tree res.path ≡ Some res) (res_of path node) [] (ap (option_map (res_of path)) is) (All-nil (λ (res : Resource). res_at tree res.path ≡ Some res))
nodes_from tree path None is = All-nil (λ (res : Resource). res_at tree res.path ≡ Some res)

nodes_shown : (tree : Content) (layer : Layer) (cut : Bool) → AreNodesOf tree (cond cut [] (resource_list (res_at tree layer.path)))
nodes_shown tree layer true = All-nil (λ (res : Resource). res_at tree res.path ≡ Some res)
nodes_shown tree layer false = nodes_from tree layer.path (node_at tree layer.path) refl

pub are_nodes : (tree : Content) (layers : List Layer) → AreNodesOf tree (shown_resources tree layers)
unfolding shown_resources
are_nodes tree [] = All-nil (λ (res : Resource). res_at tree res.path ≡ Some res)
are_nodes tree (layer ∷ above) =
    All-append (λ (res : Resource). res_at tree res.path ≡ Some res) (shown_resource tree layer above) (shown_resources tree above) (nodes_shown tree layer (layer_is_cut tree layer above)) (are_nodes tree above)

-- ---- steps of a list

pub any_step : {X : Type 0} (p : X → Bool) (xs : List X) (i : ℕ) (d : X) → i < length xs → list_any p (drop i xs) ≡ (p (get_or xs i d) || list_any p (drop (i + 1) xs))
any_step p xs i d within = ap (list_any p) (drop_more xs i d within)

-- whether the layer at a place has such a kid, and whether one after it has
pub any_kid : (tree : Content) (layers : List Resource) (name : List ℕ) (i : ℕ) (layer : Resource) (here : Bool) → IsTree (node_at tree) → AreNodesOf tree layers → i < length layers
    → layer ≡ get_or layers i layer → here ≡ is_some (node_at tree (kid layer.path name))
    → list_any (λ (l : Resource). has_text l.kids name) (drop i layers) ≡ (here || list_any (λ (l : Resource). has_text l.kids name) (drop (i + 1) layers))
any_kid tree layers name i layer here good nodes within is here_is =
    let node : res_at tree (get_or layers i layer).path ≡ Some (get_or layers i layer) = All-get_or (λ (res : Resource). res_at tree res.path ≡ Some res) layers i layer within nodes in
    let same : res_at tree layer.path ≡ Some layer = ap (λ (r : Resource). res_at tree r.path) is ∙ node ∙ ap (λ (r : Resource). Some r) (sym is) in
    any_step (λ (l : Resource). has_text l.kids name) layers i layer within
    ∙ ap (λ t. t || list_any (λ (l : Resource). has_text l.kids name) (drop (i + 1) layers))
    (ap (λ (r : Resource). has_text r.kids name) (sym is) ∙ kid_is tree layer name good same ∙ sym here_is)

-- one more name
pub filter_more : (p : List ℕ → Bool) (names more : List (List ℕ)) (name : List ℕ) → more ≡ names ++ name ∷ [] → filter p more ≡ filter p names ++ cond (p name) (name ∷ []) []
filter_more p names more name is = ap (filter p) is ∙ filter-append p names (name ∷ [])

pub unless_known : (known : Bool) (name : List ℕ) → cond known [] (name ∷ []) ≡ cond (not known) (name ∷ []) []
unless_known true name = refl
unless_known false name = refl

pub all_more : (layers more : List Resource) (layer : Resource) (names new : List (List ℕ)) → more ≡ layers ++ layer ∷ [] → names ≡ all_kids layers
    → new ≡ names ++ filter (λ n. not (list_any (λ (l : Resource). has_text l.kids n) layers)) layer.kids → new ≡ all_kids more
unfolding all_kids with_kids_of
all_more layers more layer names new more_is names_is is =
    is ∙ ap (λ l. l ++ filter (λ n. not (list_any (λ (l : Resource). has_text l.kids n) layers)) layer.kids) names_is
    ∙ ap (λ l. all_kids layers ++ l) (filter_same (λ n. not (list_any (λ (l : Resource). has_text l.kids n) layers)) (λ n. not (has_text (all_kids layers) n)) layer.kids (λ n. ap not (sym (has-all_kids layers n))))
    ∙ sym (fold-append with_kids_of [] layers (layer ∷ [])) ∙ sym (ap (fold with_kids_of []) more_is)

pub no_kids : [] ≡ all_kids []
unfolding all_kids
no_kids = refl

-- ---- what isn't there

not_path : (p : List (List ℕ)) → None ≡ path_or_none p → is_path p ≡ false
not_path p =
    elim (is_path p) as (λ t. None ≡ cond t (Some p) None → t ≡ false) [
      | true ↦ λ e. absurd (false≢true (ap is_some e))
      | false ↦ λ e. refl
    ]

pub not_there : (tree : Content) (path : List (List ℕ)) → None ≡ path_or_none path → false ≡ is_merged_there tree path
not_there tree path none = sym (ap (λ (l : List Resource). not (length l == 0)) (not_merged tree path (not_path path none)))

-- ---- loops over kids

pub add_more : (before kids more names new : List (List ℕ)) (name : List ℕ) (lower : List Resource) (known : Bool) → more ≡ kids ++ name ∷ []
    → names ≡ before ++ filter (λ n. not (list_any (λ (l : Resource). has_text l.kids n) lower)) kids → known ≡ list_any (λ (l : Resource). has_text l.kids name) lower
    → new ≡ names ++ cond known [] (name ∷ []) → new ≡ before ++ filter (λ n. not (list_any (λ (l : Resource). has_text l.kids n) lower)) more
add_more before kids more names new name lower known more_is names_is known_is is =
    let p = λ (n : List ℕ). not (list_any (λ (l : Resource). has_text l.kids n) lower) in
    is ∙ ap (λ l. l ++ cond known [] (name ∷ [])) names_is ∙ append_assoc before (filter p kids) (cond known [] (name ∷ []))
    ∙ ap (λ l. before ++ (filter p kids ++ l)) (unless_known known name ∙ ap (λ t. cond (not t) (name ∷ []) []) known_is)
    ∙ ap (λ l. before ++ l) (sym (filter_more p kids more name more_is))

nodes_if : (tree : Content) (valid : Bool) (layers : List Layer) → AreNodesOf tree (cond valid (shown_resources tree layers) [])
nodes_if tree true layers = are_nodes tree layers
nodes_if tree false layers = All-nil (λ (res : Resource). res_at tree res.path ≡ Some res)

pub are_nodes_merged : (tree : Content) (path : List (List ℕ)) → AreNodesOf tree (merged_from tree path)
unfolding merged_from
are_nodes_merged tree path = nodes_if tree (is_path path) (layers_of tree path)
