-- A tree that was written is read as the same tree.
use Rattle.std.proofs.Common.{◌≡◌, ℕ, zero, suc, ◌+◌, ◌≤◌, Bool, true, false, ◌&&◌, ◌||◌, List, [], ◌∷◌, length, Option, Some, None, Ok, Err, option_map, is_some, if◌then◌else◌, unwrap_or, IsUtf8, refl, sym, ap, ◌∙◌, subst, arith, append-nil, length-append}
use Rattle.std.specs.Prelude.{option_and_then}
use Rattle.std.specs.List.{list_any, list_all}
use Rattle.std.specs.Map.{keys_of}
use Rattle.std.specs.Option.{option_map_or}
use Rattle.std.specs.Str.{bytes_eq}
use Rattle.std.proofs.lemmas.Bool.{le-ltb, false≢true, and_from, and_parts}
use Rattle.std.proofs.lemmas.Cmp.{eq_by_cmp_equiv}
use Rattle.std.proofs.lemmas.Map.Made.{is_some-lookup, length-le_from_is_member}
use Rattle.std.proofs.lemmas.Str.{is_utf8-from_IsUtf8}
use Rattle.json.specs.Json as json
use Rattle.json.specs.Token.{Token}
use Rattle.json.specs.Lex.{tokens}
use Rattle.json.specs.Tree.{json_tokens, depth, members_depth}
use Rattle.json.proofs.Printed.Trees.{value-json_tokens}
use Rattle.serde_json.specs.Data.{Data, null, object}
use Rattle.serde_json.specs.Read.{of_json, read, max_depth}
use Rattle.sp_base.specs.Paths.{seg_ok}
use Rattle.sp_base.specs.declared.value.Value.{Value}
use Rattle.sp_base.proofs.OptionLemmas.{value_there}
use Rattle.sp_base.proofs.OrderingLemmas.{by_path_total}
use Rattle.resource_tree.specs.declared.nodes.Node.{Node}
use Rattle.resource_tree.specs.Content.{Content, IsGood, node_at, same_path, kid, empty_node}
use Rattle.resource_tree.specs.Changes.{kids_at}
use Rattle.resource_tree.proofs.Relocated.{length-keys}
use Rattle.property_json.specs.PropertyJson.{members_before}
use Rattle.property_json.proofs.DepthLemmas.{items_flat, value_depth}
use Rattle.content_json.specs.declared.fault.ContentFault.TheVariants.{TooBig}
use Rattle.content_json.specs.Nodes.{nodes_in, count_below, is_deeper_below}
use Rattle.content_json.specs.ContentOf.{json_of, map_of, unless_found, content_in, content}
use Rattle.content_json.specs.Written.{order_before, kids_json, node_before, node_json, has_no_colon, keeps_kind, is_plain_node, is_plain_tree}
use Rattle.content_json.specs.Steps.{AreBelow}
use Rattle.content_json.proofs.KidLemmas.{all_at}
use Rattle.content_json.proofs.MapLemmas.{is_map_of}
use Rattle.content_json.proofs.SizeLemmas.{length-nodes_in}
use Rattle.content_json.proofs.WrittenLemmas.{kid_named, kid_there, no_kids}
use Rattle.content_json.proofs.ReturnMembers.{members_of, members_are, members_read}
use Rattle.content_json.proofs.ReturnFaults.{Returns, Node-is}
use Rattle.content_json.proofs.ReturnPaths.{returns_node}

abbrev node_or : Content → List (List ℕ) → Node
node_or tree path = unwrap_or (node_at tree path) empty_node

-- what is read for a node, and for n levels below it
abbrev data_at : Content → ℕ → List (List ℕ) → Data
data_at tree zero path = object (members_of (λ k. null) (node_or tree path))
data_at tree (suc levels) path = object (members_of (λ k. data_at tree levels (kid path k)) (node_or tree path))

-- ---- each node has what it takes

holds_at : (P : Node → Bool) (tree : Content) (q : List (List ℕ)) (node : Node) → list_all (λ e. P e.1) tree ≡ true → node_at tree q ≡ Some node → P node ≡ true
holds_at P [] q node h at = absurd (cc)
holds_at P (e ∷ tree) q node h at =
    let parts = and_parts (P e.1) (list_all (λ e. P e.1) tree) h in
    elim (same_path q e.0) as (λ t. (if t then Some e.1 else node_at tree q) ≡ Some node → P node ≡ true) [
      | true ↦ λ is. let same : e.1 ≡ node = cc in ap P (sym same) ∙ parts.0
      | false ↦ λ is. holds_at P tree q node parts.1 is
    ] at

none_among : (kids : List (List ℕ)) (k : List ℕ) → kids ≡ [] → list_any (bytes_eq k) kids ≡ true → ⊥
none_among kids k e h = false≢true (sym (ap (list_any (bytes_eq k)) e) ∙ h)

module _ (tree : Content) (good : IsGood tree) (props : AreBelow tree []) (can : is_plain_tree tree ≡ true) where
  node_is : (levels : ℕ) (path : List (List ℕ)) (f : List ℕ → Data) (node : Node) → node_at tree path ≡ Some node
      → ((k : List ℕ) → list_any (bytes_eq k) node.kids ≡ true → Returns tree levels (kid path k) (f k)) → Node-is tree levels path f node
  node_is levels path f node there kids =
      let is = good.shape.nodes path node there in
      let here = props path node refl there in
      let returns = and_parts (list_all has_no_colon node.kids) (list_all (λ p. has_no_colon p.0 && keeps_kind p.1) node.props) (holds_at is_plain_node tree path node can there) in
      record {
        sorted = here.sorted;
        longs = here.longs;
        plain_props = returns.1;
        plain_kids = λ k h. and_from (seg_ok k) (has_no_colon k)
            (kid_named tree path node k good there h)
            (all_at has_no_colon k node.kids returns.0 h);
        distinct = is.distinct;
        apart = is.apart;
        members = members_are f node is.names here.longs returns.1;
        kids = kids;
      }

  -- ---- each node is read as itself

  returns_at : (levels : ℕ) (path : List (List ℕ)) (node : Node) → levels + length path ≡ 64 → node_at tree path ≡ Some node → Returns tree (suc levels) path (data_at tree levels path)
  returns_at zero path node e there =
      let bare = no_kids tree path node good there (omega (arith, e)) in
      subst (λ o. Returns tree (suc zero) path (object (members_of (λ k. null) (unwrap_or o empty_node)))) (sym there)
      (returns_node (node_is zero path (λ k. null) node there (λ k h. absurd (none_among node.kids k bare h))) good there)
  returns_at (suc levels) path node e there =
      let f = λ (k : List ℕ). data_at tree levels (kid path k) in
      let below = λ (k : List ℕ) (h : list_any (bytes_eq k) node.kids ≡ true).
      let at = value_there (node_at tree (kid path k)) (kid_there tree path node k good there h) in
      returns_at levels (kid path k) at.0 (omega (arith, e, length-append path (k ∷ []))) at.1 in
      subst (λ o. Returns tree (suc (suc levels)) path (object (members_of f (unwrap_or o empty_node)))) (sym there)
      (returns_node (node_is (suc levels) path f node there below) good there)

  node_read : (path : List (List ℕ)) (js : List ℕ → json.Json) (f : List ℕ → Data) (node : Node) → node_at tree path ≡ Some node
      → ((k : List ℕ) → list_any (bytes_eq k) node.kids ≡ true → of_json (js k) ≡ Some (f k))
      → of_json (node_before tree path (kids_json js (kids_at tree path))) ≡ Some (object (members_of f (node_or tree path)))
  node_read path js f node there each = rw there (ap (option_map object) (members_read js f node (props path node refl there).longs each))

  read_at : (levels : ℕ) (path : List (List ℕ)) (node : Node) → levels + length path ≡ 64 → node_at tree path ≡ Some node → of_json (node_json tree levels path) ≡ Some (data_at tree levels path)
  unfolding node_json
  read_at zero path node e there =
      let bare = no_kids tree path node good there (omega (arith, e)) in
      let none : kids_at tree path ≡ [] = ap (λ o. option_map_or (λ (m : Node). m.kids) o []) there ∙ bare in
      ap (λ names. of_json (node_before tree path (kids_json (λ k. json.null) names))) (sym none)
      ∙ node_read path (λ k. json.null) (λ k. null) node there (λ k h. absurd (none_among node.kids k bare h))
  read_at (suc levels) path node e there =
      node_read path (λ k. node_json tree levels (kid path k)) (λ k. data_at tree levels (kid path k)) node there
      (λ k h. let at = value_there (node_at tree (kid path k)) (kid_there tree path node k good there h) in
      read_at levels (kid path k) at.0 (omega (arith, e, length-append path (k ∷ []))) at.1)

-- ---- the text isn't too deep to be read

props_depth : (ps : List (List ℕ × Value)) (ms : json.Members) (n : ℕ) → 1 ≤ n → members_depth ms ≤ n → members_depth (members_before ps ms) ≤ n
props_depth [] ms n some h = h
props_depth ((name, value) ∷ ps) ms n some h = omega (arith, some, value_depth value, props_depth ps ms n some h)

order_depth : (ks : List (List ℕ)) (ms : json.Members) (n : ℕ) → 1 ≤ n → members_depth ms ≤ n → members_depth (order_before ks ms) ≤ n
order_depth [] ms n some h = h
order_depth (k ∷ ks) ms n some h = omega (arith, some, h, items_flat json.string (λ x. refl) ks)

kids_depth : (js : List ℕ → json.Json) (ks : List (List ℕ)) (n : ℕ) → ((k : List ℕ) → depth (js k) ≤ n) → members_depth (kids_json js ks) ≤ n
kids_depth js [] n h = omega arith
kids_depth js (k ∷ ks) n h = omega (arith, h k, kids_depth js ks n h)

depth_at : (tree : Content) (levels : ℕ) (path : List (List ℕ)) → depth (node_json tree levels path) ≤ levels + 2
unfolding node_json
depth_at tree zero path =
    let node = node_or tree path in
    let within = props_depth (option_map_or (λ (m : Node). m.props) (node_at tree path) []) (order_before (kids_at tree path) json.no_members) 1 (omega arith) (order_depth (kids_at tree path) json.no_members 1 (omega arith) (omega arith)) in
    omega (arith, within)
depth_at tree (suc levels) path =
    let js = λ (k : List ℕ). node_json tree levels (kid path k) in
    let kids = kids_depth js (kids_at tree path) (levels + 2) (λ k. depth_at tree levels (kid path k)) in
    let within = props_depth (option_map_or (λ (m : Node). m.props) (node_at tree path) []) (order_before (kids_at tree path) (kids_json js (kids_at tree path))) (levels + 2) (omega arith)
    (order_depth (kids_at tree path) (kids_json js (kids_at tree path)) (levels + 2) (omega arith) kids) in
    omega (arith, within)

-- ---- the whole

abbrev whole : Option (json.Json × List Token) → Option Data
whole o = option_and_then of_json (option_and_then (λ p. json.if_last p.0 p.1) o)

pub returns_tree : (tree : Content) (bytes : List ℕ) → IsGood tree → AreBelow tree [] → is_plain_tree tree ≡ true → tokens bytes ≡ json_tokens (node_json tree 64 []) → IsUtf8 bytes
    → content bytes ≡ Ok tree
returns_tree tree bytes good props can written utf8 =
    let top = value_there (node_at tree []) good.shape.root in
    let ms = members_of (λ k. data_at tree 63 (kid [] k)) (node_or tree []) in
    let nodes = nodes_in [] (object ms) in
    let back : Returns tree 65 [] (object ms) = returns_at tree good props can 64 [] top.0 refl top.1 in
    let j = node_json tree 64 [] in
    let parsed : read bytes ≡ Some (object ms) =
    ap whole (ap (json.value max_depth) (written ∙ sym (append-nil (json_tokens j))) ∙ value-json_tokens j max_depth [] (omega (arith, depth_at tree 64 [])))
    ∙ read_at tree good props can 64 [] top.0 refl top.1 in
    let is_json : json_of bytes ≡ Some (object ms) = ap (λ t. if t then read bytes else None) (is_utf8-from_IsUtf8 bytes utf8) ∙ parsed in
    let within = λ (q : List (List ℕ)) (h : list_any (same_path q) (keys_of nodes) ≡ true).
    sym (is_some-lookup (same_path q) tree) ∙ ap is_some (sym (back.nodes q)) ∙ is_some-lookup (same_path q) nodes ∙ h in
    let few : length (keys_of nodes) ≤ length (keys_of tree) = length-le_from_is_member (eq_by_cmp_equiv by_path_total) (keys_of nodes) (keys_of tree) back.distinct within in
    let size : length tree ≤ 200000 = good.size in
    let most : suc (count_below ms) ≤ 200000 = omega (arith, few, size, length-keys nodes, length-keys tree, length-nodes_in [] (object ms)) in
    ap content_in is_json
    ∙ ap (λ o. unless_found o ms) back.faultless
    ∙ ap (λ t. if t || is_deeper_below 64 ms then Err TooBig else Ok (map_of nodes)) (le-ltb 200000 (suc (count_below ms)) most)
    ∙ ap (λ t. if t then Err TooBig else Ok (map_of nodes)) back.shallow
    ∙ ap (λ m. Ok m) (sym (is_map_of tree nodes good.ordered (λ q. sym (back.nodes q))))
