-- The rows of an index with the nodes that have a pattern.
use Rattle.std.proofs.Common.{◌≡◌, ◌↔◌, ◌⊎◌, inl, inr, ◌≤◌, ◌<◌, ◌+◌, ℕ, Bool, true, false, List, [], ◌∷◌, ◌++◌, Option, Some, None, Result, Ok, Err, take, length, get_or, refl, sym, ◌∙◌, ap, subst, arith, ⊎_elim, length-append}
use Rattle.std.specs.Prelude.{IfOk, ◌≢◌, ◌||◌, is_some, nat_eq, slice_get, unwrap_or, if◌then◌else◌}
use Rattle.std.specs.Cmp.Lexicographic.{pointwise}
use Rattle.std.specs.Option.{option_map_or}
use Rattle.std.proofs.lemmas.Bool.{cases_Bool, true≢false, false≢true, cases_lt}
use Rattle.std.proofs.lemmas.List.{get_or_append_left, get_or_default}
use Rattle.std.proofs.Math.Seq.{get_or-append_seam}
use Rattle.std.proofs.lemmas.List.Folds.{list_any_at, list_any_more}
use Rattle.std.proofs.lemmas.Option.{get_or_from_slice_get, same_Some, slice_get_within}
use Rattle.std.specs.Str.{chars}
use Rattle.sp_base.specs.Paths.{is_path, path_or_none}
use Rattle.sp_base.proofs.TextLemmas.{text_is}
use Rattle.regex_rules.specs.Trees.{PatternTree, tree_of}
use Rattle.regex_rules.specs.Spelling.{IsPattern}
use Rattle.regex_rules.specs.declared.fault.PatternFault.{PatternFault}
use Rattle.regex_rules.specs.declared.fault.PatternFault.TheVariants.{NoMemory as memory}
use Rattle.resource_tree.specs.declared.nodes.Node.{Node}
use Rattle.resource_tree.specs.declared.patch.PatchNode.{PatchNode}
use Rattle.resource_tree.specs.Content.{Content, kid, node_at, same_path}
use Rattle.resource_tree.specs.Patches.{PatchEntries, entry_at, left_by, patching_at}
use Rattle.resource_tree.proofs.PathLemmas.{path_from_same}
use Rattle.url_maps.specs.declared.patterns.PatternNode.{PatternNode}
use Rattle.url_maps.specs.Mappings.{mapping_of}
use Rattle.url_maps.specs.Patterns.{mappings_path, match_text}
use Rattle.url_maps.specs.PatternRows.{AddsPattern, ArePatterns, ArePatternsAfter, AreRowsOfNames, IsListed, IsRowAt, IsRowOf, IsRowOrNone, LeadsBy, is_of_family, touches}
use Rattle.url_maps.proofs.NameLemmas.{is_named}

abbrev Lookup : Type 0
Lookup = List (List ℕ) → Option Node

-- a look-up that answers the same has the same rows
pub patterns_by : (at later : Lookup) (rows : List PatternNode) → ((q : List (List ℕ)) → at q ≡ later q) → ArePatterns at rows → ArePatterns later rows
patterns_by at later rows same are = record {
  rows_are = λ k row there. let r = are.rows_are k row there in record { node = r.node; there = sym (same (kid mappings_path row.name)) ∙ r.there; leads = r.leads };
  all = λ name named node pattern valid there leads.
      are.all name (ap (λ o. is_named name (option_map_or (λ n. n.kids) o [])) (same mappings_path) ∙ named) node pattern valid (same (kid mappings_path name) ∙ there) leads;
}

-- ---- the row of a node

pub no_text : (name : List ℕ) (node : Node) → match_text node ≡ None → IsRowOrNone name node None
no_text name node none = λ pattern leads. let both : None ≡ Some leads.has.text = sym none ∙ leads.has.is in cc

pub leads_nowhere : (name : List ℕ) (node : Node) → is_some (mapping_of node) ≡ false → IsRowOrNone name node None
leads_nowhere name node none = λ pattern leads. absurd (true≢false (sym leads.leads ∙ none))

pub no_pattern : (name : List ℕ) (node : Node) (text : List ℕ) → match_text node ≡ Some text → ((tree : PatternTree) → IsPattern (chars text) tree → ⊥) → IsRowOrNone name node None
no_pattern name node text is none = λ pattern leads. none pattern (subst (λ (t : List ℕ). IsPattern (chars t) pattern) (same_Some leads.has.text text (sym leads.has.is ∙ is)) leads.has.reads)

pub read_row : (name : List ℕ) (node : Node) (text : List ℕ) (row : PatternNode) → match_text node ≡ Some text → is_some (mapping_of node) ≡ true → ((tree : PatternTree) → IsPattern (chars text) tree ↔ tree ≡ tree_of row.pattern) → row.name ≡ name
    → IsRowOrNone name node (Some row)
read_row name node text row is leads spelled named = (
  named,
  record { has = record { text = text; is = is; reads = (spelled (tree_of row.pattern)).1 refl }; leads = leads },
  λ pattern more. sym ((spelled pattern).0 (subst (λ (t : List ℕ). IsPattern (chars t) pattern) (same_Some more.has.text text (sym more.has.is ∙ is)) more.has.reads)),
)

-- ---- one more name

adds_nothing : (at : Lookup) (name : List ℕ) (rows : List PatternNode) → ((node : Node) (pattern : PatternTree) → is_path (kid mappings_path name) ≡ true → at (kid mappings_path name) ≡ Some node → LeadsBy node pattern → ⊥) → AddsPattern at name rows rows
adds_nothing at name rows none = record {
  rows_are = λ k row there. inl there;
  stay = λ k row there. there;
  listed = λ node pattern valid there leads. absurd (none node pattern valid there leads);
}

-- it may not be the name of a node
pub adds_no_path : (at : Lookup) (name : List ℕ) (rows : List PatternNode) → path_or_none (kid mappings_path name) ≡ None → AddsPattern at name rows rows
adds_no_path at name rows none = adds_nothing at name rows (λ node pattern valid there leads.
    let both : Some (kid mappings_path name) ≡ None = sym (ap (λ b. if b then Some (kid mappings_path name) else None) valid) ∙ none in cc)

-- no node is there
pub adds_no_node : (at : Lookup) (name : List ℕ) (rows : List PatternNode) → at (kid mappings_path name) ≡ None → AddsPattern at name rows rows
adds_no_node at name rows none = adds_nothing at name rows (λ node pattern valid there leads. let both : Some node ≡ None = sym there ∙ none in cc)

-- the node has no pattern, or leads nowhere
pub adds_no_row : (at : Lookup) (name : List ℕ) (rows : List PatternNode) (node : Node) → at (kid mappings_path name) ≡ Some node → IsRowOrNone name node None → AddsPattern at name rows rows
adds_no_row at name rows node is none = adds_nothing at name rows (λ other pattern valid there leads. none pattern (subst (λ (n : Node). LeadsBy n pattern) (same_Some other node (sym there ∙ is)) leads))

row_at_end : (old : List PatternNode) (row : PatternNode) → IsRowAt (old ++ row ∷ []) (length old) row
row_at_end old row = (omega (arith, length-append old (row ∷ [])), get_or-append_seam old row [] row)

row_before : (old : List PatternNode) (row other : PatternNode) (k : ℕ) → IsRowAt old k other → IsRowAt (old ++ row ∷ []) k other
row_before old row other k there = (let lt = there.0 in omega (arith, lt, length-append old (row ∷ [])), get_or_append_left old (row ∷ []) other k there.0 ∙ there.1)

pub same_row : (rows : List PatternNode) (k i : ℕ) (row other : PatternNode) → k ≡ i → IsRowAt rows k row → IsRowAt rows i other → row ≡ other
same_row rows k i row other same there also = sym there.1 ∙ ap (λ n. get_or rows n row) same ∙ get_or_default rows i row other also.0 ∙ also.1

-- the node has a row
pub adds_row : (at : Lookup) (name : List ℕ) (old new : List PatternNode) (node : Node) (row : PatternNode) → at (kid mappings_path name) ≡ Some node → IsRowOrNone name node (Some row) → new ≡ old ++ row ∷ [] → AddsPattern at name old new
adds_row at name old new node row is (name_is, leads, only) pushed = subst (λ (rs : List PatternNode). AddsPattern at name old rs) (sym pushed) (record {
  rows_are = λ k other there. ⊎_elim
      (λ (less : k < length old). inl (less, sym (get_or_append_left old (row ∷ []) other k less) ∙ there.1))
      (λ (more : length old ≤ k).
      let last : k ≡ length old = (let lt = there.0 in omega (arith, lt, more, length-append old (row ∷ []))) in
      inr (subst (λ (r : PatternNode). IsRowOf at r) (sym (same_row (old ++ row ∷ []) k (length old) other row last there (row_at_end old row)))
      (record { node = node; there = ap (λ n. at (kid mappings_path n)) name_is ∙ is; leads = leads })))
      (cases_lt k (length old));
  stay = λ k other there. row_before old row other k there;
  listed = λ other pattern valid there more. record {
    place = length old;
    row = row;
    there = row_at_end old row;
    name_is = name_is;
    pattern_is = only pattern (subst (λ (n : Node). LeadsBy n pattern) (same_Some other node (sym there ∙ is)) more);
  };
})

-- ---- all names

pub no_names : (at : Lookup) → AreRowsOfNames at [] []
no_names at = record { rows_are = λ k row there. let lt = there.0 in absurd (omega (arith, lt)); all = λ name named. absurd (false≢true named) }

stays : (at : Lookup) (name : List ℕ) (old new : List PatternNode) → AddsPattern at name old new → (other : List ℕ) → IsListed at old other → IsListed at new other
stays at name old new adds other listed node pattern valid there leads =
    let has = listed node pattern valid there leads in
    record { place = has.place; row = has.row; there = adds.stay has.place has.row has.there; name_is = has.name_is; pattern_is = has.pattern_is }

pub more_names : (at : Lookup) (names : List (List ℕ)) (i : ℕ) (name : List ℕ) (old new : List PatternNode) → i < length names → name ≡ get_or names i name → AreRowsOfNames at (take i names) old → AddsPattern at name old new → AreRowsOfNames at (take (i + 1) names) new
more_names at names i name old new within item are adds = record {
  rows_are = λ k row there. ⊎_elim (λ before. are.rows_are k row before) (λ (is : IsRowOf at row). is) (adds.rows_are k row there);
  all = λ other named. ⊎_elim
      (λ (before : is_named other (take i names) ≡ true). stays at name old new adds other (are.all other before))
      (λ (not_before : is_named other (take i names) ≡ false).
      let here : pointwise nat_eq other name ≡ true =
      ap (pointwise nat_eq other) item ∙ sym (ap (λ b. b || pointwise nat_eq other (get_or names i name)) not_before) ∙ sym (list_any_more (pointwise nat_eq other) names i name within) ∙ named in
      subst (λ (n : List ℕ). IsListed at new n) (sym (text_is other name here)) adds.listed)
      (cases_Bool (is_named other (take i names)));
}

-- no node is at the parent
pub no_parent : (at : Lookup) → at mappings_path ≡ None → ArePatterns at []
no_parent at none = subst (λ (names : List (List ℕ)). AreRowsOfNames at names []) (sym (ap (λ (o : Option Node). option_map_or (λ n. n.kids) o []) none)) (no_names at)

pub all_names : (at : Lookup) (node : Node) (names : List (List ℕ)) (rows : List PatternNode) → at mappings_path ≡ Some node → names ≡ node.kids → AreRowsOfNames at names rows → ArePatterns at rows
all_names at node names rows there is are =
    subst (λ (ns : List (List ℕ)). AreRowsOfNames at ns rows) (is ∙ sym (ap (λ (o : Option Node). option_map_or (λ n. n.kids) o []) there)) are

-- those before a patch and after it
pub patterns_over : (before after : Lookup) (rows : List PatternNode) (change : Option (List PatternNode)) → ArePatterns before rows → ArePatternsAfter before after change → ArePatterns after (unwrap_or change rows)
patterns_over before after rows None are changes = changes rows are
patterns_over before after rows (Some changed) are changes = changes

-- ---- whether a patch has something there

pub touch_here : (patch : PatchEntries) (parent : List (List ℕ)) (i : ℕ) (e : List (List ℕ) × PatchNode) → slice_get patch i ≡ Some e → is_of_family e.0 parent ≡ true → touches patch parent ≡ true
touch_here patch parent i e is family =
    let test = λ (entry : List (List ℕ) × PatchNode). is_of_family entry.0 parent in
    list_any_at test patch i e (slice_get_within patch i e is) (ap test (get_or_from_slice_get patch i e e is) ∙ family)

pub touch_next : (patch : PatchEntries) (parent : List (List ℕ)) (i : ℕ) (e : List (List ℕ) × PatchNode) → slice_get patch i ≡ Some e → is_of_family e.0 parent ≡ false → touches (take i patch) parent ≡ false → touches (take (i + 1) patch) parent ≡ false
touch_next patch parent i e is apart none =
    let test = λ (entry : List (List ℕ) × PatchNode). is_of_family entry.0 parent in
    list_any_more test patch i e (slice_get_within patch i e is) ∙ ap (λ (y : List (List ℕ) × PatchNode). touches (take i patch) parent || test y) (get_or_from_slice_get patch i e e is)
    ∙ ap (λ b. b || is_of_family e.0 parent) none ∙ apart

-- ---- a patch that leaves them

no_entry : (patch : PatchEntries) (parent path : List (List ℕ)) → touches patch parent ≡ false → is_of_family path parent ≡ true → entry_at patch path ≡ None
no_entry [] parent path none family = refl
no_entry (e ∷ patch) parent path none family = ⊎_elim
    (λ (here : same_path path e.0 ≡ true).
    absurd (true≢false (sym (ap (λ b. b || touches patch parent) (ap (λ p. is_of_family p parent) (sym (path_from_same path e.0 here)) ∙ family)) ∙ none)))
    (λ (not_here : same_path path e.0 ≡ false).
    ap (λ b. if b then Some e.1 else entry_at patch path) not_here ∙ no_entry patch parent path (rest (is_of_family e.0 parent) (touches patch parent) none) family)
    (cases_Bool (same_path path e.0))
  where
    rest : (a b : Bool) → (a || b) ≡ false → b ≡ false
    rest true b e = absurd (true≢false e)
    rest false b e = e

left_same : (tree : Content) (patch : PatchEntries) (path : List (List ℕ)) → entry_at patch path ≡ None → patching_at tree patch path ≡ node_at tree path
left_same tree patch path none = ap (λ (o : Option PatchNode). left_by o (node_at tree path)) none

-- a patch that touches nothing there leaves the rows right
pub left_patterns : (tree : Content) (patch : PatchEntries) → touches patch mappings_path ≡ false → ArePatternsAfter (node_at tree) (patching_at tree patch) None
left_patterns tree patch none rows are =
    let parent : patching_at tree patch mappings_path ≡ node_at tree mappings_path = left_same tree patch mappings_path (no_entry patch mappings_path mappings_path none refl) in
    let below = λ (name : List ℕ). left_same tree patch (kid mappings_path name) (no_entry patch mappings_path (kid mappings_path name) none refl) in
    record {
      rows_are = λ k row there. let r = are.rows_are k row there in record { node = r.node; there = below row.name ∙ r.there; leads = r.leads };
      all = λ name named node pattern valid there leads.
          are.all name (sym (ap (λ (o : Option Node). is_named name (option_map_or (λ n. n.kids) o [])) parent) ∙ named) node pattern valid (sym (below name) ∙ there) leads;
    }

-- a reading that fails for a fault of the text
pub none_read : {E : Type 0} (name : List ℕ) (node : Node) (text : List ℕ) (fault : PatternFault) (r : Result (Option PatternNode) E) → match_text node ≡ Some text → (fault ≢ memory → (tree : PatternTree) → IsPattern (chars text) tree → ⊥) → IfOk r (λ o. (o ≡ None) × (fault ≢ memory))
    → IfOk r (IsRowOrNone name node)
none_read name node text fault (Ok o) is none (empty, apart) = subst (IsRowOrNone name node) (sym empty) (no_pattern name node text is (none apart))
none_read name node text fault (Err e) is none ok = ok
