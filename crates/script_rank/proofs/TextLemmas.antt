-- A script by the node that holds its text: in a tree, among the rows of a tree, and with a patch over it.
use Rattle.std.proofs.Common.{◌≡◌, ◌≢◌, ◌<◌, ◌≤◌, ◌+◌, ◌-◌, ◌++◌, add-one, cond, ℕ, Bool, true, false, List, [], ◌∷◌, Option, Some, None, length, get_or, map, take, refl, sym, ◌∙◌, ap, subst, ⊎_elim, arith}
use Rattle.std.specs.Prelude.{◌&&◌, ◌||◌, codes, is_some, nat_eq, not, option_and_then, slice_get}
use Rattle.std.specs.Cmp.{eq_by_cmp_equiv}
use Rattle.std.specs.Cmp.Lexicographic.{pointwise, same_text}
use Rattle.std.specs.List.{IsDistinct, list_any}
use Rattle.std.specs.List.Sorted.{IsStrictlySortedBy}
use Rattle.std.specs.Map.{keys_of}
use Rattle.std.specs.Option.{option_map_or}
use Rattle.std.specs.Ordering.{eq_by_cmp}
use Rattle.std.proofs.lemmas.Bool.{and_parts, cases_Bool, false_from_ne_true, true≢false}
use Rattle.std.proofs.lemmas.List.Folds.{list_any_more}
use Rattle.std.proofs.lemmas.Map.{lookup-none}
use Rattle.std.proofs.lemmas.Map.Entries.{none_past_head}
use Rattle.std.proofs.lemmas.Map.Keys.{IsDistinct-tail}
use Rattle.std.proofs.lemmas.Option.{get_or_from_slice_get, same_Some, slice_get-get_or, slice_get_within}
use Rattle.std.proofs.lemmas.List.{get_or_append_left, take_all}
use Rattle.sp_base.specs.Texts.{Segments}
use Rattle.sp_base.specs.Paths.{fault_of, is_path, parent_of, unless_fault}
use Rattle.sp_base.specs.Properties.{text_in}
use Rattle.sp_base.specs.declared.path.PathFault.{PathFault}
use Rattle.sp_base.proofs.BoolLemmas.{and_false, and_with_true, or_false}
use Rattle.sp_base.proofs.ListLemmas.{any_next}
use Rattle.sp_base.proofs.OrderingLemmas.{by_path_total}
use Rattle.sp_base.proofs.PathParts.{checked_path}
use Rattle.resource_tree.specs.Content.{Content, IsGood, by_path, kid, name_of, node_at, same_path}
use Rattle.resource_tree.specs.Patches.{PatchEntries, entry_at, left_by, patching_at}
use Rattle.resource_tree.specs.Rows.{AreRowsOf}
use Rattle.resource_tree.specs.declared.nodes.Node.{Node}
use Rattle.resource_tree.specs.declared.patch.PatchNode.{PatchNode}
use Rattle.resource_tree.specs.declared.patch.PatchNode.TheVariants as patch_node
use Rattle.resource_tree.proofs.PathLemmas.{kid_parts, length-kid, name_of-kid, parent_of-kid, path_from_same, same_path_self}
use Rattle.script_rank.specs.Index.{ScriptPathsChange, ScriptPaths, IsScriptChangeOf, IsScriptIndexOf, has_path}
use Rattle.script_rank.specs.Noting.{AddsScript, NotesScriptEntry, has_data_text, has_text_there, is_named_script, is_script_text, is_script_text_there, is_text_path, leaves_script_text, text_path}
use Rattle.script_rank.specs.Ranking.{is_script, is_script_name, node_of, script_text}

-- ---- a script is there where its text is

text_of_node : (node : Option Node) → is_some (option_and_then (λ n. text_in n.props (codes "jcr:data")) node) ≡ has_text_there node
unfolding has_data_text
text_of_node None = refl
text_of_node (Some node) = refl

-- no node is at what is no path
reached : (tree : Content) (at : Segments) (fault : Option PathFault) → fault_of at ≡ fault → ((node : Node) → node_at tree at ≡ Some node → is_path at ≡ true) → node_of tree (unless_fault fault at) ≡ node_at tree at
reached tree at None is valid = refl
reached tree at (Some fault) is valid = none (node_at tree at) refl
  where
    none : (o : Option Node) → node_at tree at ≡ o → None ≡ node_at tree at
    none None e = sym e
    none (Some node) e =
        let good = checked_path at (valid node e) in
        let bad = ap (λ f. unless_fault f at) is in
        absurd (cc (good, bad))

text_is : (tree : Content) (path : Segments) → IsGood tree → is_some (script_text tree path) ≡ has_text_there (node_at tree (text_path path))
unfolding script_text
text_is tree path good =
    ap (λ o. is_some (option_and_then (λ n. text_in n.props (codes "jcr:data")) o))
    (reached tree (text_path path) (fault_of (text_path path)) refl (λ node is. (good.shape.nodes (text_path path) node is).is_a_path))
    ∙ text_of_node (node_at tree (text_path path))

there : (node : Option Node) → has_text_there node ≡ true → is_some node ≡ true
there None e = absurd (true≢false (sym e))
there (Some node) e = refl

and_if : (a b : Bool) → (b ≡ true → a ≡ true) → (a && b) ≡ b
and_if true b h = refl
and_if false true h = h refl
and_if false false h = refl

text_there : (tree : Content) (path : Segments) → IsGood tree → (is_some (node_at tree path) && is_some (script_text tree path)) ≡ has_text_there (node_at tree (text_path path))
text_there tree path good =
    and_if (is_some (node_at tree path)) (is_some (script_text tree path))
    (λ some. good.shape.parents path (codes "jcr:content") (there (node_at tree (text_path path)) (sym (text_is tree path good) ∙ some)))
    ∙ text_is tree path good

-- the name of a path stands before the last segment of the path of its text
named_above : (path : Segments) → 0 < length path → slice_get (text_path path) (length (text_path path) - 2) ≡ Some (name_of path)
named_above path some =
    let content = codes "jcr:content" in
    let size : length (text_path path) - 2 ≡ length path - 1 = omega (arith, length-kid path content) in
    ap (slice_get (text_path path)) size ∙ slice_get-get_or (text_path path) (length path - 1) [] (omega (arith, some, length-kid path content))
    ∙ ap (λ name. Some name) (get_or_append_left path (content ∷ []) [] (length path - 1) (omega (arith, some)))

text_path_named : (path : Segments) → is_text_path (text_path path) ≡ is_script_name (name_of path)
text_path_named [] = refl
text_path_named (s ∷ path) =
    let at = text_path (s ∷ path) in
    ap (λ name. pointwise nat_eq name (codes "jcr:content") && is_named_script (slice_get at (length at - 2))) (name_of-kid (s ∷ path) (codes "jcr:content"))
    ∙ ap is_named_script (named_above (s ∷ path) (omega arith))

pub script_is : (tree : Content) (path : Segments) → IsGood tree → is_script tree path ≡ is_script_text_there (text_path path) (node_at tree (text_path path))
script_is tree path good =
    ap (λ b. is_script_name (name_of path) && b) (text_there tree path good) ∙ ap (λ b. b && has_text_there (node_at tree (text_path path))) (sym (text_path_named path))

-- ---- the path of a text

not_root : (at : Segments) → is_text_path at ≡ true → at ≢ []
not_root at is e = true≢false (sym is ∙ ap is_text_path e)

pub text_path_is : (at : Segments) → is_text_path at ≡ true → at ≡ text_path (parent_of at)
text_path_is at is =
    let named = (and_parts (pointwise nat_eq (name_of at) (codes "jcr:content")) (is_named_script (slice_get at (length at - 2))) is).0 in
    sym (kid_parts at (not_root at is)) ∙ ap (kid (parent_of at)) (same_text (name_of at) (codes "jcr:content") (sym named))

-- of a path that may hold a text the script is its parent
pub parent_same : (at path : Segments) → is_text_path at ≡ true → same_path path (parent_of at) ≡ same_path (text_path path) at
parent_same at path is = ⊎_elim
    (λ (e : same_path path (parent_of at) ≡ true).
    let one : text_path path ≡ at = ap text_path (path_from_same path (parent_of at) e) ∙ sym (text_path_is at is) in
    e ∙ sym (ap (λ p. same_path p at) one ∙ same_path_self at))
    (λ (e : same_path path (parent_of at) ≡ false).
    e ∙ sym (false_from_ne_true (same_path (text_path path) at) (λ same.
    let one : path ≡ parent_of at = sym (parent_of-kid path (codes "jcr:content")) ∙ ap parent_of (path_from_same (text_path path) at same) in
    true≢false (sym (ap (same_path path) (sym one) ∙ same_path_self path) ∙ e))))
    (cases_Bool (same_path path (parent_of at)))

-- ---- one more script

adds_nothing_by : (a s t : Bool) → (s && t) ≡ false → a ≡ (a || (s && t))
adds_nothing_by a s t e = sym (ap (λ b. a || b) e ∙ or_false a)

pub adds_none : (at : Segments) (holds : Bool) (paths : List Segments) → holds ≡ false → AddsScript at holds paths paths
adds_none at holds paths none path = adds_nothing_by (has_path paths path) (same_path (text_path path) at) holds (ap (λ b. same_path (text_path path) at && b) none ∙ and_false (same_path (text_path path) at))

any_push : (test : Segments → Bool) (xs : List Segments) (x : Segments) → list_any test (xs ++ x ∷ []) ≡ (list_any test xs || test x)
any_push test [] x = or_false (test x)
any_push test (y ∷ xs) x = ap (λ b. test y || b) (any_push test xs x) ∙ or_assoc (test y) (list_any test xs) (test x)
  where
    or_assoc : (a b c : Bool) → (a || (b || c)) ≡ ((a || b) || c)
    or_assoc true b c = refl
    or_assoc false b c = refl

pub adds_one : (at script : Segments) (holds : Bool) (old new : List Segments) → is_text_path at ≡ true → holds ≡ true → script ≡ parent_of at → new ≡ old ++ script ∷ [] → AddsScript at holds old new
adds_one at script holds old new is tested parent pushed path =
    ap (λ xs. has_path xs path) pushed ∙ any_push (same_path path) old script
    ∙ ap (λ b. has_path old path || b) (ap (same_path path) parent ∙ parent_same at path is ∙ and_with_true (same_path (text_path path) at) holds tested)

-- what is found where the text of a script may stand is found with that test
pub adds_named : (at : Segments) (holds : Bool) (old new : List Segments) → is_text_path at ≡ true → AddsScript at holds old new → AddsScript at (is_text_path at && holds) old new
adds_named at holds old new is adds = subst (λ named. AddsScript at (named && holds) old new) (sym is) adds

pub notes_named : (at : Segments) (before after : Bool) (old new : ScriptPathsChange) → is_text_path at ≡ true → NotesScriptEntry at before after old new → NotesScriptEntry at (is_text_path at && before) (is_text_path at && after) old new
notes_named at before after old new is notes = subst (λ named. NotesScriptEntry at (named && before) (named && after) old new) (sym is) notes

pub notes_none : (at : Segments) (before after : Bool) (change : ScriptPathsChange) → is_text_path at ≡ false → NotesScriptEntry at (is_text_path at && before) (is_text_path at && after) change change
notes_none at before after change other = subst (λ named. NotesScriptEntry at (named && before) (named && after) change change) (sym other) (record {
  added = adds_none at false change.added refl;
  gone = adds_none at false change.gone refl;
})

-- ---- the rows of a tree

-- some row has the path, and its node is the text of a script
abbrev is_row : {R : Type 0} → (R → Segments × Node) → Segments → R → Bool
is_row see at row = same_path at (see row).0 && is_script_text (see row).0 (see row).1

abbrev pub AreScriptsSoFar : {R : Type 0} → (R → Segments × Node) → List R → List Segments → Type 0
AreScriptsSoFar see rows paths = (path : Segments) → has_path paths path ≡ list_any (is_row see (text_path path)) rows

pub scripts_more : {R : Type 0} (see : R → Segments × Node) (rows : List R) (i : ℕ) (row : R) (old new : List Segments) → i < length rows → row ≡ get_or rows i row
    → AreScriptsSoFar see (take i rows) old → AddsScript (see row).0 (is_script_text (see row).0 (see row).1) old new → AreScriptsSoFar see (take (i + 1) rows) new
scripts_more see rows i row old new within item so_far one path =
    one path ∙ ap (λ b. b || is_row see (text_path path) row) (so_far path) ∙ ap (λ r. list_any (is_row see (text_path path)) (take i rows) || is_row see (text_path path) r) item
    ∙ sym (list_any_more (is_row see (text_path path)) rows i row within)

any_map : {R : Type 0} (see : R → Segments × Node) (at : Segments) (rows : List R) → list_any (is_row see at) rows ≡ list_any (is_row (λ r. r) at) (map see rows)
any_map see at [] = refl
any_map see at (row ∷ rows) = ap (λ b. is_row see at row || b) (any_map see at rows)

-- a row with a path is the node there
row_is : (tree : Content) (at : Segments) (row : Segments × Node) → node_at tree row.0 ≡ Some row.1 → same_path at row.0 ≡ true → node_at tree at ≡ Some row.1
row_is tree at row there same = ap (node_at tree) (path_from_same at row.0 same) ∙ there

rows_none : (tree : Content) (at : Segments) (rows : Content) → is_script_text_there at (node_at tree at) ≡ false → ((k : ℕ) (row : Segments × Node) → slice_get rows k ≡ Some row → node_at tree row.0 ≡ Some row.1) → list_any (is_row (λ r. r) at) rows ≡ false
rows_none tree at [] none are = refl
rows_none tree at (row ∷ rows) none are =
    let first : is_row (λ r. r) at row ≡ false = false_from_ne_true (is_row (λ r. r) at row) (λ h.
    let parts = and_parts (same_path at row.0) (is_script_text row.0 row.1) h in
    let here = ap (λ p. is_script_text p row.1) (path_from_same at row.0 parts.0) in
    true≢false (sym parts.1 ∙ sym here ∙ sym (ap (is_script_text_there at) (row_is tree at row (are 0 row refl) parts.0)) ∙ none)) in
    ap (λ b. b || list_any (is_row (λ r. r) at) rows) first ∙ rows_none tree at rows none (λ k r is. are (k + 1) r (later k r is))
  where
    later : (k : ℕ) (r : Segments × Node) → slice_get rows k ≡ Some r → slice_get (row ∷ rows) (k + 1) ≡ Some r
    later k r is = rw add-one is

rows_some : (tree : Content) (at : Segments) (node : Node) (rows : Content) → node_at tree at ≡ Some node → is_script_text at node ≡ true → list_any (same_path at) (keys_of rows) ≡ true
    → ((k : ℕ) (row : Segments × Node) → slice_get rows k ≡ Some row → node_at tree row.0 ≡ Some row.1) → list_any (is_row (λ r. r) at) rows ≡ true
rows_some tree at node [] is text has are = has
rows_some tree at node (row ∷ rows) is text has are = ⊎_elim
    (λ (e : same_path at row.0 ≡ true).
    let one : row.1 ≡ node = same_Some row.1 node (sym (row_is tree at row (are 0 row refl) e) ∙ is) in
    ap (λ b. b || list_any (is_row (λ r. r) at) rows)
    (ap (λ b. b && is_script_text row.0 row.1) e ∙ ap (λ p. is_script_text p row.1) (sym (path_from_same at row.0 e)) ∙ ap (is_script_text at) one ∙ text))
    (λ (e : same_path at row.0 ≡ false).
    ap (λ b. (b && is_script_text row.0 row.1) || list_any (is_row (λ r. r) at) rows) e
    ∙ rows_some tree at node rows is text (sym (ap (λ b. b || list_any (same_path at) (keys_of rows)) e) ∙ has) (λ k r found. are (k + 1) r (later k r found)))
    (cases_Bool (same_path at row.0))
  where
    later : (k : ℕ) (r : Segments × Node) → slice_get rows k ≡ Some r → slice_get (row ∷ rows) (k + 1) ≡ Some r
    later k r found = rw add-one found

-- each row is the node at its path
each : (tree rows : Content) → AreRowsOf tree rows → (k : ℕ) (row : Segments × Node) → slice_get rows k ≡ Some row → node_at tree row.0 ≡ Some row.1
each tree rows are k row is =
    subst (λ (r : Segments × Node). node_at tree r.0 ≡ Some r.1) (get_or_from_slice_get rows k row row is) (are.nodes k row (slice_get_within rows k row is))

rows_are : (tree rows : Content) (at : Segments) (o : Option Node) → AreRowsOf tree rows → node_at tree at ≡ o → list_any (is_row (λ r. r) at) rows ≡ is_script_text_there at o
rows_are tree rows at None are is =
    let none = and_false (is_text_path at) in
    rows_none tree at rows (ap (is_script_text_there at) is ∙ none) (each tree rows are) ∙ sym none
rows_are tree rows at (Some node) are is = by (is_script_text at node) refl
  where
    by : (t : Bool) → is_script_text at node ≡ t → list_any (is_row (λ r. r) at) rows ≡ is_script_text at node
    by true text = rows_some tree at node rows is text (are.paths at ∙ ap is_some is) (each tree rows are) ∙ sym text
    by false text = rows_none tree at rows (ap (is_script_text_there at) is ∙ text) (each tree rows are) ∙ sym text

-- all rows give the scripts of the tree
pub scripts_whole : {R : Type 0} (see : R → Segments × Node) (tree : Content) (rows : List R) (i : ℕ) (paths : List Segments) → IsGood tree → AreRowsOf tree (map see rows) → length rows ≤ i
    → AreScriptsSoFar see (take i rows) paths → (path : Segments) → has_path paths path ≡ is_script tree path
scripts_whole see tree rows i paths good are end so_far path =
    so_far path ∙ ap (list_any (is_row see (text_path path))) (take_all i rows end) ∙ any_map see (text_path path) rows
    ∙ rows_are tree (map see rows) (text_path path) (node_at tree (text_path path)) are refl ∙ sym (script_is tree path good)

-- ---- the entries of a patch

-- the entry is of the path, and some test holds
abbrev is_entry : (Segments → PatchNode → Bool) → Segments → Segments × PatchNode → Bool
is_entry test at entry = same_path at entry.0 && test entry.0 entry.1

abbrev becomes : Content → Segments → PatchNode → Bool
becomes tree at row = leaves_script_text at row && not (is_script_text_there at (node_at tree at))

abbrev ends : Content → Segments → PatchNode → Bool
ends tree at row = is_script_text_there at (node_at tree at) && not (leaves_script_text at row)

-- the entries so far are noted
pub record AreNoted (tree : Content) (entries : PatchEntries) (change : ScriptPathsChange) : Type 0 where
  pub added : (path : Segments) → has_path change.added path ≡ list_any (is_entry (becomes tree) (text_path path)) entries
  pub gone : (path : Segments) → has_path change.gone path ≡ list_any (is_entry (ends tree) (text_path path)) entries

pub noted_next : (tree : Content) (patch : PatchEntries) (i : ℕ) (at : Segments) (row : PatchNode) (old new : ScriptPathsChange) → slice_get patch i ≡ Some (at, row) → AreNoted tree (take i patch) old
    → NotesScriptEntry at (is_script_text_there at (node_at tree at)) (leaves_script_text at row) old new → AreNoted tree (take (i + 1) patch) new
noted_next tree patch i at row old new is so_far one = record {
  added = λ path.
      one.added path ∙ ap (λ b. b || (same_path (text_path path) at && becomes tree at row)) (so_far.added path) ∙ sym (any_next (is_entry (becomes tree) (text_path path)) patch i (at, row) is);
  gone = λ path.
      one.gone path ∙ ap (λ b. b || (same_path (text_path path) at && ends tree at row)) (so_far.gone path) ∙ sym (any_next (is_entry (ends tree) (text_path path)) patch i (at, row) is);
}

-- each path has one entry at most
entry_none : (test : Segments → PatchNode → Bool) (at : Segments) (entries : PatchEntries) → entry_at entries at ≡ None → list_any (is_entry test at) entries ≡ false
entry_none test at [] none = refl
entry_none test at (entry ∷ entries) none = ⊎_elim
    (λ (e : same_path at entry.0 ≡ true). let some : entry_at (entry ∷ entries) at ≡ Some entry.1 = ap (λ t. cond t (Some entry.1) (entry_at entries at)) e in absurd (cc (none, some)))
    (λ (e : same_path at entry.0 ≡ false).
    ap (λ t. (t && test entry.0 entry.1) || list_any (is_entry test at) entries) e
    ∙ entry_none test at entries (sym (ap (λ t. cond t (Some entry.1) (entry_at entries at)) e) ∙ none))
    (cases_Bool (same_path at entry.0))

entry_is : (test : Segments → PatchNode → Bool) (at : Segments) (entries : PatchEntries) → IsDistinct (eq_by_cmp by_path) (keys_of entries)
    → list_any (is_entry test at) entries ≡ option_map_or (test at) (entry_at entries at) false
entry_is test at [] once = refl
entry_is test at (entry ∷ entries) once = ⊎_elim
    (λ (e : same_path at entry.0 ≡ true).
    let rest : entry_at entries at ≡ None = lookup-none (same_path at) entries (none_past_head (eq_by_cmp_equiv by_path_total) at entry entries once e) in
    ap (λ t. (t && test entry.0 entry.1) || list_any (is_entry test at) entries) e
    ∙ ap (λ b. test entry.0 entry.1 || b) (entry_none test at entries rest) ∙ or_false (test entry.0 entry.1)
    ∙ ap (λ p. test p entry.1) (sym (path_from_same at entry.0 e))
    ∙ sym (ap (λ t. option_map_or (test at) (cond t (Some entry.1) (entry_at entries at)) false) e))
    (λ (e : same_path at entry.0 ≡ false).
    ap (λ t. (t && test entry.0 entry.1) || list_any (is_entry test at) entries) e
    ∙ entry_is test at entries (IsDistinct-tail (eq_by_cmp by_path) entry.0 (keys_of entries) once)
    ∙ sym (ap (λ t. option_map_or (test at) (cond t (Some entry.1) (entry_at entries at)) false) e))
    (cases_Bool (same_path at entry.0))

-- what the entries leave of a text
stays : (b : Bool) → b ≡ (false || (b && not false))
stays true = refl
stays false = refl

changes : (b a : Bool) → a ≡ ((a && not b) || (b && not (b && not a)))
changes true true = refl
changes true false = refl
changes false true = refl
changes false false = refl

left_text : (at : Segments) (old : Option Node) (entry : Option PatchNode) → is_script_text_there at (left_by entry old)
    ≡ (option_map_or (λ row. leaves_script_text at row && not (is_script_text_there at old)) entry false
    || (is_script_text_there at old && not (option_map_or (λ row. is_script_text_there at old && not (leaves_script_text at row)) entry false)))
left_text at old None = stays (is_script_text_there at old)
left_text at old (Some (patch_node.Node node)) = changes (is_script_text_there at old) (is_script_text at node)
left_text at old (Some patch_node.Gone) = changes (is_script_text_there at old) (is_text_path at && false)

pub change_is : (tree : Content) (patch : PatchEntries) (change : ScriptPathsChange) → IsGood tree → IsDistinct (eq_by_cmp by_path) (keys_of patch) → AreNoted tree patch change → IsScriptChangeOf tree patch change
change_is tree patch change good once noted = record {
  scripts = λ after good_after shows path.
      let at = text_path path in
      script_is after path good_after ∙ ap (is_script_text_there at) (shows at) ∙ left_text at (node_at tree at) (entry_at patch at)
      ∙ sym (ap (λ b. b || (is_script_text_there at (node_at tree at) && not (option_map_or (ends tree at) (entry_at patch at) false))) (noted.added path ∙ entry_is (becomes tree) at patch once))
      ∙ sym (ap (λ b. has_path change.added path || (is_script_text_there at (node_at tree at) && not b)) (noted.gone path ∙ entry_is (ends tree) at patch once))
      ∙ sym (ap (λ b. has_path change.added path || (b && not (has_path change.gone path))) (script_is tree path good));
}

pub noted_none : (tree : Content) (change : ScriptPathsChange) → change.added ≡ [] → change.gone ≡ [] → AreNoted tree [] change
noted_none tree change added gone = record { added = λ path. ap (λ paths. has_path paths path) added; gone = λ path. ap (λ paths. has_path paths path) gone }

-- ---- the change over the index

or_swap : (a b c : Bool) → ((a && b) || c) ≡ (c || (a && b))
or_swap true true true = refl
or_swap true true false = refl
or_swap true false true = refl
or_swap true false false = refl
or_swap false b true = refl
or_swap false b false = refl

pub index_after : (tree after : Content) (patch : PatchEntries) (change : ScriptPathsChange) (old mid new : ScriptPaths) → IsScriptIndexOf tree old → IsScriptChangeOf tree patch change → IsGood after → ((path : Segments) → node_at after path ≡ patching_at tree patch path)
    → ((path : Segments) → has_path mid.scripts path ≡ (has_path old.scripts path && not (has_path change.gone path)))
    → ((path : Segments) → has_path new.scripts path ≡ (has_path mid.scripts path || has_path change.added path)) → IsStrictlySortedBy by_path new.scripts → IsScriptIndexOf after new
index_after tree after patch change old mid new is changed good shows gone added order = record {
  order = order;
  scripts = λ path.
      added path ∙ ap (λ b. b || has_path change.added path) (gone path ∙ ap (λ b. b && not (has_path change.gone path)) (is.scripts path))
      ∙ or_swap (is_script tree path) (not (has_path change.gone path)) (has_path change.added path) ∙ sym (changed.scripts after good shows path);
}
