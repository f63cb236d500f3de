-- The change of an index: what is noted of a patch, and the claims after the change.
use Rattle.std.proofs.Common.{◌≡◌, ◌<◌, ◌+◌, ℕ, Bool, true, false, cond, List, [], ◌∷◌, ◌++◌, Option, Some, None, map, take, length, get_or, refl, sym, ◌∙◌, ap, ⊎_elim}
use Rattle.std.specs.Prelude.{◌||◌, ◌&&◌, filter, is_none, is_some, option_to_list, slice_get}
use Rattle.std.specs.List.{IsDistinct, list_any}
use Rattle.std.specs.Map.{keys_of, lookup}
use Rattle.std.specs.Option.{option_map_or}
use Rattle.std.specs.Ordering.{eq_by_cmp}
use Rattle.std.specs.Cmp.{eq_by_cmp_equiv}
use Rattle.std.specs.Cmp.Lexicographic.{same_text}
use Rattle.std.specs.Str.{bytes_eq}
use Rattle.std.proofs.lemmas.Bool.{cases_Bool, true≢false}
use Rattle.std.proofs.lemmas.List.Folds.{list_any-append, list_any_more}
use Rattle.std.proofs.lemmas.Map.{lookup-none}
use Rattle.std.proofs.lemmas.Map.Keys.{IsDistinct-tail}
use Rattle.std.proofs.lemmas.Map.Entries.{none_past_head}
use Rattle.sp_base.proofs.BoolLemmas.{and_false, and_with_true, or_assoc, or_false, or_first, or_second}
use Rattle.sp_base.proofs.ListLemmas.{any_next}
use Rattle.sp_base.proofs.OrderingLemmas.{by_path_total}
use Rattle.sp_base.proofs.TextLemmas.{bytes_eq_swapped}
use Rattle.resource_tree.specs.declared.nodes.Node.{Node}
use Rattle.resource_tree.specs.declared.patch.PatchNode.{PatchNode}
use Rattle.resource_tree.specs.declared.patch.PatchNode.TheVariants as patch_node
use Rattle.resource_tree.specs.Content.{Content, by_path, node_at, same_path}
use Rattle.resource_tree.specs.Patches as patches
use Rattle.resource_tree.proofs.PathLemmas.{path_from_same}
use Rattle.url_maps.specs.Claims.{AreClaims, ClaimRows, claimants, claims_vanity_path, node_claims_vanity_path}
use Rattle.url_maps.specs.Changes.{AreChanged, LeavesOthers, claimants_over, patched_vanity_path}
use Rattle.url_maps.specs.Noting.{Notes, NotesEntry, has_row, is_at_some, untouched_paths, left_vanity_path, claimants_so_far}
use Rattle.url_maps.proofs.ClaimLemmas.{more_words, no_words}

-- ---- one text

any_optional : (q : List (List ℕ)) (path : Option (List (List ℕ))) → list_any (same_path q) (option_to_list path) ≡ is_at_some path q
any_optional q None = refl
any_optional q (Some path) = or_false (same_path q path)

or_true : (x b : Bool) → b ≡ true → true ≡ (x || b)
or_true true b is = refl
or_true false b is = sym is

-- a text is noted, with a path or without
pub notes_one : (rows : ClaimRows) (patch : patches.PatchEntries) (text : List ℕ) (path : Option (List (List ℕ))) (old new : ClaimRows)
    → ((t : List ℕ) → lookup (bytes_eq t) new ≡ cond (bytes_eq text t) (Some (claimants_so_far rows patch old text ++ option_to_list path)) (lookup (bytes_eq t) old)) → Notes rows patch (is_at_some path) (λ t. bytes_eq t text) old new
notes_one rows patch text path old new is = record {
  claims = λ t q.
      ⊎_elim
      (λ (same : bytes_eq text t ≡ true).
      let row : lookup (bytes_eq t) new ≡ Some (claimants_so_far rows patch old text ++ option_to_list path) = is t ∙ ap (λ b. cond b (Some (claimants_so_far rows patch old text ++ option_to_list path)) (lookup (bytes_eq t) old)) same in
      ap (λ o. list_any (same_path q) (option_map_or (λ paths. paths) o (untouched_paths patch (claimants rows t)))) row
      ∙ list_any-append (same_path q) (claimants_so_far rows patch old text) (option_to_list path)
      ∙ ap (λ s. list_any (same_path q) (claimants_so_far rows patch old s) || list_any (same_path q) (option_to_list path)) (same_text text t (sym same))
      ∙ ap (λ x. list_any (same_path q) (claimants_so_far rows patch old t) || x) (any_optional q path ∙ and_with_true (is_at_some path q) (bytes_eq t text) (bytes_eq_swapped t text ∙ same)))
      (λ (other : bytes_eq text t ≡ false).
      let row : lookup (bytes_eq t) new ≡ lookup (bytes_eq t) old = is t ∙ ap (λ b. cond b (Some (claimants_so_far rows patch old text ++ option_to_list path)) (lookup (bytes_eq t) old)) other in
      ap (λ o. list_any (same_path q) (option_map_or (λ paths. paths) o (untouched_paths patch (claimants rows t)))) row
      ∙ no_words (list_any (same_path q) (claimants_so_far rows patch old t)) (is_at_some path q)
      ∙ ap (λ b. list_any (same_path q) (claimants_so_far rows patch old t) || (is_at_some path q && b)) (sym (bytes_eq_swapped t text ∙ other)))
      (cases_Bool (bytes_eq text t));
  has = λ t.
      ⊎_elim
      (λ (same : bytes_eq text t ≡ true).
      ap is_some (is t ∙ ap (λ b. cond b (Some (claimants_so_far rows patch old text ++ option_to_list path)) (lookup (bytes_eq t) old)) same)
      ∙ or_true (has_row old t) (bytes_eq t text) (bytes_eq_swapped t text ∙ same))
      (λ (other : bytes_eq text t ≡ false).
      ap is_some (is t ∙ ap (λ b. cond b (Some (claimants_so_far rows patch old text ++ option_to_list path)) (lookup (bytes_eq t) old)) other)
      ∙ sym (ap (λ b. has_row old t || b) (bytes_eq_swapped t text ∙ other) ∙ or_false (has_row old t)))
      (cases_Bool (bytes_eq text t));
}

-- ---- all of some texts

pub notes_none : (rows : ClaimRows) (patch : patches.PatchEntries) (who : List (List ℕ) → Bool) (changed : ClaimRows) → Notes rows patch who (λ t. false) changed changed
notes_none rows patch who changed = record {
  claims = λ t q. no_words (list_any (same_path q) (claimants_so_far rows patch changed t)) (who q);
  has = λ t. sym (or_false (has_row changed t));
}

-- the first texts, and one more
pub notes_more : (rows : ClaimRows) (patch : patches.PatchEntries) (who : List (List ℕ) → Bool) (first old new : ClaimRows) (texts : List (List ℕ)) (i : ℕ) (text : List ℕ) → i < length texts → text ≡ get_or texts i text
    → Notes rows patch who (λ t. list_any (bytes_eq t) (take i texts)) first old → Notes rows patch who (λ t. bytes_eq t text) old new → Notes rows patch who (λ t. list_any (bytes_eq t) (take (i + 1) texts)) first new
notes_more rows patch who first old new texts i text within item so_far one = record {
  claims = λ t q.
      more_words (list_any (same_path q) (claimants_so_far rows patch first t)) (who q) (list_any (same_path q) (claimants_so_far rows patch old t)) (list_any (same_path q) (claimants_so_far rows patch new t)) (bytes_eq t) texts i text within (so_far.claims t q)
      (one.claims t q ∙ ap (λ x. list_any (same_path q) (claimants_so_far rows patch old t) || (who q && bytes_eq t x)) item);
  has = λ t.
      one.has t ∙ ap (λ x. x || bytes_eq t text) (so_far.has t) ∙ or_assoc (has_row first t) (list_any (bytes_eq t) (take i texts)) (bytes_eq t text)
      ∙ ap (λ x. has_row first t || x) (ap (λ x. list_any (bytes_eq t) (take i texts) || bytes_eq t x) item ∙ sym (list_any_more (bytes_eq t) texts i text within));
}

-- ---- one entry

pub notes_row : (rows : ClaimRows) (patch : patches.PatchEntries) (path : List (List ℕ)) (before after : List ℕ → Bool) (old mid new : ClaimRows) → Notes rows patch (is_at_some None) before old mid → Notes rows patch (is_at_some (Some path)) after mid new
    → NotesEntry rows patch path before after old new
notes_row rows patch path before after old mid new first last = record {
  claims = λ t q.
      last.claims t q ∙ ap (λ x. x || (same_path q path && after t)) (first.claims t q ∙ or_false (list_any (same_path q) (claimants_so_far rows patch old t)));
  has = λ t. last.has t ∙ ap (λ x. x || after t) (first.has t) ∙ or_assoc (has_row old t) (before t) (after t);
}

pub notes_row_alike : (rows : ClaimRows) (patch : patches.PatchEntries) (path : List (List ℕ)) (before other after another : List ℕ → Bool) (old new : ClaimRows) → ((t : List ℕ) → before t ≡ other t) → ((t : List ℕ) → after t ≡ another t)
    → NotesEntry rows patch path before after old new → NotesEntry rows patch path other another old new
notes_row_alike rows patch path before other after another old new same alike is = record {
  claims = λ t q. is.claims t q ∙ ap (λ b. list_any (same_path q) (claimants_so_far rows patch old t) || (same_path q path && b)) (alike t);
  has = λ t. is.has t ∙ ap (λ b. has_row old t || (b || after t)) (same t) ∙ ap (λ b. has_row old t || (other t || b)) (alike t);
}

-- ---- the first entries

-- the entries of a patch so far are noted
pub record AreNoted (rows : ClaimRows) (patch : patches.PatchEntries) (before : List (List ℕ) → List ℕ → Bool) (left : List (List ℕ) → PatchNode → List ℕ → Bool) (done : patches.PatchEntries) (changed : ClaimRows) : Type 0 where
  pub claims : (t : List ℕ) (q : List (List ℕ)) → list_any (same_path q) (claimants_so_far rows patch changed t) ≡ (list_any (same_path q) (untouched_paths patch (claimants rows t)) || list_any (λ row. same_path q row.0 && left row.0 row.1 t) done)
  pub has : (t : List ℕ) → has_row changed t ≡ list_any (λ row. before row.0 t || left row.0 row.1 t) done

pub noted_next : (rows : ClaimRows) (patch : patches.PatchEntries) (before : List (List ℕ) → List ℕ → Bool) (left : List (List ℕ) → PatchNode → List ℕ → Bool) (i : ℕ) (path : List (List ℕ)) (row : PatchNode) (old new : ClaimRows)
    → slice_get patch i ≡ Some (path, row) → AreNoted rows patch before left (take i patch) old → NotesEntry rows patch path (before path) (left path row) old new → AreNoted rows patch before left (take (i + 1) patch) new
noted_next rows patch before left i path row old new is so_far one = record {
  claims = λ t q.
      let test = λ (r : List (List ℕ) × PatchNode). same_path q r.0 && left r.0 r.1 t in
      one.claims t q ∙ ap (λ x. x || (same_path q path && left path row t)) (so_far.claims t q)
      ∙ or_assoc (list_any (same_path q) (untouched_paths patch (claimants rows t))) (list_any test (take i patch)) (same_path q path && left path row t)
      ∙ ap (λ x. list_any (same_path q) (untouched_paths patch (claimants rows t)) || x) (sym (any_next test patch i (path, row) is));
  has = λ t.
      let test = λ (r : List (List ℕ) × PatchNode). before r.0 t || left r.0 r.1 t in
      one.has t ∙ ap (λ x. x || (before path t || left path row t)) (so_far.has t) ∙ sym (any_next test patch i (path, row) is);
}

-- ---- all entries

any_cond : (q p : List (List ℕ)) (b : Bool) (ps : List (List (List ℕ))) → list_any (same_path q) (cond b (p ∷ ps) ps) ≡ ((same_path q p && b) || list_any (same_path q) ps)
any_cond q p true ps = ap (λ x. x || list_any (same_path q) ps) (and_with_true (same_path q p) true refl)
any_cond q p false ps = ap (λ x. x || list_any (same_path q) ps) (sym (and_false (same_path q p)))

gather : (s b l c : Bool) → (s ≡ true → b ≡ c) → ((s && b) || (l && c)) ≡ ((s || l) && c)
gather true true true c same = same refl
gather true true false c same = same refl
gather true false true c same = refl
gather true false false c same = same refl
gather false b l c same = refl

-- which of the paths pass a test
pub any_filter : (q : List (List ℕ)) (test : List (List ℕ) → Bool) (paths : List (List (List ℕ))) → list_any (same_path q) (filter test paths) ≡ (list_any (same_path q) paths && test q)
any_filter q test [] = refl
any_filter q test (p ∷ ps) =
    any_cond q p (test p) (filter test ps) ∙ ap (λ x. (same_path q p && test p) || x) (any_filter q test ps)
    ∙ gather (same_path q p) (test p) (list_any (same_path q) ps) (test q) (λ same. ap test (sym (path_from_same q p same)))

none_else : (q : List (List ℕ)) (left : List (List ℕ) → PatchNode → List ℕ → Bool) (t : List ℕ) (patch : patches.PatchEntries) → patches.entry_at patch q ≡ None → list_any (λ row. same_path q row.0 && left row.0 row.1 t) patch ≡ false
none_else q left t [] is = refl
none_else q left t (row ∷ patch) is =
    elim (same_path q row.0) as (λ b. cond b (Some row.1) (patches.entry_at patch q) ≡ None → ((b && left row.0 row.1 t) || list_any (λ r. same_path q r.0 && left r.0 r.1 t) patch) ≡ false) [
      | true ↦ λ e. cc
      | false ↦ λ e. none_else q left t patch e
    ] is

-- what the entries leave at a path
any_left : (q : List (List ℕ)) (left : List (List ℕ) → PatchNode → List ℕ → Bool) (t : List ℕ) (patch : patches.PatchEntries) → IsDistinct (eq_by_cmp by_path) (keys_of patch)
    → list_any (λ row. same_path q row.0 && left row.0 row.1 t) patch ≡ option_map_or (λ row. left q row t) (patches.entry_at patch q) false
any_left q left t [] once = refl
any_left q left t (row ∷ patch) once =
    let laws = eq_by_cmp_equiv by_path_total in
    let more = any_left q left t patch (IsDistinct-tail (eq_by_cmp by_path) row.0 (keys_of patch) once) in
    ⊎_elim
    (λ (same : same_path q row.0 ≡ true).
    let here : q ≡ row.0 = path_from_same q row.0 same in
    let later : patches.entry_at patch row.0 ≡ None = lookup-none (same_path row.0) patch (none_past_head laws row.0 row patch once (laws.refl row.0)) in
    ap (λ b. (b && left row.0 row.1 t) || list_any (λ r. same_path q r.0 && left r.0 r.1 t) patch) same
    ∙ ap (λ x. left row.0 row.1 t || x) (none_else q left t patch (ap (patches.entry_at patch) here ∙ later)) ∙ or_false (left row.0 row.1 t)
    ∙ ap (λ p. left p row.1 t) (sym here) ∙ sym (ap (λ b. option_map_or (λ r. left q r t) (cond b (Some row.1) (patches.entry_at patch q)) false) same))
    (λ (other : same_path q row.0 ≡ false).
    ap (λ b. (b && left row.0 row.1 t) || list_any (λ r. same_path q r.0 && left r.0 r.1 t) patch) other ∙ more
    ∙ sym (ap (λ b. option_map_or (λ r. left q r t) (cond b (Some row.1) (patches.entry_at patch q)) false) other))
    (cases_Bool (same_path q row.0))

-- an entry that passes no test
row_fails : (q : List (List ℕ)) (test : List (List ℕ) → PatchNode → Bool) (patch : patches.PatchEntries) (row : PatchNode) → patches.entry_at patch q ≡ Some row → list_any (λ r. test r.0 r.1) patch ≡ false → test q row ≡ false
row_fails q test [] row is none = cc
row_fails q test (r ∷ patch) row is none =
    ⊎_elim
    (λ (same : same_path q r.0 ≡ true).
    let here : q ≡ r.0 = path_from_same q r.0 same in
    let found : Some r.1 ≡ Some row = sym (ap (λ b. cond b (Some r.1) (patches.entry_at patch q)) same) ∙ is in
    let one : r.1 ≡ row = cc in
    ap (λ p. test p row) here ∙ ap (test r.0) (sym one) ∙ or_first (test r.0 r.1) (list_any (λ x. test x.0 x.1) patch) none)
    (λ (other : same_path q r.0 ≡ false).
    row_fails q test patch row (sym (ap (λ b. cond b (Some r.1) (patches.entry_at patch q)) other) ∙ is) (or_second (test r.0 r.1) (list_any (λ x. test x.0 x.1) patch) none))
    (cases_Bool (same_path q r.0))

settled : (before : Bool) (left : PatchNode → Bool) (row : Option PatchNode) → ((before && is_none row) || option_map_or left row false) ≡ option_map_or left row before
settled true left None = refl
settled false left None = refl
settled true left (Some row) = refl
settled false left (Some row) = refl

unsettled : (before : Bool) (left : PatchNode → Bool) (row : Option PatchNode) → ((r : PatchNode) → row ≡ Some r → (before || left r) ≡ false) → before ≡ option_map_or left row before
unsettled before left None none = refl
unsettled before left (Some r) none = or_first before (left r) (none r refl) ∙ sym (or_second before (left r) (none r refl))

-- the claims after all entries
pub changed_by : (rows : ClaimRows) (patch : patches.PatchEntries) (before after : List (List ℕ) → List ℕ → Bool) (left : List (List ℕ) → PatchNode → List ℕ → Bool) (changed : ClaimRows) → AreClaims before rows → IsDistinct (eq_by_cmp by_path) (keys_of patch)
    → AreNoted rows patch before left patch changed → ((q : List (List ℕ)) (t : List ℕ) → after q t ≡ option_map_or (λ row. left q row t) (patches.entry_at patch q) (before q t)) → AreChanged before after changed
changed_by rows patch before after left changed claims once noted_all is t q =
    elim (lookup (bytes_eq t) changed) as (λ o. lookup (bytes_eq t) changed ≡ o → option_map_or (list_any (same_path q)) o (before q t) ≡ after q t) [
      | Some paths ↦ λ row.
          sym (ap (λ o. list_any (same_path q) (option_map_or (λ ps. ps) o (untouched_paths patch (claimants rows t)))) row) ∙ noted_all.claims t q
          ∙ ap (λ x. x || list_any (λ r. same_path q r.0 && left r.0 r.1 t) patch) (any_filter q (λ p. is_none (patches.entry_at patch p)) (claimants rows t) ∙ ap (λ x. x && is_none (patches.entry_at patch q)) (claims t q))
          ∙ ap (λ x. (before q t && is_none (patches.entry_at patch q)) || x) (any_left q left t patch once)
          ∙ settled (before q t) (λ r. left q r t) (patches.entry_at patch q) ∙ sym (is q t)
      | None ↦ λ row.
          unsettled (before q t) (λ r. left q r t) (patches.entry_at patch q)
          (λ r there. row_fails q (λ p x. before p t || left p x t) patch r there (sym (noted_all.has t) ∙ ap is_some row))
          ∙ sym (is q t)
    ] refl

-- ---- vanity paths

-- who claims a text without a row is in no entry of the patch
pub leaves_others : (rows : ClaimRows) (tree : Content) (patch : patches.PatchEntries) (changed : ClaimRows) → AreNoted rows patch (claims_vanity_path tree) left_vanity_path patch changed → LeavesOthers tree patch changed
leaves_others rows tree patch changed noted_all t q none claims =
    elim (patches.entry_at patch q) as (λ o. patches.entry_at patch q ≡ o → patches.left_by o (node_at tree q) ≡ node_at tree q) [
      | None ↦ λ is. refl
      | Some row ↦ λ is.
          absurd (true≢false (sym claims ∙ or_first (claims_vanity_path tree q t) (left_vanity_path q row t)
          (row_fails q (λ p r. claims_vanity_path tree p t || left_vanity_path p r t) patch row is (sym (noted_all.has t) ∙ ap is_some none))))
    ] refl

pub after_vanity_path : (tree : Content) (patch : patches.PatchEntries) (q : List (List ℕ)) (t : List ℕ) → patched_vanity_path tree patch q t ≡ option_map_or (λ row. left_vanity_path q row t) (patches.entry_at patch q) (claims_vanity_path tree q t)
unfolding claims_vanity_path
after_vanity_path tree patch q t =
    elim (patches.entry_at patch q) as (λ o. option_map_or (λ (n : Node). node_claims_vanity_path n t) (patches.left_by o (node_at tree q)) false ≡ option_map_or (λ row. left_vanity_path q row t) o (option_map_or (λ (n : Node). node_claims_vanity_path n t) (node_at tree q) false)) [
      | None ↦ refl
      | Some (patch_node.Node node) ↦ refl
      | Some patch_node.Gone ↦ refl
    ]

-- ---- a change over an index

over_any : (q : List (List ℕ)) (o : Option (List (List (List ℕ)))) (old : List (List (List ℕ))) → list_any (same_path q) (option_map_or (λ paths. paths) o old) ≡ option_map_or (list_any (same_path q)) o (list_any (same_path q) old)
over_any q None old = refl
over_any q (Some paths) old = refl

-- the claims with a change over them
pub claims_over : (before after : List (List ℕ) → List ℕ → Bool) (changed old new : ClaimRows) → AreClaims before old → AreChanged before after changed → ((t : List ℕ) → claimants new t ≡ claimants_over changed old t) → AreClaims after new
claims_over before after changed old new claims change is t q =
    ap (list_any (same_path q)) (is t) ∙ over_any q (lookup (bytes_eq t) changed) (claimants old t)
    ∙ ap (option_map_or (list_any (same_path q)) (lookup (bytes_eq t) changed)) (claims t q) ∙ change t q

pub claims_alike : (before after : List (List ℕ) → List ℕ → Bool) (rows : ClaimRows) → ((q : List (List ℕ)) (t : List ℕ) → before q t ≡ after q t) → AreClaims before rows → AreClaims after rows
claims_alike before after rows same claims t q = claims t q ∙ same q t

-- the claims of a tree that shows what a patch over another does
pub vanity_path_after : (tree after : Content) (patch : patches.PatchEntries) → ((q : List (List ℕ)) → node_at after q ≡ patches.patching_at tree patch q) → (q : List (List ℕ)) (t : List ℕ) → patched_vanity_path tree patch q t ≡ claims_vanity_path after q t
unfolding claims_vanity_path
vanity_path_after tree after patch shows q t = ap (λ o. option_map_or (λ (n : Node). node_claims_vanity_path n t) o false) (sym (shows q))

-- ---- the rows of a change, from the last

over_one : (b : Bool) (paths old : List (List (List ℕ))) → cond b paths old ≡ option_map_or (λ ps. ps) (cond b (Some paths) None) old
over_one true paths old = refl
over_one false paths old = refl

over_head : (b : Bool) (paths : List (List (List ℕ))) (o p : Option (List (List (List ℕ)))) (new old : List (List (List ℕ))) → option_map_or (λ ps. ps) o new ≡ option_map_or (λ ps. ps) p old
    → option_map_or (λ ps. ps) (cond b (Some paths) o) new ≡ option_map_or (λ ps. ps) (cond b (Some paths) p) old
over_head true paths o p new old is = refl
over_head false paths o p new old is = is

-- the last row over the claimants, and then the others
pub over_last : {K : Type 0} (f : K → List ℕ) (es : List (K × List (List (List ℕ)))) (key : K) (paths : List (List (List ℕ))) (old new : ClaimRows) → ((t : List ℕ) → claimants new t ≡ cond (bytes_eq (f key) t) paths (claimants old t)) → (t : List ℕ)
    → claimants_over (map (λ (e : K × List (List (List ℕ))). (f e.0, e.1)) es) new t ≡ claimants_over (map (λ (e : K × List (List (List ℕ))). (f e.0, e.1)) (es ++ (key, paths) ∷ [])) old t
over_last f [] key paths old new is t =
    is t ∙ ap (λ b. cond b paths (claimants old t)) (bytes_eq_swapped (f key) t) ∙ over_one (bytes_eq t (f key)) paths (claimants old t)
over_last f (e ∷ es) key paths old new is t =
    over_head (bytes_eq t (f e.0)) e.1 _ _ (claimants new t) (claimants old t) (over_last f es key paths old new is t)
