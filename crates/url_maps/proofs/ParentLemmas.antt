-- The nodes whose kids with an alias a patch changes, or the aliases of whose kids.
use Rattle.std.proofs.Common.{◌≡◌, ◌<◌, ◌≤◌, ◌+◌, ℕ, suc, Bool, true, false, cond, List, [], ◌∷◌, Option, Some, None, take, length, get_or, refl, sym, ◌∙◌, ap, subst, ⊎_elim, arith}
use Rattle.std.specs.Prelude.{◌||◌, ◌&&◌, ◌==◌, not, option_map, slice_get}
use Rattle.std.specs.List.{list_any}
use Rattle.std.specs.Option.{option_map_or}
use Rattle.std.specs.Str.{bytes_eq}
use Rattle.std.proofs.lemmas.Bool.{cases_Bool, true≢false, cases_lt, or_left}
use Rattle.std.proofs.lemmas.List.Folds.{list_any_more}
use Rattle.std.proofs.lemmas.Option.{same_Some, slice_get_within}
use Rattle.sp_base.specs.Paths.{is_path, parent_of, text_of}
use Rattle.sp_base.proofs.BoolLemmas.{or_first}
use Rattle.resource_tree.specs.declared.nodes.Node.{Node}
use Rattle.resource_tree.specs.declared.patch.PatchNode.{PatchNode}
use Rattle.resource_tree.specs.declared.patch.PatchNode.TheVariants as patch_node
use Rattle.resource_tree.specs.Content.{Content, kid, node_at, same_path}
use Rattle.resource_tree.specs.Patches as patches
use Rattle.resource_tree.proofs.PathLemmas.{parent_of-kid, path_from_same, same_path_self}
use Rattle.resource_tree.proofs.SamePaths.{same_path_swapped}
use Rattle.url_maps.specs.Claims.{ClaimRows, claims_by, kids_by, node_claims_alias, spells_alias}
use Rattle.url_maps.specs.Noting.{has_row}
use Rattle.url_maps.specs.Siblings.{IsSettled, IsWithin, KeepsOthers, alias_words, kids_if, aliased_kids}
use Rattle.url_maps.proofs.AliasLemmas.{find_alike}
use Rattle.url_maps.proofs.NamedLemmas.{first_in_named, words_claim}
use Rattle.url_maps.proofs.PathLemmas.{IsReadBack, texts_and_paths}

-- ---- the entries of a patch

record At (patch : patches.PatchEntries) (q : List (List ℕ)) (row : PatchNode) : Type 0 where
  pub place : ℕ
  pub is : slice_get patch place ≡ Some (q, row)

row_place : (patch : patches.PatchEntries) (q : List (List ℕ)) (row : PatchNode) → patches.entry_at patch q ≡ Some row → At patch q row
row_place [] q row is = cc
row_place ((p, r) ∷ patch) q row is =
    ⊎_elim
    (λ (same : same_path q p ≡ true).
    let found : Some r ≡ Some row = sym (ap (λ b. cond b (Some r) (patches.entry_at patch q)) same) ∙ is in
    let one : r ≡ row = cc in
    record { place = 0; is = ap (λ x. Some (x, r)) (sym (path_from_same q p same)) ∙ ap (λ x. Some (q, x)) one })
    (λ (other : same_path q p ≡ false).
    let rest = row_place patch q row (sym (ap (λ b. cond b (Some r) (patches.entry_at patch q)) other) ∙ is) in
    record { place = suc rest.place; is = rest.is })
    (cases_Bool (same_path q p))

-- each of the first entries is settled
abbrev pub AreSettled : Content → patches.PatchEntries → ℕ → List (List (List ℕ)) → Type 0
AreSettled tree patch n parents = (k : ℕ) (path : List (List ℕ)) (row : PatchNode) → k < n → slice_get patch k ≡ Some (path, row) → IsSettled tree path row parents

was_not : (a b : Bool) → (a ≡ true → b ≡ true) → b ≡ false → a ≡ false
was_not true b h e = absurd (true≢false (sym (h refl) ∙ e))
was_not false b h e = refl

settled_on : (tree : Content) (path : List (List ℕ)) (row : PatchNode) (old new : List (List (List ℕ))) → IsWithin old new → IsSettled tree path row old → IsSettled tree path row new
settled_on tree path row old new within is = record {
  kids = λ e. is.kids (was_not (list_any (same_path path) old) (list_any (same_path path) new) (within path) e);
  aliases = λ e. is.aliases (was_not (list_any (same_path (parent_of path)) old) (list_any (same_path (parent_of path)) new) (within (parent_of path)) e);
}

pub settled_more : (tree : Content) (patch : patches.PatchEntries) (i : ℕ) (path : List (List ℕ)) (row : PatchNode) (old new : List (List (List ℕ))) → slice_get patch i ≡ Some (path, row)
    → AreSettled tree patch i old → IsWithin old new → IsSettled tree path row new → AreSettled tree patch (i + 1) new
settled_more tree patch i path row old new here so_far within one k q r below there =
    ⊎_elim
    (λ (less : k < i). settled_on tree q r old new within (so_far k q r less there))
    (λ (not_less : i ≤ k).
    let at : k ≡ i = omega (arith, below, not_less) in
    let same = same_Some {A = List (List ℕ) × PatchNode} (path, row) (q, r) (sym here ∙ sym (ap (slice_get patch) at) ∙ there) in
    subst (λ (x : List (List ℕ) × PatchNode). IsSettled tree x.0 x.1 new) same one)
    (cases_lt k i)

pub left_of : (row : PatchNode) (old : Option Node) → patches.left_by (Some row) old ≡ patches.left_by (Some row) None
left_of (patch_node.Node node) old = refl
left_of patch_node.Gone old = refl

-- where each entry is settled, the other nodes keep what their kids claim
pub keeps_others : (tree : Content) (patch : patches.PatchEntries) (n : ℕ) (parents : List (List (List ℕ))) → length patch ≤ n → AreSettled tree patch n parents → KeepsOthers tree patch parents
keeps_others tree patch n parents end settled p t other =
    let settled_at : (q : List (List ℕ)) (row : PatchNode) → patches.entry_at patch q ≡ Some row → IsSettled tree q row parents = λ q row is.
    let at = row_place patch q row is in
    let within = slice_get_within patch at.place (q, row) at.is in
    settled at.place q row (omega (arith, within, end)) at.is in
    let kids : aliased_kids tree p (kids_by (node_at tree) p) ≡ aliased_kids tree p (kids_by (patches.patching_at tree patch) p) =
    elim (patches.entry_at patch p) as (λ o. patches.entry_at patch p ≡ o → aliased_kids tree p (kids_if (node_at tree p)) ≡ aliased_kids tree p (kids_if (patches.left_by o (node_at tree p)))) [
      | None ↦ λ is. refl
      | Some row ↦ λ is. (settled_at p row is).kids other ∙ ap (λ o. aliased_kids tree p (kids_if o)) (sym (left_of row (node_at tree p)))
    ] refl in
    let claims : (name : List ℕ) → claims_by (node_at tree) (kid p name) t ≡ claims_by (patches.patching_at tree patch) (kid p name) t = λ name.
    elim (patches.entry_at patch (kid p name)) as (λ o. patches.entry_at patch (kid p name) ≡ o
    → (is_path (kid p name) && option_map_or (λ (node : Node). node_claims_alias (kid p name) node t) (node_at tree (kid p name)) false) ≡ (is_path (kid p name) && option_map_or (λ (node : Node). node_claims_alias (kid p name) node t) (patches.left_by o (node_at tree (kid p name))) false)) [
      | None ↦ λ is. refl
      | Some row ↦ λ is.
          let words = (settled_at (kid p name) row is).aliases (ap (λ r. list_any (same_path r) parents) (parent_of-kid p name) ∙ other) ∙ ap alias_words (sym (left_of row (node_at tree (kid p name)))) in
          ap (λ b. is_path (kid p name) && b)
          (words_claim (kid p name) t (node_at tree (kid p name)) ∙ ap (λ ws. not (length (kid p name) == 0) && list_any (spells_alias (kid p name) t) ws) words
          ∙ sym (words_claim (kid p name) t (patches.left_by (Some row) (node_at tree (kid p name)))))
    ] refl in
    ap (option_map (kid p)) (first_in_named tree p t (kids_by (node_at tree) p) (kids_by (patches.patching_at tree patch) p) kids)
    ∙ ap (option_map (kid p)) (find_alike (λ name. claims_by (node_at tree) (kid p name) t) (λ name. claims_by (patches.patching_at tree patch) (kid p name) t) claims (kids_by (patches.patching_at tree patch) p))

pub others_alike : (tree : Content) (patch : patches.PatchEntries) (parents same : List (List (List ℕ))) → ((q : List (List ℕ)) → list_any (same_path q) same ≡ list_any (same_path q) parents) → KeepsOthers tree patch parents → KeepsOthers tree patch same
others_alike tree patch parents same alike keeps p t other = keeps p t (sym (alike p) ∙ other)

-- ---- one entry

-- two paths, each pushed unless it is known
pub pushed_within : (old mid new : List (List (List ℕ))) (a b : List (List ℕ) → Bool) → ((q : List (List ℕ)) → list_any (same_path q) mid ≡ (list_any (same_path q) old || a q)) → ((q : List (List ℕ)) → list_any (same_path q) new ≡ (list_any (same_path q) mid || b q)) → IsWithin old new
pushed_within old mid new a b first last q had =
    last q ∙ or_left (list_any (same_path q) mid) (b q) (first q ∙ or_left (list_any (same_path q) old) (a q) had)

unpushed : (had known same : Bool) → same ≡ true → (had || (not known && same)) ≡ false → known ≡ true
unpushed had true same is e = refl
unpushed true false same is e = absurd (true≢false e)
unpushed false false same is e = absurd (true≢false (sym is ∙ e))

pub settled_row : (tree : Content) (path : List (List ℕ)) (row : PatchNode) (kids_stay aliases_stay : Bool) (old mid new : List (List (List ℕ)))
    → (kids_stay ≡ true → aliased_kids tree path (kids_if (node_at tree path)) ≡ aliased_kids tree path (kids_if (patches.left_by (Some row) None))) → (aliases_stay ≡ true → alias_words (node_at tree path) ≡ alias_words (patches.left_by (Some row) None))
    → ((q : List (List ℕ)) → list_any (same_path q) mid ≡ (list_any (same_path q) old || (not kids_stay && same_path q path)))
    → ((q : List (List ℕ)) → list_any (same_path q) new ≡ (list_any (same_path q) mid || (not aliases_stay && same_path q (parent_of path)))) → IsSettled tree path row new
settled_row tree path row kids_stay aliases_stay old mid new kids aliases first last = record {
  kids = λ e. kids (unpushed (list_any (same_path path) old) kids_stay (same_path path path) (same_path_self path)
      (sym (first path) ∙ or_first (list_any (same_path path) mid) (not aliases_stay && same_path path (parent_of path)) (sym (last path) ∙ e)));
  aliases = λ e. aliases (unpushed (list_any (same_path (parent_of path)) mid) aliases_stay (same_path (parent_of path) (parent_of path)) (same_path_self (parent_of path)) (sym (last (parent_of path)) ∙ e));
}

-- ---- each once

-- the list has the first paths, and so have the rows their texts
pub record AreOnce (paths list : List (List (List ℕ))) (known : ClaimRows) : Type 0 where
  pub listed : (q : List (List ℕ)) → list_any (same_path q) list ≡ list_any (same_path q) paths
  pub noted : (q : List (List ℕ)) → is_path q ≡ true → has_row known (text_of q) ≡ list_any (same_path q) paths

pub once_none : (list : List (List (List ℕ))) (known : ClaimRows) → list ≡ [] → known ≡ [] → AreOnce [] list known
once_none list known empty none = record { listed = λ q. ap (list_any (same_path q)) empty; noted = λ q valid. ap (λ rows. has_row rows (text_of q)) none }

push_known : (had known same : Bool) → (same ≡ true → known ≡ had) → (had || (not known && same)) ≡ (had || same)
push_known true known same is = refl
push_known false true true is = absurd (true≢false (is refl))
push_known false true false is = refl
push_known false false same is = refl

pub once_more : IsReadBack → (paths : List (List (List ℕ))) (i : ℕ) (path : List (List ℕ)) (is_known : Bool) (list more : List (List (List ℕ))) (known after : ClaimRows) → i < length paths → path ≡ get_or paths i path → is_path path ≡ true
    → AreOnce (take i paths) list known → is_known ≡ has_row known (text_of path) → ((t : List ℕ) → has_row after t ≡ (has_row known t || bytes_eq (text_of path) t))
    → ((q : List (List ℕ)) → list_any (same_path q) more ≡ (list_any (same_path q) list || (not is_known && same_path q path))) → AreOnce (take (i + 1) paths) more after
once_more read paths i path is_known list more known after within item valid so_far is grows pushed = record {
  listed = λ q.
      pushed q
      ∙ push_known (list_any (same_path q) list) is_known (same_path q path)
      (λ same. is ∙ so_far.noted path valid ∙ sym (so_far.listed path) ∙ ap (λ r. list_any (same_path r) list) (sym (path_from_same q path same)))
      ∙ ap (λ b. b || same_path q path) (so_far.listed q)
      ∙ ap (λ x. list_any (same_path q) (take i paths) || same_path q x) item ∙ sym (list_any_more (same_path q) paths i path within);
  noted = λ q q_valid.
      grows (text_of q) ∙ ap (λ b. b || bytes_eq (text_of path) (text_of q)) (so_far.noted q q_valid)
      ∙ ap (λ b. list_any (same_path q) (take i paths) || b) (texts_and_paths read path q valid q_valid ∙ same_path_swapped path q)
      ∙ ap (λ x. list_any (same_path q) (take i paths) || same_path q x) item ∙ sym (list_any_more (same_path q) paths i path within);
}
