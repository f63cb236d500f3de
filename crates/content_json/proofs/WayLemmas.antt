-- Where a way leads, and which node stands there.
use Rattle.std.proofs.Common.{◌≡◌, ℕ, Bool, true, false, cond, ◌&&◌, ⊎_elim, List, [], ◌∷◌, ◌++◌, length, length-append, Option, Some, None, if◌then◌else◌, refl, sym, ap, ◌∙◌, subst, arith, append_assoc, append-nil}
use Rattle.std.specs.Prelude.{option_and_then}
use Rattle.std.specs.Cmp.Lexicographic.{same_text}
use Rattle.std.specs.FinMap.Entries.{is_sorted, below_all}
use Rattle.std.specs.Option.{option_or}
use Rattle.std.specs.Str.{bytes_eq}
use Rattle.std.proofs.lemmas.Bool.{cases_Bool}
use Rattle.std.proofs.lemmas.Option.{same_Some}
use Rattle.serde_json.specs.Data.{Data, null, boolean, number, string, array, object, Members, no_members, member}
use Rattle.serde_json.specs.Find.{get, get_member}
use Rattle.sp_base.specs.Names.{by_name}
use Rattle.sp_base.proofs.BoolLemmas.{T_first, T_second}
use Rattle.sp_base.proofs.TextLemmas.{bytes_eq_swapped}
use Rattle.resource_tree.specs.Content.{node_at, same_path, kid}
use Rattle.resource_tree.proofs.PathLemmas.{same_path_apart, same_path_self}
use Rattle.content_json.specs.Names.{is_order}
use Rattle.content_json.specs.Nodes.{node_of_members, nodes_in, nodes_below}
use Rattle.content_json.specs.Steps.{is_at_or_below}
use Rattle.content_json.specs.Ways.{way_end, node_of_value}
use Rattle.content_json.proofs.Under.{bytes_eq_itself}
use Rattle.content_json.proofs.NodeLemmas.{node_at-append, none_unless, none_in}
use Rattle.content_json.specs.Members.{AreSorted, entries_of}
use Rattle.content_json.proofs.InsertLemmas.{get-member}
use Rattle.content_json.proofs.ReturnMembers.{option_or-none}
use Rattle.content_json.proofs.ReturnNodes.{get_below}
use Rattle.content_json.proofs.InOrder.{IsInOrder, AreInOrder}

-- ---- ways of several steps

no_step : (b : Bool) (way : List (List ℕ)) → (if b then None else option_and_then (way_end way) None) ≡ None
no_step true way = refl
no_step false way = refl

and_then_at : (way : List (List ℕ)) (name : List ℕ) (o : Option Data) → ((d : Data) → way_end (way ++ name ∷ []) d ≡ option_and_then (way_end (name ∷ [])) (way_end way d))
    → option_and_then (way_end (way ++ name ∷ [])) o ≡ option_and_then (way_end (name ∷ [])) (option_and_then (way_end way) o)
and_then_at way name None h = refl
and_then_at way name (Some d) h = h d

-- one more step
pub value_at-kid : (way : List (List ℕ)) (name : List ℕ) (d : Data) → way_end (kid way name) d ≡ option_and_then (way_end (name ∷ [])) (way_end way d)
value_at-kid [] name d = refl
value_at-kid (s ∷ way) name d =
    elim (is_order s) as (λ t. (if t then None else option_and_then (way_end (way ++ name ∷ [])) (get s d)) ≡ option_and_then (way_end (name ∷ [])) (if t then None else option_and_then (way_end way) (get s d))) [
      | true ↦ refl
      | false ↦ and_then_at way name (get s d) (λ e. value_at-kid way name e)
    ]

-- ---- nodes at ways

longer : (path : List (List ℕ)) (name : List ℕ) (way : List (List ℕ)) → same_path (path ++ name ∷ way) path ≡ false
longer path name way = same_path_apart (path ++ name ∷ way) path (λ e. let size = ap length e in omega (arith, length-append path (name ∷ way), size))

is_at_or_below_other : (path : List (List ℕ)) (k name : List ℕ) (way : List (List ℕ)) → is_at_or_below (kid path k) (path ++ name ∷ way) ≡ (bytes_eq k name && true)
is_at_or_below_other [] k name way = refl
is_at_or_below_other (s ∷ path) k name way = rw (bytes_eq_itself s) (is_at_or_below_other path k name way)

none_and : (a : Bool) → a ≡ false → (a && true) ≡ false
none_and a e = rw e refl

mutual
  pub node_at_way : (path way : List (List ℕ)) (d : Data) → IsInOrder d → node_at (nodes_in path d) (path ++ way) ≡ option_and_then node_of_value (way_end way d)
  node_at_way path [] null h = refl
  node_at_way path [] (boolean b) h = refl
  node_at_way path [] (number n) h = refl
  node_at_way path [] (string s) h = refl
  node_at_way path [] (array ds) h = refl
  node_at_way path [] (object ms) h = ap (λ p. cond (same_path p path) (Some (node_of_members ms)) (node_at (nodes_below path ms) p)) (append-nil path) ∙ rw (same_path_self path) refl
  node_at_way path (name ∷ way) null h = sym (ap (option_and_then node_of_value) (no_step (is_order name) way))
  node_at_way path (name ∷ way) (boolean b) h = sym (ap (option_and_then node_of_value) (no_step (is_order name) way))
  node_at_way path (name ∷ way) (number n) h = sym (ap (option_and_then node_of_value) (no_step (is_order name) way))
  node_at_way path (name ∷ way) (string s) h = sym (ap (option_and_then node_of_value) (no_step (is_order name) way))
  node_at_way path (name ∷ way) (array ds) h = sym (ap (option_and_then node_of_value) (no_step (is_order name) way))
  node_at_way path (name ∷ way) (object ms) h = rw (longer path name way) (node_below_way path name way ms h.0 h.1)

  pub node_below_way : (path : List (List ℕ)) (name : List ℕ) (way : List (List ℕ)) (ms : Members) → AreSorted ms → AreInOrder ms
      → node_at (nodes_below path ms) (path ++ name ∷ way) ≡ option_and_then node_of_value (if is_order name then None else option_and_then (way_end way) (get_member name ms))
  node_below_way path name way no_members s h = sym (ap (option_and_then node_of_value) (no_step (is_order name) way))
  node_below_way path name way (member k d ms) s h =
      let q = path ++ name ∷ way in
      let later = node_below_way path name way ms (T_second (below_all by_name k (entries_of ms)) (is_sorted by_name (entries_of ms)) s) h.1 in
      let found = λ (o : Option Data). option_and_then node_of_value (if is_order name then None else option_and_then (way_end way) o) in
      let here = λ (n : List ℕ). node_at (if is_order n then [] else nodes_in (kid path n) d) q in
      let got = λ (t : Bool) (e : bytes_eq name k ≡ t). get-member name k d ms ∙ ap (λ b. cond b (Some d) (get_member name ms)) e in
      let own : here name ≡ found (Some d) = elim (is_order name) as (λ t. node_at (if t then [] else nodes_in (kid path name) d) q ≡ option_and_then node_of_value (if t then None else way_end way d)) [
        | true ↦ refl
        | false ↦ ap (node_at (nodes_in (kid path name) d)) (sym (append_assoc path (name ∷ []) way)) ∙ node_at_way (kid path name) way d h.0
      ] in
      node_at-append (if is_order k then [] else nodes_in (kid path k) d) (nodes_below path ms) q
      ∙ ⊎_elim
      (λ e.
      let same : name ≡ k = same_text name k (sym e) in
      let none : get_member name ms ≡ None = ap (λ n. get_member n ms) same ∙ get_below k ms (T_first (below_all by_name k (entries_of ms)) (is_sorted by_name (entries_of ms)) s) in
      ap (option_or (here k)) (later ∙ ap found none ∙ ap (option_and_then node_of_value) (no_step (is_order name) way)) ∙ option_or-none (here k)
      ∙ ap here (sym same) ∙ own ∙ ap found (sym (got true e)))
      (λ e.
      let apart : bytes_eq k name ≡ false = bytes_eq_swapped k name ∙ e in
      ap (λ o. option_or o (node_at (nodes_below path ms) q)) (none_unless (is_order k) (nodes_in (kid path k) d) q (none_in (kid path k) q d (is_at_or_below_other path k name way ∙ none_and (bytes_eq k name) apart)))
      ∙ later ∙ ap found (sym (got false e)))
      (cases_Bool (bytes_eq name k))

-- ---- what lies on a way is in order

nothing_found : {A : Type 0} (x : Data) → None ≡ Some x → A
nothing_found x e = absurd (cc)

member_in_order : (name : List ℕ) (ms : Members) (x : Data) → AreInOrder ms → get_member name ms ≡ Some x → IsInOrder x
member_in_order name no_members x h is = nothing_found x is
member_in_order name (member k d ms) x h is =
    let got = λ (t : Bool) (e : bytes_eq name k ≡ t). sym (ap (λ b. cond b (Some d) (get_member name ms)) e) ∙ sym (get-member name k d ms) ∙ is in
    ⊎_elim (λ e. subst IsInOrder (same_Some d x (got true e)) h.0) (λ e. member_in_order name ms x h.1 (got false e)) (cases_Bool (bytes_eq name k))

step_in_order : (name : List ℕ) (d x : Data) → IsInOrder d → get name d ≡ Some x → IsInOrder x
step_in_order name null x h is = nothing_found x is
step_in_order name (boolean b) x h is = nothing_found x is
step_in_order name (number n) x h is = nothing_found x is
step_in_order name (string s) x h is = nothing_found x is
step_in_order name (array ds) x h is = nothing_found x is
step_in_order name (object ms) x h is = member_in_order name ms x h.1 is

pub in_order_at : (way : List (List ℕ)) (d e : Data) → IsInOrder d → way_end way d ≡ Some e → IsInOrder e
in_order_at [] d e h is = subst IsInOrder (same_Some d e is) h
in_order_at (name ∷ way) d e h is =
    elim (is_order name) as (λ t. (if t then None else option_and_then (way_end way) (get name d)) ≡ Some e → IsInOrder e) [
      | true ↦ λ g. nothing_found e g
      | false ↦ λ g. elim (get name d) as (λ o. get name d ≡ o → option_and_then (way_end way) o ≡ Some e → IsInOrder e) [
        | None ↦ λ _ none. nothing_found e none
        | Some x ↦ λ at more. in_order_at way x e (step_in_order name d x h at) more
      ] refl g
    ] is
