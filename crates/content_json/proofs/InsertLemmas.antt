-- Members that are inserted one after another.
use Rattle.std.proofs.Common.{◌≡◌, ℕ, cond, T, ⊎_elim, List, [], ◌∷◌, Some, refl, sym, ap, ◌∙◌, subst}
use Rattle.std.specs.Cmp.{tied_itself}
use Rattle.std.specs.Cmp.Lexicographic.{nat_list_cmp_total, same_text}
use Rattle.std.specs.FinMap.Entries as entries
use Rattle.std.specs.FinMap.Entries.{by_order, find, is_sorted, is_sorted-put, find-put}
use Rattle.std.specs.List.{AllByRecursion}
use Rattle.std.specs.Ordering.{match_ordering, is_eq, eq_by_cmp}
use Rattle.std.specs.declared.cmp.Ordering.TheVariants.{Less, Equal, Greater}
use Rattle.std.specs.Str.{bytes_eq}
use Rattle.std.proofs.lemmas.Bool.{cases_Bool, true≢false}
use Rattle.serde_json.specs.Data.{Data, Members, no_members, member, put}
use Rattle.serde_json.specs.Find.{get_member}
use Rattle.sp_base.specs.Names.{by_name}
use Rattle.sp_base.proofs.OrderingLemmas.{equal_from_test}
use Rattle.sp_base.proofs.PropertyLemmas.{same_name}
use Rattle.content_json.specs.Members.{entries_of, AreSorted, AllMembers}
use Rattle.content_json.proofs.Under.{bytes_eq_itself}

pub tie_is : (q k : List ℕ) → eq_by_cmp by_name q k ≡ bytes_eq q k
tie_is q k =
    ⊎_elim
    (λ e. e ∙ sym (ap (bytes_eq q) (sym (same_name q k (equal_from_test (by_name q k) e))) ∙ bytes_eq_itself q))
    (λ e. e ∙ sym (⊎_elim (λ h. absurd (true≢false (sym (ap is_eq (tied_itself nat_list_cmp_total q)) ∙ ap (λ n. is_eq (by_name q n)) (same_text q k (sym h)) ∙ e))) (λ h. h) (cases_Bool (bytes_eq q k))))
    (cases_Bool (eq_by_cmp by_name q k))

-- ---- the members as entries

entries_of-put : (k : List ℕ) (d : Data) (ms : Members) → entries_of (put k d ms) ≡ entries.put by_name k d (entries_of ms)
entries_of-put k d no_members = refl
entries_of-put k d (member l e ms) =
    elim (by_name k l) as (λ o. entries_of (match_ordering o (member k d (member l e ms)) (member l d ms) (member l e (put k d ms)))
    ≡ by_order o ((k, d) ∷ (l, e) ∷ entries_of ms) ((l, d) ∷ entries_of ms) ((l, e) ∷ entries.put by_name k d (entries_of ms))) [
      | Less ↦ refl
      | Equal ↦ refl
      | Greater ↦ ap (λ es. (l, e) ∷ es) (entries_of-put k d ms)
    ]

get_is_find : (q : List ℕ) (ms : Members) → get_member q ms ≡ find by_name q (entries_of ms)
get_is_find q no_members = refl
get_is_find q (member l e ms) =
    elim (by_name q l) as (λ o. match_ordering o (get_member q ms) (Some e) (get_member q ms) ≡ cond (is_eq o) (Some e) (find by_name q (entries_of ms))) [
      | Less ↦ get_is_find q ms
      | Equal ↦ refl
      | Greater ↦ get_is_find q ms
    ]

pub get-put : (q k : List ℕ) (d : Data) (ms : Members) → get_member q (put k d ms) ≡ cond (bytes_eq q k) (Some d) (get_member q ms)
get-put q k d ms =
    get_is_find q (put k d ms) ∙ ap (find by_name q) (entries_of-put k d ms) ∙ find-put by_name nat_list_cmp_total q k d (entries_of ms)
    ∙ ap (cond (eq_by_cmp by_name q k) (Some d)) (sym (get_is_find q ms)) ∙ ap (λ t. cond t (Some d) (get_member q ms)) (tie_is q k)

pub get-member : (q k : List ℕ) (d : Data) (ms : Members) → get_member q (member k d ms) ≡ cond (bytes_eq q k) (Some d) (get_member q ms)
get-member q k d ms =
    get_is_find q (member k d ms) ∙ ap (cond (eq_by_cmp by_name q k) (Some d)) (sym (get_is_find q ms)) ∙ ap (λ t. cond t (Some d) (get_member q ms)) (tie_is q k)

pub sorted-put : (k : List ℕ) (d : Data) (ms : Members) → AreSorted ms → AreSorted (put k d ms)
sorted-put k d ms h = subst (λ es. T (is_sorted by_name es)) (sym (entries_of-put k d ms)) (is_sorted-put by_name nat_list_cmp_total k d (entries_of ms) h)

-- ---- what holds of each member

pub all-put : (P : List ℕ → Data → Type 0) (k : List ℕ) (d : Data) (ms : Members) → P k d → AllMembers P ms → AllMembers P (put k d ms)
all-put P k d no_members p h = (p, tt)
all-put P k d (member l e ms) p h =
    elim (by_name k l) as (λ o. by_name k l ≡ o → AllMembers P (match_ordering o (member k d (member l e ms)) (member l d ms) (member l e (put k d ms)))) [
      | Less ↦ λ _. (p, h)
      | Equal ↦ λ tie. (subst (λ (n : List ℕ). P n d) (same_name k l tie) p, h.1)
      | Greater ↦ λ _. (h.0, all-put P k d ms p h.1)
    ] refl

-- ---- entries that are inserted, each in its turn

abbrev pub insert_all : List (List ℕ × Data) → Members → Members
insert_all [] ms = ms
insert_all (e ∷ es) ms = insert_all es (put e.0 e.1 ms)

pub sorted-insert_all : (es : List (List ℕ × Data)) (ms : Members) → AreSorted ms → AreSorted (insert_all es ms)
sorted-insert_all [] ms h = h
sorted-insert_all (e ∷ es) ms h = sorted-insert_all es (put e.0 e.1 ms) (sorted-put e.0 e.1 ms h)

pub all-insert_all : (P : List ℕ → Data → Type 0) (es : List (List ℕ × Data)) (ms : Members) → AllByRecursion (λ e. P e.0 e.1) es → AllMembers P ms → AllMembers P (insert_all es ms)
all-insert_all P [] ms p h = h
all-insert_all P (e ∷ es) ms p h = all-insert_all P es (put e.0 e.1 ms) p.1 (all-put P e.0 e.1 ms p.0 h)
