-- The entries of a set of names as a finite map: what a look-up, an insertion and a removal make of them.
use Rattle.std.proofs.Common.{◌≡◌, ℕ, zero, suc, Bool, true, false, List, [], ◌∷◌, Some, None, refl, sym, ◌∙◌, ap, subst, arith}
use Rattle.std.proofs.Common.{cond}
use Rattle.std.proofs.lemmas.Bool.{true≢false}
use Rattle.std.specs.Prelude.{string_bytes, string_cmp}
use Rattle.std.specs.Cmp.{eq_by_cmp_equiv}
use Rattle.std.specs.List.{All, AllByRecursion}
use Rattle.std.specs.Option.{is_some}
use Rattle.std.specs.List.Sorted.{IsStrictlySortedBy}
use Rattle.std.proofs.lemmas.Map.{lookup-remove_entry}
use Rattle.std.proofs.lemmas.Map.Keys.{IsDistinct-from_sorted}
use Rattle.std.specs.BTreeMap.{insert_entry, is_at}
use Rattle.std.specs.Map.{lookup, remove_entry, keys_of}
use Rattle.std.specs.Ordering.{eq_by_cmp, match_ordering, nat_cmp}
use Rattle.std.specs.Cmp.Lexicographic.{slice_cmp, nat_list_cmp_total}
use Rattle.std.specs.FinMap.{get, insert, remove, get-insert, get-remove, get-from_entries, same_map, slice_cmp-IsAntisymmetric, nat_cmp-IsAntisymmetric, IsAntisymmetric}
use Rattle.std.specs.FinMap.Entries.{find, put, find-put, by_order}
use Rattle.std.specs.declared.cmp.Ordering.TheVariants.{Less, Equal, Greater}
use Rattle.std.specs.declared.string.String.{String}
use Rattle.std.specs.declared.alloc.Global.{Global}
use Rattle.sp_base.specs.Names.{by_name}
use Rattle.sp_base.proofs.OrderingLemmas.{equal_from_test}
use Rattle.sp_outside.specs.Files.{IsName}
use Rattle.sp_outside.specs.NameEntries.{NameEntries, entries_by_bytes, kept_by_name}

pub same_name : IsAntisymmetric by_name
same_name = slice_cmp-IsAntisymmetric nat_cmp-IsAntisymmetric

found : {X : Type 0} (name : List ℕ) (held : NameEntries X) → lookup (is_at (λ (k : String Global). slice_cmp nat_cmp name (string_bytes k))) held ≡ find by_name name (entries_by_bytes held)
found name [] = refl
found name (e ∷ held) = ap (cond (eq_by_cmp by_name name (string_bytes e.0)) (Some e.1)) (found name held)

-- a look-up in the map is one in its entries
pub held_at : {X : Type 0} (name : List ℕ) (held : NameEntries X) → lookup (is_at (λ (k : String Global). slice_cmp nat_cmp name (string_bytes k))) held ≡ get (kept_by_name held) name
held_at name held = found name held ∙ sym (get-from_entries nat_list_cmp_total (entries_by_bytes held) name)

named_insert : {X : Type 0} (key : String Global) (kept : X) (held : NameEntries X) → entries_by_bytes (insert_entry string_cmp held key kept) ≡ put by_name (string_bytes key) kept (entries_by_bytes held)
named_insert key kept [] = refl
named_insert key kept (e ∷ held) =
    elim (string_cmp key e.0) as (λ o. entries_by_bytes (match_ordering o ((key, kept) ∷ e ∷ held) ((e.0, kept) ∷ held) (e ∷ insert_entry string_cmp held key kept))
    ≡ by_order o ((string_bytes key, kept) ∷ entries_by_bytes (e ∷ held)) ((string_bytes e.0, kept) ∷ entries_by_bytes held) ((string_bytes e.0, e.1) ∷ put by_name (string_bytes key) kept (entries_by_bytes held))) [
      | Less ↦ refl
      | Equal ↦ refl
      | Greater ↦ ap (λ rest. (string_bytes e.0, e.1) ∷ rest) (named_insert key kept held)
    ]

-- an insertion at a name is one in the map
pub held_with : {X : Type 0} (key : String Global) (kept : X) (held : NameEntries X) → kept_by_name (insert_entry string_cmp held key kept) ≡ insert (kept_by_name held) (string_bytes key) kept
held_with key kept held = same_map nat_list_cmp_total same_name _ _ (λ q.
    get-from_entries nat_list_cmp_total (entries_by_bytes (insert_entry string_cmp held key kept)) q
    ∙ ap (find by_name q) (named_insert key kept held)
    ∙ find-put by_name nat_list_cmp_total q (string_bytes key) kept (entries_by_bytes held)
    ∙ ap (cond (eq_by_cmp by_name q (string_bytes key)) (Some kept)) (sym (get-from_entries nat_list_cmp_total (entries_by_bytes held) q))
    ∙ sym (get-insert nat_list_cmp_total (kept_by_name held) (string_bytes key) kept q))

find_is : {X : Type 0} (name : List ℕ) (es : List (List ℕ × X)) → find by_name name es ≡ lookup (eq_by_cmp by_name name) es
find_is name [] = refl
find_is name (e ∷ es) = ap (cond (eq_by_cmp by_name name e.0) (Some e.1)) (find_is name es)

abbrev pub is_key : List ℕ → String Global → Bool
is_key name = is_at (λ key. slice_cmp nat_cmp name (string_bytes key))

named_without : {X : Type 0} (name : List ℕ) (held : NameEntries X) → entries_by_bytes (remove_entry (is_key name) held) ≡ remove_entry (eq_by_cmp by_name name) (entries_by_bytes held)
named_without name [] = refl
named_without name (e ∷ held) =
    elim (is_key name e.0) as (λ b. entries_by_bytes (cond b held (e ∷ remove_entry (is_key name) held))
    ≡ cond b (entries_by_bytes held) ((string_bytes e.0, e.1) ∷ remove_entry (eq_by_cmp by_name name) (entries_by_bytes held))) [
      | true ↦ refl
      | false ↦ ap (λ rest. (string_bytes e.0, e.1) ∷ rest) (named_without name held)
    ]

above : {X : Type 0} (key : String Global) (held : NameEntries X) → AllByRecursion (λ other. string_cmp key other ≡ Less) (keys_of held)
    → AllByRecursion (λ other. by_name (string_bytes key) other ≡ Less) (keys_of (entries_by_bytes held))
above key [] h = h
above key (e ∷ held) h = (h.0, above key held h.1)

pub names_rise : {X : Type 0} (held : NameEntries X) → IsStrictlySortedBy string_cmp (keys_of held) → IsStrictlySortedBy by_name (keys_of (entries_by_bytes held))
unfolding IsStrictlySortedBy
names_rise [] h = h
names_rise (e ∷ held) h = (above e.0 held h.0, names_rise held h.1)

one_name : (name x y : List ℕ) → eq_by_cmp by_name name x ≡ true → eq_by_cmp by_name name y ≡ eq_by_cmp by_name x y
one_name name x y e = ap (λ n. eq_by_cmp by_name n y) (same_name name x (equal_from_test (by_name name x) e))

-- a removal at a name is one in the map
pub held_without : {X : Type 0} (name : List ℕ) (held : NameEntries X) → IsStrictlySortedBy string_cmp (keys_of held)
    → kept_by_name (remove_entry (is_key name) held) ≡ remove (kept_by_name held) name
held_without name held rising = same_map nat_list_cmp_total same_name _ _ (λ q.
    get-from_entries nat_list_cmp_total (entries_by_bytes (remove_entry (is_key name) held)) q
    ∙ ap (find by_name q) (named_without name held)
    ∙ find_is q (remove_entry (eq_by_cmp by_name name) (entries_by_bytes held))
    ∙ lookup-remove_entry (eq_by_cmp_equiv nat_list_cmp_total) (eq_by_cmp by_name name) (one_name name) q (entries_by_bytes held)
    (IsDistinct-from_sorted by_name (keys_of (entries_by_bytes held)) (names_rise held rising))
    ∙ ap (λ b. cond b None (lookup (eq_by_cmp by_name q) (entries_by_bytes held))) ((eq_by_cmp_equiv nat_list_cmp_total).symm name q)
    ∙ ap (cond (eq_by_cmp by_name q name) None) (sym (find_is q (entries_by_bytes held)) ∙ sym (get-from_entries nat_list_cmp_total (entries_by_bytes held) q))
    ∙ sym (get-remove nat_list_cmp_total (kept_by_name held) name q))

-- a name that is found has the size of a name of a file
pub found_size : {X : Type 0} (name : List ℕ) (held : NameEntries X) → All (λ key. IsName (string_bytes key)) (keys_of held)
    → is_some (lookup (is_key name) held) ≡ true → IsName name
found_size name [] sizes e = absurd (true≢false (sym e))
found_size {X} name (e ∷ held) sizes is =
    elim (is_key name e.0) as (λ b. is_key name e.0 ≡ b → is_some (cond b (Some e.1) (lookup (is_key name) held)) ≡ true → IsName name) [
      | true ↦ λ t _. subst IsName (sym (same_name name (string_bytes e.0) (equal_from_test (by_name name (string_bytes e.0)) t))) (sizes zero e.0 (omega arith))
      | false ↦ λ _ more. found_size name held (λ k d lt. sizes (suc k) d (omega (arith, lt))) more
    ] refl is
