-- Spots by numbers, and the list of entries that they stand for.
use Rattle.std.proofs.Common.{◌≡◌, ◌<◌, ◌≤◌, ◌+◌, ◌==◌, ℕ, zero, suc, Bool, true, false, cond, not, ◌&&◌, ◌||◌, List, [], ◌∷◌, ◌++◌, Option, Some, None, map, filter, take, drop, length, get_or, slice_get, is_some, refl, ap, sym, ◌∙◌, arith, append-nil, append_assoc, Result, Ok, Err, IfOk, one-add}
use Rattle.std.specs.Prelude.{option_and_then, unwrap_or}
use Rattle.std.specs.Borrow.{Bor}
use Rattle.std.specs.BTreeMap.{BTreeMap, get_by, is_at}
use Rattle.std.specs.Map.{lookup}
use Rattle.std.specs.declared.cmp.Ordering.{Ordering}
use Rattle.std.specs.Cmp.Lexicographic.{nat_list_eq_equiv, pointwise, same_text, slice_cmp}
use Rattle.std.specs.Ordering.{bool_cmp, is_eq, nat_cmp, ordering_then}
use Rattle.std.specs.Str.{bytes_eq}
use Rattle.std.proofs.lemmas.Bool.{and_parts, eq-eqb, eqb-true, false≢true, or_parts, true≢false}
use Rattle.std.proofs.lemmas.List.{length-map, map_push}
use Rattle.std.proofs.lemmas.Option.{slice_get-get_or}
use Rattle.sp_base.specs.Bytes.{first_text}
use Rattle.sp_base.proofs.NatLemmas.{nat_eq_itself}
use Rattle.post_plan.specs.declared.suffix.Suffix.{Suffix}
use Rattle.post_plan.specs.declared.suffix.Suffix.TheVariants.{Plain, TypeHint, DefaultValue, ValueFrom, IgnoreBlanks}
use Rattle.post_plan.specs.declared.spot.Spot.{Spot}
use Rattle.post_plan.specs.declared.operation.PropSet.{PropSet}
use Rattle.post_plan.specs.Hints.{hint_of}
use Rattle.post_plan.specs.Entries.{Entry, is_of_spot, is_spot_named, is_word_true, same_bool, same_spot, same_suffix, set_by, set_here, set_of, without_blanks, words_at, words_or_defaults, words_or_source}
use Rattle.post_plan.specs.NumberedSpots.{NotesIndices, first_index, first_indices, index_noted, noted_after, numbered, spot_cmp}
use Rattle.post_plan.proofs.SetLemmas.{drop_here, named_push, nothing_left, same_path, take_more}

-- ---- spots that are alike are one

same_bools : (a b : Bool) → same_bool a b ≡ true → a ≡ b
same_bools true true e = refl
same_bools true false e = absurd (false≢true e)
same_bools false true e = absurd (false≢true e)
same_bools false false e = refl

same_paths : (s t : List (List ℕ)) → pointwise bytes_eq s t ≡ true → s ≡ t
same_paths [] [] e = refl
same_paths [] (y ∷ t) e = absurd (false≢true e)
same_paths (x ∷ s) [] e = absurd (false≢true e)
same_paths (x ∷ s) (y ∷ t) e =
    let both = and_parts (bytes_eq x y) (pointwise bytes_eq s t) e in
    let first = same_text x y (sym both.0) in
    let rest = same_paths s t both.1 in
    λ i. first i ∷ rest i

abbrev make_spot : Bool → List (List ℕ) → Spot
make_spot at path = record { at_target = at; path = path }

pub same_spot_is : (s t : Spot) → same_spot s t ≡ true → s ≡ t
same_spot_is s t e =
    let both = and_parts (same_bool s.at_target t.at_target) (pointwise bytes_eq s.path t.path) e in
    let at = same_bools s.at_target t.at_target both.0 in
    let path = same_paths s.path t.path both.1 in
    ap (λ a. make_spot a s.path) at ∙ ap (make_spot t.at_target) path

-- a spot ties with a key exactly where it is that spot
pub key_ties : (a b : Bool) (s t : List (List ℕ)) → is_eq (ordering_then (bool_cmp a b) (slice_cmp (slice_cmp nat_cmp) s t)) ≡ (same_bool a b && pointwise bytes_eq s t)
key_ties true true s t = same_path s t
key_ties true false s t = refl
key_ties false true s t = refl
key_ties false false s t = same_path s t

-- ---- what a map notes

abbrev pub Noted : Type 0
Noted = BTreeMap (Bool × Bor (List (List ℕ))) ℕ

-- the key of a spot
abbrev pub IsKeyOf : Spot → Bool × Bor (List (List ℕ)) → Type 0
IsKeyOf spot key = (key.0 ≡ spot.at_target) × (key.1.now ≡ spot.path)

-- keys, compared as the map does
abbrev pub key_cmp : Bool × Bor (List (List ℕ)) → Bool × Bor (List (List ℕ)) → Ordering
key_cmp x y = ordering_then (bool_cmp x.0 y.0) (slice_cmp (slice_cmp nat_cmp) x.1.now y.1.now)

pub noted_key : (first : Noted) (spot : Spot) (key : Bool × Bor (List (List ℕ))) → IsKeyOf spot key → get_by (key_cmp key) first ≡ index_noted first spot
noted_key first spot key is =
    let at = is.0 in
    let path = is.1 in
    λ i. get_by (λ (x : Bool × Bor (List (List ℕ))). ordering_then (bool_cmp (at i) x.0) (slice_cmp (slice_cmp nat_cmp) (path i) x.1.now)) first

-- a spot that has an index keeps it, and no other gets one
pub noted_stays : (noted : Spot → Option ℕ) (spot : Spot) (n k : ℕ) → noted spot ≡ Some k → (other : Spot) → noted other ≡ noted_after noted spot n other
noted_stays noted spot n k is other = sym (ap (λ o. cond (is_some o) (noted other) (cond (same_spot spot other) (Some n) (noted other))) is)

-- one that has none gets one
pub noted_new : (before after : Noted) (spot : Spot) (key : Bool × Bor (List (List ℕ))) (n : ℕ) → IsKeyOf spot key → index_noted before spot ≡ None
    → ((q : Bool × Bor (List (List ℕ))) → get_by (key_cmp q) after ≡ cond (is_eq (key_cmp key q)) (Some n) (get_by (key_cmp q) before))
    → (other : Spot) → index_noted after other ≡ noted_after (index_noted before) spot n other
noted_new before after spot key n is none updates other =
    let at = is.0 in
    let path = is.1 in
    let tie : is_eq (key_cmp key (other.at_target, record { ref_ptr = (0, 0); now = other.path })) ≡ same_spot spot other =
    (λ i. is_eq (ordering_then (bool_cmp (at i) other.at_target) (slice_cmp (slice_cmp nat_cmp) (path i) other.path))) ∙ key_ties spot.at_target other.at_target spot.path other.path in
    updates (other.at_target, record { ref_ptr = (0, 0); now = other.path }) ∙ ap (λ t. cond t (Some n) (index_noted before other)) tie
    ∙ sym (ap (λ o. cond (is_some o) (index_noted before other) (cond (same_spot spot other) (Some n) (index_noted before other))) none)

-- ---- first indices

-- an entry that no earlier one is alike is the first of its spot
pub first_here : (es : List Entry) (n : ℕ) (e : Entry) (spot : Spot) → slice_get es n ≡ Some e → is_spot_named spot (take n es) ≡ false → same_spot e.spot spot ≡ true → first_index es spot ≡ n
first_here [] n e spot here none same = absurd cc
first_here (f ∷ es) zero e spot here none same =
    let is : f ≡ e = cc in
    ap (λ t. cond (not t) (1 + first_index es spot) 0) (ap (λ (x : Entry). same_spot x.spot spot) is ∙ same)
first_here (f ∷ es) (suc n) e spot here none same =
    let both = or_parts (same_spot f.spot spot) (is_spot_named spot (take n es)) none in
    ap (λ t. cond (not t) (1 + first_index es spot) 0) both.0 ∙ ap (λ k. 1 + k) (first_here es n e spot here both.1 same) ∙ one-add n

-- and where one of the first n is, the index is less
pub first_before : (es : List Entry) (n : ℕ) (spot : Spot) → is_spot_named spot (take n es) ≡ true → first_index es spot < n
first_before [] n spot named = absurd (false≢true (sym (none_of n) ∙ named))
  where
    none_of : (k : ℕ) → is_spot_named spot (take k []) ≡ false
    none_of zero = refl
    none_of (suc k) = refl
first_before (f ∷ es) zero spot named = absurd (false≢true named)
first_before (f ∷ es) (suc n) spot named = by (same_spot f.spot spot) named (first_before es n spot)
  where
    by : (t : Bool) → (t || is_spot_named spot (take n es)) ≡ true → (is_spot_named spot (take n es) ≡ true → first_index es spot < n) → cond (not t) (1 + first_index es spot) 0 < suc n
    by true e later = omega arith
    by false e later = let less = later e in omega (arith, less)

-- a spot is alike itself
same_bool_itself : (b : Bool) → same_bool b b ≡ true
same_bool_itself true = refl
same_bool_itself false = refl

paths_itself : (s : List (List ℕ)) → pointwise bytes_eq s s ≡ true
paths_itself [] = refl
paths_itself (x ∷ s) = ap (λ t. t && pointwise bytes_eq s s) (nat_list_eq_equiv.refl x) ∙ paths_itself s

pub spot_itself : (s : Spot) → same_spot s s ≡ true
spot_itself s = ap (λ t. t && pointwise bytes_eq s.path s.path) (same_bool_itself s.at_target) ∙ paths_itself s.path

pub named_if_later : (es : List Entry) (n : ℕ) (e : Entry) → slice_get es n ≡ Some e → same_spot e.spot e.spot ≡ true → (first_index es e.spot ≡ n → ⊥) → is_spot_named e.spot (take n es) ≡ true
named_if_later es n e here same later = by (is_spot_named e.spot (take n es)) refl
  where
    by : (t : Bool) → is_spot_named e.spot (take n es) ≡ t → is_spot_named e.spot (take n es) ≡ true
    by true is = is
    by false is = absurd (later (first_here es n e e.spot here is same))

pub not_named : (es : List Entry) (n : ℕ) (spot : Spot) → first_index es spot ≡ n → is_spot_named spot (take n es) ≡ false
not_named es n spot first = by (is_spot_named spot (take n es)) refl
  where
    by : (t : Bool) → is_spot_named spot (take n es) ≡ t → is_spot_named spot (take n es) ≡ false
    by true is = let less = first_before es n spot is in absurd (omega (arith, less, first))
    by false is = is

-- ---- what is noted

module _ (es : List Entry) (n : ℕ) (e : Entry) (noted : Spot → Option ℕ) (notes : NotesIndices es n noted) (here : slice_get es n ≡ Some e) (same : same_spot e.spot e.spot ≡ true) where
  pub index_is : unwrap_or (noted e.spot) n ≡ first_index es e.spot
  index_is = by (noted e.spot) refl
    where
      by : (o : Option ℕ) → noted e.spot ≡ o → unwrap_or (noted e.spot) n ≡ first_index es e.spot
      by (Some k) is = ap (λ p. unwrap_or p n) is ∙ sym (notes.first e.spot k is)
      by None is = ap (λ p. unwrap_or p n) is ∙ sym (first_here es n e e.spot here (notes.none e.spot is) same)

  none_more : (spot : Spot) → noted spot ≡ None → same_spot e.spot spot ≡ false → is_spot_named spot (take (suc n) es) ≡ false
  none_more spot none other =
      ap (is_spot_named spot) (take_more es n e here) ∙ named_push (take n es) e spot
      ∙ ap (λ t. t || same_spot e.spot spot) (notes.none spot none) ∙ other

  there_already : (k : ℕ) → noted e.spot ≡ Some k → (spot : Spot) → noted spot ≡ None → same_spot e.spot spot ≡ false
  there_already k is spot none = by (same_spot e.spot spot) refl
    where
      by : (t : Bool) → same_spot e.spot spot ≡ t → same_spot e.spot spot ≡ false
      by true tie =
          let both : Some k ≡ None = sym is ∙ ap noted (same_spot_is e.spot spot tie) ∙ none in
          absurd (cc)
      by false tie = tie

  pub notes_step : NotesIndices es (suc n) (noted_after noted e.spot n)
  notes_step = by (noted e.spot) refl
    where
      by : (o : Option ℕ) → noted e.spot ≡ o → NotesIndices es (suc n) (noted_after noted e.spot n)
      by (Some k) is = record {
        first = λ spot j found. notes.first spot j (sym (ap (λ p. cond (is_some p) (noted spot) (cond (same_spot e.spot spot) (Some n) (noted spot))) is) ∙ found);
        none = λ spot none.
            let before : noted spot ≡ None = sym (ap (λ p. cond (is_some p) (noted spot) (cond (same_spot e.spot spot) (Some n) (noted spot))) is) ∙ none in
            none_more spot before (there_already k is spot before);
      }
      by None is = record {
        first = λ spot j found. at spot j (same_spot e.spot spot) refl (sym (ap (λ p. cond (is_some p) (noted spot) (cond (same_spot e.spot spot) (Some n) (noted spot))) is) ∙ found);
        none = λ spot none. nowhere spot (same_spot e.spot spot) refl (sym (ap (λ p. cond (is_some p) (noted spot) (cond (same_spot e.spot spot) (Some n) (noted spot))) is) ∙ none);
      }
        where
          at : (spot : Spot) (j : ℕ) (t : Bool) → same_spot e.spot spot ≡ t → cond (same_spot e.spot spot) (Some n) (noted spot) ≡ Some j → first_index es spot ≡ j
          at spot j true tie found =
              let n_is : Some n ≡ Some j = sym (ap (λ b. cond b (Some n) (noted spot)) tie) ∙ found in
              let number : n ≡ j = cc in
              ap (first_index es) (sym (same_spot_is e.spot spot tie)) ∙ first_here es n e e.spot here (notes.none e.spot is) same ∙ number
          at spot j false tie found = notes.first spot j (sym (ap (λ b. cond b (Some n) (noted spot)) tie) ∙ found)

          nowhere : (spot : Spot) (t : Bool) → same_spot e.spot spot ≡ t → cond (same_spot e.spot spot) (Some n) (noted spot) ≡ None → is_spot_named spot (take (suc n) es) ≡ false
          nowhere spot true tie none =
              let no : Some n ≡ None = sym (ap (λ b. cond b (Some n) (noted spot)) tie) ∙ none in
              absurd (cc)
          nowhere spot false tie none = none_more spot (sym (ap (λ b. cond b (Some n) (noted spot)) tie) ∙ none) tie

-- ---- the indices of all

-- before the first turn nothing is noted
pub indices_start : (es : List Entry) (first : Noted) (indices : List ℕ) → first.entries ≡ [] → indices ≡ []
    → (indices ≡ map (λ (e : Entry). first_index es e.spot) (take 0 es)) × NotesIndices es 0 (index_noted first)
indices_start es first indices empty none =
    (none, record { first = λ spot k found. absurd (nothing spot k found); none = λ spot missing. refl })
  where
    nothing : (spot : Spot) (k : ℕ) → index_noted first spot ≡ Some k → ⊥
    nothing spot k found =
        let no : Some k ≡ None = sym found ∙ ap (lookup (is_at (spot_cmp spot))) empty in
        cc

-- what is noted may be told in other words
notes_as : (es : List Entry) (n m : ℕ) (noted other : Spot → Option ℕ) → m ≡ n → ((spot : Spot) → other spot ≡ noted spot) → NotesIndices es n noted → NotesIndices es m other
notes_as es n m noted other one same notes = record {
  first = λ spot k found. notes.first spot k (sym (same spot) ∙ found);
  none = λ spot missing. ap (λ j. is_spot_named spot (take j es)) one ∙ notes.none spot (sym (same spot) ∙ missing);
}

-- one turn
pub indices_step : (es : List Entry) (n : ℕ) (e : Entry) (before after : Noted) (indices next : List ℕ) (index : ℕ) (spot : Spot) → n < length es → e ≡ get_or es n e → spot ≡ e.spot
    → (indices ≡ map (λ (f : Entry). first_index es f.spot) (take n es)) × NotesIndices es n (index_noted before) → index ≡ unwrap_or (index_noted before spot) n
    → ((other : Spot) → index_noted after other ≡ noted_after (index_noted before) spot n other) → next ≡ indices ++ index ∷ []
    → (next ≡ map (λ (f : Entry). first_index es f.spot) (take (n + 1) es)) × NotesIndices es (n + 1) (index_noted after)
indices_step es n e before after indices next index spot lt at spot_is so_far found noted pushed =
    let here : slice_get es n ≡ Some e = slice_get-get_or es n e lt ∙ ap (λ (x : Entry). Some x) (sym at) in
    let one : n + 1 ≡ suc n = omega arith in
    let same = spot_itself e.spot in
    let number : index ≡ first_index es e.spot = found ∙ ap (λ s. unwrap_or (index_noted before s) n) spot_is ∙ index_is es n e (index_noted before) so_far.1 here same in
    let first_of : Entry → ℕ = λ f. first_index es f.spot in
    let all : next ≡ map first_of (take (n + 1) es) =
    pushed ∙ ap (λ (l : List ℕ). l ++ index ∷ []) so_far.0 ∙ ap (λ k. map first_of (take n es) ++ k ∷ []) number
    ∙ sym (map_push first_of (take n es) e) ∙ sym (ap (map first_of) (take_more es n e here)) ∙ sym (ap (λ k. map first_of (take k es)) one)
    in
    (all, notes_as es (suc n) (n + 1) (noted_after (index_noted before) e.spot n) (index_noted after) one (λ other. noted other ∙ ap (λ s. noted_after (index_noted before) s n other) spot_is) (notes_step es n e (index_noted before) so_far.1 here same))

take_all : (es : List Entry) (n : ℕ) → length es ≤ n → take n es ≡ es
take_all [] zero le = refl
take_all [] (suc n) le = refl
take_all (e ∷ es) zero le = absurd (omega arith)
take_all (e ∷ es) (suc n) le = ap (λ (l : List Entry). e ∷ l) (take_all es n (omega (arith, le)))

pub indices_end : (es : List Entry) (n : ℕ) (first : Noted) (indices : List ℕ) → length es ≤ n
    → (indices ≡ map (λ (e : Entry). first_index es e.spot) (take n es)) × NotesIndices es n (index_noted first) → indices ≡ first_indices es
indices_end es n first indices le so_far = so_far.0 ∙ ap (map (λ (e : Entry). first_index es e.spot)) (take_all es n le)

-- ---- the entries of a number

filter_within : (p q : Entry → Bool) (es : List Entry) → ((e : Entry) → q e ≡ true → p e ≡ true) → filter q (filter p es) ≡ filter q es
filter_within p q [] each = refl
filter_within p q (e ∷ es) each = by (p e) refl (q e) refl (filter_within p q es each)
  where
    by : (s : Bool) → p e ≡ s → (t : Bool) → q e ≡ t → filter q (filter p es) ≡ filter q es → filter q (cond (p e) (e ∷ filter p es) (filter p es)) ≡ cond (q e) (e ∷ filter q es) (filter q es)
    by true ps t qt rest = ap (λ b. filter q (cond b (e ∷ filter p es) (filter p es))) ps ∙ ap (λ (l : List Entry). cond (q e) (e ∷ l) l) rest
    by false ps true qt rest = absurd (false≢true (sym ps ∙ each e qt))
    by false ps false qt rest = ap (λ b. filter q (cond b (e ∷ filter p es) (filter p es))) ps ∙ rest ∙ sym (ap (λ b. cond b (e ∷ filter q es) (filter q es)) qt)

own_words : (es : List Entry) (spot : Spot) (n : ℕ) → first_index es spot ≡ n → (suffix : Suffix) → words_at spot suffix (numbered es n) ≡ words_at spot suffix es
own_words es spot n first suffix =
    ap (map (λ (e : Entry). e.word)) (filter_within (λ e. first_index es e.spot == n) (is_of_spot spot suffix) es (λ e is.
    let both = and_parts (same_suffix suffix e.suffix) (same_spot spot e.spot) is in
    ap (λ k. k == n) (ap (first_index es) (sym (same_spot_is spot e.spot both.1)) ∙ first) ∙ nat_eq_itself n))

abbrev set_with : List (List ℕ × List ℕ) → Spot → (Suffix → List (List ℕ)) → Option PropSet
set_with pairs spot words = set_by spot (option_and_then hint_of (first_text (words TypeHint)))
    (words_or_defaults (words DefaultValue) (without_blanks (is_word_true (first_text (words IgnoreBlanks))) (words_or_source (first_text (words ValueFrom)) pairs (words Plain))))

-- what sets a spot is told by the entries of its number alone
pub own_set : (pairs : List (List ℕ × List ℕ)) (es : List Entry) (spot : Spot) (n : ℕ) → first_index es spot ≡ n → set_of pairs (numbered es n) spot ≡ set_of pairs es spot
own_set pairs es spot n first =
    let words = own_words es spot n first in
    λ i. set_with pairs spot (λ suffix. words suffix i)

-- ---- one entry after another, by its number

number_there : (f : Entry → ℕ) (es : List Entry) (k : ℕ) (e : Entry) → slice_get es k ≡ Some e → get_or (map f es) k 0 ≡ f e
number_there f [] k e here = absurd cc
number_there f (x ∷ es) zero e here = let is : x ≡ e = cc in ap f is
number_there f (x ∷ es) (suc k) e here = number_there f es k e here

-- each entry has its number
pub within_indices : (es : List Entry) (indices : List ℕ) (k : ℕ) → indices ≡ first_indices es → k < length es → k < length indices
within_indices es indices k is lt =
    let same : length indices ≡ length es = ap length is ∙ length-map es (λ e. first_index es e.spot) in
    omega (arith, same, lt)

abbrev has_number : List Entry → ℕ → Entry → Bool
has_number es n e = first_index es e.spot == n

-- one entry more
pub own_step : (es : List Entry) (indices : List ℕ) (k n : ℕ) (own next all : List Entry) (e : Entry) → indices ≡ first_indices es → k < length es → e ≡ get_or es k e
    → next ≡ own ++ cond (get_or indices k 0 == n) (e ∷ []) [] → own ++ filter (λ (f : Entry). first_index es f.spot == n) (drop k es) ≡ all → next ++ filter (λ (f : Entry). first_index es f.spot == n) (drop (k + 1) es) ≡ all
own_step es indices k n own next all e is lt at pushed so_far =
    let here : slice_get es k ≡ Some e = slice_get-get_or es k e lt ∙ ap (λ (x : Entry). Some x) (sym at) in
    let number : get_or indices k 0 ≡ first_index es e.spot = ap (λ l. get_or l k 0) is ∙ number_there (λ f. first_index es f.spot) es k e here in
    let one : k + 1 ≡ suc k = omega arith in
    ap (λ (l : List Entry). l ++ rest (k + 1)) (pushed ∙ ap (λ j. own ++ cond (j == n) (e ∷ []) []) number)
    ∙ ap (λ j. (own ++ cond (has_number es n e) (e ∷ []) []) ++ rest j) one
    ∙ by (has_number es n e)
    ∙ sym (ap (λ (l : List Entry). own ++ filter (has_number es n) l) (drop_here es k e here))
    ∙ so_far
  where
    rest : ℕ → List Entry
    rest j = filter (λ (f : Entry). first_index es f.spot == n) (drop j es)

    by : (t : Bool) → (own ++ cond t (e ∷ []) []) ++ rest (suc k) ≡ own ++ cond t (e ∷ rest (suc k)) (rest (suc k))
    by true = append_assoc own (e ∷ []) (rest (suc k))
    by false = ap (λ (l : List Entry). l ++ rest (suc k)) (append-nil own)

pub own_all : (es : List Entry) (k n : ℕ) (own : List Entry) → length es ≤ k → own ++ filter (λ (e : Entry). first_index es e.spot == n) (drop k es) ≡ filter (λ (e : Entry). first_index es e.spot == n) es → own ≡ numbered es n
own_all es k n own le so_far =
    sym (append-nil own) ∙ ap (λ (l : List Entry). own ++ filter (λ e. first_index es e.spot == n) l) (sym (nothing_left es k le)) ∙ so_far

-- ---- what the entry at an index sets

same_number : (a b : ℕ) → not (a == b) ≡ false → a ≡ b
same_number a b tied = by (a == b) refl tied
  where
    by : (t : Bool) → (a == b) ≡ t → not t ≡ false → a ≡ b
    by true is e = eqb-true a b is
    by false is e = absurd (true≢false e)

-- nothing, where its spot was named before
pub set_before : (pairs : List (List ℕ × List ℕ)) (es : List Entry) (indices : List ℕ) (n : ℕ) → indices ≡ first_indices es → not (get_or indices n 0 == n) ≡ true
    → (e : Entry) → slice_get es n ≡ Some e → None ≡ set_here pairs es (take n es) e
set_before pairs es indices n is later e here =
    let number : get_or indices n 0 ≡ first_index es e.spot = ap (λ l. get_or l n 0) is ∙ number_there (λ f. first_index es f.spot) es n e here in
    let named = named_if_later es n e here (spot_itself e.spot)
    (λ first. false≢true (sym (ap not (eq-eqb (get_or indices n 0) n (number ∙ first))) ∙ later))
    in
    sym (ap (λ t. cond t None (set_of pairs es e.spot)) named)

-- and else what the entries of its number set
pub set_first : {E : Type 0} (r : Result (Option PropSet) E) (pairs : List (List ℕ × List ℕ)) (es : List Entry) (indices : List ℕ) (n : ℕ) (first : Entry) (spot : Spot) (own : List Entry)
    → n < length es → indices ≡ first_indices es → not (get_or indices n 0 == n) ≡ false → first ≡ get_or es n first → spot ≡ first.spot → own ≡ numbered es n → IfOk r (λ o. o ≡ set_of pairs own spot)
    → IfOk r (λ o. (e : Entry) → slice_get es n ≡ Some e → o ≡ set_here pairs es (take n es) e)
set_first (Err x) pairs es indices n first spot own lt is sooner at spot_is own_is set = tt
set_first (Ok o) pairs es indices n first spot own lt is sooner at spot_is own_is set = λ e here.
    let there : slice_get es n ≡ Some first = slice_get-get_or es n first lt ∙ ap (λ (x : Entry). Some x) (sym at) in
    let both : Some first ≡ Some e = sym there ∙ here in
    let entry : first ≡ e = cc in
    let number : first_index es e.spot ≡ n = sym (ap (λ l. get_or l n 0) is ∙ number_there (λ f. first_index es f.spot) es n e here) ∙ same_number (get_or indices n 0) n sooner in
    set ∙ ap (set_of pairs own) spot_is ∙ ap (λ (l : List Entry). set_of pairs l first.spot) own_is ∙ ap (λ (f : Entry). set_of pairs (numbered es n) f.spot) entry ∙ own_set pairs es e.spot n number
    ∙ sym (ap (λ t. cond t None (set_of pairs es e.spot)) (not_named es n e.spot number))
