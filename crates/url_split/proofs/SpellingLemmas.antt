-- The selectors, the extension and the suffix of a text give it back.
use Rattle.std.proofs.Common.{◌≡◌, ◌<◌, ◌≤◌, ◌+◌, ◌-◌, ◌==◌, ◌&&◌, ◌||◌, ◌⊎◌, ⊎_elim, inl, inr, ◌++◌, ◌∷◌, [], List, ℕ, suc, Bool, true, false, cond, not, length, take, drop, get_or, filter, Ok, refl, sym, ◌∙◌, ap, subst, arith}
use Rattle.std.proofs.Math.Seq.{drop-append_seam}
use Rattle.std.proofs.lemmas.Bool.{and_from, cases_lt, eqb-true}
use Rattle.std.proofs.lemmas.List.{append-nil, take-append-drop, take_more, take_all, get_or-take, length-take, length-take-le}
use Rattle.std.proofs.lemmas.List.Folds.{list_all-append}
use Rattle.std.proofs.lemmas.List.Splits.{length-slice_split}
use Rattle.std.proofs.lemmas.List.Sums.{fails_before_first, passes_at_first, split_at_first}
use Rattle.std.specs.List.{list_all, list_any, onto_first, slice_split, before_first, after_first, position_or_len}
use Rattle.sp_base.specs.Bytes.{is_dot, is_slash, is_full, dotted_text}
use Rattle.sp_base.specs.Paths.{path_of, text_of}
use Rattle.sp_base.proofs.BoolLemmas.{and_first, and_second, or_first, or_second}
use Rattle.sp_base.proofs.ListLemmas.{drop_past}
use Rattle.url_split.specs.declared.decompose.Parts.{Parts}
use Rattle.url_split.specs.Split.{IsSplit, last_of, but_last, selectors_of, extension_of, suffix_of}
use Rattle.url_split.specs.Spelling.{is_word, SpellsParts}
use Rattle.url_split.proofs.SplitLemmas.{cut_after}

-- ---- the pieces between dots

word_onto : (b : ℕ) (parts : List (List ℕ)) → (b == 46) ≡ false → (b == 47) ≡ false → list_all is_word parts ≡ true → list_all is_word (onto_first b parts) ≡ true
word_onto b [] d s h = ap (λ t. (not (t || false) && not ((b == 47) || false)) && true) d ∙ ap (λ t. (true && not (t || false)) && true) s
word_onto b (part ∷ parts) d s h =
    ap (λ t. (not (t || list_any is_dot part) && not ((b == 47) || list_any is_slash part)) && list_all is_word parts) d
    ∙ ap (λ t. (not (list_any is_dot part) && not (t || list_any is_slash part)) && list_all is_word parts) s ∙ h

words : (text : List ℕ) → list_any is_slash text ≡ false → list_all is_word (slice_split is_dot text) ≡ true
words [] h = refl
words (b ∷ text) h =
    elim (b == 46) as (λ t. (b == 46) ≡ t → list_all is_word (cond t ([] ∷ slice_split is_dot text) (onto_first b (slice_split is_dot text))) ≡ true) [
      | true ↦ λ e. words text (or_second _ _ h)
      | false ↦ λ e. word_onto b (slice_split is_dot text) e (or_first _ _ h) (words text (or_second _ _ h))
    ] refl

dotted-onto : (b : ℕ) (parts : List (List ℕ)) (text : List ℕ) → dotted_text parts ≡ 46 ∷ text → dotted_text (onto_first b parts) ≡ 46 ∷ b ∷ text
dotted-onto b [] text e = absurd (cc (e))
dotted-onto b (part ∷ parts) text e =
    let rest : part ++ dotted_text parts ≡ text = cc (e) in
    ap (λ more. 46 ∷ b ∷ more) rest

-- a dot before each piece of a text is a dot and the text
dotted_pieces : (text : List ℕ) → dotted_text (slice_split is_dot text) ≡ 46 ∷ text
dotted_pieces [] = refl
dotted_pieces (b ∷ text) =
    elim (b == 46) as (λ t. (b == 46) ≡ t → dotted_text (cond t ([] ∷ slice_split is_dot text) (onto_first b (slice_split is_dot text))) ≡ 46 ∷ b ∷ text) [
      | true ↦ λ e. ap (λ more. 46 ∷ more) (dotted_pieces text) ∙ ap (λ n. 46 ∷ n ∷ text) (sym (eqb-true b 46 e))
      | false ↦ λ e. dotted-onto b (slice_split is_dot text) text (dotted_pieces text)
    ] refl

-- the last piece after the others
ends : (parts : List (List ℕ)) → 0 < length parts → but_last parts ++ last_of parts ∷ [] ≡ parts
ends parts some =
    let n : length parts - 1 + 1 ≡ length parts = omega (arith, some) in
    sym (take_more parts (length parts - 1) [] (omega (arith, some))) ∙ ap (λ k. take k parts) n ∙ take_all (length parts) parts (omega arith)

-- ---- up to the first slash

none_any : (p : ℕ → Bool) (text : List ℕ) → ((k : ℕ) → k < length text → p (get_or text k 0) ≡ false) → list_any p text ≡ false
none_any p [] h = refl
none_any p (b ∷ text) h = ap (λ t. t || list_any p text) (h 0 (omega arith)) ∙ none_any p text (λ k less. h (suc k) (omega (arith, less)))

before_lacks : (text : List ℕ) → list_any is_slash (before_first is_slash text) ≡ false
before_lacks text =
    let n = position_or_len is_slash text in
    none_any is_slash (before_first is_slash text) (λ k less.
    let below : k < n = omega (arith, less, length-take n text) in
    ap is_slash (get_or-take n text k 0 below) ∙ fails_before_first is_slash text k 0 below)

-- nothing, or a text that begins with a slash
abbrev pub IsSlashed : List ℕ → Type 0
IsSlashed text = (text ≡ []) ⊎ ((more : List ℕ) × (text ≡ 47 ∷ more))

rest_slashed : (text : List ℕ) → IsSlashed (drop (length (before_first is_slash text)) text)
rest_slashed text =
    let n = position_or_len is_slash text in
    let leading = before_first is_slash text in
    ⊎_elim
    (λ (less : n < length text).
    let slash = eqb-true (get_or text n 0) 47 (passes_at_first is_slash text 0 less) in
    inr (
      after_first is_slash text,
      ap (drop (length leading)) (split_at_first is_slash text 0 less) ∙ drop-append_seam leading (get_or text n 0 ∷ after_first is_slash text)
          ∙ ap (λ b. b ∷ after_first is_slash text) slash,
    ))
    (λ (whole : length text ≤ n). inl (drop_past text (length leading) (omega (arith, whole, length-take n text))))
    (cases_lt n (length text))

-- ---- the parts of what follows a resource path

some_piece : (text : List ℕ) → 0 < length (slice_split is_dot text)
some_piece text = omega (arith, length-slice_split is_dot text)

before_and_after : (rest : List ℕ) → before_first is_slash rest ++ drop (length (before_first is_slash rest)) rest ≡ rest
before_and_after rest =
    let n = position_or_len is_slash rest in
    ⊎_elim
    (λ (less : n < length rest). ap (λ k. take n rest ++ drop k rest) (length-take-le n rest (omega (arith, less))) ∙ take-append-drop n rest)
    (λ (whole : length rest ≤ n).
    let all : before_first is_slash rest ≡ rest = take_all n rest whole in
    ap (λ t. t ++ drop (length t) rest) all ∙ ap (λ t. rest ++ t) (drop_past rest (length rest) (omega arith)) ∙ append-nil rest)
    (cases_lt n (length rest))

given_back : (rest : List ℕ) →
    46 ∷ rest ≡ dotted_text (but_last (slice_split is_dot (before_first is_slash rest)) ++ last_of (slice_split is_dot (before_first is_slash rest)) ∷ []) ++ drop (length (before_first is_slash rest)) rest
given_back rest =
    let leading = before_first is_slash rest in
    let parts = slice_split is_dot leading in
    let whole : leading ++ drop (length leading) rest ≡ rest = before_and_after rest in
    sym (ap (λ ps. dotted_text ps ++ drop (length leading) rest) (ends parts (some_piece leading)) ∙ ap (λ t. t ++ drop (length leading) rest) (dotted_pieces leading) ∙ ap (λ t. 46 ∷ t) whole)

all_last : (parts : List (List ℕ)) → 0 < length parts → list_all is_word parts ≡ true → (list_all is_word (but_last parts) ≡ true) × (is_word (last_of parts) ≡ true)
all_last parts some h =
    let e = ap (list_all is_word) (ends parts some) ∙ h in
    let f = sym (list_all-append is_word (but_last parts) (last_of parts ∷ [])) ∙ e in
    (and_first _ _ f, and_first _ _ (and_second _ _ f))

full_words : (parts : List (List ℕ)) → list_all is_word parts ≡ true → list_all (λ piece. is_full piece && is_word piece) (filter is_full parts) ≡ true
full_words [] h = refl
full_words (part ∷ parts) h =
    elim (is_full part) as (λ t. is_full part ≡ t → list_all (λ piece. is_full piece && is_word piece) (cond t (part ∷ filter is_full parts) (filter is_full parts)) ≡ true) [
      | true ↦ λ e. and_from _ _ (and_from _ _ e (and_first _ _ h)) (full_words parts (and_second _ _ h))
      | false ↦ λ e. full_words parts (and_second _ _ h)
    ] refl

-- what is said of the parts after a resource path
pub record AreParts (rest : List ℕ) (selectors : List (List ℕ)) (extension suffix : List ℕ) : Type 0 where
  pub selectors_are : list_all (λ piece. is_full piece && is_word piece) selectors ≡ true
  pub extension_is : is_word extension ≡ true
  pub suffix_is : IsSlashed suffix

are_parts : (rest : List ℕ) → AreParts rest (selectors_of rest) (extension_of rest) (suffix_of rest)
are_parts [] = record { selectors_are = refl; extension_is = refl; suffix_is = inl refl }
are_parts (dot ∷ rest) =
    let leading = before_first is_slash rest in
    let w = all_last (slice_split is_dot leading) (some_piece leading) (words leading (before_lacks rest)) in
    record { selectors_are = full_words (but_last (slice_split is_dot leading)) w.0; extension_is = w.1; suffix_is = rest_slashed rest }

-- ---- the parts of a decomposition

spelled_after : (rest : List ℕ) (parts : Parts) → (rest ≡ []) ⊎ ((more : List ℕ) × (rest ≡ 46 ∷ more)) → parts.selectors ≡ selectors_of rest → parts.extension ≡ extension_of rest → parts.suffix ≡ suffix_of rest → SpellsParts rest parts
spelled_after rest parts b selectors extension suffix = ⊎_elim
    (λ (none : rest ≡ []). inl (none, selectors ∙ ap selectors_of none, extension ∙ ap extension_of none, suffix ∙ ap suffix_of none))
    (λ (dot : (more : List ℕ) × (rest ≡ 46 ∷ more)).
    let more = dot.0 in
    let pieces = but_last (slice_split is_dot (before_first is_slash more)) in
    let last : parts.extension ≡ extension_of (46 ∷ more) = extension ∙ ap extension_of dot.1 in
    let end : parts.suffix ≡ suffix_of (46 ∷ more) = suffix ∙ ap suffix_of dot.1 in
    inr (pieces, dot.1 ∙ given_back more ∙ ap (λ e. dotted_text (pieces ++ e ∷ []) ++ suffix_of (46 ∷ more)) (sym last) ∙ ap (λ t. dotted_text (pieces ++ parts.extension ∷ []) ++ t) (sym end), selectors ∙ ap selectors_of dot.1))
    b

-- the resource path's text and what the parts spell are the text
pub parts_spell : ((text : List ℕ) (path : List (List ℕ)) → path_of text ≡ Ok path → text_of path ≡ text) → (known : List (List ℕ) → Bool) (text : List ℕ) (parts : Parts) → IsSplit known text parts
    → (rest : List ℕ) × (text ≡ text_of parts.path ++ rest) × SpellsParts rest parts
parts_spell spelled known text parts split =
    let rest = drop split.at text in (
      rest,
      sym (take-append-drop split.at text) ∙ ap (λ t. t ++ rest) (sym (spelled (take split.at text) parts.path split.leads.reads)),
      spelled_after rest parts (cut_after text split.at split.leads.cut) split.selectors split.extension split.suffix,
    )

pub selectors_are : (known : List (List ℕ) → Bool) (text : List ℕ) (parts : Parts) → IsSplit known text parts → list_all (λ piece. is_full piece && is_word piece) parts.selectors ≡ true
selectors_are known text parts split = ap (list_all (λ piece. is_full piece && is_word piece)) split.selectors ∙ (are_parts (drop split.at text)).selectors_are

pub extension_is : (known : List (List ℕ) → Bool) (text : List ℕ) (parts : Parts) → IsSplit known text parts → is_word parts.extension ≡ true
extension_is known text parts split = ap is_word split.extension ∙ (are_parts (drop split.at text)).extension_is

pub suffix_is : (known : List (List ℕ) → Bool) (text : List ℕ) (parts : Parts) → IsSplit known text parts → IsSlashed parts.suffix
suffix_is known text parts split = subst IsSlashed (sym split.suffix) (are_parts (drop split.at text)).suffix_is
