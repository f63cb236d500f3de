-- A path has at most 64 segments, so the name of no script has more selectors.
use Rattle.std.proofs.Common.{◌≡◌, ◌+◌, ◌≤◌, ◌++◌, ℕ, zero, suc, Bool, true, false, cond, List, [], ◌∷◌, Some, Ok, Err, length, take, refl, subst, arith, codes}
use Rattle.std.specs.Prelude.{◌==◌, slice_get, if◌then◌else◌, flat_map}
use Rattle.std.specs.List.{list_any, position, onto_first}
use Rattle.std.proofs.lemmas.List.{length-take}
use Rattle.sp_base.specs.Paths.{is_empty, is_dots, is_long, pieces, fault_of, path_or_fault, path_of, text_of}
use Rattle.sp_base.specs.declared.path.PathFault.TheVariants.{NotAbsolute}
use Rattle.sp_base.proofs.NatLemmas.{zero_from_test}
use Rattle.sp_base.proofs.PathTests.{no_fault_of_path, pieces_fit}
use Rattle.resource_tree.specs.Content.{Content, name_of}
use Rattle.type_chain.specs.declared.type_name.TypeName.{TypeName}
use Rattle.url_split.specs.declared.decompose.Parts.{Parts}
use Rattle.script_rank.specs.declared.naming.Naming.{Naming}
use Rattle.script_rank.specs.declared.naming.Naming.TheVariants.{SelectorsAndExtension, Selectors, LabelAndExtension, Extension, Label, Method}
use Rattle.script_rank.specs.Ranking.{Candidate, IsOffered, Key, after_slashes, selectors_in, spellings}

-- ---- a path that was read has at most 64 segments

checked-short : (segs path : List (List ℕ)) → path_or_fault segs ≡ Ok path → length segs ≤ 64
checked-short segs path e =
    pieces_fit (list_any is_empty segs) (list_any is_dots segs) (position is_long segs) (length segs) (no_fault_of_path (fault_of segs) segs path e)

-- ---- so its text has at most 64 slashes

abbrev is_slash : ℕ → Bool
is_slash b = b == 47

abbrev slashes : List ℕ → ℕ
slashes [] = 0
slashes (b ∷ text) = cond (is_slash b) (1 + slashes text) (slashes text)

onto-length : (b : ℕ) (parts : List (List ℕ)) (n : ℕ) → length parts ≡ 1 + n → length (onto_first b parts) ≡ 1 + n
onto-length b [] n e = absurd (omega (arith, e))
onto-length b (part ∷ parts) n e = e

pieces-length : (text : List ℕ) → length (pieces text) ≡ 1 + slashes text
pieces-length [] = refl
pieces-length (b ∷ text) =
    elim (is_slash b) as (λ t. length (cond t ([] ∷ pieces text) (onto_first b (pieces text))) ≡ 1 + cond t (1 + slashes text) (slashes text)) [
      | true ↦ omega (arith, pieces-length text)
      | false ↦ onto-length b (pieces text) (slashes text) (pieces-length text)
    ]

root-slashes : (text : List ℕ) → is_empty text ≡ true → slashes text ≡ 0
root-slashes [] e = refl
root-slashes (b ∷ text) e = absurd (omega (arith, zero_from_test (length (b ∷ text)) e))

rest-slashes : (text : List ℕ) (p : List (List ℕ)) → (if is_empty text then Ok [] else path_or_fault (pieces text)) ≡ Ok p → 1 + slashes text ≤ 64
rest-slashes text p e =
    elim (is_empty text) as (λ t. is_empty text ≡ t → (if t then Ok [] else path_or_fault (pieces text)) ≡ Ok p → 1 + slashes text ≤ 64) [
      | true ↦ λ none h. omega (arith, root-slashes text none)
      | false ↦ λ some h. omega (arith, checked-short (pieces text) p h, pieces-length text)
    ] refl e

read-slashes : (text : List ℕ) (p : List (List ℕ)) → path_of text ≡ Ok p → slashes text ≤ 64
read-slashes [] p e = absurd (cc)
read-slashes (b ∷ text) p e =
    elim (is_slash b) as (λ t. (if t then (if is_empty text then Ok [] else path_or_fault (pieces text)) else Err NotAbsolute) ≡ Ok p → cond t (1 + slashes text) (slashes text) ≤ 64) [
      | true ↦ λ h. rest-slashes text p h
      | false ↦ λ h. absurd (cc)
    ] e

-- ---- and each selector brings a slash

slashes-append : (a b : List ℕ) → slashes (a ++ b) ≡ slashes a + slashes b
slashes-append [] b = omega arith
slashes-append (x ∷ a) b =
    elim (is_slash x) as (λ t. cond t (1 + slashes (a ++ b)) (slashes (a ++ b)) ≡ cond t (1 + slashes a) (slashes a) + slashes b) [
      | true ↦ omega (arith, slashes-append a b)
      | false ↦ slashes-append a b
    ]

after-slashes : (xs : List (List ℕ)) → length xs ≤ slashes (flat_map (λ s. 47 ∷ s) xs)
after-slashes [] = omega arith
after-slashes (x ∷ xs) = omega (arith, slashes-append x (flat_map (λ s. 47 ∷ s) xs), after-slashes xs)

selector-slashes : (parts : Parts) (k : ℕ) (rest : List ℕ) → k ≤ length parts.selectors → k ≤ slashes (after_slashes parts k ++ rest)
selector-slashes parts k rest le =
    omega (arith, slashes-append (after_slashes parts k) rest, after-slashes (take k parts.selectors), length-take k parts.selectors, le)

only : (x y : List ℕ) (j : ℕ) → slice_get (x ∷ []) j ≡ Some y → x ≡ y
only x y zero e = cc
only x y (suc j) e = absurd (cc)

spelling-slashes : (parts : Parts) (label : List ℕ) (naming : Naming) (j : ℕ) (spelling : List ℕ) → IsOffered parts naming → slice_get (spellings parts label naming) j ≡ Some spelling
    → selectors_in naming ≤ slashes spelling
spelling-slashes parts label (SelectorsAndExtension k) zero spelling h e =
    let same : after_slashes parts k ++ 46 ∷ parts.extension ≡ spelling = cc (e) in
    subst (λ t. k ≤ slashes t) same (selector-slashes parts k (46 ∷ parts.extension) h.1)
spelling-slashes parts label (SelectorsAndExtension k) (suc j) spelling h e =
    subst (λ t. k ≤ slashes t) (only (after_slashes parts k ++ 47 ∷ parts.extension) spelling j e) (selector-slashes parts k (47 ∷ parts.extension) h.1)
spelling-slashes parts label (Selectors k) j spelling h e =
    subst (λ t. k ≤ slashes t) (only (after_slashes parts k) spelling j e)
    (omega (arith, after-slashes (take k parts.selectors), length-take k parts.selectors, h.0.1))
spelling-slashes parts label LabelAndExtension j spelling h e = omega arith
spelling-slashes parts label Extension j spelling h e = omega arith
spelling-slashes parts label Label j spelling h e = omega arith
spelling-slashes parts label Method j spelling h e = omega arith

pub few_selectors : {tree : Content} {chain : List TypeName} {parts : Parts} {path : List (List ℕ)} {key : Key} → Candidate tree chain parts path key → selectors_in key.naming ≤ 64
few_selectors {parts} {path} {key} cand =
    let ending = codes ".html" in
    let own = spelling-slashes parts (name_of cand.type.segs) key.naming key.spelling cand.spelling cand.offered cand.spelled in
    let all = slashes-append (text_of cand.place) (cand.spelling ++ ending) in
    let after = slashes-append cand.spelling ending in
    omega (arith, own, all, after, read-slashes (text_of cand.place ++ (cand.spelling ++ ending)) path cand.reads)
