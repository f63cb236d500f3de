-- How far back a text is walked, and what has been passed.
use Rattle.std.proofs.Common.{◌≡◌, ◌≢◌, ◌<◌, ◌≤◌, ⊎_elim, ℕ, Bool, List, Some, None, Ok, length, drop, inl, [], take, get_or, refl, sym, ◌∙◌, ap, arith}
use Rattle.std.proofs.lemmas.Bool.{cases_lt, cases_eq}
use Rattle.std.proofs.lemmas.List.{get_or-take, take_all}
use Rattle.std.specs.Result.{result_ok}
use Rattle.sp_base.specs.Paths.{path_in, path_of}
use Rattle.sp_base.proofs.ListLemmas.{drop_past}
use Rattle.sp_base.proofs.PathTests.{ok_from_result_ok}
use Rattle.sp_base.proofs.TextLemmas.{prefix_fits}
use Rattle.url_split.specs.Split.{IsCut, Leads, IsSplit, selectors_of, extension_of, suffix_of}
use Rattle.url_split.specs.Walk.{IsReading}
use Rattle.url_split.specs.declared.decompose.Parts.{Parts}

-- what a text spells it reads as
pub spelled : (text : List ℕ) (path : List (List ℕ)) → Some path ≡ path_in text → path_of text ≡ Ok path
spelled text path e = ok_from_result_ok (path_of text) path e

pub unspelled : (text : List ℕ) (path : List (List ℕ)) → None ≡ path_in text → path_of text ≡ Ok path → ⊥
unspelled text path none read = let some : None ≡ Some path = none ∙ ap result_ok read in cc

-- no cut between the last dot of a prefix and the prefix's end
pub passed_to : (known : List (List ℕ) → Bool) (text prefix : List ℕ) (at : ℕ) → prefix ≡ take (length prefix) text
    → ((k : ℕ) (path : List (List ℕ)) → length prefix ≤ k → Leads known text k path → ⊥)
    → ((i : ℕ) → at < i → i < length prefix → get_or prefix i 0 ≢ 46)
    → (k : ℕ) (path : List (List ℕ)) → at < k → Leads known text k path → ⊥
passed_to known text prefix at is passed between k path lt leads = ⊎_elim
    (λ (below : k < length prefix). ⊎_elim
    (λ (end : k ≡ length text). absurd (omega (arith, end, below, prefix_fits text prefix is)))
    (λ (dot : (k < length text) × (get_or text k 0 ≡ 46)). between k lt below (ap (λ t. get_or t k 0) is ∙ get_or-take (length prefix) text k 0 below ∙ dot.1))
    leads.cut)
    (λ (above : length prefix ≤ k). passed k path above leads)
    (cases_lt k (length prefix))

-- nor at that dot, where the prefix up to it names nothing known
pub passed_dot : (known : List (List ℕ) → Bool) (text prefix : List ℕ) → prefix ≡ take (length prefix) text → IsReading known prefix None
    → ((k : ℕ) (path : List (List ℕ)) → length prefix < k → Leads known text k path → ⊥)
    → (k : ℕ) (path : List (List ℕ)) → length prefix ≤ k → Leads known text k path → ⊥
passed_dot known text prefix is none passed k path le leads = ⊎_elim
    (λ (same : k ≡ length prefix). none path (ap path_of is ∙ ap (λ n. path_of (take n text)) (sym same) ∙ leads.reads) leads.there)
    (λ (other : k ≢ length prefix). passed k path (omega (arith, le, other)) leads)
    (cases_eq k (length prefix))

-- nor anywhere, where the prefix has no dot
pub passed_all : (known : List (List ℕ) → Bool) (text prefix : List ℕ) → prefix ≡ take (length prefix) text
    → ((k : ℕ) (path : List (List ℕ)) → length prefix ≤ k → Leads known text k path → ⊥)
    → ((i : ℕ) → i < length prefix → get_or prefix i 0 ≢ 46)
    → (k : ℕ) (path : List (List ℕ)) → Leads known text k path → ⊥
passed_all known text prefix is passed none k path leads = ⊎_elim
    (λ (below : k < length prefix). ⊎_elim
    (λ (end : k ≡ length text). absurd (omega (arith, end, below, prefix_fits text prefix is)))
    (λ (dot : (k < length text) × (get_or text k 0 ≡ 46)). none k below (ap (λ t. get_or t k 0) is ∙ get_or-take (length prefix) text k 0 below ∙ dot.1))
    leads.cut)
    (λ (above : length prefix ≤ k). passed k path above leads)
    (cases_lt k (length prefix))

-- the decomposition at a prefix that names a known path, where no longer one does
pub split_here : (known : List (List ℕ) → Bool) (text prefix : List ℕ) (path : List (List ℕ)) (parts : Parts) → prefix ≡ take (length prefix) text → IsCut text (length prefix)
    → ((k : ℕ) (other : List (List ℕ)) → length prefix < k → Leads known text k other → ⊥) → IsReading known prefix (Some path) → parts.path ≡ path
    → parts.selectors ≡ selectors_of (drop (length prefix) text) → parts.extension ≡ extension_of (drop (length prefix) text) → parts.suffix ≡ suffix_of (drop (length prefix) text)
    → IsSplit known text parts
split_here known text prefix path parts is cut passed reading same selectors extension suffix = record {
  at = length prefix;
  leads = record { cut = cut; reads = sym (ap path_of is) ∙ reading.0 ∙ ap (λ p. Ok p) (sym same); there = ap known same ∙ reading.1 };
  longest = passed;
  selectors = selectors;
  extension = extension;
  suffix = suffix;
}

-- the decomposition of a text that is a known path
pub split_whole : (known : List (List ℕ) → Bool) (text : List ℕ) (path : List (List ℕ)) (parts : Parts) → IsReading known text (Some path) → parts.path ≡ path
    → parts.selectors ≡ selectors_of [] → parts.extension ≡ extension_of [] → parts.suffix ≡ suffix_of [] → IsSplit known text parts
split_whole known text path parts reading same selectors extension suffix =
    let none : drop (length text) text ≡ [] = drop_past text (length text) (omega arith) in
    split_here known text text path parts (sym (take_all (length text) text (omega arith))) (inl refl)
    (λ k other after leads. ⊎_elim (λ (end : k ≡ length text). omega (arith, end, after)) (λ (dot : (k < length text) × (get_or text k 0 ≡ 46)). omega (arith, dot.0, after)) leads.cut)
    reading same (selectors ∙ ap selectors_of (sym none)) (extension ∙ ap extension_of (sym none)) (suffix ∙ ap suffix_of (sym none))
