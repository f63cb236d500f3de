-- Paths: when two are one, a path as its parent's kid, and the texts of siblings.
use Rattle.std.proofs.Common.{◌≡◌, ◌<◌, ℕ, true, false, List, [], ◌∷◌, ◌++◌, Some, None, Ok, length, refl, sym, ◌∙◌, ap, arith, ⊎_elim}
use Rattle.std.specs.Prelude.{◌&&◌, IsTrue, nat_eq, nat_le, if◌then◌else◌, is_some}
use Rattle.std.specs.Cmp.Lexicographic.{nat_list_eq_equiv, pointwise, same_text}
use Rattle.std.specs.List.{list_all}
use Rattle.std.proofs.lemmas.Bool.{cases_Bool, true≢false, false_from_ne_true, and_parts, and_from}
use Rattle.std.proofs.lemmas.List.Folds.{list_all-append}
use Rattle.sp_base.specs.Paths.{is_path, parent_of, path_in, path_of, path_or_none, seg_ok, text_of}
use Rattle.sp_base.proofs.BoolLemmas.{and_false}
use Rattle.url_maps.specs.Claims.{spells_alias}
use Rattle.resource_tree.specs.Content.{same_path, kid, name_of}
use Rattle.resource_tree.proofs.PathLemmas.{kid_name, length-kid, path_from_same, same_path_self}
use Rattle.resource_tree.proofs.SamePaths.{kid_of_parent}

pub length_kid-is : (p : List (List ℕ)) (name : List ℕ) → 0 < length (kid p name)
length_kid-is p name = omega (arith, length-kid p name)

-- a sibling's path
pub valid_sibling : (p : List (List ℕ)) (name alias : List ℕ) → is_path (kid p name) ≡ true → seg_ok alias ≡ true → is_path (kid p alias) ≡ true
valid_sibling p name alias valid segment =
    let parts = and_parts (list_all seg_ok (kid p name)) (nat_le (length (kid p name)) 64) valid in
    let above = (and_parts (list_all seg_ok p) (list_all seg_ok (name ∷ [])) (sym (list_all-append seg_ok p (name ∷ [])) ∙ parts.0)).0 in
    let size : length (kid p name) ≡ length (kid p alias) = length-kid p name ∙ sym (length-kid p alias) in
    and_from (list_all seg_ok (kid p alias)) (nat_le (length (kid p alias)) 64)
    (list_all-append seg_ok p (alias ∷ []) ∙ and_from (list_all seg_ok p) (list_all seg_ok (alias ∷ [])) above (and_from (seg_ok alias) true segment refl))
    (ap (λ n. nat_le n 64) (sym size) ∙ parts.1)

-- the name of a path below another
pub valid_name : (p : List (List ℕ)) (name : List ℕ) → is_path (kid p name) ≡ true → seg_ok name ≡ true
valid_name p name valid =
    let parts = and_parts (list_all seg_ok (kid p name)) (nat_le (length (kid p name)) 64) valid in
    (and_parts (seg_ok name) true (and_parts (list_all seg_ok p) (list_all seg_ok (name ∷ [])) (sym (list_all-append seg_ok p (name ∷ [])) ∙ parts.0)).1).0

-- each path is read from its text
abbrev pub IsReadBack : Type 0
IsReadBack = (path : List (List ℕ)) → IsTrue (is_path path) → path_of (text_of path) ≡ Ok path

-- paths of one text are one
pub path_from_text : IsReadBack → (p q : List (List ℕ)) → is_path p ≡ true → is_path q ≡ true → text_of p ≡ text_of q → p ≡ q
path_from_text read p q a b e = let same : Ok p ≡ path_of (text_of q) = sym (read p a) ∙ ap path_of e in let other = read q b in cc

-- paths are one where their texts are
pub texts_and_paths : IsReadBack → (p q : List (List ℕ)) → IsTrue (is_path p) → IsTrue (is_path q) → pointwise nat_eq (text_of p) (text_of q) ≡ same_path p q
texts_and_paths read p q valid other_valid =
    ⊎_elim
    (λ (same : pointwise nat_eq (text_of p) (text_of q) ≡ true).
    let one : p ≡ q = path_from_text read p q valid other_valid (same_text (text_of p) (text_of q) (sym same)) in
    same ∙ sym (ap (same_path p) (sym one) ∙ same_path_self p))
    (λ (differ : pointwise nat_eq (text_of p) (text_of q) ≡ false).
    differ
    ∙ sym (false_from_ne_true (same_path p q)
    (λ one. true≢false (sym (nat_list_eq_equiv.refl (text_of p)) ∙ ap (λ r. pointwise nat_eq (text_of p) (text_of r)) (path_from_same p q one) ∙ differ))))
    (cases_Bool (pointwise nat_eq (text_of p) (text_of q)))

-- which of a parent's aliases a text spells
pub spells_is : IsReadBack → (p : List (List ℕ)) (alias word : List ℕ) → is_path (kid p alias) ≡ true → seg_ok alias ≡ true
    → (seg_ok word && pointwise nat_eq (text_of (kid p alias)) (text_of (kid p word))) ≡ pointwise nat_eq alias word
spells_is read p alias word valid segment =
    ⊎_elim
    (λ (same : pointwise nat_eq alias word ≡ true).
    let is : alias ≡ word = same_text alias word (sym same) in
    and_from (seg_ok word) _ (ap seg_ok (sym is) ∙ segment) (ap (λ w. pointwise nat_eq (text_of (kid p alias)) (text_of (kid p w))) (sym is) ∙ nat_list_eq_equiv.refl (text_of (kid p alias)))
    ∙ sym same)
    (λ (other : pointwise nat_eq alias word ≡ false).
    false_from_ne_true _ (λ both.
    let parts = and_parts (seg_ok word) (pointwise nat_eq (text_of (kid p alias)) (text_of (kid p word))) both in
    let one = path_from_text read (kid p alias) (kid p word) valid (valid_sibling p alias word valid parts.0) (same_text _ _ (sym parts.1)) in
    true≢false (sym (nat_list_eq_equiv.refl alias) ∙ ap (pointwise nat_eq alias) (kid_name p p alias word one) ∙ other)) ∙ sym other)
    (cases_Bool (pointwise nat_eq alias word))

-- ---- what one word claims

-- the text of an alias that may be a name
pub alias_spelled : (path named : List (List ℕ)) (alias text : List ℕ) → path_or_none (parent_of path ++ alias ∷ []) ≡ Some named → spells_alias path text alias ≡ pointwise nat_eq text (text_of named)
alias_spelled path named alias text is =
    ⊎_elim
    (λ (passes_it : is_path (kid (parent_of path) alias) ≡ true).
    let e : Some (kid (parent_of path) alias) ≡ Some named = sym (ap (λ b. if b then Some (kid (parent_of path) alias) else None) passes_it) ∙ is in
    let same : kid (parent_of path) alias ≡ named = cc in
    ap (λ b. b && pointwise nat_eq text (text_of (kid (parent_of path) alias))) (valid_name (parent_of path) alias passes_it) ∙ ap (λ p. pointwise nat_eq text (text_of p)) same)
    (λ (fails : is_path (kid (parent_of path) alias) ≡ false). let e : None ≡ Some named = sym (ap (λ b. if b then Some (kid (parent_of path) alias) else None) fails) ∙ is in cc)
    (cases_Bool (is_path (kid (parent_of path) alias)))

-- one that may be none
pub alias_unspelled : (path : List (List ℕ)) (alias text : List ℕ) → is_path path ≡ true → 0 < length path → path_or_none (parent_of path ++ alias ∷ []) ≡ None → spells_alias path text alias ≡ false
alias_unspelled path alias text valid some is =
    ap (λ b. b && pointwise nat_eq text (text_of (kid (parent_of path) alias)))
    (false_from_ne_true (seg_ok alias) (λ segment.
    let passes_it = valid_sibling (parent_of path) (name_of path) alias (ap is_path (kid_of_parent path some) ∙ valid) segment in
    let e : Some (kid (parent_of path) alias) ≡ None = sym (ap (λ b. if b then Some (kid (parent_of path) alias) else None) passes_it) ∙ is in
    cc))

-- the text of a vanity path that reads as a path
pub vanity_spelled : (whole text : List ℕ) → is_some (path_in whole) ≡ true → (is_some (path_in text) && pointwise nat_eq text whole) ≡ pointwise nat_eq text whole
vanity_spelled whole text ok =
    ⊎_elim
    (λ (same : pointwise nat_eq text whole ≡ true). ap (λ b. b && pointwise nat_eq text whole) (ap (λ t. is_some (path_in t)) (same_text text whole (sym same)) ∙ ok))
    (λ (other : pointwise nat_eq text whole ≡ false). ap (λ b. is_some (path_in text) && b) other ∙ and_false (is_some (path_in text)) ∙ sym other)
    (cases_Bool (pointwise nat_eq text whole))

-- of one that doesn't
pub vanity_unspelled : (whole text : List ℕ) → is_some (path_in whole) ≡ false → (is_some (path_in text) && pointwise nat_eq text whole) ≡ false
vanity_unspelled whole text bad =
    false_from_ne_true _ (λ both.
    let parts = and_parts (is_some (path_in text)) (pointwise nat_eq text whole) both in
    true≢false (sym parts.0 ∙ ap (λ t. is_some (path_in t)) (same_text text whole (sym parts.1)) ∙ bad))
