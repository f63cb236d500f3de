-- The segments of what stands below a node.
use Rattle.std.proofs.Common.{◌≡◌, ◌<◌, ◌≤◌, ◌-◌, ◌+◌, ℕ, zero, suc, Bool, true, false, not, cond, List, [], ◌∷◌, ◌++◌, Option, Some, None, take, length, slice_get, refl, ap, sym, ◌∙◌, arith, append_assoc, length-append}
use Rattle.std.specs.Prelude.{nat_le, option_and_then}
use Rattle.std.proofs.lemmas.Bool.Decides.{nat_tests}
use Rattle.std.proofs.lemmas.List.{take-append-le, append-nil}
use Rattle.std.proofs.lemmas.List.Concat.{flat_map-append}
use Rattle.sp_base.specs.PathTexts.{spelling_of}
use Rattle.sp_base.specs.Paths.{text_of}
use Rattle.resource_tree.specs.MergeRoots.{is_merged_path}
use Rattle.post_plan.specs.declared.spot.Spot.{Spot}
use Rattle.post_plan.specs.Spots.{under, first_two, led_to, full_path, if_changeable}

pub get_prefix : {A : Type 0} (xs ys : List A) (n : ℕ) → n < length xs → slice_get (xs ++ ys) n ≡ slice_get xs n
get_prefix [] ys n lt = absurd (omega (arith, lt))
get_prefix (x ∷ xs) ys zero lt = refl
get_prefix (x ∷ xs) ys (suc n) lt = get_prefix xs ys n (omega (arith, lt))

pub get_back : {A : Type 0} (xs ys : List A) (n : ℕ) → length xs ≤ n → slice_get (xs ++ ys) n ≡ slice_get ys (n - length xs)
get_back [] ys n le = let e : n ≡ n - 0 = omega arith in ap (slice_get ys) e
get_back (x ∷ xs) ys zero le = absurd (omega (arith, le))
get_back (x ∷ xs) ys (suc n) le = let e : n - length xs ≡ suc n - length (x ∷ xs) = omega arith in get_back xs ys n (omega (arith, le)) ∙ ap (slice_get ys) e

-- a segment of the parent
pub seg_of_parent : (parent rest : List (List ℕ)) (name : Option (List ℕ)) (n : ℕ) → n < length parent → slice_get parent n ≡ slice_get (under parent name ++ rest) n
seg_of_parent parent rest None n lt = sym (get_prefix parent rest n lt)
seg_of_parent parent rest (Some name) n lt = sym (ap (λ (l : List (List ℕ)). slice_get l n) (append_assoc parent (name ∷ []) rest) ∙ get_prefix parent (name ∷ rest) n lt)

pub seg_of_rest : (parent rest : List (List ℕ)) (n : ℕ) → length parent ≤ n → slice_get rest (n - length parent) ≡ slice_get (parent ++ rest) n
seg_of_rest parent rest n le = sym (get_back parent rest n le)

pub seg_of_name : (parent rest : List (List ℕ)) (name : List ℕ) (n : ℕ) → n ≡ length parent → Some name ≡ slice_get ((parent ++ name ∷ []) ++ rest) n
seg_of_name parent rest name n e =
    let z : n - length parent ≡ 0 = omega arith in
    sym (ap (λ (l : List (List ℕ)). slice_get l n) (append_assoc parent (name ∷ []) rest) ∙ get_back parent (name ∷ rest) n (omega (arith, e)) ∙ ap (slice_get (name ∷ rest)) z)

pub seg_past_name : (parent rest : List (List ℕ)) (name : List ℕ) (n : ℕ) → length parent < n → slice_get rest (n - length parent - 1) ≡ slice_get ((parent ++ name ∷ []) ++ rest) n
seg_past_name parent rest name n lt =
    let one : n - length parent ≡ suc (n - length parent - 1) = omega arith in
    sym (ap (λ (l : List (List ℕ)). slice_get l n) (append_assoc parent (name ∷ []) rest) ∙ get_back parent (name ∷ rest) n (omega (arith, lt)) ∙ ap (slice_get (name ∷ rest)) one)

-- the first two segments tell
pub merged_by : (path : List (List ℕ)) → is_merged_path (first_two (slice_get path 0) (slice_get path 1)) ≡ is_merged_path path
merged_by [] = refl
merged_by (a ∷ []) = refl
merged_by (a ∷ b ∷ path) = refl

pub merged_of : (path : List (List ℕ)) (first second : Option (List ℕ)) (b : Bool) → b ≡ is_merged_path (first_two first second) → first ≡ slice_get path 0 → second ≡ slice_get path 1 → b ≡ is_merged_path path
merged_of path first second b e f s = rw (e, f, s) (merged_by path)

pub text_of_child : (parent : List (List ℕ)) (name : List ℕ) → text_of (parent ++ name ∷ []) ≡ spelling_of parent ++ 47 ∷ name
text_of_child [] name = append-nil (47 ∷ name)
text_of_child (p ∷ parent) name = flat_map-append (λ s. 47 ∷ s) (p ∷ parent) (name ∷ []) ∙ ap (λ (l : List ℕ). spelling_of (p ∷ parent) ++ l) (append-nil (47 ∷ name))

-- a relative path that leaves a new node upwards leads to the same path from its parent, with one step less
pub led_under : (parent down : List (List ℕ)) (name : List ℕ) (up : ℕ) → 0 < up → led_to parent (record { up = up - 1; down = down }) ≡ led_to (parent ++ name ∷ []) (record { up = up; down = down })
led_under parent down name up some =
    let len : length (parent ++ name ∷ []) ≡ length parent + 1 = omega (arith, length-append parent (name ∷ [])) in
    let test : nat_le (up - 1) (length parent) ≡ nat_le up (length parent + 1) = grind (arith, nat_tests) in
    let index : length parent + 1 - up ≡ length parent - (up - 1) = omega arith in
    let prefix : take (length parent - (up - 1)) (parent ++ name ∷ []) ≡ take (length parent - (up - 1)) parent = take-append-le (length parent - (up - 1)) parent (name ∷ []) (omega arith) in
    rw (len, index, prefix, test) refl

pub merged_node : (node rest : List (List ℕ)) (b : Bool) → b ≡ is_merged_path (node ++ rest) → rest ≡ [] → b ≡ is_merged_path node
merged_node node rest b e none = e ∙ ap (λ (l : List (List ℕ)). is_merged_path (node ++ l)) none ∙ ap is_merged_path (append-nil node)

abbrev some : Spot → Option Spot
some spot = Some spot

pub changeable : (node : List (List ℕ)) (spot : Spot) (o : Option Spot) → o ≡ some spot → not (is_merged_path (full_path node spot)) ≡ true → some spot ≡ option_and_then (if_changeable node) o
changeable node spot o e h = go (is_merged_path (full_path node spot)) h refl
  where
    go : (b : Bool) → not b ≡ true → is_merged_path (full_path node spot) ≡ b → some spot ≡ option_and_then (if_changeable node) o
    go true h is = absurd cc
    go false h is = sym (ap (option_and_then (if_changeable node)) e ∙ ap (λ (b : Bool). cond b None (some spot)) is)
