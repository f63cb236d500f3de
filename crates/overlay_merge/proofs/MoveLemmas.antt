-- Names that are moved: what a move makes of a list in which no name is twice.
use Rattle.std.proofs.Common.{◌≡◌, ◌+◌, ◌<◌, ◌++◌, ◌||◌, ℕ, suc, Bool, true, false, not, cond, List, [], ◌∷◌, Option, Some, None, drop, length, refl, sym, ◌∙◌, ap, arith, length-append}
use Rattle.std.specs.Prelude.{filter, insert, nat_eq, nat_lt, position, remove, unwrap_or}
use Rattle.std.specs.List.{list_any, position_or_len}
use Rattle.std.specs.Cmp.Lexicographic.{pointwise}
use Rattle.std.proofs.lemmas.Bool.{cond-true, lt-ltb, or_parts, or_from}
use Rattle.std.proofs.lemmas.List.Folds.{list_any-append}
use Rattle.std.proofs.lemmas.List.Elements.{filter-append}
use Rattle.std.proofs.Math.Seq.{take-append_seam, drop-append_seam}
use Rattle.sp_base.proofs.NatLemmas.{not_below_itself}
use Rattle.sp_base.proofs.TextLemmas.{text_itself}
use Rattle.overlay_merge.specs.Kids.{has_text, names_after_move, names_after_move_from}

-- the names but for one
abbrev pub but : List ℕ → List (List ℕ) → List (List ℕ)
but name names = filter (λ q. not (pointwise nat_eq name q)) names

place : {X : Type 0} (p : X → Bool) (xs : List X) (y : X) (ys : List X) → list_any p xs ≡ false → p y ≡ true → position_or_len p (xs ++ y ∷ ys) ≡ length xs
place p [] y ys none here = ap (λ b. cond (not b) (1 + position_or_len p ys) 0) here
place p (x ∷ xs) y ys none here =
    ap (λ b. cond (not b) (1 + position_or_len p (xs ++ y ∷ ys)) 0) (or_parts (p x) (list_any p xs) none).0
    ∙ ap (λ n. 1 + n) (place p xs y ys (or_parts (p x) (list_any p xs) none).1 here) ∙ omega arith

position_at : {X : Type 0} (p : X → Bool) (xs : List X) (y : X) (ys : List X) → list_any p xs ≡ false → p y ≡ true → position p (xs ++ y ∷ ys) ≡ Some (length xs)
position_at p xs y ys none here =
    let len : length (xs ++ y ∷ ys) ≡ length xs + suc (length ys) = length-append xs (y ∷ ys) in
    let within : length xs < length (xs ++ y ∷ ys) = omega (arith, len) in
    ap (λ n. cond (nat_lt n (length (xs ++ y ∷ ys))) (Some n) None) (place p xs y ys none here)
    ∙ cond-true (nat_lt (length xs) (length (xs ++ y ∷ ys))) (Some (length xs)) None (lt-ltb (length xs) (length (xs ++ y ∷ ys)) within)

drop-next : {X : Type 0} (xs : List X) (y : X) (ys : List X) → drop (suc (length xs)) (xs ++ y ∷ ys) ≡ ys
drop-next [] y ys = refl
drop-next (x ∷ xs) y ys = drop-next xs y ys

removed : {X : Type 0} (xs : List X) (y : X) (ys : List X) → remove (xs ++ y ∷ ys) (length xs) ≡ xs ++ ys
removed xs y ys = ap (λ l. l ++ drop (suc (length xs)) (xs ++ y ∷ ys)) (take-append_seam xs (y ∷ ys)) ∙ ap (λ l. xs ++ l) (drop-next xs y ys)

inserted : {X : Type 0} (xs ys : List X) (x : X) → insert (xs ++ ys) (length xs) x ≡ xs ++ x ∷ ys
inserted xs ys x = ap (λ l. l ++ x ∷ drop (length xs) (xs ++ ys)) (take-append_seam xs ys) ∙ ap (λ l. xs ++ x ∷ l) (drop-append_seam xs ys)

pub but_none : (name : List ℕ) (names : List (List ℕ)) → list_any (pointwise nat_eq name) names ≡ false → but name names ≡ names
but_none name [] none = refl
but_none name (q ∷ names) none =
    let parts = or_parts (pointwise nat_eq name q) (list_any (pointwise nat_eq name) names) none in
    ap (λ b. cond (not b) (q ∷ but name names) (but name names)) parts.0 ∙ ap (λ l. q ∷ l) (but_none name names parts.1)

but_one : (name : List ℕ) (xs ys : List (List ℕ)) → list_any (pointwise nat_eq name) xs ≡ false → list_any (pointwise nat_eq name) ys ≡ false → but name (xs ++ name ∷ ys) ≡ xs ++ ys
but_one name xs ys before after =
    filter-append (λ q. not (pointwise nat_eq name q)) xs (name ∷ ys)
    ∙ ap (λ l. l ++ but name (name ∷ ys)) (but_none name xs before)
    ∙ ap (λ b. xs ++ cond (not b) (name ∷ but name ys) (but name ys)) (text_itself name) ∙ ap (λ l. xs ++ l) (but_none name ys after)

none_but : (p : List ℕ → Bool) (name : List ℕ) (names : List (List ℕ)) → list_any p names ≡ false → list_any p (but name names) ≡ false
none_but p name [] none = refl
none_but p name (q ∷ names) none =
    let parts = or_parts (p q) (list_any p names) none in
    let rest = none_but p name names parts.1 in
    elim (pointwise nat_eq name q) as (λ b. list_any p (cond (not b) (q ∷ but name names) (but name names)) ≡ false) [
      | true ↦ rest
      | false ↦ or_from (p q) (list_any p (but name names)) parts.0 rest
    ]

has_at : (xs : List (List ℕ)) (y : List ℕ) (ys : List (List ℕ)) → has_text (xs ++ y ∷ ys) y ≡ true
has_at xs y ys =
    list_any-append (pointwise nat_eq y) xs (y ∷ ys) ∙ ap (λ b. list_any (pointwise nat_eq y) xs || (b || list_any (pointwise nat_eq y) ys)) (text_itself y)
    ∙ elim (list_any (pointwise nat_eq y) xs) as (λ b. (b || true) ≡ true) [ true ↦ refl | false ↦ refl ]

-- a name that is there once is moved directly before another
pub moved_at : (name other : List ℕ) (names beginning back above below : List (List ℕ)) → pointwise nat_eq name other ≡ false
    → names ≡ beginning ++ name ∷ back → list_any (pointwise nat_eq name) beginning ≡ false → list_any (pointwise nat_eq name) back ≡ false
    → names ≡ above ++ other ∷ below → list_any (pointwise nat_eq other) above ≡ false
    → names_after_move name (Some other) names ≡ but name above ++ name ∷ (other ∷ but name below)
unfolding names_after_move
moved_at name other names beginning back above below differ name_at prefix_lacks back_lacks other_at above_lacks =
    let at : position (pointwise nat_eq name) names ≡ Some (length beginning) = ap (position (pointwise nat_eq name)) name_at ∙ position_at (pointwise nat_eq name) beginning name back prefix_lacks (text_itself name) in
    let has : has_text names other ≡ true = ap (λ l. has_text l other) other_at ∙ has_at above other below in
    let left_names : but name names ≡ but name above ++ (other ∷ but name below) =
    ap (but name) other_at ∙ filter-append (λ q. not (pointwise nat_eq name q)) above (other ∷ below)
    ∙ ap (λ b. but name above ++ cond (not b) (other ∷ but name below) (but name below)) differ in
    let left : remove names (length beginning) ≡ but name above ++ (other ∷ but name below) =
    ap (λ l. remove l (length beginning)) name_at ∙ removed beginning name back ∙ sym (ap (but name) name_at ∙ but_one name beginning back prefix_lacks back_lacks) ∙ left_names in
    let where_other : position (pointwise nat_eq other) (but name above ++ (other ∷ but name below)) ≡ Some (length (but name above)) =
    position_at (pointwise nat_eq other) (but name above) other (but name below) (none_but (pointwise nat_eq other) name above above_lacks) (text_itself other) in
    ap (λ b. cond b names (names_after_move_from name other names (position (pointwise nat_eq name) names))) differ
    ∙ ap (names_after_move_from name other names) at
    ∙ ap (λ b. cond b (insert (remove names (length beginning)) (unwrap_or (position (pointwise nat_eq other) (remove names (length beginning))) (length (remove names (length beginning)))) name) names) has
    ∙ ap (λ l. insert l (unwrap_or (position (pointwise nat_eq other) l) (length l)) name) left
    ∙ ap (λ o. insert (but name above ++ (other ∷ but name below)) (unwrap_or o (length (but name above ++ (other ∷ but name below)))) name) where_other
    ∙ inserted (but name above) (other ∷ but name below) name

-- nothing moves where the two are one
pub moved_same : (name other : List ℕ) (names : List (List ℕ)) → pointwise nat_eq name other ≡ true → names_after_move name (Some other) names ≡ names
unfolding names_after_move
moved_same name other names same = ap (λ b. cond b names (names_after_move_from name other names (position (pointwise nat_eq name) names))) same

no_place : {X : Type 0} (p : X → Bool) (xs : List X) → list_any p xs ≡ false → position_or_len p xs ≡ length xs
no_place p [] none = refl
no_place p (x ∷ xs) none =
    ap (λ b. cond (not b) (1 + position_or_len p xs) 0) (or_parts (p x) (list_any p xs) none).0 ∙ ap (λ n. 1 + n) (no_place p xs (or_parts (p x) (list_any p xs) none).1) ∙ omega arith

position_none : {X : Type 0} (p : X → Bool) (xs : List X) → list_any p xs ≡ false → position p xs ≡ None
position_none p xs none = ap (λ n. cond (nat_lt n (length xs)) (Some n) None) (no_place p xs none) ∙ ap (λ b. cond b (Some (length xs)) None) (not_below_itself (length xs))

-- nor where the name isn't there
pub moved_none : (name other : List ℕ) (names : List (List ℕ)) → list_any (pointwise nat_eq name) names ≡ false → names_after_move name (Some other) names ≡ names
unfolding names_after_move
moved_none name other names none =
    elim (pointwise nat_eq name other) as (λ b. cond b names (names_after_move_from name other names (position (pointwise nat_eq name) names)) ≡ names) [
      | true ↦ refl
      | false ↦ ap (names_after_move_from name other names) (position_none (pointwise nat_eq name) names none)
    ]

unless_there : (name other : List ℕ) (names : List (List ℕ)) (o : Option ℕ) → has_text names other ≡ false → names_after_move_from name other names o ≡ names
unless_there name other names None none = refl
unless_there name other names (Some at) none =
    ap (λ b. cond b (insert (remove names at) (unwrap_or (position (pointwise nat_eq other) (remove names at)) (length (remove names at))) name) names) none

-- nor where the other isn't
pub moved_nowhere : (name other : List ℕ) (names : List (List ℕ)) → has_text names other ≡ false → names_after_move name (Some other) names ≡ names
unfolding names_after_move
moved_nowhere name other names none =
    elim (pointwise nat_eq name other) as (λ b. cond b names (names_after_move_from name other names (position (pointwise nat_eq name) names)) ≡ names) [
      | true ↦ refl
      | false ↦ unless_there name other names (position (pointwise nat_eq name) names) none
    ]
