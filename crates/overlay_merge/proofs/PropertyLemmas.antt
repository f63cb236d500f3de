-- Properties that are taken away, and put over others.
use Rattle.std.proofs.Common.{◌≡◌, ◌+◌, ◌<◌, ◌≤◌, ◌++◌, ◌&&◌, ◌||◌, ℕ, zero, suc, Bool, true, false, not, cond, List, [], ◌∷◌, drop, length, refl, sym, ◌∙◌, ap, arith}
use Rattle.std.specs.Prelude.{codes, filter, nat_eq, slice_get, Some}
use Rattle.std.proofs.lemmas.List.{drop_more}
use Rattle.std.proofs.lemmas.Option.{get_or_from_slice_get}
use Rattle.std.specs.List.{list_any}
use Rattle.std.specs.Cmp.Lexicographic.{pointwise, texts_ties}
use Rattle.std.specs.Ordering.{eq_by_cmp}
use Rattle.std.specs.FinMap.Entries.{put, where_key}
use Rattle.std.proofs.lemmas.List.Folds.{list_any-append}
use Rattle.sp_base.specs.Names.{by_name}
use Rattle.sp_base.specs.declared.value.Value.{Value}
use Rattle.sp_base.proofs.BoolLemmas.{or_false}
use Rattle.overlay_merge.specs.Hiding.{text_stands_for}
use Rattle.overlay_merge.specs.Properties.{is_steering, put_all, without_steering}

abbrev Props : Type 0
Props = List (List ℕ × Value)

-- ---- filters

filter_filter : {X : Type 0} (p q : X → Bool) (xs : List X) → filter q (filter p xs) ≡ filter (λ x. p x && q x) xs
filter_filter p q [] = refl
filter_filter p q (x ∷ xs) =
    elim (p x) as (λ t. filter q (cond t (x ∷ filter p xs) (filter p xs)) ≡ cond (t && q x) (x ∷ filter (λ y. p y && q y) xs) (filter (λ y. p y && q y) xs)) [
      | true ↦ ap (λ rest. cond (q x) (x ∷ rest) rest) (filter_filter p q xs)
      | false ↦ filter_filter p q xs
    ]

pub filter_same : {X : Type 0} (p q : X → Bool) (xs : List X) → ((x : X) → p x ≡ q x) → filter p xs ≡ filter q xs
filter_same p q [] same = refl
filter_same p q (x ∷ xs) same = ap (λ t. cond t (x ∷ filter p xs) (filter p xs)) (same x) ∙ ap (λ rest. cond (q x) (x ∷ rest) rest) (filter_same p q xs same)

filter_none : {X : Type 0} (p : X → Bool) (xs : List X) → ((x : X) → p x ≡ false) → filter p xs ≡ []
filter_none p [] none = refl
filter_none p (x ∷ xs) none = ap (λ t. cond t (x ∷ filter p xs) (filter p xs)) (none x) ∙ filter_none p xs none

filter_each : {X : Type 0} (p : X → Bool) (xs : List X) → ((x : X) → p x ≡ true) → filter p xs ≡ xs
filter_each p [] each = refl
filter_each p (x ∷ xs) each = ap (λ t. cond t (x ∷ filter p xs) (filter p xs)) (each x) ∙ ap (λ rest. x ∷ rest) (filter_each p xs each)

-- ---- properties by their names

keep_same : (p q : List ℕ → Bool) (props : Props) → ((name : List ℕ) → p name ≡ q name) → where_key by_name p props ≡ where_key by_name q props
keep_same p q props same = filter_same (λ e. p e.0) (λ e. q e.0) props (λ e. same e.0)

keep_keep : (p q : List ℕ → Bool) (props : Props) → where_key by_name q (where_key by_name p props) ≡ where_key by_name (λ name. p name && q name) props
keep_keep p q props = filter_filter (λ e. p e.0) (λ e. q e.0) props

-- nothing is hidden by no text
pub hide_none : (props : Props) → props ≡ where_key by_name (λ name. not false) props
hide_none props = sym (filter_each (λ e. not false) props (λ e. refl))

-- all is hidden by `*`
pub hide_every : (text : List ℕ) (props : Props) → pointwise nat_eq text (codes "*") ≡ true → [] ≡ where_key by_name (λ name. not (text_stands_for name text)) props
hide_every text props star = sym (filter_none (λ e. not (text_stands_for e.0 text)) props (λ e. ap (λ t. not (t || pointwise nat_eq text e.0)) star))

-- and the property of its name by another text
pub hide_one : (text : List ℕ) (props left : Props) → pointwise nat_eq text (codes "*") ≡ false
    → left ≡ where_key by_name (λ key. not (eq_by_cmp by_name text key)) props → left ≡ where_key by_name (λ name. not (text_stands_for name text)) props
hide_one text props left other is =
    is ∙ keep_same (λ key. not (eq_by_cmp by_name text key)) (λ name. not (text_stands_for name text)) props
    (λ name. ap not (sym (texts_ties text name) ∙ sym (ap (λ t. t || pointwise nat_eq text name) other)))

not_or : (a b : Bool) → not (a || b) ≡ (not a && not b)
not_or true b = refl
not_or false b = refl

pub hide_more : (texts more : List (List ℕ)) (text : List ℕ) (props before after : Props) → more ≡ texts ++ text ∷ []
    → before ≡ where_key by_name (λ name. not (list_any (text_stands_for name) texts)) props → after ≡ where_key by_name (λ name. not (text_stands_for name text)) before
    → after ≡ where_key by_name (λ name. not (list_any (text_stands_for name) more)) props
hide_more texts more text props before after more_is before_is after_is =
    after_is ∙ ap (where_key by_name (λ name. not (text_stands_for name text))) before_is
    ∙ keep_keep (λ name. not (list_any (text_stands_for name) texts)) (λ name. not (text_stands_for name text)) props
    ∙ keep_same (λ name. not (list_any (text_stands_for name) texts) && not (text_stands_for name text)) (λ name. not (list_any (text_stands_for name) more)) props
    (λ name. sym (ap (λ l. not (list_any (text_stands_for name) l)) more_is
    ∙ ap not (list_any-append (text_stands_for name) texts (text ∷ []) ∙ ap (λ t. list_any (text_stands_for name) texts || t) (or_false (text_stands_for name text)))
    ∙ not_or (list_any (text_stands_for name) texts) (text_stands_for name text)))

-- a property other than that of a name
abbrev pub is_other : List ℕ → List ℕ → Bool
is_other name key = not (eq_by_cmp by_name name key)

four_is : (a b c d : Bool) → (((not a && not b) && not c) && not d) ≡ not (a || (b || (c || d)))
four_is true b c d = refl
four_is false true c d = refl
four_is false false true d = refl
four_is false false false true = refl
four_is false false false false = refl

steering_each : (name : List ℕ)
    → (((is_other (codes "sling:hideResource") name && is_other (codes "sling:hideProperties") name) && is_other (codes "sling:hideChildren") name) && is_other (codes "sling:orderBefore") name)
    ≡ not (is_steering name)
steering_each name =
    ap (λ t. ((not t && is_other (codes "sling:hideProperties") name) && is_other (codes "sling:hideChildren") name) && is_other (codes "sling:orderBefore") name) (sym (texts_ties (codes "sling:hideResource") name))
    ∙ ap (λ t. ((not (pointwise nat_eq (codes "sling:hideResource") name) && not t) && is_other (codes "sling:hideChildren") name) && is_other (codes "sling:orderBefore") name) (sym (texts_ties (codes "sling:hideProperties") name))
    ∙ ap (λ t. ((not (pointwise nat_eq (codes "sling:hideResource") name) && not (pointwise nat_eq (codes "sling:hideProperties") name)) && not t) && is_other (codes "sling:orderBefore") name) (sym (texts_ties (codes "sling:hideChildren") name))
    ∙ ap (λ t. ((not (pointwise nat_eq (codes "sling:hideResource") name) && not (pointwise nat_eq (codes "sling:hideProperties") name)) && not (pointwise nat_eq (codes "sling:hideChildren") name)) && not t) (sym (texts_ties (codes "sling:orderBefore") name))
    ∙ four_is (pointwise nat_eq (codes "sling:hideResource") name) (pointwise nat_eq (codes "sling:hideProperties") name) (pointwise nat_eq (codes "sling:hideChildren") name) (pointwise nat_eq (codes "sling:orderBefore") name)

-- the four that steer the merging, taken away one after the other
pub steering_is : (props a b c d : Props) → a ≡ where_key by_name (is_other (codes "sling:hideResource")) props → b ≡ where_key by_name (is_other (codes "sling:hideProperties")) a
    → c ≡ where_key by_name (is_other (codes "sling:hideChildren")) b → d ≡ where_key by_name (is_other (codes "sling:orderBefore")) c → d ≡ without_steering props
steering_is props a b c d first second third fourth =
    let one = is_other (codes "sling:hideResource") in
    let two = is_other (codes "sling:hideProperties") in
    let three = is_other (codes "sling:hideChildren") in
    let four = is_other (codes "sling:orderBefore") in
    fourth ∙ ap (where_key by_name four) (third ∙ ap (where_key by_name three) (second ∙ ap (where_key by_name two) first ∙ keep_keep one two props) ∙ keep_keep (λ name. one name && two name) three props)
    ∙ keep_keep (λ name. (one name && two name) && three name) four props
    ∙ keep_same (λ name. ((one name && two name) && three name) && four name) (λ name. not (is_steering name)) props steering_each

-- ---- properties over others

pub put_more : (lower : Props) (p : List ℕ × Value) (upper : Props) → put_all lower (p ∷ upper) ≡ put_all (put by_name p.0 p.1 lower) upper
unfolding put_all
put_more lower p upper = refl

pub put_end : (lower : Props) → put_all lower [] ≡ lower
unfolding put_all
put_end lower = refl

pub put_step : (lower now upper whole : Props) (i : ℕ) (name : List ℕ) (value : Value) → i < length upper → Some (name, value) ≡ slice_get upper i
    → put_all lower (drop i upper) ≡ whole → now ≡ put by_name name value lower → put_all now (drop (i + 1) upper) ≡ whole
put_step lower now upper whole i name value within is so_far now_is =
    let d : List ℕ × Value = (name, value) in
    let rest : drop i upper ≡ d ∷ drop (i + 1) upper = drop_more upper i d within ∙ ap (λ (p : List ℕ × Value). p ∷ drop (i + 1) upper) (get_or_from_slice_get upper i d d (sym is)) in
    ap (λ (l : Props). put_all l (drop (i + 1) upper)) now_is ∙ sym (put_more lower d (drop (i + 1) upper)) ∙ sym (ap (put_all lower) rest) ∙ so_far

pub drop_all : (props : Props) (n : ℕ) → length props ≤ n → drop n props ≡ []
drop_all [] zero past = refl
drop_all [] (suc n) past = refl
drop_all (p ∷ props) zero past = absurd (omega (arith, past))
drop_all (p ∷ props) (suc n) past = let less : length props ≤ n = omega (arith, past) in drop_all props n less
