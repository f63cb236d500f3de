-- The chain step by step: what follows each type, and that nothing else does.
use Rattle.std.proofs.Common.{◌≡◌, ◌+◌, ◌<◌, ◌≤◌, ◌⊎◌, ◌++◌, inl, inr, ⊎_elim, ℕ, zero, suc, Bool, true, false, cond, nat_lt, List, [], ◌∷◌, Option, Some, None, length, take, refl, sym, ◌∙◌, ap, subst, arith, append_assoc, take_all}
use Rattle.std.specs.Prelude.{slice_get, option_and_then}
use Rattle.std.specs.Option.{option_or}
use Rattle.std.proofs.lemmas.Bool.{le-ltb, lt-ltb, true≢false}
use Rattle.std.proofs.lemmas.Option.{same_Some}
use Rattle.sp_base.specs.declared.value.Value.{Value}
use Rattle.sp_base.proofs.BoolLemmas.{or_false}
use Rattle.sp_base.proofs.NatLemmas.{below_suc, zero_below_suc}
use Rattle.resource_tree.specs.Content.{Content}
use Rattle.type_chain.specs.declared.type_name.TypeName.{TypeName}
use Rattle.type_chain.specs.Types.{same_type, type_of}
use Rattle.type_chain.specs.Chain.{chain_of, default_type, has_type, line, line_from, own_super, own_types, super_of, super_text, super_type, type_text, with_default}
use Rattle.type_chain.specs.ScriptPlaces.{only}
use Rattle.type_chain.specs.Steps.{AreOwnTypes, AreSteps, super_after, unless_type_there}
use Rattle.type_chain.proofs.ChainLemmas.{fresh, fresh-none}

-- ---- the types up to the first repeat

fresh-first : (seen types : List TypeName) → slice_get (fresh seen types) 0 ≡ unless_type_there seen (slice_get types 0)
fresh-first seen [] = refl
fresh-first seen (x ∷ types) =
    elim (has_type x seen) as (λ t. slice_get (cond t [] (x ∷ fresh (seen ++ x ∷ []) types)) 0 ≡ cond t None (Some x)) [
      | true ↦ refl
      | false ↦ refl
    ]

fresh-get : (seen types : List TypeName) (k : ℕ) (a : TypeName) → slice_get (fresh seen types) k ≡ Some a → slice_get types k ≡ Some a
fresh-get seen [] k a e = e
fresh-get seen (x ∷ types) zero a e =
    elim (has_type x seen) as (λ t. slice_get (cond t [] (x ∷ fresh (seen ++ x ∷ []) types)) zero ≡ Some a → slice_get (x ∷ types) zero ≡ Some a) [
      | true ↦ λ h. absurd (cc)
      | false ↦ λ h. h
    ] e
fresh-get seen (x ∷ types) (suc k) a e =
    elim (has_type x seen) as (λ t. slice_get (cond t [] (x ∷ fresh (seen ++ x ∷ []) types)) (suc k) ≡ Some a → slice_get (x ∷ types) (suc k) ≡ Some a) [
      | true ↦ λ h. absurd (cc)
      | false ↦ λ h. fresh-get (seen ++ x ∷ []) types k a h
    ] e

fresh-next : (seen types : List TypeName) (k : ℕ) (a : TypeName) → slice_get (fresh seen types) k ≡ Some a
    → slice_get (fresh seen types) (suc k) ≡ unless_type_there (seen ++ take (suc k) (fresh seen types)) (slice_get types (suc k))
fresh-next seen [] k a e = absurd (cc)
fresh-next seen (x ∷ types) zero a e =
    elim (has_type x seen) as (λ t. slice_get (cond t [] (x ∷ fresh (seen ++ x ∷ []) types)) zero ≡ Some a
    → slice_get (cond t [] (x ∷ fresh (seen ++ x ∷ []) types)) 1 ≡ unless_type_there (seen ++ take 1 (cond t [] (x ∷ fresh (seen ++ x ∷ []) types))) (slice_get types zero)) [
      | true ↦ λ h. absurd (cc)
      | false ↦ λ h. fresh-first (seen ++ x ∷ []) types
    ] e
fresh-next seen (x ∷ types) (suc k) a e =
    let rest = fresh (seen ++ x ∷ []) types in
    elim (has_type x seen) as (λ t. slice_get (cond t [] (x ∷ rest)) (suc k) ≡ Some a
    → slice_get (cond t [] (x ∷ rest)) (suc (suc k)) ≡ unless_type_there (seen ++ take (suc (suc k)) (cond t [] (x ∷ rest))) (slice_get types (suc k))) [
      | true ↦ λ h. absurd (cc)
      | false ↦ λ h.
          fresh-next (seen ++ x ∷ []) types k a h ∙ ap (λ ts. unless_type_there ts (slice_get types (suc k))) (append_assoc seen (x ∷ []) (take (suc k) rest))
    ] e

-- ---- the line of super types

line-first : (tree : Content) (n : ℕ) (next : Option TypeName) → slice_get (line tree n next) 0 ≡ cond (nat_lt 0 n) next None
unfolding line
line-first tree zero next = refl
line-first tree (suc n) None = sym (ap (λ t. cond t None None) (zero_below_suc n))
line-first tree (suc n) (Some type) = sym (ap (λ t. cond t (Some type) None) (zero_below_suc n))

line-next : (tree : Content) (n : ℕ) (next : Option TypeName) (k : ℕ) (a : TypeName) → slice_get (line tree n next) k ≡ Some a
    → slice_get (line tree n next) (suc k) ≡ cond (nat_lt (suc k) n) (super_type tree a) None
unfolding line
line-next tree zero next k a e = absurd (cc)
line-next tree (suc n) None k a e = absurd (cc)
line-next tree (suc n) (Some type) zero a e =
    line-first tree n (super_type tree type) ∙ ap (λ t. cond t (super_type tree type) None) (sym (below_suc 0 n)) ∙ ap (λ b. cond (nat_lt 1 (suc n)) (super_type tree b) None) (same_Some type a e)
line-next tree (suc n) (Some type) (suc k) a e = line-next tree n (super_type tree type) k a e ∙ ap (λ t. cond t (super_type tree a) None) (sym (below_suc (suc k) n))

from-first : (tree : Content) (props : List (List ℕ × Value)) (own : Option TypeName) → slice_get (line_from tree own (super_of tree props own)) 0 ≡ option_or own (super_of tree props None)
from-first tree props None = line-first tree 32 (super_of tree props None)
from-first tree props (Some own) = refl

from-next : (tree : Content) (props : List (List ℕ × Value)) (own : Option TypeName) (k : ℕ) (a : TypeName) → slice_get (line_from tree own (super_of tree props own)) k ≡ Some a
    → slice_get (line_from tree own (super_of tree props own)) (suc k) ≡ cond (nat_lt (suc k) 32) (super_after tree props own k a) None
from-next tree props None k a e = line-next tree 32 (super_of tree props None) k a e
from-next tree props (Some own) zero a e = line-first tree 31 (super_of tree props (Some own))
from-next tree props (Some own) (suc k) a e =
    line-next tree 31 (super_of tree props (Some own)) k a e ∙ ap (λ t. cond t (super_type tree a) None) (sym (below_suc (suc k) 31))

-- ---- the steps of a chain

none_there : (o : Option TypeName) → unless_type_there [] o ≡ o
none_there None = refl
none_there (Some type) = refl

unless_cond : (b : Bool) (types : List TypeName) (o : Option TypeName) → unless_type_there types (cond b o None) ≡ cond b (unless_type_there types o) None
unless_cond true types o = refl
unless_cond false types o = refl

module _ (tree : Content) (props : List (List ℕ × Value)) (own : Option TypeName) where
  abbrev whole : List TypeName
  whole = line_from tree own (super_of tree props own)

  fresh_whole : fresh [] whole ≡ own_types tree props own
  fresh_whole = fresh-none whole

  first_step : slice_get (fresh [] whole) 0 ≡ option_or own (super_of tree props None)
  first_step = fresh-first [] whole ∙ none_there (slice_get whole 0) ∙ from-first tree props own

  next_step : (k : ℕ) (type : TypeName) → slice_get (fresh [] whole) k ≡ Some type
      → slice_get (fresh [] whole) (suc k) ≡ cond (nat_lt (suc k) 32) (unless_type_there (take (suc k) (fresh [] whole)) (super_after tree props own k type)) None
  next_step k type e =
      let before = take (suc k) (fresh [] whole) in
      fresh-next [] whole k type e ∙ ap (unless_type_there before) (from-next tree props own k type (fresh-get [] whole k type e))
      ∙ unless_cond (nat_lt (suc k) 32) before (super_after tree props own k type)

  pub steps_are : AreSteps tree props own (own_types tree props own)
  steps_are =
      subst (AreSteps tree props own) fresh_whole
      (record {
        first = first_step;
        next = λ k type e.
            let one : suc k ≡ k + 1 = omega arith in
            subst
            (λ n. slice_get (fresh [] whole) n ≡ cond (nat_lt n 32) (unless_type_there (take n (fresh [] whole)) (super_after tree props own k type)) None)
            one (next_step k type e);
      })

-- ---- and no other types have these steps

take-next : (xs : List TypeName) (k : ℕ) → take (suc k) xs ≡ take k xs ++ only (slice_get xs k)
take-next [] zero = refl
take-next [] (suc k) = refl
take-next (x ∷ xs) zero = refl
take-next (x ∷ xs) (suc k) = ap (λ ys. x ∷ ys) (take-next xs k)

get-none : (xs : List TypeName) (k : ℕ) → slice_get xs k ≡ None → slice_get xs (suc k) ≡ None
get-none [] zero e = refl
get-none [] (suc k) e = refl
get-none (x ∷ xs) zero e = absurd (cc)
get-none (x ∷ xs) (suc k) e = get-none xs k e

module _ {tree : Content} {props : List (List ℕ × Value)} {own : Option TypeName} {xs ys : List TypeName} (a : AreSteps tree props own xs) (b : AreSteps tree props own ys) where
  next_same : (k : ℕ) (o : Option TypeName) → take k xs ≡ take k ys → slice_get xs k ≡ o → slice_get ys k ≡ o → take (suc k) xs ≡ take (suc k) ys → slice_get xs (suc k) ≡ slice_get ys (suc k)
  next_same k None before e f more = get-none xs k e ∙ sym (get-none ys k f)
  next_same k (Some type) before e f more =
      let one : k + 1 ≡ suc k = omega arith in
      let step = λ (zs : List TypeName) (n : ℕ). cond (nat_lt n 32) (unless_type_there (take n zs) (super_after tree props own k type)) None in
      let this = subst (λ n. slice_get xs n ≡ step xs n) one (a.next k type e) in
      let that = subst (λ n. slice_get ys n ≡ step ys n) one (b.next k type f) in
      this ∙ ap (λ ts. cond (nat_lt (suc k) 32) (unless_type_there ts (super_after tree props own k type)) None) more ∙ sym that

  both_same : (k : ℕ) → (take k xs ≡ take k ys) × (slice_get xs k ≡ slice_get ys k)
  both_same zero = (refl, a.first ∙ sym b.first)
  both_same (suc k) =
      let before = both_same k in
      let more = take-next xs k ∙ ap (λ ts. ts ++ only (slice_get xs k)) before.0 ∙ ap (λ o. take k ys ++ only o) before.1 ∙ sym (take-next ys k) in
      (more, next_same k (slice_get ys k) before.0 before.1 refl more)

  pub steps_same : xs ≡ ys
  steps_same =
      let n = length xs + length ys in
      sym (take_all n xs (omega arith)) ∙ (both_same n).0 ∙ take_all n ys (omega arith)

pub chain_steps : (tree : Content) (props : List (List ℕ × Value)) → AreOwnTypes tree props (own_types tree props (type_of (type_text props)))
chain_steps tree props = steps_are tree props (type_of (type_text props))

pub chain_is : (tree : Content) (props : List (List ℕ × Value)) (types : List TypeName) → AreOwnTypes tree props types → chain_of tree props ≡ with_default types
unfolding chain_of
chain_is tree props types steps = ap with_default (steps_same (chain_steps tree props) steps)

-- ---- the steps in the whole chain

take_zero : (types : List TypeName) → take 0 types ≡ []
take_zero [] = refl
take_zero (x ∷ types) = refl

cond_none : (b : Bool) → cond {A = Option TypeName} b None None ≡ None
cond_none true = refl
cond_none false = refl

default_same : same_type default_type default_type ≡ true
default_same = refl

last_or_before : (types : List TypeName) (k : ℕ) (a : TypeName) → slice_get (types ++ default_type ∷ []) k ≡ Some a → same_type a default_type ≡ false → slice_get types k ≡ Some a
last_or_before [] zero a e apart = absurd (true≢false (sym (ap (λ t. same_type t default_type) (sym (same_Some default_type a e)) ∙ default_same) ∙ apart))
last_or_before [] (suc k) a e apart = absurd (cc)
last_or_before (x ∷ types) zero a e apart = e
last_or_before (x ∷ types) (suc k) a e apart = last_or_before types k a e apart

own_get : (there : Bool) (types : List TypeName) (k : ℕ) (a : TypeName) → slice_get (cond there types (types ++ default_type ∷ [])) k ≡ Some a → same_type a default_type ≡ false → slice_get types k ≡ Some a
own_get true types k a e apart = e
own_get false types k a e apart = last_or_before types k a e apart

get_push : (types : List TypeName) (k : ℕ) (a : TypeName) → slice_get types k ≡ Some a → slice_get (types ++ default_type ∷ []) k ≡ Some a
get_push [] k a e = absurd (cc)
get_push (x ∷ types) zero a e = e
get_push (x ∷ types) (suc k) a e = get_push types k a e

whole_get : (there : Bool) (types : List TypeName) (k : ℕ) (a : TypeName) → slice_get types k ≡ Some a → slice_get (cond there types (types ++ default_type ∷ [])) k ≡ Some a
whole_get true types k a e = e
whole_get false types k a e = get_push types k a e

take_push : (types : List TypeName) (k : ℕ) (a : TypeName) → slice_get types k ≡ Some a → take (suc k) (types ++ default_type ∷ []) ≡ take (suc k) types
take_push [] k a e = absurd (cc)
take_push (x ∷ types) zero a e = refl
take_push (x ∷ types) (suc k) a e = ap (λ ts. x ∷ ts) (take_push types k a e)

whole_take : (there : Bool) (types : List TypeName) (k : ℕ) (a : TypeName) → slice_get types k ≡ Some a → take (suc k) (cond there types (types ++ default_type ∷ [])) ≡ take (suc k) types
whole_take true types k a e = refl
whole_take false types k a e = take_push types k a e

end_push : (types : List TypeName) (k : ℕ) (a : TypeName) → slice_get types k ≡ Some a → slice_get types (suc k) ≡ None → slice_get (types ++ default_type ∷ []) (suc k) ≡ Some default_type
end_push [] k a e f = absurd (cc)
end_push (x ∷ []) zero a e f = refl
end_push (x ∷ y ∷ types) zero a e f = absurd (cc)
end_push (x ∷ types) (suc k) a e f = end_push types k a e f

whole_end : (there : Bool) (types : List TypeName) (k : ℕ) (a : TypeName) → slice_get types k ≡ Some a → slice_get types (suc k) ≡ None
    → (slice_get (cond there types (types ++ default_type ∷ [])) (suc k) ≡ Some default_type) ⊎ (slice_get (cond there types (types ++ default_type ∷ [])) (suc k) ≡ None)
whole_end true types k a e f = inr f
whole_end false types k a e f = inl (end_push types k a e f)

after_more : (tree : Content) (props : List (List ℕ × Value)) (own : Option TypeName) (k : ℕ) (type : TypeName) → 0 < k → super_after tree props own k type ≡ super_type tree type
after_more tree props None k type more = refl
after_more tree props (Some own) zero type more = absurd (omega (arith, more))
after_more tree props (Some own) (suc k) type more = refl

module _ (tree : Content) (props : List (List ℕ × Value)) where
  abbrev own_part : List TypeName
  own_part = own_types tree props (type_of (type_text props))

  own_at : (k : ℕ) (type : TypeName) → slice_get (chain_of tree props) k ≡ Some type → same_type type default_type ≡ false → slice_get own_part k ≡ Some type
  unfolding chain_of
  own_at k type e apart = own_get (has_type default_type own_part) own_part k type e apart

  chain_get : (k : ℕ) (type : TypeName) → slice_get own_part k ≡ Some type → slice_get (chain_of tree props) k ≡ Some type
  unfolding chain_of
  chain_get k type e = whole_get (has_type default_type own_part) own_part k type e

  chain_take : (k : ℕ) (type : TypeName) → slice_get own_part k ≡ Some type → take (suc k) (chain_of tree props) ≡ take (suc k) own_part
  unfolding chain_of
  chain_take k type e = whole_take (has_type default_type own_part) own_part k type e

  chain_end : (k : ℕ) (type : TypeName) → slice_get own_part k ≡ Some type → slice_get own_part (suc k) ≡ None
      → (slice_get (chain_of tree props) (suc k) ≡ Some default_type) ⊎ (slice_get (chain_of tree props) (suc k) ≡ None)
  unfolding chain_of
  chain_end k type e f = whole_end (has_type default_type own_part) own_part k type e f

  -- what follows a type of the chain other than the first and the default type
  next_own : (k : ℕ) (type : TypeName) → 0 < k → slice_get (chain_of tree props) k ≡ Some type → same_type type default_type ≡ false
      → slice_get own_part (suc k) ≡ cond (nat_lt (suc k) 32) (unless_type_there (take (suc k) (chain_of tree props)) (super_type tree type)) None
  next_own k type more e apart =
      let own = type_of (type_text props) in
      let here = own_at k type e apart in
      let one : k + 1 ≡ suc k = omega arith in
      let step = (chain_steps tree props).next k type here in
      subst (λ n. slice_get own_part n ≡ cond (nat_lt n 32) (unless_type_there (take n own_part) (super_after tree props own k type)) None) one step
      ∙ ap (λ o. cond (nat_lt (suc k) 32) (unless_type_there (take (suc k) own_part) o) None) (after_more tree props own k type more)
      ∙ ap (λ ts. cond (nat_lt (suc k) 32) (unless_type_there ts (super_type tree type)) None) (sym (chain_take k type here))

pub super_follows : (tree : Content) (props : List (List ℕ × Value)) (k : ℕ) (type next : TypeName) → 0 < k → k + 1 < 32 → slice_get (chain_of tree props) k ≡ Some type → same_type type default_type ≡ false
    → super_type tree type ≡ Some next → has_type next (take (k + 1) (chain_of tree props)) ≡ false → slice_get (chain_of tree props) (k + 1) ≡ Some next
super_follows tree props k type next more room e apart above new =
    let one : k + 1 ≡ suc k = omega arith in
    let fresh_one = subst (λ n. has_type next (take n (chain_of tree props)) ≡ false) one new in
    let less : suc k < 32 = omega (arith, room) in
    let own = next_own tree props k type more e apart ∙ ap (λ t. cond t (unless_type_there (take (suc k) (chain_of tree props)) (super_type tree type)) None) (lt-ltb (suc k) 32 less)
    ∙ ap (unless_type_there (take (suc k) (chain_of tree props))) above ∙ ap (λ t. cond t None (Some next)) fresh_one in
    subst (λ n. slice_get (chain_of tree props) n ≡ Some next) (sym one) (chain_get tree props (suc k) next own)

pub chain_ends : (tree : Content) (props : List (List ℕ × Value)) (k : ℕ) (type : TypeName) → 0 < k → slice_get (chain_of tree props) k ≡ Some type → same_type type default_type ≡ false
    → (unless_type_there (take (k + 1) (chain_of tree props)) (super_type tree type) ≡ None) ⊎ (32 ≤ k + 1)
    → (slice_get (chain_of tree props) (k + 1) ≡ Some default_type) ⊎ (slice_get (chain_of tree props) (k + 1) ≡ None)
chain_ends tree props k type more e apart ends =
    let one : k + 1 ≡ suc k = omega arith in
    let own = next_own tree props k type more e apart in
    let last : slice_get (own_types tree props (type_of (type_text props))) (suc k) ≡ None = ⊎_elim
    (λ none. own ∙ ap (λ o. cond (nat_lt (suc k) 32) o None) (subst (λ n. unless_type_there (take n (chain_of tree props)) (super_type tree type) ≡ None) one none) ∙ cond_none (nat_lt (suc k) 32))
    (λ full. let long : 32 ≤ suc k = omega (arith, full) in own ∙ ap (λ t. cond t (unless_type_there (take (suc k) (chain_of tree props)) (super_type tree type)) None) (le-ltb (suc k) 32 long))
    ends in
    subst (λ n. (slice_get (chain_of tree props) n ≡ Some default_type) ⊎ (slice_get (chain_of tree props) n ≡ None)) (sym one)
    (chain_end tree props k type (own_at tree props k type e apart) last)

-- ---- the first step

pub typed_first : (tree : Content) (props : List (List ℕ × Value)) (own next : TypeName) → type_of (type_text props) ≡ Some own → super_of tree props (Some own) ≡ Some next → same_type own next ≡ false
    → slice_get (chain_of tree props) 1 ≡ Some next
typed_first tree props own next is above apart =
    let types = own_types tree props (type_of (type_text props)) in
    let here : slice_get types 0 ≡ Some own = (chain_steps tree props).first ∙ ap (λ o. option_or o (super_of tree props None)) is in
    let one : take 1 types ≡ own ∷ [] = take-next types 0 ∙ ap (λ ts. ts ++ only (slice_get types 0)) (take_zero types) ∙ ap only here in
    let step : slice_get types 1 ≡ unless_type_there (take 1 types) (super_after tree props (type_of (type_text props)) 0 own) = (chain_steps tree props).next 0 own here in
    let new : has_type next (own ∷ []) ≡ false = or_false (same_type own next) ∙ apart in
    chain_get tree props 1 next
    (step ∙ ap (λ o. unless_type_there (take 1 types) (super_after tree props o 0 own)) is ∙ ap (λ ts. unless_type_there ts (super_of tree props (Some own))) one ∙ ap (unless_type_there (own ∷ [])) above ∙ ap (λ t. cond t None (Some next)) new)

pub untyped_first : (tree : Content) (props : List (List ℕ × Value)) (next : TypeName) → type_of (type_text props) ≡ None → super_of tree props None ≡ Some next → slice_get (chain_of tree props) 0 ≡ Some next
untyped_first tree props next is above =
    chain_get tree props 0 next ((chain_steps tree props).first ∙ ap (λ o. option_or o (super_of tree props None)) is ∙ above)

pub own_text : (tree : Content) (props : List (List ℕ × Value)) (own : Option TypeName) (text : List ℕ) → own_super props ≡ Some text → super_of tree props own ≡ type_of text
unfolding super_of
own_text tree props own text is = ap (λ o. option_and_then type_of (option_or o (option_and_then (super_text tree) own))) is

pub of_the_type : (tree : Content) (props : List (List ℕ × Value)) (own : TypeName) → own_super props ≡ None → super_of tree props (Some own) ≡ super_type tree own
unfolding super_of super_type
of_the_type tree props own is = ap (λ o. option_and_then type_of (option_or o (super_text tree own))) is
