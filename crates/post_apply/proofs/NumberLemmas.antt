-- The numbers of made names.
use Rattle.std.proofs.Common.{◌≡◌, ◌≢◌, ◌∙◌, ◌<◌, ◌+◌, ◌^◌, ◌==◌, ◌⊎◌, Bor, map, None, IfOk, inl, inr, ⊎_elim, get_or, slice_set, ap, sym, refl, subst, arith, cond, ℕ, Bool, true, false, List, Result, Ok, Err, Some, Option, IfSome, decimal, length, slice_index, slice_index_or}
use Rattle.std.specs.Prelude.{drop, nat_eq}
use Rattle.std.specs.List.{list_any}
use Rattle.std.specs.Option.{option_map_or}
use Rattle.std.specs.Result.{result_ok, OkIff}
use Rattle.std.specs.Cmp.Lexicographic.{pointwise, nat_list_eq_equiv}
use Rattle.std.specs.Str.Parse.{IsNumeral, ParsesUnsigned, digits_value, without_leading_plus}
use Rattle.std.proofs.Math.ListN.{get_or-map}
use Rattle.std.proofs.lemmas.Bool.{cases_eq}
use Rattle.std.proofs.lemmas.Bool.Decides.{nat_tests}
use Rattle.std.proofs.lemmas.List.Folds.{list_any_at}
use Rattle.std.proofs.lemmas.List.{get_or-set_other, length-map}
use Rattle.std.proofs.lemmas.Fmt.{decimal-digits_value}
use Rattle.std.proofs.lemmas.Str.Parse.{numerals_by_value, tells_digits}
use Rattle.resource_tree.specs.declared.nodes.Node.{Node}
use Rattle.resource_tree.specs.Content.{node_at}
use Rattle.tree_draft.specs.Drafts.{DraftedContent}
use Rattle.post_apply.specs.Names.{free_number, most_taken, numbered_name}

no_plus : (word : List ℕ) → slice_index word 0 ≢ 43 → without_leading_plus word ≡ word
no_plus word plus = by (slice_index word 0 == 43) refl
  where
    by : (b : Bool) → slice_index word 0 == 43 ≡ b → drop (cond b 1 0) word ≡ word
    by true e = absurd (plus (grind (arith, nat_tests)))
    by false e = refl

-- digits that spell a number with no leading zero are what a made name ends with
pub spelled : {E : Type 0} (word : List ℕ) (r : Result ℕ E) → slice_index word 0 ≢ 43 → (slice_index word 0 ≡ 48 → length word ≡ 1) → ParsesUnsigned 64 10 word r → IfSome (result_ok r) (λ n. word ≡ decimal n)
spelled word (Err e) plus zero h = search
spelled {E} word (Ok n) plus zero h =
    let k = subst (λ bs. OkIff {T = ℕ} {E = E} (Ok n) (IsNumeral 10 bs × (digits_value 10 bs < 2 ^ 64)) (digits_value 10 bs)) (no_plus word plus) h in
    sym (ap decimal k.1 ∙ decimal-digits_value (numerals_by_value _ tells_digits) word k.0.0.1 k.0.0.0 zero k.0.1)

-- a name that is one of the kids', by their lent names
pub listed_lent : (lent : List (Bor (List ℕ))) (i : ℕ) (item : Bor (List ℕ)) (name : List ℕ) → i < length lent → item ≡ get_or lent i item → item.now ≡ name → list_any (pointwise nat_eq name) (map (λ (w : Bor (List ℕ)). w.now) lent) ≡ true
listed_lent lent i item name within is same =
    let now = λ (w : Bor (List ℕ)). w.now in
    let below : i < length (map now lent) = subst (λ n. i < n) (sym (length-map lent now)) within in
    let at : get_or (map now lent) i item.now ≡ name = get_or-map now lent i item ∙ ap now (sym is) ∙ same in
    list_any_at (pointwise nat_eq name) (map now lent) i item.now below (ap (pointwise nat_eq name) at ∙ nat_list_eq_equiv.refl name)

-- the name with that number, where it is made
pub free_given : {E : Type 0} (draft : DraftedContent) (parent : List (List ℕ)) (name : List ℕ) (most : ℕ) (r : Result (List ℕ) E) → most ≡ most_taken draft.content parent
    → IfOk r (λ t. t ≡ numbered_name name (free_number draft.content parent name 0 most)) → IfOk r (λ t. t ≡ numbered_name name (free_number draft.content parent name 0 (most_taken draft.content parent)))
free_given draft parent name most (Ok t) is made = made ∙ ap (λ m. numbered_name name (free_number draft.content parent name 0 m)) is
free_given draft parent name most (Err e) is made = tt

-- where no node is, no number is taken
pub none_taken : (draft : DraftedContent) (parent : List (List ℕ)) → node_at draft.content parent ≡ None → 0 ≡ most_taken draft.content parent
none_taken draft parent none = sym (ap (λ o. option_map_or (λ (n : Node). length n.kids + length n.props) o 0) none)

pub zero_given : {E : Type 0} (draft : DraftedContent) (parent : List (List ℕ)) (name : List ℕ) (r : Result (List ℕ) E) → IfOk r (λ t. t ≡ numbered_name name 0) → IfOk r (λ t. t ≡ numbered_name name (free_number draft.content parent name 0 0))
unfolding free_number
zero_given draft parent name (Ok t) made = made
zero_given draft parent name (Err e) made = tt

-- what was marked before, or is the number
pub marked : (marks : List Bool) (number : Option ℕ) (n m : ℕ) → number ≡ Some n → slice_index_or (slice_set marks n true) m false ≡ true → (slice_index_or marks m false ≡ true) ⊎ (number ≡ Some m)
marked marks number n m some is = ⊎_elim (λ e. inr (some ∙ ap Some e)) (λ ne. inl (sym (get_or-set_other marks n m true false (λ e. ne (sym e))) ∙ is)) (cases_eq n m)
