-- Chains of operands and the items of list literals.
use Rattle.std.proofs.Common.{◌≡◌, ◌<◌, ◌+◌, ℕ, Bool, true, false, cond, List, [], ◌∷◌, length, drop, get_or, map, codes, refl, sym, ap, ◌∙◌}
use Rattle.std.proofs.lemmas.List.{drop_more}
use Rattle.htl_expr.specs.declared.lent.Lent.{Lent}
use Rattle.htl_expr.specs.declared.lent.Lent.TheVariants.{Items, rolls-Items}
use Rattle.htl_expr.specs.declared.lent.Lent.TheOpen.{Lent-F}
use Rattle.htl_expr.specs.declared.lent.Lent.TheFolds.{fold-roll-Lent}
use Rattle.htl_expr.specs.declared.out.Out.TheVariants as out
use Rattle.htl_syntax.specs.declared.node.ExprNode.{ExprNode}
use Rattle.htl_expr.specs.declared.out.Out.{Out}
use Rattle.htl_expr.specs.Print.{plain}
use Rattle.htl_expr.specs.Lent.{out_step, out_of_lent, plain_item}
use Rattle.htl_expr.specs.Writing.{itself}
use Rattle.htl_expr.specs.Value.{is_true, and_values, or_values}

and_next_is : (a b : Out) (bs : List Out) → and_values a (b ∷ bs) ≡ and_values (cond (is_true a) b a) bs
and_next_is a b bs = go (is_true a) refl bs
  where
    go : (t : Bool) → is_true a ≡ t → (bs : List Out) → cond t (and_values b bs) a ≡ and_values (cond t b a) bs
    go true e bs = refl
    go false e [] = refl
    go false e (c ∷ cs) = rw e refl

or_next_is : (a b : Out) (bs : List Out) → or_values a (b ∷ bs) ≡ or_values (cond (is_true a) a b) bs
or_next_is a b bs = go (is_true a) refl bs
  where
    go : (t : Bool) → is_true a ≡ t → (bs : List Out) → cond t a (or_values b bs) ≡ or_values (cond t a b) bs
    go false e bs = refl
    go true e [] = refl
    go true e (c ∷ cs) = rw e refl

-- what is left of a chain begins with the operand at this place
left : (v : ExprNode → Out) (more : List ExprNode) (i : ℕ) (x : ExprNode) → i < length more → x ≡ get_or more i x → map v (drop i more) ≡ v x ∷ map v (drop (i + 1) more)
left v more i x lt is = ap (map v) (drop_more more i x lt ∙ ap (λ (n : ExprNode). n ∷ drop (i + 1) more) (sym is))

pub and_goes_on : (v : ExprNode → Out) (more : List ExprNode) (i : ℕ) (x : ExprNode) (a next whole : Out) → i < length more → x ≡ get_or more i x → next ≡ cond (is_true a) (v x) a
    → and_values a (map v (drop i more)) ≡ whole → and_values next (map v (drop (i + 1) more)) ≡ whole
and_goes_on v more i x a next whole lt is e inv =
    ap (λ (n : Out). and_values n (map v (drop (i + 1) more))) e ∙ sym (and_next_is a (v x) (map v (drop (i + 1) more))) ∙ sym (ap (and_values a) (left v more i x lt is)) ∙ inv

pub or_goes_on : (v : ExprNode → Out) (more : List ExprNode) (i : ℕ) (x : ExprNode) (a next whole : Out) → i < length more → x ≡ get_or more i x → next ≡ cond (is_true a) a (v x)
    → or_values a (map v (drop i more)) ≡ whole → or_values next (map v (drop (i + 1) more)) ≡ whole
or_goes_on v more i x a next whole lt is e inv =
    ap (λ (n : Out). or_values n (map v (drop (i + 1) more))) e ∙ sym (or_next_is a (v x) (map v (drop (i + 1) more))) ∙ sym (ap (or_values a) (left v more i x lt is)) ∙ inv

-- the texts of the items of a list literal
pub item_texts_are : (items : List Lent) → map (plain (codes ",")) (map out_of_lent items) ≡ map plain_item items
item_texts_are [] = refl
item_texts_are (x ∷ xs) = ap (λ (l : List (List ℕ)). plain_item x ∷ l) (item_texts_are xs)

pub items_out : (items : List Lent) → out_of_lent (Items items) ≡ out.List (map plain_item items)
items_out items = ap out_of_lent (sym (rolls-Items items)) ∙ fold-roll-Lent Out out_step (Lent-F.Items items) ∙ ap out.List (item_texts_are items)

-- texts are their own texts
pub texts_are : (texts : List (List ℕ)) → map itself texts ≡ texts
texts_are [] = refl
texts_are (t ∷ ts) = ap (λ (l : List (List ℕ)). t ∷ l) (texts_are ts)
