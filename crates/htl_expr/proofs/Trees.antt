-- The values of trees that hold operands, where each operand is evaluated after another.
use Rattle.std.proofs.Common.{◌≡◌, ◌<◌, ◌+◌, ℕ, Bool, true, false, if◌then◌else◌, List, [], ◌∷◌, ◌++◌, length, take, get_or, map, sym, ap, ◌∙◌}
use Rattle.std.proofs.lemmas.List.{take_more}
use mathlib.Core.List.{map-append}
use Rattle.htl_expr.specs.declared.lent.Lent.{Lent}
use Rattle.htl_expr.specs.declared.lent.Lent.TheVariants.{Truth, rolls-Truth}
use Rattle.htl_expr.specs.declared.lent.Lent.TheOpen.{Lent-F}
use Rattle.htl_expr.specs.declared.lent.Lent.TheFolds.{fold-roll-Lent}
use Rattle.htl_syntax.specs.declared.node.ExprNode.{ExprNode}
use Rattle.htl_syntax.specs.declared.node.ExprNode.TheVariants.{Compare, And, Or, Choice, rolls-Compare, rolls-And, rolls-Or, rolls-Choice}
use Rattle.htl_syntax.specs.declared.node.ExprNode.TheOpen.{ExprNode-F}
use Rattle.htl_syntax.specs.declared.node.ExprNode.TheFolds.{fold-roll-ExprNode}
use Rattle.htl_syntax.specs.declared.node.Comparison.{Comparison}
use Rattle.htl_expr.specs.declared.out.Out.{Out}
use Rattle.htl_expr.specs.declared.out.Out.TheVariants as out
use Rattle.htl_expr.specs.declared.scope.Scope.{Scope}
use Rattle.htl_expr.specs.Bindings.{with_vars}
use Rattle.htl_expr.specs.Lent.{out_step, out_of_lent}
use Rattle.htl_expr.specs.Value.{is_true, and_values, or_values, comparison_holds, value_step, value}

and_is : (s : Scope) (first : ExprNode) (more : List ExprNode) → value s (And first more) ≡ and_values (value s first) (map (value s) more)
and_is s first more = ap (value s) (sym (rolls-And first more)) ∙ fold-roll-ExprNode Out (value_step s) (ExprNode-F.And first more)

or_is : (s : Scope) (first : ExprNode) (more : List ExprNode) → value s (Or first more) ≡ or_values (value s first) (map (value s) more)
or_is s first more = ap (value s) (sym (rolls-Or first more)) ∙ fold-roll-ExprNode Out (value_step s) (ExprNode-F.Or first more)

-- the same variables for a resource that stayed the same
pub same_with_vars : (vars : List (List ℕ × List ℕ)) (after s : Scope) → after ≡ s → with_vars after vars ≡ with_vars s vars
same_with_vars vars after s same = ap (λ (t : Scope). with_vars t vars) same

-- the first operand was evaluated before, and the others are for the resource as it then is
pub and_whole : (s after : Scope) (node first lent : ExprNode) (more lents : List ExprNode) (a : Out) → after ≡ s → node ≡ And first more → lent ≡ first → lents ≡ more → a ≡ value s lent
    → and_values a (map (value after) lents) ≡ value s node
and_whole s after node first lent more lents a same is one others e =
    ap (λ (t : Scope). and_values a (map (value t) lents)) same ∙ ap (λ (ns : List ExprNode). and_values a (map (value s) ns)) others
    ∙ ap (λ (o : Out). and_values o (map (value s) more)) (e ∙ ap (value s) one) ∙ sym (and_is s first more) ∙ ap (value s) (sym is)

pub or_whole : (s after : Scope) (node first lent : ExprNode) (more lents : List ExprNode) (a : Out) → after ≡ s → node ≡ Or first more → lent ≡ first → lents ≡ more → a ≡ value s lent
    → or_values a (map (value after) lents) ≡ value s node
or_whole s after node first lent more lents a same is one others e =
    ap (λ (t : Scope). or_values a (map (value t) lents)) same ∙ ap (λ (ns : List ExprNode). or_values a (map (value s) ns)) others
    ∙ ap (λ (o : Out). or_values o (map (value s) more)) (e ∙ ap (value s) one) ∙ sym (or_is s first more) ∙ ap (value s) (sym is)

pub truth_out : (b : Bool) → out_of_lent (Truth b) ≡ out.Truth b
truth_out b = ap out_of_lent (sym (rolls-Truth b)) ∙ fold-roll-Lent Out out_step (Lent-F.Truth b)

compared_is : (s : Scope) (k : Comparison) (a b : ExprNode) → value s (Compare k a b) ≡ out.Truth (comparison_holds k (value s a) (value s b))
compared_is s k a b = ap (value s) (sym (rolls-Compare k a b)) ∙ fold-roll-ExprNode Out (value_step s) (ExprNode-F.Compare k a b)

pub compare_whole : (s after : Scope) (node a b lent_a lent_b : ExprNode) (k : Comparison) (v : Out) (holds : Bool) → after ≡ s → node ≡ Compare k a b → lent_a ≡ a → lent_b ≡ b → v ≡ value s lent_a
    → holds ≡ comparison_holds k v (value after lent_b) → out.Truth holds ≡ value s node
compare_whole s after node a b lent_a lent_b k v holds same is one other e found =
    ap out.Truth (found ∙ ap (λ (o : Out). comparison_holds k o (value after lent_b)) (e ∙ ap (value s) one) ∙ ap (λ (t : Scope). comparison_holds k (value s a) (value t lent_b)) same ∙ ap (λ (n : ExprNode). comparison_holds k (value s a) (value s n)) other)
    ∙ sym (compared_is s k a b) ∙ ap (value s) (sym is)

chosen_is : (s : Scope) (condition a b : ExprNode) (t : Bool) → is_true (value s condition) ≡ t → value s (Choice condition a b) ≡ (if t then value s a else value s b)
chosen_is s condition a b t e =
    ap (value s) (sym (rolls-Choice condition a b)) ∙ fold-roll-ExprNode Out (value_step s) (ExprNode-F.Choice condition a b) ∙ ap (λ (t : Bool). if t then value s a else value s b) e

pub choice_then : (s after : Scope) (node condition lent a b lent_a : ExprNode) (v : Out) → after ≡ s → node ≡ Choice condition a b → lent ≡ condition → v ≡ value s lent → is_true v ≡ true → lent_a ≡ a
    → value after lent_a ≡ value s node
choice_then s after node condition lent a b lent_a v same is one e holds other =
    ap (λ (t : Scope). value t lent_a) same ∙ ap (value s) other ∙ sym (chosen_is s condition a b true (ap is_true (sym (e ∙ ap (value s) one)) ∙ holds)) ∙ ap (value s) (sym is)

pub choice_else : (s after : Scope) (node condition lent a b lent_b : ExprNode) (v : Out) → after ≡ s → node ≡ Choice condition a b → lent ≡ condition → v ≡ value s lent → is_true v ≡ false → lent_b ≡ b
    → value after lent_b ≡ value s node
choice_else s after node condition lent a b lent_b v same is one e fails other =
    ap (λ (t : Scope). value t lent_b) same ∙ ap (value s) other ∙ sym (chosen_is s condition a b false (ap is_true (sym (e ∙ ap (value s) one)) ∙ fails)) ∙ ap (value s) (sym is)

-- one item more of a list literal
pub items_go_on : (v : ExprNode → Out) (items : List ExprNode) (i : ℕ) (x : ExprNode) (values new : List Lent) (l : Lent) → i < length items → x ≡ get_or items i x → new ≡ values ++ l ∷ [] → out_of_lent l ≡ v x
    → map out_of_lent values ≡ map v (take i items) → map out_of_lent new ≡ map v (take (i + 1) items)
items_go_on v items i x values new l lt is pushed e known =
    ap (map out_of_lent) pushed ∙ map-append out_of_lent values (l ∷ []) ∙ ap (λ (os : List Out). os ++ out_of_lent l ∷ []) known ∙ ap (λ (o : Out). map v (take i items) ++ o ∷ []) e
    ∙ sym (map-append v (take i items) (x ∷ [])) ∙ ap (map v) (ap (λ (n : ExprNode). take i items ++ n ∷ []) is ∙ sym (take_more items i x lt))
