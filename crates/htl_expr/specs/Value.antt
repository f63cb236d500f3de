-- What an expression gives for a resource (HTL specification 1.4, "Expression Language").
use Rattle.std.specs.Prelude.{ℕ, ℤ, pos, Bool, true, false, not, nat_eq, int_lt, int_le, ◌==◌, if◌then◌else◌, List, [], ◌∷◌, Option, Some, None, codes, length, map}
use Rattle.std.specs.Fmt.{signed_decimal}
use Rattle.std.specs.FinMap.Entries.{find}
use Rattle.std.specs.Map.{lookup}
use Rattle.std.specs.Ordering.{int_eq}
use Rattle.std.specs.Cmp.Lexicographic.{pointwise}
use Rattle.sp_base.specs.Texts.{Text}
use Rattle.sp_base.specs.Names.{by_name}
use Rattle.sp_base.specs.declared.value.Value.{Value}
use Rattle.sp_base.specs.declared.value.Value.TheVariants as stored
use Rattle.htl_expr.specs.declared.out.Out.{Out}
use Rattle.htl_expr.specs.declared.out.Out.TheVariants as out
use Rattle.htl_expr.specs.declared.scope.Scope.{Scope}
use Rattle.htl_syntax.specs.declared.node.Comparison.{Comparison}
use Rattle.htl_syntax.specs.declared.node.Comparison.TheVariants.{Equal, NotEqual, Below, Above, AtMost, AtLeast}
use Rattle.htl_syntax.specs.declared.node.ExprNode.{ExprNode, fold-ExprNode}
use Rattle.htl_syntax.specs.declared.node.ExprNode.TheOpen.{ExprNode-F}
use Rattle.htl_syntax.specs.declared.expression.Expression.{Expression}
use Rattle.htl_expr.specs.Print.{truth_text, plain, join_text, in_context}

-- nothing, false, 0, the empty text and the empty list are false
abbrev pub is_true : Out → Bool
is_true out.Nothing = false
is_true (out.Truth b) = b
is_true (out.Long n) = not (int_eq n (pos 0))
is_true (out.Text text) = not (length text == 0)
is_true (out.List texts) = not (length texts == 0)

-- the same kind and the same content
abbrev pub is_same : Out → Out → Bool
is_same out.Nothing out.Nothing = true
is_same (out.Truth a) (out.Truth b) = if a then b else not b
is_same (out.Long a) (out.Long b) = int_eq a b
is_same (out.Text a) (out.Text b) = pointwise nat_eq a b
is_same (out.List a) (out.List b) = pointwise (pointwise nat_eq) a b
is_same _ _ = false

-- two numbers in this order; other values have none
abbrev pub are_ordered : (ℤ → ℤ → Bool) → Out → Out → Bool
are_ordered test (out.Long a) (out.Long b) = test a b
are_ordered test _ _ = false

-- whether a comparison holds
abbrev pub comparison_holds : Comparison → Out → Out → Bool
comparison_holds Equal a b = is_same a b
comparison_holds NotEqual a b = not (is_same a b)
comparison_holds Below a b = are_ordered int_lt a b
comparison_holds Above a b = are_ordered int_lt b a
comparison_holds AtMost a b = are_ordered int_le a b
comparison_holds AtLeast a b = are_ordered int_le b a

-- a && b: the first if it is false, else the second
abbrev pub and_value : Out → Out → Out
and_value a b = if is_true a then b else a

-- a || b: the first if it is true, else the second
abbrev pub or_value : Out → Out → Out
or_value a b = if is_true a then a else b

-- a && b && ..: the first that is false, else the last
abbrev pub and_values : Out → List Out → Out
and_values a [] = a
and_values a (b ∷ bs) = if is_true a then and_values b bs else a

-- a || b || ..: the first that is true, else the last
abbrev pub or_values : Out → List Out → Out
or_values a [] = a
or_values a (b ∷ bs) = if is_true a then a else or_values b bs

-- the items of a list literal as texts without escapes
abbrev pub item_texts : List Out → List Text
item_texts items = map (plain (codes ",")) items

-- a property: a text, a number, a truth, or a list with its items as texts
abbrev pub out_of : Value → Out
out_of (stored.Text text) = out.Text text
out_of (stored.Long n) = out.Long n
out_of (stored.Truth b) = out.Truth b
out_of (stored.Texts texts) = out.List texts
out_of (stored.Longs ns) = out.List (map signed_decimal ns)
out_of (stored.Truths bs) = out.List (map truth_text bs)

-- nothing, where there is no such property
abbrev pub out_or_nothing : Option Value → Out
out_or_nothing None = out.Nothing
out_or_nothing (Some value) = out_of value

-- the property of the resource that has this name
abbrev pub property : Scope → List ℕ → Out
property scope name = out_or_nothing (find by_name name scope.props)

-- the path, its last segment, or the resource type
abbrev pub field : Scope → List ℕ → Option (List ℕ)
field scope name =
    if pointwise nat_eq name (codes "path") then Some scope.path
    else (if pointwise nat_eq name (codes "name") then Some scope.name
    else (if pointwise nat_eq name (codes "resourceType") then Some scope.resource_type else None))

-- nothing, where there is no such text
abbrev pub text_or_nothing : Option (List ℕ) → Out
text_or_nothing None = out.Nothing
text_or_nothing (Some text) = out.Text text

-- what the resource itself has under this name
abbrev pub resource : Scope → List ℕ → Out
resource scope name = text_or_nothing (field scope name)

-- the variable that has this name
abbrev pub variable : Scope → List ℕ → Out
variable scope name = text_or_nothing (lookup (pointwise nat_eq name) scope.vars)

-- a node, with the values of the nodes that it holds
abbrev pub value_step : Scope → ExprNode-F Out → Out
value_step scope (ExprNode-F.Text text) = out.Text text
value_step scope (ExprNode-F.Long n) = out.Long n
value_step scope (ExprNode-F.Truth b) = out.Truth b
value_step scope (ExprNode-F.Variable name) = variable scope name
value_step scope (ExprNode-F.Property name) = property scope name
value_step scope (ExprNode-F.Resource name) = resource scope name
value_step scope (ExprNode-F.List items) = out.List (item_texts items)
value_step scope (ExprNode-F.Access v names) = out.Nothing
value_step scope (ExprNode-F.Not v) = out.Truth (not (is_true v))
value_step scope (ExprNode-F.Compare comparison a b) = out.Truth (comparison_holds comparison a b)
value_step scope (ExprNode-F.And a more) = and_values a more
value_step scope (ExprNode-F.Or a more) = or_values a more
value_step scope (ExprNode-F.Choice condition a b) = if is_true condition then a else b

-- the value of a tree
abbrev pub value : Scope → ExprNode → Out
value scope = fold-ExprNode Out (value_step scope)

-- the values of trees
abbrev pub values : Scope → List ExprNode → List Out
values scope nodes = map (value scope) nodes

-- an expression without a tree is nothing
abbrev pub value_or_nothing : Scope → Option ExprNode → Out
value_or_nothing scope None = out.Nothing
value_or_nothing scope (Some node) = value scope node

-- the value of a whole expression; an empty one is nothing
abbrev pub expr_value : Scope → Expression → Out
expr_value scope e = value_or_nothing scope e.node

-- the items of a list as texts; what is no list has none
abbrev pub list_in : Out → Option (List Text)
list_in (out.List texts) = Some texts
list_in _ = None

-- the text of a whole expression before it is escaped
abbrev pub unescaped_text : Scope → Expression → List ℕ
unescaped_text scope e = plain (join_text e.join) (expr_value scope e)

-- the text that a whole expression writes
abbrev pub print : Scope → Expression → List ℕ
print scope e = in_context e.context (plain (join_text e.join) (expr_value scope e))
