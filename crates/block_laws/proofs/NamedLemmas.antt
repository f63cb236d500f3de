-- The names of statements, and what they say.
use Rattle.std.proofs.Common.{◌≡◌, ◌≤◌, inl, inr, Bool, true, false, cond, ◌&&◌, eqb, nat_eq, List, [], ◌∷◌, ◌++◌, drop, length, codes, Some, None, Result, Ok, Err, refl, ap, sym, ◌∙◌, arith}
use Rattle.std.proofs.lemmas.Bool.{and_parts}
use Rattle.std.specs.List.{starts_with}
use Rattle.std.specs.Cmp.Lexicographic.{pointwise, same_text}
use Rattle.sp_base.specs.Texts.{Text}
use Rattle.sp_base.proofs.ListLemmas.{nil_from_test}
use Rattle.htl_text.specs.declared.fault.TextFault.{TextFault}
use Rattle.htl_text.specs.declared.piece.TemplatePiece.{TemplatePiece}
use Rattle.htl_text.specs.Template.{template_of}
use Rattle.htl_blocks.specs.declared.attribute.Attribute.{Attribute}
use Rattle.htl_blocks.specs.declared.attribute.Attribute.TheVariants as attribute
use Rattle.htl_blocks.specs.declared.attribute.Unwrap.TheVariants as unwrap
use Rattle.htl_blocks.specs.declared.statement.Statement.{Statement}
use Rattle.htl_blocks.specs.declared.statement.Statement.TheVariants as statement
use Rattle.htl_blocks.specs.Attributes.{ValueText, none, unquoted, quoted, at_most_one, one_piece, is_variable, list_statement, statement_of, statement_attribute, unwraps, value_of, with_read_value, attribute_with, attribute_without}
use Rattle.htl_blocks.proofs.Split.{begins_with}
use Rattle.block_laws.specs.TagStatements.{IsNamed, Says}

-- ---- names

named_list : (name : Text) (s : Statement) → starts_with nat_eq name (codes "data-sly-list.") ≡ true → list_statement (drop 14 name) ≡ Some s → IsNamed name s
named_list name s starts e =
    let x = begins_with name (codes "data-sly-list.") starts in
    let rest : drop 14 name ≡ x.0 = ap (drop 14) x.1 in
    go x.0 x.1 (is_variable x.0) refl (ap list_statement (sym rest) ∙ e)
  where
    go : (item : Text) → name ≡ codes "data-sly-list." ++ item → (b : Bool) → is_variable item ≡ b → list_statement item ≡ Some s → IsNamed name s
    go item is true v f = let same : Some (statement.List item) ≡ Some s = rw v at f in let g : statement.List item ≡ s = cc in IsNamed.OfListWith item v is (sym g)
    go item is false v f = let clash : None ≡ Some s = rw v at f in absurd cc

pub named_found : (name : Text) (s : Statement) → statement_of name ≡ Some s → IsNamed name s
unfolding statement_of
named_found name s e =
    go1 (pointwise nat_eq name (codes "data-sly-test")) refl e
  where
    go7 : (b : Bool) → starts_with nat_eq name (codes "data-sly-list.") ≡ b → cond b (list_statement (drop 14 name)) None ≡ Some s → IsNamed name s
    go7 true is f = named_list name s is f
    go7 false is f = absurd cc

    go6 : (b : Bool) → pointwise nat_eq name (codes "data-sly-list") ≡ b
        → cond b (Some (statement.List (codes "item"))) (cond (starts_with nat_eq name (codes "data-sly-list.")) (list_statement (drop 14 name)) None) ≡ Some s → IsNamed name s
    go6 true is f = let g : statement.List (codes "item") ≡ s = cc in IsNamed.OfList (same_text name (codes "data-sly-list") (sym is)) (sym g)
    go6 false is f = go7 (starts_with nat_eq name (codes "data-sly-list.")) refl f

    go5 : (b : Bool) → pointwise nat_eq name (codes "data-sly-resource") ≡ b
        → cond b (Some statement.Resource) (cond (pointwise nat_eq name (codes "data-sly-list")) (Some (statement.List (codes "item"))) (cond (starts_with nat_eq name (codes "data-sly-list.")) (list_statement (drop 14 name)) None)) ≡ Some s → IsNamed name s
    go5 true is f = let g : statement.Resource ≡ s = cc in IsNamed.OfResource (same_text name (codes "data-sly-resource") (sym is)) (sym g)
    go5 false is f = go6 (pointwise nat_eq name (codes "data-sly-list")) refl f

    go4 : (b : Bool) → pointwise nat_eq name (codes "data-sly-include") ≡ b
        → cond b (Some statement.Include) (cond (pointwise nat_eq name (codes "data-sly-resource")) (Some statement.Resource) (cond (pointwise nat_eq name (codes "data-sly-list")) (Some (statement.List (codes "item"))) (cond (starts_with nat_eq name (codes "data-sly-list.")) (list_statement (drop 14 name)) None))) ≡ Some s → IsNamed name s
    go4 true is f = let g : statement.Include ≡ s = cc in IsNamed.OfInclude (same_text name (codes "data-sly-include") (sym is)) (sym g)
    go4 false is f = go5 (pointwise nat_eq name (codes "data-sly-resource")) refl f

    go3 : (b : Bool) → pointwise nat_eq name (codes "data-sly-unwrap") ≡ b
        → cond b (Some statement.Unwrap) (cond (pointwise nat_eq name (codes "data-sly-include")) (Some statement.Include) (cond (pointwise nat_eq name (codes "data-sly-resource")) (Some statement.Resource) (cond (pointwise nat_eq name (codes "data-sly-list")) (Some (statement.List (codes "item"))) (cond (starts_with nat_eq name (codes "data-sly-list.")) (list_statement (drop 14 name)) None)))) ≡ Some s → IsNamed name s
    go3 true is f = let g : statement.Unwrap ≡ s = cc in IsNamed.OfUnwrap (same_text name (codes "data-sly-unwrap") (sym is)) (sym g)
    go3 false is f = go4 (pointwise nat_eq name (codes "data-sly-include")) refl f

    go2 : (b : Bool) → pointwise nat_eq name (codes "data-sly-text") ≡ b
        → cond b (Some statement.Text) (cond (pointwise nat_eq name (codes "data-sly-unwrap")) (Some statement.Unwrap) (cond (pointwise nat_eq name (codes "data-sly-include")) (Some statement.Include) (cond (pointwise nat_eq name (codes "data-sly-resource")) (Some statement.Resource) (cond (pointwise nat_eq name (codes "data-sly-list")) (Some (statement.List (codes "item"))) (cond (starts_with nat_eq name (codes "data-sly-list.")) (list_statement (drop 14 name)) None))))) ≡ Some s → IsNamed name s
    go2 true is f = let g : statement.Text ≡ s = cc in IsNamed.OfText (same_text name (codes "data-sly-text") (sym is)) (sym g)
    go2 false is f = go3 (pointwise nat_eq name (codes "data-sly-unwrap")) refl f

    go1 : (b : Bool) → pointwise nat_eq name (codes "data-sly-test") ≡ b
        → cond b (Some statement.Test) (cond (pointwise nat_eq name (codes "data-sly-text")) (Some statement.Text) (cond (pointwise nat_eq name (codes "data-sly-unwrap")) (Some statement.Unwrap) (cond (pointwise nat_eq name (codes "data-sly-include")) (Some statement.Include) (cond (pointwise nat_eq name (codes "data-sly-resource")) (Some statement.Resource) (cond (pointwise nat_eq name (codes "data-sly-list")) (Some (statement.List (codes "item"))) (cond (starts_with nat_eq name (codes "data-sly-list.")) (list_statement (drop 14 name)) None)))))) ≡ Some s → IsNamed name s
    go1 true is f = let g : statement.Test ≡ s = cc in IsNamed.OfTest (same_text name (codes "data-sly-test") (sym is)) (sym g)
    go1 false is f = go2 (pointwise nat_eq name (codes "data-sly-text")) refl f

list_is : (item : Text) → is_variable item ≡ true → statement_of (codes "data-sly-list." ++ item) ≡ Some (statement.List item)
unfolding statement_of
list_is item v = rw v refl

pub named_is : (name : Text) (s : Statement) → IsNamed name s → statement_of name ≡ Some s
unfolding statement_of
named_is name s (IsNamed.OfTest is e) = rw (is, e) refl
named_is name s (IsNamed.OfList is e) = rw (is, e) refl
named_is name s (IsNamed.OfListWith item v is e) = ap statement_of is ∙ list_is item v ∙ ap Some (sym e)
named_is name s (IsNamed.OfText is e) = rw (is, e) refl
named_is name s (IsNamed.OfInclude is e) = rw (is, e) refl
named_is name s (IsNamed.OfResource is e) = rw (is, e) refl
named_is name s (IsNamed.OfUnwrap is e) = rw (is, e) refl

-- ---- what a statement says

unwrap_is : (s : Statement) → unwraps s ≡ true → s ≡ statement.Unwrap
unwrap_is statement.Test e = absurd cc
unwrap_is (statement.List name) e = absurd cc
unwrap_is statement.Text e = absurd cc
unwrap_is statement.Include e = absurd cc
unwrap_is statement.Resource e = absurd cc
unwrap_is statement.Unwrap e = refl

without_found : (s : Statement) (a : Attribute) → attribute_without s ≡ Some a → Says s none a
without_found statement.Test a e = absurd cc
without_found (statement.List name) a e = absurd cc
without_found statement.Text a e = absurd cc
without_found statement.Include a e = absurd cc
without_found statement.Resource a e = absurd cc
without_found statement.Unwrap a e = let same : attribute.Unwrap unwrap.Always ≡ a = cc in Says.Always (inl refl) refl (sym same)

read_found : (s : Statement) (v : Text) (a : Attribute) → (eqb (length v) 0 && unwraps s) ≡ false → with_read_value s (value_of v) ≡ Some a → Says s (quoted v) a
read_found s v a bare e = go (template_of v) refl e
  where
    few : (ps : List TemplatePiece) → template_of v ≡ Ok ps → with_read_value s (at_most_one ps) ≡ Some a → Says s (quoted v) a
    few [] r f = let same : attribute_with s [] ≡ a = cc in Says.Value v [] refl bare r (omega arith) (sym same)
    few (p ∷ []) r f = let same : attribute_with s (p ∷ []) ≡ a = cc in Says.Value v (p ∷ []) refl bare r (omega arith) (sym same)
    few (p ∷ q ∷ ps) r f = absurd cc

    go : (o : Result (List TemplatePiece) TextFault) → template_of v ≡ o → with_read_value s (one_piece o) ≡ Some a → Says s (quoted v) a
    go (Ok ps) r f = few ps r f
    go (Err fault) r f = absurd cc

pub said : (s : Statement) (value : ValueText) (a : Attribute) → statement_attribute s value ≡ Some a → Says s value a
said s none a e = without_found s a e
said s unquoted a e = absurd cc
said s (quoted v) a e = go (eqb (length v) 0 && unwraps s) refl e
  where
    go : (b : Bool) → (eqb (length v) 0 && unwraps s) ≡ b → cond b (Some (attribute.Unwrap unwrap.Always)) (with_read_value s (value_of v)) ≡ Some a → Says s (quoted v) a
    go true is f =
        let both = and_parts (eqb (length v) 0) (unwraps s) is in
        let same : attribute.Unwrap unwrap.Always ≡ a = cc in
        Says.Always (inr (ap quoted (nil_from_test v both.0))) (unwrap_is s both.1) (sym same)
    go false is f = read_found s v a is f

few_is : (ps : List TemplatePiece) → length ps ≤ 1 → at_most_one ps ≡ Some ps
few_is [] h = refl
few_is (p ∷ []) h = refl
few_is (p ∷ q ∷ ps) h = absurd (omega (arith, h))

pub says_is : (s : Statement) (value : ValueText) (a : Attribute) → Says s value a → statement_attribute s value ≡ Some a
says_is s value a (Says.Value v ps is bare r few e) =
    let some = few_is ps few in
    ap (statement_attribute s) is ∙ rw bare (rw r (rw some (ap Some (sym e))))
says_is s value a (Says.Always (inl is) unwraps e) = rw (is, unwraps, e) refl
says_is s value a (Says.Always (inr is) unwraps e) = rw (is, unwraps, e) refl
