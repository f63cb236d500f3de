use Rattle.std.proofs.Common.{◌≡◌, ℕ, Bool, true, false, nat_eq, List, ◌++◌, codes, Option, Some, None, refl, ap, sym, ◌∙◌}
use Rattle.std.specs.List.{starts_with}
use Rattle.std.specs.Cmp.Lexicographic.{pointwise}
use Rattle.std.proofs.lemmas.Result.{IfOk-weaker}
use Rattle.sp_base.proofs.TextLemmas.{text_is}
use Rattle.htl_syntax.specs.Tokens.{begins}
use Rattle.htl_blocks.specs.declared.statement.Statement.{Statement}
use Rattle.htl_blocks.specs.declared.statement.Statement.TheVariants as statement
use Rattle.htl_blocks.specs.Attributes.{statement_of, list_statement, is_variable}
use Rattle.htl_blocks.proofs.Split.{begins_with}
use Rattle.htl_blocks.proofs.value.statement_of.Goals as goal

not_same : (a b : List ℕ) → (a ≡ b → ⊥) → pointwise nat_eq a b ≡ false
not_same a b apart = go (pointwise nat_eq a b) refl
  where
    go : (x : Bool) → pointwise nat_eq a b ≡ x → x ≡ false
    go true e = absurd (apart (text_is a b e))
    go false e = refl

no_beginning : (a b : List ℕ) → ((rest : List ℕ) → a ≡ b ++ rest → ⊥) → starts_with nat_eq a b ≡ false
no_beginning a b apart = go (starts_with nat_eq a b) refl
  where
    go : (x : Bool) → starts_with nat_eq a b ≡ x → x ≡ false
    go true e = let more = begins_with a b e in absurd (apart more.0 more.1)
    go false e = refl

item_is : is_variable (codes "item") ≡ true
unfolding is_variable begins
item_is = refl

item_listed : list_statement (codes "item") ≡ Some (statement.List (codes "item"))
item_listed = rw item_is refl

listed : statement_of (codes "data-sly-list") ≡ list_statement (codes "item")
unfolding statement_of
listed = sym item_listed

other_name : (name : List ℕ) → (name ≡ codes "data-sly-test" → ⊥) → (name ≡ codes "data-sly-text" → ⊥) → (name ≡ codes "data-sly-unwrap" → ⊥) → (name ≡ codes "data-sly-include" → ⊥) → (name ≡ codes "data-sly-resource" → ⊥) → (name ≡ codes "data-sly-list" → ⊥) → ((rest : List ℕ) → name ≡ codes "data-sly-list." ++ rest → ⊥) → statement_of name ≡ None
unfolding statement_of
other_name name a b c d e f g =
    rw (not_same name (codes "data-sly-test") a, not_same name (codes "data-sly-text") b, not_same name (codes "data-sly-unwrap") c, not_same name (codes "data-sly-include") d, not_same name (codes "data-sly-resource") e, not_same name (codes "data-sly-list") f, no_beginning name (codes "data-sly-list.") g) refl

pub returns-in-text-6 : goal.returns-in-text-6
returns-in-text-6 c =
    let same : statement_of c.args.name.now ≡ list_statement (codes "item") = ap statement_of c.in-text-6.is ∙ listed in
    IfOk-weaker c.list_statement.result (λ (o : Option Statement). o ≡ list_statement (codes "item")) (λ (o : Option Statement). o ≡ statement_of c.args.name.now) (λ o e. e ∙ sym same) c.list_statement.ensures

pub returns-in-None : goal.returns-in-None
returns-in-None c =
    sym (other_name c.args.name.now c.in_default.not-text c.in_default.not-text-2 c.in_default.not-text-3 c.in_default.not-text-4 c.in_default.not-text-5 c.in_default.not-text-6 c.in-None.ensures.cases)
