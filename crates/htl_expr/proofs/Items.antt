-- The items of a list literal and their pieces.
use Rattle.std.proofs.Common.{◌≡◌, ◌<◌, ◌≤◌, ℕ, zero, suc, nat_eq, Bool, true, Result, IfOk, Bor, List, [], ◌∷◌, ◌++◌, Option, None, Some, codes, flat_map, length, get_or, map, option_map, refl, sym, ap, subst, ◌∙◌, append-nil, arith}
use Rattle.std.proofs.lemmas.Option.{slice_get-get_or, slice_get_past}
use Rattle.std.specs.Cmp.Lexicographic.{pointwise}
use Rattle.std.specs.List.{slice_get}
use mathlib.Core.List.{map-append}
use Rattle.sp_base.specs.declared.text.TextBuf.{TextBuf}
use Rattle.htl_expr.specs.Bindings.{Bindings}
use Rattle.htl_expr.specs.declared.out.Out.{Out}
use Rattle.htl_expr.specs.declared.out.Out.TheVariants as out
use Rattle.htl_expr.specs.declared.pieces.ItemPiece.{ItemPiece}
use Rattle.htl_expr.specs.declared.pieces.ItemPiece.TheVariants as piece
use Rattle.htl_expr.specs.Print.{concatenation, plain}
use Rattle.htl_expr.specs.Value.{property, resource, field, text_or_nothing}
use Rattle.htl_expr.specs.Lent.{is_list, property_item, listed_texts, KnowsItself}
use Rattle.htl_expr.specs.Pieces.{item_piece_text, AreItemPieces, HavePieces}
use Rattle.htl_expr.proofs.PieceLemmas.{alone, of_all, one_more, as_many, at_place}

-- one item more, and its pieces, where the texts of the items are what is put together
pub one_item_more : {Y : Type 0} (scope : Bindings) (text : Y → List ℕ) (items more_items : List (List ItemPiece)) (values more_values : List Y) (pieces : List ItemPiece) (value : Y)
    → more_items ≡ items ++ pieces ∷ [] → more_values ≡ values ++ value ∷ [] → AreItemPieces scope pieces (text value) → HavePieces scope items (map text values) → HavePieces scope more_items (map text more_values)
one_item_more scope text items more_items values more_values pieces value e f are known =
    subst (λ (is : List (List ItemPiece)). HavePieces scope is (map text more_values)) (sym e)
    (subst (λ (ts : List (List ℕ)). HavePieces scope (items ++ pieces ∷ []) ts) (sym (ap (map text) f ∙ map-append text values (value ∷ [])))
    (one_more scope items (map text values) pieces (text value) known are))

-- a property as a piece
pub property_piece : (scope : Bindings) (name : Bor TextBuf) → AreItemPieces scope (piece.Property name ∷ []) (property_item scope name.now)
property_piece scope name = alone scope (piece.Property name) (property_item scope name.now) refl

-- a property has the text that the property has as an item
pub of_property : (scope : Bindings) (name : List ℕ) (v : Out) (pieces : List ItemPiece) → v ≡ property scope name → AreItemPieces scope pieces (property_item scope name) → AreItemPieces scope pieces (plain (codes ",") v)
of_property scope name v pieces is are = subst (λ (o : Out). AreItemPieces scope pieces (plain (codes ",") o)) (sym is) are

-- the text of a list is that of its items
pub listed : (v : Out) → is_list v ≡ true → plain (codes ",") v ≡ concatenation (codes ",") (listed_texts v)
listed (out.List texts) e = refl
listed out.Nothing e = absurd cc
listed (out.Truth b) e = absurd cc
listed (out.Long n) e = absurd cc
listed (out.Text text) e = absurd cc

-- a list with one item has its text
pub only_item : (v : Out) (place : ℕ) → length (listed_texts v) ≡ 1 → place < 1 → plain (codes ",") v ≡ get_or (listed_texts v) place []
only_item v (suc place) one lt = absurd (omega (arith, lt))
only_item (out.List []) zero one lt = absurd cc
only_item (out.List (t ∷ [])) zero one lt = append-nil t
only_item (out.List (t ∷ u ∷ texts)) zero one lt = absurd cc
only_item out.Nothing zero one lt = absurd cc
only_item (out.Truth b) zero one lt = absurd cc
only_item (out.Long n) zero one lt = absurd cc
only_item (out.Text text) zero one lt = absurd cc

-- a list without items has the text of an empty piece
pub empty_literal : (scope : Bindings) (v : Out) (text : ItemPiece) → is_list v ≡ true → listed_texts v ≡ [] → item_piece_text scope text ≡ [] → AreItemPieces scope (text ∷ []) (plain (codes ",") v)
empty_literal scope v text list none empty = alone scope text (plain (codes ",") v) (listed v list ∙ ap (concatenation (codes ",")) none ∙ sym empty)

-- the text of a list literal is put together of the pieces of all of its items
pub literal_of_all : (scope : Bindings) (v : Out) (items : List (List ItemPiece)) (pieces : List ItemPiece) → is_list v ≡ true → 0 < length items → HavePieces scope items (listed_texts v) → pieces ≡ flat_map (λ (ps : List ItemPiece). ps) items
    → AreItemPieces scope pieces (plain (codes ",") v)
literal_of_all scope v items pieces list some known all = subst (AreItemPieces scope pieces) (sym (listed v list)) (of_all scope items (listed_texts v) pieces some known all)

-- a text, or nothing, has no items
pub text_has_no_items : (text : Option (List ℕ)) → listed_texts (text_or_nothing text) ≡ []
text_has_no_items None = refl
text_has_no_items (Some text) = refl

-- what the resource has under a name of its own has no items
pub field_has_no_items : (scope : Bindings) (name : List ℕ) → listed_texts (resource scope name) ≡ []
field_has_no_items scope name = text_has_no_items (field scope name)

-- what an operand that is no property says of its items
pub no_property : (scope : Bindings) (named : Option (Bor TextBuf)) (items : List (List ItemPiece)) (v : Out) → named ≡ None → KnowsItself scope (option_map (λ (name : Bor TextBuf). name.now) named) items v → HavePieces scope items (listed_texts v)
no_property scope None items v none known = known
no_property scope (Some name) items v none known = absurd cc

-- of a value that is no property the pieces of all items are known
pub piece_count : (scope : Bindings) (named : Option (Bor TextBuf)) (items : List (List ItemPiece)) (v : Out) (place : ℕ) → named ≡ None → KnowsItself scope (option_map (λ (name : Bor TextBuf). name.now) named) items v
    → place < length (listed_texts v) → place < length items
piece_count scope named items v place none known lt = omega (arith, lt, as_many scope items (listed_texts v) (no_property scope named items v none known))

-- the pieces of the item at a place
pub pieces_there : (scope : Bindings) (named : Option (Bor TextBuf)) (items : List (List ItemPiece)) (v : Out) (pieces : List ItemPiece) (place : ℕ) → named ≡ None → KnowsItself scope (option_map (λ (name : Bor TextBuf). name.now) named) items v
    → place < length (listed_texts v) → pieces ≡ get_or items place [] → AreItemPieces scope pieces (get_or (listed_texts v) place [])
pieces_there scope named items v pieces place none known lt is =
    subst (λ (ps : List ItemPiece). AreItemPieces scope ps (get_or (listed_texts v) place [])) (sym is) (at_place scope items (listed_texts v) place (no_property scope named items v none known) lt)

-- a comparison that speaks of an item's text, and not of its pieces
pub same_by_text : {E : Type 0} (r : Result Bool E) (x y z : List ℕ) → y ≡ z → IfOk r (λ same. same ≡ pointwise nat_eq y x) → IfOk r (λ same. same ≡ pointwise nat_eq z x)
same_by_text r x y z is known = subst (λ (t : List ℕ). IfOk r (λ same. same ≡ pointwise nat_eq t x)) is known

pub same_by_other_text : {E : Type 0} (r : Result Bool E) (x y z : List ℕ) → y ≡ z → IfOk r (λ same. same ≡ pointwise nat_eq x y) → IfOk r (λ same. same ≡ pointwise nat_eq x z)
same_by_other_text r x y z is known = subst (λ (t : List ℕ). IfOk r (λ same. same ≡ pointwise nat_eq x t)) is known

-- an item that is there, and one that isn't
pub item_there : (texts : List (List ℕ)) (place : ℕ) → place < length texts → Some (get_or texts place []) ≡ slice_get texts place
item_there texts place lt = sym (slice_get-get_or texts place [] lt)

pub no_item : (texts : List (List ℕ)) (place : ℕ) → length texts ≤ place → None ≡ slice_get texts place
no_item texts place le = sym (slice_get_past texts place le)
