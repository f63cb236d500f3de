-- What values that lend stand for. Only the invariant of `Evaluation`, proofs and private functions need this.
use Rattle.std.specs.Prelude.{◌≡◌, ℕ, Bool, true, false, List, [], Option, None, Some, codes, map, option_map, get_or}
use Rattle.std.specs.Fmt.{signed_decimal}
use Rattle.sp_base.specs.Texts.{Text}
use Rattle.htl_expr.specs.declared.out.Out.{Out}
use Rattle.htl_expr.specs.declared.out.Out.TheVariants as out
use Rattle.htl_expr.specs.declared.lent.Lent.{Lent, fold-Lent}
use Rattle.htl_expr.specs.declared.lent.Lent.TheOpen.{Lent-F}
use Rattle.htl_expr.specs.Print.{truth_text, plain}
use Rattle.htl_expr.specs.Value.{is_same, item_texts, property}
use Rattle.htl_expr.specs.declared.compare.SameBy.{SameBy}
use Rattle.htl_expr.specs.declared.compare.SameBy.TheVariants as by
use Rattle.htl_expr.specs.declared.lent.Operand.{Operand}
use Rattle.htl_expr.specs.Bindings.{Bindings}
use Rattle.htl_expr.specs.declared.pieces.ItemPiece.{ItemPiece}
use Rattle.htl_expr.specs.Pieces.{HavePieces}

-- a value that lends, with what its items stand for
abbrev pub out_step : Lent-F Out → Out
out_step Lent-F.Nothing = out.Nothing
out_step (Lent-F.Truth b) = out.Truth b
out_step (Lent-F.Long n) = out.Long n
out_step (Lent-F.Text text) = out.Text text.now
out_step (Lent-F.Texts texts) = out.List texts.now
out_step (Lent-F.Longs ns) = out.List (map signed_decimal ns.now)
out_step (Lent-F.Truths bs) = out.List (map truth_text bs.now)
out_step (Lent-F.Items items) = out.List (item_texts items)

-- what a value that lends stands for
abbrev pub out_of_lent : Lent → Out
out_of_lent = fold-Lent Out out_step

-- the text of an item of a list literal
abbrev pub plain_item : Lent → List ℕ
plain_item value = plain (codes ",") (out_of_lent value)

-- the texts of a list
abbrev pub listed_texts : Out → List Text
listed_texts (out.List texts) = texts
listed_texts _ = []

-- whether a value is a list
abbrev pub is_list : Out → Bool
is_list (out.List texts) = true
is_list _ = false

-- whether a value is a text
abbrev pub is_lent_text : Out → Bool
is_lent_text (out.Text text) = true
is_lent_text _ = false

-- two lists are the same by their items, and two texts by their bytes
abbrev pub IsToldBy : SameBy → Out → Out → Type 0
IsToldBy by.Items a b = (is_list a ≡ true) × (is_list b ≡ true)
IsToldBy by.Text a b = (is_lent_text a ≡ true) × (is_lent_text b ≡ true)
IsToldBy (by.Value same) a b = same ≡ is_same a b

-- the text of the property of this name as an item of a list literal
abbrev pub property_item : Bindings → List ℕ → List ℕ
property_item scope name = plain (codes ",") (property scope name)

-- a value that is said to be a property is the one of that name, and of any other the pieces of all items are known
abbrev pub KnowsItself : Bindings → Option (List ℕ) → List (List ItemPiece) → Out → Type 0
KnowsItself scope None items v = HavePieces scope items (listed_texts v)
KnowsItself scope (Some name) items v = v ≡ property scope name

-- what an operand says of itself holds for this resource
abbrev pub IsOperand : Bindings → Operand → Type 0
IsOperand scope operand = KnowsItself scope (option_map (λ name. name.now) operand.property) operand.items (out_of_lent operand.value)

-- the text of a value that lends before it is escaped
abbrev pub plain_lent : List ℕ → Lent → List ℕ
plain_lent join value = plain join (out_of_lent value)

-- the item at a place of a list
abbrev pub listed_item : Lent → ℕ → List ℕ
listed_item value place = get_or (listed_texts (out_of_lent value)) place []
