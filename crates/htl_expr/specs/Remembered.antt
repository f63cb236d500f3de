-- What an evaluation remembers of its resource. Only the invariant of `Evaluation`, proofs and private functions need this.
use Rattle.std.specs.Prelude.{◌≡◌, ℕ, false, List, [], ◌∷◌, Some, IfSome, IsSome}
use Rattle.std.specs.BTreeMap.{BTreeMap, get}
use Rattle.sp_base.specs.Texts.{Text}
use Rattle.sp_base.specs.Names.{by_name}
use Rattle.htl_expr.specs.Bindings.{Bindings}
use Rattle.htl_expr.specs.declared.numbered.Aspect.{Aspect}
use Rattle.htl_expr.specs.declared.numbered.Aspect.TheVariants as aspect
use Rattle.htl_expr.specs.declared.numbered.Numbering.{Numbering}
use Rattle.htl_expr.specs.declared.pieces.ItemPiece.{ItemPiece}
use Rattle.htl_expr.specs.declared.pieces.ItemPiece.TheVariants as piece
use Rattle.htl_expr.specs.declared.scope.Scope.{Scope}
use Rattle.htl_expr.specs.ComparedValue.{number_in}
use Rattle.htl_expr.specs.Print.{plain}
use Rattle.htl_expr.specs.Value.{property}
use Rattle.htl_expr.specs.Lent.{property_item, listed_texts, is_lent_text}

-- what of the property of this name is compared
abbrev pub compared_by : Bindings → Aspect → List ℕ → List Text
compared_by scope aspect.List name = listed_texts (property scope name)
compared_by scope aspect.Item name = property_item scope name ∷ []

-- what is known of a name is the number of what is compared of its property
abbrev pub Knows : Bindings → Aspect → List (List Text × ℕ) → BTreeMap (List ℕ) ℕ → Type 0
Knows scope of_it classes known = (name : List ℕ) → IfSome (get by_name known name) (λ number. number_in classes (compared_by scope of_it name) ≡ Some number)

-- what is remembered of a property is its text where nothing stands between its items
abbrev pub RemembersJoined : Scope → BTreeMap (List ℕ) (List ℕ) → Type 0
RemembersJoined scope known = (name : List ℕ) → IfSome (get by_name known name) (λ text. text ≡ plain [] (property scope name))

-- what is remembered of a property is its text as an item
abbrev pub RemembersItemTexts : Scope → BTreeMap (List ℕ) (List ℕ) → Type 0
RemembersItemTexts scope known = (name : List ℕ) → IfSome (get by_name known name) (λ text. text ≡ property_item scope name)

-- what an evaluation remembers of its resource: the numbers of lists and of items, the joined texts, and the texts as items
abbrev pub Remembers : Scope → Numbering → Numbering → BTreeMap (List ℕ) (List ℕ) → BTreeMap (List ℕ) (List ℕ) → Type 0
Remembers scope lists items joined item_texts =
    Knows scope aspect.List lists.classes lists.known × (Knows scope aspect.Item items.classes items.known × (RemembersJoined scope joined × RemembersItemTexts scope item_texts))

-- each property whose text was remembered has one still
abbrev pub KeepsItemTexts : BTreeMap (List ℕ) (List ℕ) → BTreeMap (List ℕ) (List ℕ) → Type 0
KeepsItemTexts old new = (name : List ℕ) → IsSome (get by_name old name) → IsSome (get by_name new name)

-- the text of the property of this name as an item is lent or remembered
abbrev pub HasItemText : Bindings → BTreeMap (List ℕ) (List ℕ) → List ℕ → Type 0
HasItemText scope known name = is_lent_text (property scope name) ≡ false → IsSome (get by_name known name)

-- the text of a piece is lent, remembered or that of a number
abbrev pub HasPieceText : Bindings → BTreeMap (List ℕ) (List ℕ) → ItemPiece → Type 0
HasPieceText scope known (piece.Property name) = HasItemText scope known name.now
HasPieceText scope known (piece.Text text) = Unit {0}
HasPieceText scope known (piece.Long n) = Unit {0}
