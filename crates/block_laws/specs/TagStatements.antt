-- What a tag says, and what is left of it (HTML Template Language specification 1.4, "Block Statements"): its text in pieces, and between them its block statements.
use Rattle.std.specs.Prelude.{◌≡◌, ◌⊎◌, ◌≤◌, ◌==◌, ◌&&◌, ◌||◌, ℕ, Bool, true, false, not, List, [], ◌∷◌, ◌++◌, Option, Some, None, Ok, codes, length}
use Rattle.std.specs.List.{AllByRecursion, filter_map, list_all}
use Rattle.std.specs.Option.{option_to_list}
use Rattle.sp_base.specs.Texts.{Text}
use Rattle.htl_syntax.specs.Tokens.{is_blank, is_quote}
use Rattle.htl_text.specs.declared.piece.TemplatePiece.{TemplatePiece}
use Rattle.htl_text.specs.Template.{template_of}
use Rattle.htl_blocks.specs.declared.attribute.Attribute.{Attribute}
use Rattle.htl_blocks.specs.declared.attribute.Attribute.TheVariants as attribute
use Rattle.htl_blocks.specs.declared.attribute.Attributes.{Attributes}
use Rattle.htl_blocks.specs.declared.attribute.Body.{Body}
use Rattle.htl_blocks.specs.declared.attribute.Unwrap.{Unwrap}
use Rattle.htl_blocks.specs.declared.attribute.Unwrap.TheVariants as unwrap
use Rattle.htl_blocks.specs.declared.quoting.Quoting.TheVariants.{Outside}
use Rattle.htl_blocks.specs.declared.statement.Statement.{Statement}
use Rattle.htl_blocks.specs.declared.statement.Statement.TheVariants as statement
use Rattle.htl_blocks.specs.Attributes.{begins_statement, is_block_tag, ValueText, none, quoted, is_variable, attribute_with, unwraps}
use Rattle.htl_blocks.specs.Markup.{ends_key}
use Rattle.htl_blocks.specs.Spelling.{whole_text}
use Rattle.block_laws.specs.PartKinds.{quoting_after, HoldsOfNone}

-- ---- one statement

-- a byte that an attribute's name may have
abbrev pub is_key_byte : ℕ → Bool
is_key_byte c = not (ends_key c)

-- nothing, or a byte of which this doesn't hold
abbrev pub BeginsApart : (ℕ → Bool) → Text → Type 0
BeginsApart good [] = Unit {0}
BeginsApart good (c ∷ t) = good c ≡ false

-- nothing but blanks
abbrev pub AreBlanks : Text → Type 0
AreBlanks t = list_all is_blank t ≡ true

-- no quote mark of this kind
abbrev pub HasNoMark : ℕ → Text → Type 0
HasNoMark mark t = list_all (λ c. not (c == mark)) t ≡ true

-- the statement that a name stands for
pub data IsNamed (name : Text) (s : Statement) : Type 0 where
  OfTest : name ≡ codes "data-sly-test" → s ≡ statement.Test → IsNamed name s
  OfList : name ≡ codes "data-sly-list" → s ≡ statement.List (codes "item") → IsNamed name s
  OfListWith : (item : Text) → is_variable item ≡ true → name ≡ codes "data-sly-list." ++ item → s ≡ statement.List item → IsNamed name s
  OfText : name ≡ codes "data-sly-text" → s ≡ statement.Text → IsNamed name s
  OfInclude : name ≡ codes "data-sly-include" → s ≡ statement.Include → IsNamed name s
  OfResource : name ≡ codes "data-sly-resource" → s ≡ statement.Resource → IsNamed name s
  OfUnwrap : name ≡ codes "data-sly-unwrap" → s ≡ statement.Unwrap → IsNamed name s

-- The value after an attribute's name, and what follows it. There is none where "=" doesn't come next, blanks passed over; else it stands in quotes
-- after "=" and blanks, and reaches to the end where the second mark isn't there.
pub data HasValue (t : Text) (value : ValueText) (later : Text) : Type 0 where
  Without : ((blanks more : Text) → AreBlanks blanks → t ≡ blanks ++ 61 ∷ more → ⊥) → value ≡ none → later ≡ t → HasValue t value later
  Quoted : (before after v : Text) (mark : ℕ) → AreBlanks before → AreBlanks after → is_quote mark ≡ true → HasNoMark mark v
      → t ≡ before ++ 61 ∷ (after ++ mark ∷ (v ++ mark ∷ later)) → value ≡ quoted v → HasValue t value later
  Unclosed : (before after v : Text) (mark : ℕ) → AreBlanks before → AreBlanks after → is_quote mark ≡ true → HasNoMark mark v
      → t ≡ before ++ 61 ∷ (after ++ mark ∷ v) → value ≡ quoted v → later ≡ [] → HasValue t value later

-- what a statement says by its value: a template of one piece at most; unwrap says that it always holds where it has no value, or an empty one
pub data Says (s : Statement) (value : ValueText) (a : Attribute) : Type 0 where
  Value : (v : Text) (ps : List TemplatePiece) → value ≡ quoted v → (length v == 0 && unwraps s) ≡ false → template_of v ≡ Ok ps → length ps ≤ 1 → a ≡ attribute_with s ps → Says s value a
  Always : (value ≡ none) ⊎ (value ≡ quoted []) → s ≡ statement.Unwrap → a ≡ attribute.Unwrap unwrap.Always → Says s value a

-- a text begins with a statement: its name, as far as an attribute's name goes, and its value
pub record BeginsWithAttribute (t : Text) (a : Attribute) (later : Text) : Type 0 where
  pub name : Text
  pub after : Text
  pub means : Statement
  pub value : ValueText
  pub whole : t ≡ name ++ after
  pub all : list_all is_key_byte name ≡ true
  pub stops : BeginsApart is_key_byte after
  pub named : IsNamed name means
  pub valued : HasValue after value later
  pub says : Says means value a

-- ---- one tag

-- the last byte, if any, is no blank
abbrev pub EndsInNoBlank : Text → Type 0
EndsInNoBlank t = (before : Text) (last : ℕ) → t ≡ before ++ last ∷ [] → is_blank last ≡ false

-- A text is cut at its first statement, which is where outside quotes a blank stands directly before `data-sly-`: what is kept of the text before, the
-- blanks between, and the text from the statement on.
pub record IsCutAtStatement (t kept from : Text) : Type 0 where
  pub blanks : Text
  pub blank : ℕ
  pub whole : t ≡ (kept ++ blanks) ++ blank ∷ from
  pub first : HoldsOfNone begins_statement Outside (kept ++ blanks) (blank ∷ from)
  pub here : begins_statement (quoting_after Outside (kept ++ blanks)) blank from ≡ true
  pub are_blanks : AreBlanks blanks
  pub ends : EndsInNoBlank kept

-- the pieces of a tag that are kept, and the statements between them in their order
pub data SpellsTag : Text → List Text → List Attribute → Type 0 where
  Last : {t : Text} → HoldsOfNone begins_statement Outside t [] → SpellsTag t (t ∷ []) []
  More : {t kept from later : Text} {pieces : List Text} {a : Attribute} {each : List Attribute} → IsCutAtStatement t kept from → BeginsWithAttribute from a later
      → SpellsTag later pieces each → SpellsTag t (kept ∷ pieces) (a ∷ each)

-- ---- the statements together

-- the value of a test
abbrev pub as_test : Attribute → Option (List TemplatePiece)
as_test (attribute.Test v) = Some v
as_test _ = None

-- the variable and the value of a list
abbrev pub as_list : Attribute → Option (Text × List TemplatePiece)
as_list (attribute.List name v) = Some (name, v)
as_list _ = None

-- a text, an include or a resource
abbrev pub as_body : Attribute → Option Body
as_body (attribute.Body b) = Some b
as_body _ = None

-- when the tags are left out
abbrev pub as_unwrap : Attribute → Option Unwrap
as_unwrap (attribute.Unwrap u) = Some u
as_unwrap _ = None

-- of each kind there is one at most among the statements, and it is that of the tag
pub record HasEachOnce (each : List Attribute) (a : Attributes) : Type 0 where
  pub test : filter_map as_test each ≡ option_to_list a.test
  pub list : filter_map as_list each ≡ option_to_list a.list
  pub body : filter_map as_body each ≡ option_to_list a.body
  pub unwrap : filter_map as_unwrap each ≡ option_to_list a.unwrap

-- a tag has these statements, and without them it is this text
pub record IsTagWith (tag : Text) (a : Attributes) (kept : Text) : Type 0 where
  pub pieces : List Text
  pub each : List Attribute
  pub spelled : SpellsTag tag pieces each
  pub once : HasEachOnce each a
  pub left : kept ≡ whole_text pieces

-- ---- what is left of it

-- a blank, "/" or ">"
abbrev pub goes_on_after_values : ℕ → Bool
goes_on_after_values c = is_blank c || (c == 47 || c == 62)

-- nothing, or first one of these
abbrev pub GoesOnAfterValues : Text → Type 0
GoesOnAfterValues [] = Unit {0}
GoesOnAfterValues (c ∷ t) = goes_on_after_values c ≡ true

-- after each statement the tag goes on so
abbrev pub ArePiecesApart : List Text → Type 0
ArePiecesApart [] = Unit {0}
ArePiecesApart (first ∷ pieces) = AllByRecursion GoesOnAfterValues pieces

-- of a tag of which the pieces are apart no statement is left
abbrev pub HasNoStatementLeftIfApart : Text → List Text → List Attribute → Type 0
HasNoStatementLeftIfApart tag pieces each = SpellsTag tag pieces each → ArePiecesApart pieces → is_block_tag (whole_text pieces) ≡ false
