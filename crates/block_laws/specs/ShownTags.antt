-- What shows of a start tag: its text without the block statements (HTML Template Language specification 1.4, "Block Statements").
use Rattle.std.specs.Prelude.{◌≡◌, ℕ, List, ◌∷◌, ◌++◌, Some, None, Ok}
use Rattle.std.specs.List.{flat_map}
use Rattle.sp_base.specs.Texts.{Text}
use Rattle.htl_expr.specs.Bindings.{Bindings}
use Rattle.htl_expr.specs.Value.{list_in}
use Rattle.htl_text.specs.declared.piece.TemplatePiece.{TemplatePiece}
use Rattle.htl_text.specs.Template.{template_of, template_output}
use Rattle.htl_blocks.specs.declared.block.Tag.{Tag}
use Rattle.htl_blocks.specs.declared.block.Block.{Block}
use Rattle.htl_blocks.specs.declared.block.Block.TheVariants as block
use Rattle.htl_blocks.specs.Parts.{text_parts, Round}
use Rattle.htl_blocks.specs.Reading.{tag_of}
use Rattle.htl_blocks.specs.Written.{statement_value, with_variable, within_room, block_parts}
use Rattle.htl_blocks.specs.WrittenLaws.{StandsInTags}
use Rattle.block_laws.specs.TagStatements.{IsTagWith}
use Rattle.block_laws.specs.Together.{inner_element}

-- a tag is what this text is read as, at some place and depth; without its statements the text is a template of these pieces
pub record IsReadFrom (tag : Tag) (text : Text) (shown : List TemplatePiece) : Type 0 where
  pub levels : ℕ
  pub place : ℕ
  pub kept : Text
  pub read : tag_of levels place text ≡ Ok tag
  pub left : IsTagWith text tag.attributes kept
  pub template : template_of kept ≡ Ok shown

-- of an element that stands show its start tag's text without the statements, then what stands in it, and then its end tag
abbrev pub StatementsDontShowInTags : Type 0
StatementsDontShowInTags = (scope : Bindings) (tag : Tag) (text : Text) (shown : List TemplatePiece) (content : List Block) (end_tag : Text)
    → IsReadFrom tag text shown → StandsInTags scope tag → tag.attributes.list ≡ None
    → block_parts (block.Element tag content end_tag) scope ≡ text_parts (template_output scope shown) ++ (block_parts (inner_element tag content) scope ++ text_parts end_tag)

-- and so it is of one with a list, where what stands in it is there once for each item
abbrev pub StatementsDontShowInTagsOfLists : Type 0
StatementsDontShowInTagsOfLists = (scope : Bindings) (tag : Tag) (text : Text) (shown : List TemplatePiece) (content : List Block) (end_tag name : Text) (list : List TemplatePiece) (item : Text) (items : List Text)
    → IsReadFrom tag text shown → StandsInTags scope tag → tag.attributes.list ≡ Some (name, list) → list_in (statement_value scope list) ≡ Some (item ∷ items)
    → block_parts (block.Element tag content end_tag) scope
    ≡ text_parts (template_output scope shown) ++ (flat_map (λ one. Round ∷ within_room (block_parts (inner_element tag content)) (with_variable scope name one)) (item ∷ items) ++ text_parts end_tag)
