-- The start of a tag is the template of its text without the statements.
use Rattle.std.proofs.Common.{◌≡◌, ℕ, Bool, true, false, cond, List, ◌∷◌, ◌++◌, Some, Result, Ok, Err, refl, ap, sym, ◌∙◌}
use Rattle.std.specs.Prelude.{◌==◌}
use Rattle.std.specs.List.{flat_map}
use Rattle.sp_base.specs.Texts.{Text}
use Rattle.htl_text.specs.declared.piece.TemplatePiece.{TemplatePiece}
use Rattle.htl_text.specs.Template.{template_output}
use Rattle.htl_blocks.specs.declared.block.Tag.{Tag}
use Rattle.htl_blocks.specs.declared.fault.BlockFault.TheVariants.{TooDeep}
use Rattle.htl_blocks.specs.Parts.{Part, Round, text_parts}
use Rattle.htl_blocks.specs.Attributes.{tag_attributes}
use Rattle.htl_blocks.specs.Reading.{known_tag, start_tag, tag_of}
use Rattle.htl_blocks.specs.Written.{block_parts, with_variable, within_room}
use Rattle.htl_blocks.proofs.ElementLemmas.{element_is, in_tags}
use Rattle.block_laws.specs.Together.{inner_element}
use Rattle.block_laws.specs.ShownTags.{IsReadFrom, StatementsDontShowInTags, StatementsDontShowInTagsOfLists}
use Rattle.block_laws.proofs.TagLemmas.{tag_only}
use Rattle.block_laws.proofs.Together.{each_round, within_is, written}

tag_is : (levels place : ℕ) (text : Text) → tag_of levels place text ≡ known_tag levels place (tag_attributes text)
unfolding tag_of
tag_is levels place text = refl

start_is : (tag : Tag) (text : Text) (shown : List TemplatePiece) → IsReadFrom tag text shown → tag.start ≡ shown
start_is tag text shown x =
    go (x.levels == 0)
    (ap (λ (r : Result (List TemplatePiece) _). cond (x.levels == 0) (Err (TooDeep x.place)) (start_tag x.place tag.attributes r)) (sym x.template)
    ∙ ap (known_tag x.levels x.place) (sym (tag_only text x.kept tag.attributes x.left)) ∙ sym (tag_is x.levels x.place text) ∙ x.read)
  where
    go : (b : Bool) → cond b (Err (TooDeep x.place)) (Ok (record { attributes = tag.attributes; start = shown })) ≡ Ok tag → tag.start ≡ shown
    go true e = absurd cc
    go false e = let same : record { attributes = tag.attributes; start = shown } ≡ tag = cc in sym (ap (λ (t : Tag). t.start) same)

pub shown_once : StatementsDontShowInTags
shown_once scope tag text shown content end_tag read stands none =
    element_is tag content end_tag scope
    ∙ in_tags tag (written content) end_tag scope (block_parts (inner_element tag content) scope) stands (rw none (ap (λ (parts : List Part). Some parts) (sym (within_is tag content scope))))
    ∙ ap (λ (pieces : List TemplatePiece). text_parts (template_output scope pieces) ++ (block_parts (inner_element tag content) scope ++ text_parts end_tag)) (start_is tag text shown read)

pub shown_with_list : StatementsDontShowInTagsOfLists
shown_with_list scope tag text shown content end_tag name list item items read stands has some =
    each_round scope tag content end_tag name list item items stands has some
    ∙ ap
    (λ (pieces : List TemplatePiece).
    text_parts (template_output scope pieces) ++ (flat_map (λ (one : Text). Round ∷ within_room (block_parts (inner_element tag content)) (with_variable scope name one)) (item ∷ items) ++ text_parts end_tag)) (start_is tag text shown read)
