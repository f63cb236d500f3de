-- What an element writes without one of its statements.
use Rattle.std.proofs.Common.{◌≡◌, true, false, cond, List, [], ◌∷◌, Option, Some, None, refl, ap, sym, ◌∙◌, append-nil}
use Rattle.std.proofs.Math.Path.{fun_ext}
use Rattle.std.specs.List.{flat_map}
use Rattle.sp_base.specs.Texts.{Text}
use Rattle.htl_expr.specs.Bindings.{Bindings}
use Rattle.htl_blocks.specs.declared.block.Tag.{Tag}
use Rattle.htl_blocks.specs.declared.block.Block.{Block}
use Rattle.htl_blocks.specs.declared.block.Block.TheVariants as block
use Rattle.htl_blocks.specs.Parts.{Part, Round}
use Rattle.htl_blocks.specs.Written.{passes, keeps_tags, body_parts, listed, between_tags, block_parts, blocks_parts, with_variable, within_room}
use Rattle.htl_blocks.proofs.ElementLemmas.{element_is, text_is, in_tags}
use Rattle.block_laws.specs.Together.{without_test, without_unwrap, without_body, without_text, body_alone, inner_element, IsWrittenAsWithoutTestIfTrue, IsWrittenAsWithoutTagsIfUnwrapped, IsWrittenAsWithoutUnwrapIfFalse, ListsRepeatWhatStandsWithin, TextsStandAsContent, BodiesStandAsContent}

-- what the content of an element writes
abbrev pub written : List Block → Bindings → List Part
written content = λ scope. blocks_parts scope content

pub as_without_test : (scope : Bindings) (tag : Tag) (content : List Block) (end_tag : Text) → IsWrittenAsWithoutTestIfTrue scope tag content end_tag
as_without_test scope tag content end_tag passed = element_is tag content end_tag scope ∙ rw passed refl ∙ sym (element_is (without_test tag) content end_tag scope)

-- what stands between tags that are left out
bare : (tag : Tag) (end_tag : Text) (scope : Bindings) (inside : Option (List Part)) → keeps_tags scope tag.attributes.unwrap ≡ false → between_tags tag end_tag scope inside ≡ between_tags (without_text tag) [] scope inside
bare tag end_tag scope None e = refl
bare tag end_tag scope (Some inside) e = rw e refl

pub as_without_tags : (scope : Bindings) (tag : Tag) (content : List Block) (end_tag : Text) → IsWrittenAsWithoutTagsIfUnwrapped scope tag content end_tag
as_without_tags scope tag content end_tag unwrapped =
    element_is tag content end_tag scope
    ∙ ap (λ (parts : List Part). cond (passes scope tag.attributes.test) parts []) (bare tag end_tag scope (listed tag.attributes.list (body_parts tag.attributes.body (written content)) scope) unwrapped)
    ∙ sym (element_is (without_text tag) content [] scope)

-- what stands between tags that are kept
kept : (tag : Tag) (end_tag : Text) (scope : Bindings) (inside : Option (List Part)) → keeps_tags scope tag.attributes.unwrap ≡ true → between_tags tag end_tag scope inside ≡ between_tags (without_unwrap tag) end_tag scope inside
kept tag end_tag scope None e = refl
kept tag end_tag scope (Some inside) e = rw e refl

pub as_without_unwrap : (scope : Bindings) (tag : Tag) (content : List Block) (end_tag : Text) → IsWrittenAsWithoutUnwrapIfFalse scope tag content end_tag
as_without_unwrap scope tag content end_tag stands =
    element_is tag content end_tag scope
    ∙ ap (λ (parts : List Part). cond (passes scope tag.attributes.test) parts []) (kept tag end_tag scope (listed tag.attributes.list (body_parts tag.attributes.body (written content)) scope) stands)
    ∙ sym (element_is (without_unwrap tag) content end_tag scope)

-- what stands in an element
pub within_is : (tag : Tag) (content : List Block) (scope : Bindings) → block_parts (inner_element tag content) scope ≡ body_parts tag.attributes.body (written content) scope
within_is tag content scope = element_is (body_alone tag.attributes.body) content [] scope ∙ append-nil (body_parts tag.attributes.body (written content) scope)

pub each_round : ListsRepeatWhatStandsWithin
each_round scope tag content end_tag name list item items stands has some =
    element_is tag content end_tag scope
    ∙ in_tags tag (written content) end_tag scope (flat_map (λ (one : Text). Round ∷ within_room (block_parts (inner_element tag content)) (with_variable scope name one)) (item ∷ items)) stands
    (rw has (rw some (ap (λ (round : Text → List Part). Some (flat_map round (item ∷ items))) (fun_ext (λ (one : Text). ap (λ (inside : Bindings → List Part). Round ∷ within_room inside (with_variable scope name one)) (sym (fun_ext (within_is tag content))))))))

-- an element of which what stands in it is the content of another
same_within : (tag : Tag) (content other : List Block) (end_tag : Text) (scope : Bindings) → ((here : Bindings) → body_parts tag.attributes.body (written content) here ≡ blocks_parts here other)
    → block_parts (block.Element tag content end_tag) scope ≡ block_parts (block.Element (without_body tag) other end_tag) scope
same_within tag content other end_tag scope same =
    element_is tag content end_tag scope
    ∙ ap (λ (inside : Bindings → List Part). cond (passes scope tag.attributes.test) (between_tags tag end_tag scope (listed tag.attributes.list inside scope)) []) (fun_ext same)
    ∙ sym (element_is (without_body tag) other end_tag scope)

pub text_as_content : TextsStandAsContent
text_as_content scope tag content end_tag value is = same_within tag content (block.Text value ∷ []) end_tag scope (λ here. rw is (sym (append-nil (block_parts (block.Text value) here) ∙ text_is value here)))

pub body_as_content : BodiesStandAsContent
body_as_content scope tag content end_tag = same_within tag content (inner_element tag content ∷ []) end_tag scope (λ here. sym (append-nil (block_parts (inner_element tag content) here) ∙ within_is tag content here))
