-- What a script writes, from the relations that tell which script it is and what its text spells.
use Rattle.std.proofs.Common.{◌≡◌, ℕ, Bool, true, false, cond, List, [], ◌∷◌, Option, Some, None, Result, Ok, Err, IfSome, IfNone, length, nat_le, append-nil, refl, sym, ◌∙◌, ap, arith}
use Rattle.sp_base.specs.Limits.{most_rendered_bytes}
use Rattle.sp_base.specs.declared.answer.Answer.{Answer}
use Rattle.sp_base.specs.declared.answer.Mark.{Mark}
use Rattle.resource_tree.specs.Content.{Content}
use Rattle.url_split.specs.declared.decompose.Parts.{Parts}
use Rattle.type_chain.specs.declared.type_name.TypeName.{TypeName}
use Rattle.script_rank.specs.Ranking.{HasNoCandidate, IsFirstScript}
use Rattle.htl_expr.specs.Bindings.{Bindings}
use Rattle.htl_text.specs.declared.piece.TemplatePiece.{TemplatePiece}
use Rattle.htl_text.specs.declared.fault.TextFault.{TextFault}
use Rattle.htl_text.specs.Template.{template_of, template_output, template_pieces}
use Rattle.htl_blocks.specs.declared.block.Block.{Block}
use Rattle.htl_blocks.specs.declared.block.Block.TheVariants as block
use Rattle.htl_blocks.specs.Laws.{HasNoBlock}
use Rattle.htl_blocks.specs.Markup.{parts as markup_parts}
use Rattle.htl_blocks.specs.Parts.{Part, text_parts}
use Rattle.htl_blocks.specs.Reading.{most_nested_blocks}
use Rattle.htl_blocks.specs.Spelling.{SpellsBlocks, no_element, no_text, template}
use Rattle.htl_blocks.specs.Written.{block_parts, blocks_parts}
use Rattle.error_answers.specs.Errors.{error_answer}
use Rattle.publisher.specs.Errors.{answer_with_body}
use Rattle.publisher.specs.Pages.{GatheredPage, ScriptSetting, bindings_at, inclusion, is_over, most_levels, page_of, parts_page}
use Rattle.publisher.specs.Rendering.{html_kind, page_answer, representation_of}
use Rattle.publisher.proofs.PageLemmas.{text_is}

-- the search gives the script that ranks first, where one does
pub found_first : (tree : Content) (chain : List TypeName) (parts : Parts) (script : List (List ℕ)) (found : Option (List (List ℕ)))
    → ((p q : List (List ℕ)) → IsFirstScript tree chain parts p → IsFirstScript tree chain parts q → p ≡ q)
    → IfSome found (λ path. IsFirstScript tree chain parts path) → IfNone found (HasNoCandidate tree chain parts) → IsFirstScript tree chain parts script
    → found ≡ Some script
found_first tree chain parts script (Some path) one some none first = ap (λ (p : List (List ℕ)). Some p) (one path script some first)
found_first tree chain parts script None one some none first = absurd (none script first.key first.candidate)

written_body : (small : Bool) (mark : Mark) (body : List ℕ) → nat_le (length body) most_rendered_bytes ≡ small
    → (cond small (answer_with_body 200 html_kind mark body) (error_answer 500)).status ≡ 200 → (cond small (answer_with_body 200 html_kind mark body) (error_answer 500)).body ≡ body
unfolding error_answer
written_body true mark body is ok = refl
written_body false mark body is ok = absurd (omega (arith, ok))

page_body : (over : Bool) (mark : Mark) (body : List ℕ) → (cond over (error_answer 500) (representation_of html_kind mark body)).status ≡ 200
    → (cond over (error_answer 500) (representation_of html_kind mark body)).body ≡ body
unfolding error_answer
page_body true mark body ok = absurd (omega (arith, ok))
page_body false mark body ok = written_body (nat_le (length body) most_rendered_bytes) mark body refl ok

pub body_is : (answer : Answer) (mark : Mark) (page : GatheredPage) → answer ≡ page_answer mark page → answer.status ≡ 200 → answer.body ≡ page.text
body_is answer mark page is ok =
    ap (λ (a : Answer). a.body) is ∙ page_body (is_over page) mark page.text (sym (ap (λ (a : Answer). a.status) is) ∙ ok)

-- the page of one template is what it writes
template_page : (tree : Content) (setting : ScriptSetting) (pieces : List TemplatePiece) → ((scope : Bindings) (ps : List TemplatePiece) → block_parts (block.Text ps) scope ≡ text_parts (template_output scope ps))
    → (page_of tree setting (block.Text pieces ∷ [])).text ≡ template_output (bindings_at setting []) pieces
template_page tree setting pieces writes =
    let parts : blocks_parts (bindings_at setting []) (block.Text pieces ∷ []) ≡ text_parts (template_output (bindings_at setting []) pieces) =
    append-nil (block_parts (block.Text pieces) (bindings_at setting [])) ∙ writes (bindings_at setting []) pieces in
    ap (λ (ps : List Part). (parts_page (inclusion tree most_levels setting) ps).text) parts
    ∙ ap (λ (p : GatheredPage). p.text) (text_is (inclusion tree most_levels setting) (template_output (bindings_at setting []) pieces))

pieces_in : Result (List TemplatePiece) TextFault → List TemplatePiece
pieces_in (Ok pieces) = pieces
pieces_in (Err fault) = []

-- the page of an empty script is empty
empty_page : (tree : Content) (setting : ScriptSetting) (pieces : List TemplatePiece) → template_of [] ≡ Ok pieces → (page_of tree setting []).text ≡ template_output (bindings_at setting []) pieces
unfolding template_pieces parts_page pieces_in
empty_page tree setting pieces is = ap (template_output (bindings_at setting [])) (ap pieces_in is)

-- what is the page of the blocks that a text spells is what its template writes, where no block tag stands in the text
pub plain_page : (tree : Content) (setting : ScriptSetting) (text : List ℕ) (pieces : List TemplatePiece) (body : List ℕ) → template_of text ≡ Ok pieces → HasNoBlock (markup_parts text)
    → ((scope : Bindings) (ps : List TemplatePiece) → block_parts (block.Text ps) scope ≡ text_parts (template_output scope ps))
    → ((blocks : List Block) → SpellsBlocks most_nested_blocks text blocks → body ≡ (page_of tree setting blocks).text) → body ≡ template_output (bindings_at setting []) pieces
plain_page tree setting [] pieces body is plain writes page = page [] (no_element plain no_text) ∙ empty_page tree setting pieces is
plain_page tree setting (c ∷ text) pieces body is plain writes page = page (block.Text pieces ∷ []) (no_element plain (template is)) ∙ template_page tree setting pieces writes
