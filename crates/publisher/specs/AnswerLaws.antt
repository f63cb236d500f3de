-- What the laws of the rendering say of an answer, and under which condition.
use Rattle.std.specs.Prelude.{◌≡◌, ◌≢◌, ◌≤◌, ◌||◌, ℕ, true, List, [], length}
use Rattle.sp_base.specs.Limits.{most_rendered_bytes}
use Rattle.sp_base.specs.Paths.{text_of}
use Rattle.sp_base.specs.Texts.{Text}
use Rattle.sp_base.specs.declared.answer.Ask.{Ask}
use Rattle.resource_tree.specs.Content.{Content}
use Rattle.resource_tree.specs.Seen.{Resource}
use Rattle.url_maps.specs.Turns.{IsMapped}
use Rattle.url_maps.specs.declared.answer.MapAnswer.TheVariants.{Away}
use Rattle.htl_text.specs.declared.piece.TemplatePiece.{TemplatePiece}
use Rattle.htl_text.specs.Spelling.{SpellsTemplate}
use Rattle.htl_text.specs.Template.{template_output}
use Rattle.htl_blocks.specs.declared.block.Block.{Block}
use Rattle.htl_blocks.specs.Laws.{HasNoBlock}
use Rattle.htl_blocks.specs.Markup.{parts as markup_parts}
use Rattle.htl_blocks.specs.Reading.{most_nested_blocks}
use Rattle.htl_blocks.specs.Spelling.{SpellsBlocks}
use Rattle.publisher.specs.Cases.{ReadsByScript}
use Rattle.publisher.specs.Errors.{redirect}
use Rattle.publisher.specs.Pages.{bindings_at, page_of, setting_for}
use Rattle.publisher.specs.Rendering.{content_after_request, is_post, is_read, answer_to_request}

-- each is a GET or a HEAD, of one path at one host and port
pub record AreReadsOfOnePath (a b : Ask) : Type 0 where
  pub one : is_read a.method ≡ true
  pub other : is_read b.method ≡ true
  pub host : a.host ≡ b.host
  pub port : a.port ≡ b.port
  pub path : a.path ≡ b.path

-- where the answer is neither 200 nor 201 the content is as before
abbrev pub KeepsContentIfRefused : Content → Ask → Type 0
KeepsContentIfRefused tree ask = (answer_to_request tree ask).status ≢ 200 → (answer_to_request tree ask).status ≢ 201 → content_after_request tree ask ≡ tree

-- a representation that is answered has at most so many bytes
abbrev pub FitsIfReadAndAnswered : Content → Ask → Type 0
FitsIfReadAndAnswered tree ask = is_read ask.method ≡ true → (answer_to_request tree ask).status ≡ 200 → length (answer_to_request tree ask).body ≤ most_rendered_bytes

-- where the path's text leads away, a GET, a HEAD or a POST is answered with a redirect
abbrev pub IsRedirectIfAway : Content → Ask → ℕ → Text → Type 0
IsRedirectIfAway tree ask status reference = (is_read ask.method || is_post ask.method) ≡ true
    → IsMapped tree ask.host ask.port (text_of ask.path) (Away status reference) → answer_to_request tree ask ≡ redirect status reference

-- where it leads away the content is as before
abbrev pub KeepsContentIfAway : Content → Ask → ℕ → Text → Type 0
KeepsContentIfAway tree ask status reference = IsMapped tree ask.host ask.port (text_of ask.path) (Away status reference) → content_after_request tree ask ≡ tree

-- a page that the script gives is what the blocks write that its text spells, with what is put in
abbrev pub WritesPageIfSpelled : Content → Ask → Resource → Text → List Block → Type 0
WritesPageIfSpelled tree ask res text blocks = (reads : ReadsByScript tree ask res text) → SpellsBlocks most_nested_blocks text blocks
    → (answer_to_request tree ask).status ≡ 200 → (answer_to_request tree ask).body ≡ (page_of tree (setting_for reads.script res) blocks).text

-- a page that a script without a block tag gives is what the pieces write that its text spells
abbrev pub IsWrittenIfNoBlock : Content → Ask → Resource → Text → List TemplatePiece → Type 0
IsWrittenIfNoBlock tree ask res text pieces = (reads : ReadsByScript tree ask res text) → HasNoBlock (markup_parts text)
    → SpellsTemplate text pieces [] → (answer_to_request tree ask).status ≡ 200
    → (answer_to_request tree ask).body ≡ template_output (bindings_at (setting_for reads.script res) []) pieces
