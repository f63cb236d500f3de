-- What a request is answered, case by case, as docs/sling/RENDERING.md has them: each with all that makes it the first that applies. It is
-- the same answer as that of `Rendering.antt` (law `an_answer_is_one_of_the_cases`), said by relations in place of searches.
use Rattle.std.specs.Prelude.{◌≡◌, ◌<◌, ◌≤◌, ℕ, true, false, List, Some, None}
use Rattle.sp_base.specs.Texts.{Segments}
use Rattle.sp_base.specs.Paths.{text_of}
use Rattle.sp_base.specs.declared.answer.Answer.{Answer}
use Rattle.sp_base.specs.declared.answer.Ask.{Ask}
use Rattle.sp_base.specs.declared.answer.Mark.TheVariants.{Plain}
use Rattle.resource_tree.specs.Content.{Content}
use Rattle.resource_tree.specs.Seen.{Resource}
use Rattle.overlay_merge.specs.Merged.{has_resource}
use Rattle.url_maps.specs.Turns.{IsMapped}
use Rattle.url_maps.specs.declared.answer.MapAnswer.TheVariants.{Inside, Away}
use Rattle.url_split.specs.declared.decompose.Parts.{Parts}
use Rattle.url_split.specs.Split.{IsLost, IsSplit}
use Rattle.type_chain.specs.Chain.{chain_of}
use Rattle.script_rank.specs.Ranking.{HasNoCandidate, IsFirstScript, script_text}
use Rattle.htl_blocks.specs.declared.block.Block.{Block}
use Rattle.htl_blocks.specs.Reading.{most_nested_blocks}
use Rattle.htl_blocks.specs.Spelling.{SpellsBlocks}
use Rattle.get_servlet.specs.Answers.{IsOver, levels_of}
use Rattle.get_servlet.specs.Rendering.{json_text, most_resources, shown_count}
use Rattle.get_servlet.specs.Streams.{stream_of}
use Rattle.get_servlet.specs.declared.answer.Depth.{Depth}
use Rattle.get_servlet.specs.declared.streams.Stream.{Stream}
use Rattle.error_answers.specs.Errors.{error_answer}
use Rattle.publisher.specs.Choices.{choices_text}
use Rattle.publisher.specs.Depths.{depth_of}
use Rattle.publisher.specs.Errors.{answer_with_body, redirect}
use Rattle.publisher.specs.Pages.{page_of, setting_for}
use Rattle.publisher.specs.Posting.{posting, posting_answer}
use Rattle.publisher.specs.Rendering.{is_bare, is_json, is_post, is_read, json_kind, mark_of, page_answer, representation_of, seen_resources}

-- a GET or a HEAD whose path's text is mapped to this one, within the content
pub record ReadsText (tree : Content) (ask : Ask) (text : List ℕ) : Type 0 where
  pub method : is_read ask.method ≡ true
  pub mapped : IsMapped tree ask.host ask.port (text_of ask.path) (Inside text)

-- it names this resource, the merged one, with these parts of its text
pub record ReadsResource (tree : Content) (ask : Ask) (parts : Parts) (res : Resource) : Type 0 where
  pub text : List ℕ
  pub reads : ReadsText tree ask text
  pub split : IsSplit (has_resource tree) text parts
  pub seen : seen_resources tree parts.path ≡ Some res

-- it names a resource that has a script, and this is the text of the one that ranks first
pub record ReadsByScript (tree : Content) (ask : Ask) (res : Resource) (text : List ℕ) : Type 0 where
  pub parts : Parts
  pub resource : ReadsResource tree ask parts res
  pub script : Segments
  pub first : IsFirstScript tree (chain_of tree res.props) parts script
  pub text_is : script_text tree script ≡ Some text

-- it names a resource for which no script is a candidate
pub record ReadsByDefault (tree : Content) (ask : Ask) (parts : Parts) (res : Resource) : Type 0 where
  pub resource : ReadsResource tree ask parts res
  pub none : HasNoCandidate tree (chain_of tree res.props) parts

-- it names one as JSON, to this depth
pub record ReadsJson (tree : Content) (ask : Ask) (res : Resource) (depth : Depth) : Type 0 where
  pub parts : Parts
  pub default : ReadsByDefault tree ask parts res
  pub json : is_json parts.extension ≡ true
  pub depth_is : depth_of parts.selectors ≡ Some depth

-- The answer to a request. A 200 that would have more than 4,194,304 bytes is a 500 (`representation_of`).
pub data IsAnswer (tree : Content) (ask : Ask) (answer : Answer) : Type 0 where
  not_allowed : is_read ask.method ≡ false → is_post ask.method ≡ false → answer ≡ error_answer 405 → IsAnswer tree ask answer
  read_away : (status : ℕ) (reference : List ℕ) → is_read ask.method ≡ true → IsMapped tree ask.host ask.port (text_of ask.path) (Away status reference) → answer ≡ redirect status reference → IsAnswer tree ask answer
  posted_away : (status : ℕ) (reference : List ℕ) → is_post ask.method ≡ true → IsMapped tree ask.host ask.port (text_of ask.path) (Away status reference) → answer ≡ redirect status reference → IsAnswer tree ask answer
  posted : (text : List ℕ) → is_post ask.method ≡ true → IsMapped tree ask.host ask.port (text_of ask.path) (Inside text) → answer ≡ posting_answer (posting tree ask text) → IsAnswer tree ask answer
  lost : (text : List ℕ) → ReadsText tree ask text → IsLost (has_resource tree) text → answer ≡ error_answer 404 → IsAnswer tree ask answer
  refused_script : (res : Resource) (text : List ℕ) → ReadsByScript tree ask res text → ((blocks : List Block) → SpellsBlocks most_nested_blocks text blocks → ⊥) → answer ≡ error_answer 500 → IsAnswer tree ask answer
  by_script : (res : Resource) (text : List ℕ) (blocks : List Block) (reads : ReadsByScript tree ask res text) → SpellsBlocks most_nested_blocks text blocks
      → answer ≡ page_answer (mark_of res) (page_of tree (setting_for reads.script res) blocks) → IsAnswer tree ask answer
  no_depth : (parts : Parts) (res : Resource) → ReadsByDefault tree ask parts res → is_json parts.extension ≡ true → depth_of parts.selectors ≡ None → answer ≡ error_answer 400 → IsAnswer tree ask answer
  too_many : (res : Resource) (depth : Depth) (most : ℕ) → ReadsJson tree ask res depth → IsOver (seen_resources tree) res (levels_of depth) most
      → answer ≡ answer_with_body 300 json_kind Plain (choices_text res.path most) → IsAnswer tree ask answer
  json : (res : Resource) (depth : Depth) → ReadsJson tree ask res depth → (1 < levels_of depth → shown_count (seen_resources tree) res (levels_of depth) ≤ most_resources)
      → answer ≡ representation_of json_kind (mark_of res) (json_text (seen_resources tree) (levels_of depth) res) → IsAnswer tree ask answer
  file : (parts : Parts) (res : Resource) (stream : Stream) → ReadsByDefault tree ask parts res → is_json parts.extension ≡ false → is_bare parts ≡ true → stream_of (seen_resources tree) res ≡ Some stream
      → answer ≡ representation_of stream.kind (mark_of res) stream.body → IsAnswer tree ask answer
  no_file : (parts : Parts) (res : Resource) → ReadsByDefault tree ask parts res → is_json parts.extension ≡ false → is_bare parts ≡ true → stream_of (seen_resources tree) res ≡ None → answer ≡ error_answer 404 → IsAnswer tree ask answer
  no_servlet : (parts : Parts) (res : Resource) → ReadsByDefault tree ask parts res → is_json parts.extension ≡ false → is_bare parts ≡ false → answer ≡ error_answer 404 → IsAnswer tree ask answer
