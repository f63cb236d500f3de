-- What the publisher answers: the first of these that applies.
use Rattle.std.specs.Prelude.{◌==◌, ◌&&◌, ◌||◌, ℕ, Bool, nat_eq, nat_le, if◌then◌else◌, List, Option, Some, None, option_and_then, option_map, codes, length}
use Rattle.std.specs.Cmp.Lexicographic.{pointwise}
use Rattle.sp_base.specs.Limits.{most_rendered_bytes}
use Rattle.sp_base.specs.Paths.{text_of}
use Rattle.sp_base.specs.Properties.{text_in}
use Rattle.sp_base.specs.Texts.{Segments, Text}
use Rattle.sp_base.specs.declared.answer.Answer.{Answer}
use Rattle.sp_base.specs.declared.answer.Ask.{Ask}
use Rattle.sp_base.specs.declared.answer.Mark.{Mark}
use Rattle.sp_base.specs.declared.answer.Mark.TheVariants.{Plain, NoCache, NoStore, MustRevalidate}
use Rattle.resource_tree.specs.Content.{Content}
use Rattle.resource_tree.specs.Seen.{Resource, Seen}
use Rattle.overlay_merge.specs.Merged.{merged_resource, has_resource}
use Rattle.url_maps.specs.Answers.{map_answer}
use Rattle.url_maps.specs.declared.answer.MapAnswer.{MapAnswer}
use Rattle.url_maps.specs.declared.answer.MapAnswer.TheVariants.{Inside, Away}
use Rattle.url_split.specs.declared.decompose.Parts.{Parts}
use Rattle.url_split.specs.Split.{split_of}
use Rattle.type_chain.specs.Chain.{chain_of}
use Rattle.script_rank.specs.Ranking.{script_text}
use Rattle.script_rank.specs.Search.{search_result as first_script}
use Rattle.get_servlet.specs.declared.answer.Depth.{Depth}
use Rattle.get_servlet.specs.declared.answer.JsonAnswer.{JsonAnswer}
use Rattle.get_servlet.specs.declared.answer.JsonAnswer.TheVariants.{Whole, Over, TooLong}
use Rattle.get_servlet.specs.declared.streams.Stream.{Stream}
use Rattle.get_servlet.specs.Answers.{levels_of, json_answer}
use Rattle.get_servlet.specs.Streams.{stream_of}
use Rattle.publisher.specs.declared.templates.Reading.{Reading}
use Rattle.publisher.specs.declared.templates.Reading.TheVariants.{Parsed, Refused}
use Rattle.publisher.specs.Readings.{reading_of}
use Rattle.publisher.specs.Pages.{GatheredPage, is_over, page_of, setting_for}
use Rattle.error_answers.specs.Errors.{error_answer}
use Rattle.publisher.specs.Errors.{answer_with_body, redirect}
use Rattle.publisher.specs.Depths.{depth_of}
use Rattle.publisher.specs.Choices.{choices_text}
use Rattle.publisher.specs.Posting.{posting, posting_answer, posting_content}

-- the method asks for a representation (RFC 9110, sections 9.3.1 and 9.3.2)
abbrev pub is_read : List ℕ → Bool
is_read method = pointwise nat_eq method (codes "GET") || pointwise nat_eq method (codes "HEAD")

-- the mark of a name, which is that of a Cache-Control directive
abbrev pub mark_named : List ℕ → Mark
mark_named name = if pointwise nat_eq name (codes "no-cache") then NoCache
    else (if pointwise nat_eq name (codes "no-store") then NoStore
    else (if pointwise nat_eq name (codes "must-revalidate") then MustRevalidate else Plain))

-- no text names no mark
abbrev pub mark_in : Option (List ℕ) → Mark
mark_in None = Plain
mark_in (Some name) = mark_named name

-- the mark that a resource has of its text property `sp:mark`
abbrev pub mark_of : Resource → Mark
mark_of res = mark_in (text_in res.props (codes "sp:mark"))

-- a representation of at most `most_rendered_bytes` bytes; a longer one is an error
abbrev pub representation_of : List ℕ → Mark → List ℕ → Answer
representation_of kind mark body = if nat_le (length body) most_rendered_bytes then answer_with_body 200 kind mark body else error_answer 500

-- the media type of JSON
abbrev pub json_kind : List ℕ
json_kind = codes "application/json;charset=utf-8"

-- the JSON text, or the references that may be asked for instead
abbrev pub json_representation : Resource → JsonAnswer → Answer
json_representation res (Whole text) = representation_of json_kind (mark_of res) text
json_representation res (Over most) = answer_with_body 300 json_kind Plain (choices_text res.path most)
json_representation res TooLong = error_answer 500

-- a resource as JSON at the depth that is asked for, if one is
abbrev pub json_to_depth : Seen → Resource → Option Depth → Answer
json_to_depth seen_resources res None = error_answer 400
json_to_depth seen_resources res (Some depth) = json_representation res (json_answer seen_resources res (levels_of depth) most_rendered_bytes)

-- the content of a file
abbrev pub file_representation : Resource → Option Stream → Answer
file_representation res None = error_answer 404
file_representation res (Some stream) = representation_of stream.kind (mark_of res) stream.body

-- whether the extension is `json`
abbrev pub is_json : List ℕ → Bool
is_json extension = pointwise nat_eq extension (codes "json")

-- the URL names the resource and nothing else
abbrev pub is_bare : Parts → Bool
is_bare parts = length parts.selectors == 0 && (length parts.extension == 0 && length parts.suffix == 0)

-- the answer of the default GET servlet: with the extension `json` the resource as JSON, without extension, selectors and suffix its stream
abbrev pub default_answer : Seen → Parts → Resource → Answer
default_answer seen_resources parts res = if is_json parts.extension then json_to_depth seen_resources res (depth_of parts.selectors)
    else (if is_bare parts then file_representation res (stream_of seen_resources res) else error_answer 404)

-- a script: its path and its text
pub record ScriptAt : Type 0 where
  pub path : Segments
  pub text : Text

-- a path with a text
abbrev pub script_with_text : Segments → Text → ScriptAt
script_with_text path text = record { path = path; text = text }

-- the script at a path, if one is there
abbrev pub script_there : Content → Segments → Option ScriptAt
script_there tree path = option_map (script_with_text path) (script_text tree path)

-- the script that ranks first for a resource, if there is one
unfoldable pub script_for : Content → Parts → Resource → Option ScriptAt
script_for tree parts res = option_and_then (script_there tree) (first_script tree (chain_of tree res.props) parts)

-- the media type of a script's output
abbrev pub html_kind : List ℕ
html_kind = codes "text/html;charset=utf-8"

-- a page within its limits; one that is over them is an error, as one is whose text is too long
abbrev pub page_answer : Mark → GatheredPage → Answer
page_answer mark page = if is_over page then error_answer 500 else representation_of html_kind mark page.text

-- the page that the script at a path writes for a resource; a text that has no reading is an error
abbrev pub script_representation : Content → Resource → Segments → Reading → Answer
script_representation tree res script (Parsed blocks) = page_answer (mark_of res) (page_of tree (setting_for script res) blocks)
script_representation tree res script Refused = error_answer 500

-- what is seen at a path: the merged resource. Types and scripts are looked up among the tree's own nodes.
abbrev pub seen_resources : Content → Seen
seen_resources tree = merged_resource tree

-- the answer of a resource: what the script writes, or without a script the answer of the default GET servlet
abbrev pub answer_by : Option ScriptAt → Content → Parts → Resource → Answer
answer_by (Some script) tree parts res = script_representation tree res script.path (reading_of script.text)
answer_by None tree parts res = default_answer (seen_resources tree) parts res

-- the answer of what is seen at a path, by the script that ranks first for it
abbrev pub resource_answer : Content → Parts → Option Resource → Answer
resource_answer tree parts None = error_answer 404
resource_answer tree parts (Some res) = answer_by (script_for tree parts res) tree parts res

-- the answer to a path that was taken apart, if it names a resource
abbrev pub split_answer : Content → Option Parts → Answer
split_answer tree None = error_answer 404
split_answer tree (Some parts) = resource_answer tree parts (seen_resources tree parts.path)

-- what the text of a request's path is mapped to, for the host and the port that it asks
abbrev pub mapping : Content → Ask → MapAnswer
mapping tree ask = map_answer tree ask.host ask.port (text_of ask.path)

-- the answer to a text within the content, which is taken apart
abbrev pub text_answer : Content → List ℕ → Answer
text_answer tree text = split_answer tree (split_of (has_resource tree) text)

-- a mapping that leads away is a redirect
abbrev pub mapped_answer : Content → MapAnswer → Answer
mapped_answer tree (Inside text) = text_answer tree text
mapped_answer tree (Away status reference) = redirect status reference

-- the method asks for a change of the content (RFC 9110, section 9.3.3)
abbrev pub is_post : List ℕ → Bool
is_post method = pointwise nat_eq method (codes "POST")

-- the answer to a POST: a mapping that leads away is a redirect of it too
abbrev pub posted_answer : Content → Ask → MapAnswer → Answer
posted_answer tree ask (Inside text) = posting_answer (posting tree ask text)
posted_answer tree ask (Away status reference) = redirect status reference

-- the content after a POST: as before where it is led away
abbrev pub posted_content : Content → Ask → MapAnswer → Content
posted_content tree ask (Inside text) = posting_content tree (posting tree ask text)
posted_content tree ask (Away status reference) = tree

-- the answer to a request: the text of the path is mapped; another method than GET, HEAD and POST isn't allowed
unfoldable pub answer_to_request : Content → Ask → Answer
answer_to_request tree ask = if is_read ask.method then mapped_answer tree (mapping tree ask)
    else (if is_post ask.method then posted_answer tree ask (mapping tree ask) else error_answer 405)

-- the content after a request: no other method than POST changes it
unfoldable pub content_after_request : Content → Ask → Content
content_after_request tree ask = if is_post ask.method then posted_content tree ask (mapping tree ask) else tree
