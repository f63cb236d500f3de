-- The media type of each answer may be kept and sent.
use Rattle.std.proofs.Common.{◌≡◌, ℕ, Bool, true, false, cond, List, Option, Some, None, Ok, Err, IsTrue, length, nat_le, refl}
use Rattle.sp_base.specs.MediaTypes.{is_kind}
use Rattle.sp_base.specs.Texts.{Segments}
use Rattle.sp_base.specs.declared.answer.Answer.{Answer}
use Rattle.sp_base.specs.declared.answer.Ask.{Ask}
use Rattle.sp_base.specs.declared.answer.Mark.{Mark}
use Rattle.sp_base.specs.Limits.{most_rendered_bytes}
use Rattle.resource_tree.specs.Content.{Content}
use Rattle.resource_tree.specs.Seen.{Resource, Seen}
use Rattle.url_maps.specs.declared.answer.MapAnswer.{MapAnswer}
use Rattle.url_maps.specs.declared.answer.MapAnswer.TheVariants.{Inside, Away}
use Rattle.url_split.specs.declared.decompose.Parts.{Parts}
use Rattle.url_split.specs.Split.{split_of}
use Rattle.get_servlet.specs.declared.answer.Depth.{Depth}
use Rattle.get_servlet.specs.declared.answer.JsonAnswer.{JsonAnswer}
use Rattle.get_servlet.specs.declared.answer.JsonAnswer.TheVariants.{Whole, Over, TooLong}
use Rattle.get_servlet.specs.declared.streams.Stream.{Stream}
use Rattle.get_servlet.specs.Answers.{levels_of, json_answer}
use Rattle.get_servlet.specs.Streams.{stream_of}
use Rattle.publisher.specs.declared.templates.Reading.{Reading}
use Rattle.publisher.specs.declared.templates.Reading.TheVariants.{Parsed, Refused}
use Rattle.publisher.specs.Readings.{reading_of}
use Rattle.publisher.specs.Pages.{is_over, page_of, setting_for}
use Rattle.error_answers.specs.Errors.{error_answer}
use Rattle.publisher.specs.Errors.{answer_with_body}
use Rattle.publisher.specs.Depths.{depth_of}
use Rattle.overlay_merge.specs.Merged.{has_resource}
use Rattle.post_apply.specs.Posting.{PostEffect}
use Rattle.publisher.specs.declared.refusal.Refusal.{Refusal}
use Rattle.publisher.specs.declared.refusal.Refusal.TheVariants.{Status, NoMemory}
use Rattle.publisher.specs.Rendering.{ScriptAt, seen_resources, is_read, mark_of, representation_of, json_kind, html_kind, json_representation, json_to_depth, file_representation, is_json, is_bare, default_answer, script_for, script_representation, answer_by, resource_answer, split_answer, mapping, mapped_answer, is_post, posted_answer, answer_to_request}
use Rattle.publisher.specs.Posting.{PostOutcome, posting, posting_answer, refusal_answer}

abbrev pub HasKind : Answer → Type 0
HasKind a = is_kind a.kind ≡ true

pub error_kind : (status : ℕ) → HasKind (error_answer status)
unfolding error_answer
error_kind status = refl

either : (b : Bool) (x y : Answer) → HasKind x → HasKind y → HasKind (cond b x y)
either true x y p q = p
either false x y p q = q

representation_kind : (kind : List ℕ) (mark : Mark) (body : List ℕ) → is_kind kind ≡ true → HasKind (representation_of kind mark body)
representation_kind kind mark body is = either (nat_le (length body) most_rendered_bytes) (answer_with_body 200 kind mark body) (error_answer 500) is (error_kind 500)

json_is : (res : Resource) (answer : JsonAnswer) → HasKind (json_representation res answer)
json_is res (Whole text) = representation_kind json_kind (mark_of res) text refl
json_is res (Over most) = refl
json_is res TooLong = error_kind 500

depth_is : (seen : Seen) (res : Resource) (depth : Option Depth) → HasKind (json_to_depth seen res depth)
depth_is seen res None = error_kind 400
depth_is seen res (Some depth) = json_is res (json_answer seen res (levels_of depth) most_rendered_bytes)

-- the streams of files have media types
abbrev pub StreamsHaveKinds : Type 0
StreamsHaveKinds = (seen : Seen) (res : Resource) (stream : Stream) → stream_of seen res ≡ Some stream → IsTrue (is_kind stream.kind)

file_is : (seen : Seen) (res : Resource) (stream : Option Stream) → StreamsHaveKinds → stream_of seen res ≡ stream → HasKind (file_representation res stream)
file_is seen res None streams e = error_kind 404
file_is seen res (Some stream) streams e = representation_kind stream.kind (mark_of res) stream.body (streams seen res stream e)

default_is : StreamsHaveKinds → (seen : Seen) (parts : Parts) (res : Resource) → HasKind (default_answer seen parts res)
default_is streams seen parts res =
    either (is_json parts.extension) _ _ (depth_is seen res (depth_of parts.selectors))
    (either (is_bare parts) _ _ (file_is seen res (stream_of seen res) streams refl) (error_kind 404))

script_is : (tree : Content) (res : Resource) (script : Segments) (reading : Reading) → HasKind (script_representation tree res script reading)
script_is tree res script (Parsed blocks) =
    either (is_over (page_of tree (setting_for script res) blocks)) _ _ (error_kind 500) (representation_kind html_kind (mark_of res) (page_of tree (setting_for script res) blocks).text refl)
script_is tree res script Refused = error_kind 500

by_is : StreamsHaveKinds → (script : Option ScriptAt) (tree : Content) (parts : Parts) (res : Resource) → HasKind (answer_by script tree parts res)
by_is streams (Some script) tree parts res = script_is tree res script.path (reading_of script.text)
by_is streams None tree parts res = default_is streams (seen_resources tree) parts res

resource_is : StreamsHaveKinds → (tree : Content) (parts : Parts) (res : Option Resource) → HasKind (resource_answer tree parts res)
resource_is streams tree parts None = error_kind 404
resource_is streams tree parts (Some res) = by_is streams (script_for tree parts res) tree parts res

split_is : StreamsHaveKinds → (tree : Content) (parts : Option Parts) → HasKind (split_answer tree parts)
split_is streams tree None = error_kind 404
split_is streams tree (Some parts) = resource_is streams tree parts (seen_resources tree parts.path)

mapped_is : StreamsHaveKinds → (tree : Content) (answer : MapAnswer) → HasKind (mapped_answer tree answer)
mapped_is streams tree (Inside text) = split_is streams tree (split_of (has_resource tree) text)
mapped_is streams tree (Away status reference) = refl

refusal_is : (refusal : Refusal) → HasKind (refusal_answer refusal)
refusal_is (Status status) = error_kind status
refusal_is NoMemory = error_kind 500

outcome_is : (outcome : PostOutcome PostEffect) → HasKind (posting_answer outcome)
outcome_is (Ok done) = refl
outcome_is (Err refusal) = refusal_is refusal

posted_is : (tree : Content) (ask : Ask) (answer : MapAnswer) → HasKind (posted_answer tree ask answer)
posted_is tree ask (Inside text) = outcome_is (posting tree ask text)
posted_is tree ask (Away status reference) = refl

pub answer_kind : StreamsHaveKinds → (tree : Content) (ask : Ask) → IsTrue (is_kind (answer_to_request tree ask).kind)
unfolding answer_to_request
answer_kind streams tree ask =
    either (is_read ask.method) _ _ (mapped_is streams tree (mapping tree ask))
    (either (is_post ask.method) _ _ (posted_is tree ask (mapping tree ask)) (error_kind 405))
