-- What every answer has, and what an answer depends on.
use Rattle.std.proofs.Common.{◌≡◌, ◌≢◌, ◌≤◌, ℕ, Bool, true, false, cond, List, Option, Some, None, Result, Ok, Err, IfOk, length, nat_le, refl, sym, ◌∙◌, ap, subst, arith}
use Rattle.std.proofs.lemmas.Bool.Decides.{nat_tests}
use Rattle.sp_base.specs.Limits.{most_rendered_bytes}
use Rattle.sp_base.specs.Paths.{text_of}
use Rattle.sp_base.specs.Texts.{Segments}
use Rattle.sp_base.specs.declared.answer.Answer.{Answer}
use Rattle.sp_base.specs.declared.answer.Ask.{Ask}
use Rattle.sp_base.specs.declared.answer.Mark.{Mark}
use Rattle.resource_tree.specs.Content.{Content}
use Rattle.resource_tree.specs.Seen.{Resource, Seen}
use Rattle.url_maps.specs.Answers.{map_answer}
use Rattle.url_maps.specs.declared.answer.MapAnswer.{MapAnswer}
use Rattle.url_maps.specs.declared.answer.MapAnswer.TheVariants.{Inside, Away}
use Rattle.url_split.specs.declared.decompose.Parts.{Parts}
use Rattle.url_split.specs.Split.{split_of}
use Rattle.get_servlet.specs.declared.answer.Depth.{Depth}
use Rattle.get_servlet.specs.declared.answer.JsonAnswer.{JsonAnswer}
use Rattle.get_servlet.specs.declared.answer.JsonAnswer.TheVariants.{Whole, Over, TooLong}
use Rattle.get_servlet.specs.declared.streams.Stream.{Stream}
use Rattle.get_servlet.specs.Answers.{levels_of, json_answer}
use Rattle.get_servlet.specs.Streams.{stream_of}
use Rattle.publisher.specs.declared.templates.Reading.{Reading}
use Rattle.publisher.specs.declared.templates.Reading.TheVariants.{Parsed, Refused}
use Rattle.publisher.specs.Readings.{reading_of}
use Rattle.publisher.specs.Pages.{is_over, page_of, setting_for}
use Rattle.error_answers.specs.Errors.{error_answer}
use Rattle.publisher.specs.Errors.{answer_with_body}
use Rattle.publisher.specs.Depths.{depth_of}
use Rattle.overlay_merge.specs.Merged.{has_resource}
use Rattle.publisher.specs.Rendering.{ScriptAt, seen_resources, is_read, mark_of, representation_of, json_representation, json_to_depth, file_representation, is_json, is_bare, default_answer, script_for, script_representation, answer_by, resource_answer, split_answer, text_answer, mapping, mapped_answer, is_post, posted_answer, answer_to_request}

-- ---- a representation isn't too long

abbrev pub Fits : Answer → Type 0
Fits a = a.status ≡ 200 → length a.body ≤ most_rendered_bytes

pub error_fits : (status : ℕ) → status ≢ 200 → Fits (error_answer status)
unfolding error_answer
error_fits status other e = absurd (other e)

either : (b : Bool) (x y : Answer) → Fits x → Fits y → Fits (cond b x y)
either true x y p q = p
either false x y p q = q

page_by : (b : Bool) (kind : List ℕ) (mark : Mark) (body : List ℕ) → nat_le (length body) most_rendered_bytes ≡ b → Fits (cond b (answer_with_body 200 kind mark body) (error_answer 500))
page_by true kind mark body small e = grind (arith, nat_tests)
page_by false kind mark body small e = error_fits 500 (λ h. absurd (omega (arith, h))) e

page_fits : (kind : List ℕ) (mark : Mark) (body : List ℕ) → Fits (representation_of kind mark body)
page_fits kind mark body = page_by (nat_le (length body) most_rendered_bytes) kind mark body refl

json_fits : (res : Resource) (answer : JsonAnswer) → Fits (json_representation res answer)
json_fits res (Whole text) = page_fits _ (mark_of res) text
json_fits res (Over most) = λ e. absurd (omega (arith, e))
json_fits res TooLong = error_fits 500 (λ h. absurd (omega (arith, h)))

depth_fits : (seen_resources : Seen) (res : Resource) (depth : Option Depth) → Fits (json_to_depth seen_resources res depth)
depth_fits seen_resources res None = error_fits 400 (λ h. absurd (omega (arith, h)))
depth_fits seen_resources res (Some depth) = json_fits res (json_answer seen_resources res (levels_of depth) most_rendered_bytes)

missing_fits : Fits (error_answer 404)
missing_fits = error_fits 404 (λ h. absurd (omega (arith, h)))

file_fits : (res : Resource) (stream : Option Stream) → Fits (file_representation res stream)
file_fits res None = missing_fits
file_fits res (Some stream) = page_fits stream.kind (mark_of res) stream.body

default_fits : (seen_resources : Seen) (parts : Parts) (res : Resource) → Fits (default_answer seen_resources parts res)
default_fits seen_resources parts res =
    either (is_json parts.extension) _ _ (depth_fits seen_resources res (depth_of parts.selectors))
    (either (is_bare parts) _ _ (file_fits res (stream_of seen_resources res)) missing_fits)

refused_fits : Fits (error_answer 500)
refused_fits = error_fits 500 (λ h. absurd (omega (arith, h)))

script_fits : (tree : Content) (res : Resource) (script : Segments) (reading : Reading) → Fits (script_representation tree res script reading)
script_fits tree res script (Parsed blocks) = either (is_over (page_of tree (setting_for script res) blocks)) _ _ refused_fits (page_fits _ (mark_of res) (page_of tree (setting_for script res) blocks).text)
script_fits tree res script Refused = refused_fits

by_fits : (script : Option ScriptAt) (tree : Content) (parts : Parts) (res : Resource) → Fits (answer_by script tree parts res)
by_fits (Some script) tree parts res = script_fits tree res script.path (reading_of script.text)
by_fits None tree parts res = default_fits (seen_resources tree) parts res

resource_fits : (tree : Content) (parts : Parts) (res : Option Resource) → Fits (resource_answer tree parts res)
resource_fits tree parts None = missing_fits
resource_fits tree parts (Some res) = by_fits (script_for tree parts res) tree parts res

found_fits : (tree : Content) (parts : Option Parts) → Fits (split_answer tree parts)
found_fits tree None = missing_fits
found_fits tree (Some parts) = resource_fits tree parts (seen_resources tree parts.path)

pub text_fits : (tree : Content) (text : List ℕ) → Fits (text_answer tree text)
text_fits tree text = found_fits tree (split_of (has_resource tree) text)

pub mapped_fits : (tree : Content) (answer : MapAnswer) → Fits (mapped_answer tree answer)
mapped_fits tree (Inside text) = text_fits tree text
mapped_fits tree (Away status reference) = λ e. omega arith

-- what is asked by a GET or a HEAD
pub read_is : (tree : Content) (ask : Ask) → is_read ask.method ≡ true → answer_to_request tree ask ≡ mapped_answer tree (mapping tree ask)
unfolding answer_to_request
read_is tree ask read = ap (λ b. cond b (mapped_answer tree (mapping tree ask)) (cond (is_post ask.method) (posted_answer tree ask (mapping tree ask)) (error_answer 405))) read

pub rendered_fits : (tree : Content) (ask : Ask) → is_read ask.method ≡ true → (answer_to_request tree ask).status ≡ 200 → length (answer_to_request tree ask).body ≤ most_rendered_bytes
rendered_fits tree ask read = subst Fits (sym (read_is tree ask read)) (mapped_fits tree (mapping tree ask))

-- ---- what is answered has at most 4,194,304 bytes, where its status is 200

-- an answer that is this one
pub fits_as : {E : Type 0} (r : Result Answer E) (x : Answer) → Fits x → IfOk r (λ a. a ≡ x) → IfOk r (λ a. a.status ≡ 200 → length a.body ≤ most_rendered_bytes)
fits_as (Ok a) x fits is = subst Fits (sym is) fits
fits_as (Err e) x fits is = tt

-- ---- the host, the port and the path alone count

pub same_reading : (tree : Content) (a b : Ask) → is_read a.method ≡ true → is_read b.method ≡ true → a.host ≡ b.host → a.port ≡ b.port → a.path ≡ b.path → answer_to_request tree a ≡ answer_to_request tree b
same_reading tree a b first second host port path =
    let same : mapping tree a ≡ mapping tree b = λ i. map_answer tree (host i) (port i) (text_of (path i)) in
    read_is tree a first ∙ ap (mapped_answer tree) same ∙ sym (read_is tree b second)
