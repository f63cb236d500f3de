-- What a POST makes of the content, and what it is answered (Apache Sling, "SlingPostServlet").
use Rattle.std.specs.Prelude.{◌++◌, ℕ, Bool, true, nat_eq, if◌then◌else◌, List, [], ◌∷◌, Option, Some, None, option_map, Result, Ok, Err, codes, decimal}
use Rattle.std.specs.List.{ends_with}
use Rattle.std.specs.Option.{option_or}
use Rattle.sp_base.specs.Outcomes.{◌>>=◌}
use Rattle.sp_base.specs.Texts.{Segments}
use Rattle.sp_base.specs.Paths.{parent_of, path_in, text_of}
use Rattle.sp_base.specs.declared.answer.Answer.{Answer}
use Rattle.sp_base.specs.declared.answer.Ask.{Ask}
use Rattle.sp_base.specs.declared.answer.Mark.TheVariants.{Plain}
use Rattle.resource_tree.specs.Content.{Content}
use Rattle.overlay_merge.specs.Merged.{has_resource}
use Rattle.location_field.specs.Location.{location_of}
use Rattle.url_split.specs.declared.decompose.Parts.{Parts}
use Rattle.url_split.specs.Split.{split_of}
use Rattle.form_input.specs.Forms.{form_of}
use Rattle.post_plan.specs.Plan.{plan_of}
use Rattle.post_apply.specs.Posting.{PostEffect, post_outcome}
use Rattle.post_apply.specs.declared.report.PostReport.{PostReport}
use Rattle.error_answers.specs.Errors.{error_answer}
use Rattle.publisher.specs.declared.refusal.Refusal.{Refusal}
use Rattle.publisher.specs.declared.refusal.Refusal.TheVariants.{Status, NoMemory}
use Rattle.publisher.specs.declared.targets.PostTarget.{PostTarget}
use Rattle.publisher.specs.Refusals.{of_form, of_plan, of_operation}

-- what a step of a POST gives, or why the POST is refused
abbrev pub PostOutcome : Type 0 → Type 0
PostOutcome A = Result A Refusal

-- what a crate below gives, its fault as a refusal
abbrev pub or_refused : {A E : Type 0} → (E → Refusal) → Result A E → PostOutcome A
or_refused refusal (Ok x) = Ok x
or_refused refusal (Err e) = Err (refusal e)

-- ---- the target

-- a path, and whether a new node is wished below it
abbrev pub target_at : Bool → Segments → PostTarget
target_at star path = record { path = path; star = star }

-- the last segment of a text is `*`
abbrev pub ends_in_star : List ℕ → Bool
ends_in_star text = ends_with nat_eq text (codes "/*")

-- the path of the resource that a text names, else the path that the text spells
abbrev pub named_path : Content → List ℕ → Option Segments
named_path tree text = option_or (option_map (λ (parts : Parts). parts.path) (split_of (has_resource tree) text)) (path_in text)

-- a new node is wished below the path before the last segment
abbrev pub star_target : List ℕ → Option PostTarget
star_target text = option_map (λ path. target_at true (parent_of path)) (path_in text)

-- the target of a text: a new node below it is wished where its last segment is `*`, and else where a slash stood at its end
abbrev pub post_target : Content → List ℕ → Bool → Option PostTarget
post_target tree text slash = if ends_in_star text then star_target text else option_map (target_at slash) (named_path tree text)

-- the target, or Bad Request where there is none (RFC 9110, section 15.5.1)
abbrev pub or_bad_request : Option PostTarget → PostOutcome PostTarget
or_bad_request (Some target) = Ok target
or_bad_request None = Err (Status 400)

-- ---- what is done

-- what a POST to a text gives: its target, its form, the operation that the form asks for, and what that makes of the content; or the first
-- cause for which it is refused
unfoldable pub posting : Content → Ask → List ℕ → PostOutcome PostEffect
posting tree ask text = do
  target ← or_bad_request (post_target tree text ask.slash)
  pairs ← or_refused of_form (form_of ask.kind ask.body)
  operation ← or_refused of_plan (plan_of target.path target.star pairs)
  or_refused of_operation (post_outcome operation tree)

-- ---- what it is answered

-- the status code: 201 (Created) for a new node, else 200 (RFC 9110, sections 15.3.1 and 15.3.2)
abbrev pub report_status : PostReport → ℕ
report_status report = if report.created then 201 else 200

-- the place of a new node (RFC 9110, section 10.2.2)
abbrev pub report_location : PostReport → List ℕ
report_location report = if report.created then location_of (text_of report.path) else []

-- the status code and the path in a line of text
abbrev pub report_line : PostReport → List ℕ
report_line report = decimal (report_status report) ++ codes " " ++ text_of report.path ++ 10 ∷ []

-- the answer that tells of a POST's report
abbrev pub report_answer : PostReport → Answer
report_answer report = record {
  status = report_status report;
  kind = codes "text/plain;charset=utf-8";
  location = report_location report;
  mark = Plain;
  body = report_line report;
}

-- a refusal is an error; out of memory is none
abbrev pub refusal_answer : Refusal → Answer
refusal_answer (Status status) = error_answer status
refusal_answer NoMemory = error_answer 500

-- the answer to a POST
abbrev pub posting_answer : PostOutcome PostEffect → Answer
posting_answer (Ok done) = report_answer done.report
posting_answer (Err refusal) = refusal_answer refusal

-- the content after a POST: as before where it is refused
abbrev pub posting_content : Content → PostOutcome PostEffect → Content
posting_content tree (Ok done) = done.content
posting_content tree (Err refusal) = tree
