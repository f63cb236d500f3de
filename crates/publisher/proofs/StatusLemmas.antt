-- No status is above 500.
use Rattle.std.proofs.Common.{◌≡◌, ◌≢◌, ◌<◌, ◌≤◌, ℕ, Bool, true, false, cond, List, Option, Some, None, Result, Ok, Err, IfOk, length, nat_le, refl, sym, ◌∙◌, ap, subst, arith}
use Rattle.std.specs.Prelude.{if◌then◌else◌}
use Rattle.sp_base.specs.Outcomes.{◌>>=◌}
use Rattle.sp_base.specs.Paths.{text_of}
use Rattle.sp_base.specs.Texts.{Segments}
use Rattle.sp_base.specs.declared.answer.Answer.{Answer}
use Rattle.sp_base.specs.declared.answer.Ask.{Ask}
use Rattle.sp_base.specs.declared.answer.Mark.{Mark}
use Rattle.resource_tree.specs.Content.{Content}
use Rattle.resource_tree.specs.Seen.{Resource, Seen}
use Rattle.std.proofs.lemmas.Bool.Decides.{nat_tests}
use Rattle.sp_base.specs.Limits.{most_rendered_bytes}
use Rattle.url_maps.specs.Answers.{map_answer}
use Rattle.url_maps.specs.Mappings.{is_redirect}
use Rattle.url_maps.specs.declared.answer.MapAnswer.{MapAnswer}
use Rattle.url_maps.specs.declared.answer.MapAnswer.TheVariants.{Inside, Away}
use Rattle.url_split.specs.declared.decompose.Parts.{Parts}
use Rattle.url_split.specs.Split.{split_of}
use Rattle.get_servlet.specs.declared.answer.Depth.{Depth}
use Rattle.get_servlet.specs.declared.answer.JsonAnswer.{JsonAnswer}
use Rattle.get_servlet.specs.declared.answer.JsonAnswer.TheVariants.{Whole, Over, TooLong}
use Rattle.get_servlet.specs.declared.streams.Stream.{Stream}
use Rattle.get_servlet.specs.Answers.{levels_of, json_answer}
use Rattle.get_servlet.specs.Streams.{stream_of}
use Rattle.publisher.specs.declared.templates.Reading.{Reading}
use Rattle.publisher.specs.declared.templates.Reading.TheVariants.{Parsed, Refused}
use Rattle.publisher.specs.Readings.{reading_of}
use Rattle.publisher.specs.Pages.{is_over, page_of, setting_for}
use Rattle.error_answers.specs.Errors.{error_answer}
use Rattle.publisher.specs.Errors.{answer_with_body}
use Rattle.publisher.specs.Depths.{depth_of}
use Rattle.overlay_merge.specs.Merged.{has_resource}
use Rattle.publisher.specs.Rendering.{ScriptAt, seen_resources, is_read, mark_of, representation_of, json_representation, json_to_depth, file_representation, is_json, is_bare, default_answer, script_for, script_representation, answer_by, resource_answer, split_answer, mapping, mapped_answer, is_post, posted_answer, answer_to_request}
use Rattle.resource_tree.specs.declared.faults.TreeFault.{TreeFault}
use Rattle.resource_tree.specs.declared.faults.TreeFault.TheVariants.{NoSuch, RootFixed, IntoItself, Exists, Taken, NoSibling, TooDeep, FullTree, NoMemory as NoMemoryOfTree}
use Rattle.form_input.specs.Forms.{form_of}
use Rattle.form_input.specs.declared.fault.FormFault.{FormFault}
use Rattle.form_input.specs.declared.fault.FormFault.TheVariants.{WrongKind, NoBoundary, BadPart, TooMany, NoMemory as NoMemoryOfForm}
use Rattle.post_plan.specs.Plan.{plan_of}
use Rattle.post_plan.specs.declared.fault.PlanFault.{PlanFault}
use Rattle.post_plan.specs.declared.fault.PlanFault.TheVariants.{BadOperation, NoDest, BadOrder, BadHint, BadPath, NoMemory as NoMemoryOfPlan}
use Rattle.post_apply.specs.Posting.{PostEffect, post_outcome}
use Rattle.post_apply.specs.declared.fault.ApplyFault.{ApplyFault}
use Rattle.post_apply.specs.declared.fault.ApplyFault.TheVariants.{Tree, Value, DestThere, NoMemory as NoMemoryOfOperation}
use Rattle.publisher.specs.declared.refusal.Refusal.{Refusal}
use Rattle.publisher.specs.declared.refusal.Refusal.TheVariants.{Status, NoMemory}
use Rattle.publisher.specs.declared.targets.PostTarget.{PostTarget}
use Rattle.publisher.proofs.RenderingLemmas.{error_fits, fits_as}
use Rattle.publisher.specs.Refusals.{of_form, of_operation, of_plan, tree_refusal}
use Rattle.publisher.specs.Posting.{PostOutcome, or_bad_request, or_refused, posting, posting_answer, refusal_answer, post_target}

abbrev pub Short : Answer → Type 0
Short a = a.status ≤ 500

error_short : (status : ℕ) → status ≤ 500 → Short (error_answer status)
unfolding error_answer
error_short status h = h

either : (b : Bool) (x y : Answer) → Short x → Short y → Short (cond b x y)
either true x y p q = p
either false x y p q = q

representation_short : (kind : List ℕ) (mark : Mark) (body : List ℕ) → Short (representation_of kind mark body)
representation_short kind mark body = either (nat_le (length body) most_rendered_bytes) (answer_with_body 200 kind mark body) (error_answer 500) (omega arith) (error_short 500 (omega arith))

json_short : (res : Resource) (answer : JsonAnswer) → Short (json_representation res answer)
json_short res (Whole text) = representation_short _ (mark_of res) text
json_short res (Over most) = omega arith
json_short res TooLong = error_short 500 (omega arith)

depth_short : (seen_resources : Seen) (res : Resource) (depth : Option Depth) → Short (json_to_depth seen_resources res depth)
depth_short seen_resources res None = error_short 400 (omega arith)
depth_short seen_resources res (Some depth) = json_short res (json_answer seen_resources res (levels_of depth) most_rendered_bytes)

missing_short : Short (error_answer 404)
missing_short = error_short 404 (omega arith)

file_short : (res : Resource) (stream : Option Stream) → Short (file_representation res stream)
file_short res None = missing_short
file_short res (Some stream) = representation_short stream.kind (mark_of res) stream.body

default_short : (seen_resources : Seen) (parts : Parts) (res : Resource) → Short (default_answer seen_resources parts res)
default_short seen_resources parts res =
    either (is_json parts.extension) _ _ (depth_short seen_resources res (depth_of parts.selectors))
    (either (is_bare parts) _ _ (file_short res (stream_of seen_resources res)) missing_short)

script_short : (tree : Content) (res : Resource) (script : Segments) (reading : Reading) → Short (script_representation tree res script reading)
script_short tree res script (Parsed blocks) =
    either (is_over (page_of tree (setting_for script res) blocks)) _ _ (error_short 500 (omega arith)) (representation_short _ (mark_of res) (page_of tree (setting_for script res) blocks).text)
script_short tree res script Refused = error_short 500 (omega arith)

by_short : (script : Option ScriptAt) (tree : Content) (parts : Parts) (res : Resource) → Short (answer_by script tree parts res)
by_short (Some script) tree parts res = script_short tree res script.path (reading_of script.text)
by_short None tree parts res = default_short (seen_resources tree) parts res

resource_short : (tree : Content) (parts : Parts) (res : Option Resource) → Short (resource_answer tree parts res)
resource_short tree parts None = missing_short
resource_short tree parts (Some res) = by_short (script_for tree parts res) tree parts res

split_short : (tree : Content) (parts : Option Parts) → Short (split_answer tree parts)
split_short tree None = missing_short
split_short tree (Some parts) = resource_short tree parts (seen_resources tree parts.path)

redirect_short : (status : ℕ) → is_redirect status ≡ true → status ≤ 500
redirect_short status is = grind (arith, nat_tests)

mapped_short : (tree : Content) (answer : MapAnswer) → ((status : ℕ) (reference : List ℕ) → answer ≡ Away status reference → is_redirect status ≡ true) → Short (mapped_answer tree answer)
mapped_short tree (Inside text) away = split_short tree (split_of (has_resource tree) text)
mapped_short tree (Away status reference) away = redirect_short status (away status reference refl)

-- ---- POSTs

-- the status of an error (RFC 9110, sections 15.5 and 15.6)
abbrev pub IsErrorStatus : ℕ → Type 0
IsErrorStatus status = (400 ≤ status) × (status ≤ 500)

abbrev IsErrorRefusal : Refusal → Type 0
IsErrorRefusal (Status status) = IsErrorStatus status
IsErrorRefusal NoMemory = Unit {0}

abbrev IsErrorOutcome : {A : Type 0} → PostOutcome A → Type 0
IsErrorOutcome (Ok x) = Unit {0}
IsErrorOutcome (Err refusal) = IsErrorRefusal refusal

next_short : {A B : Type 0} (step : PostOutcome A) (next : A → PostOutcome B) → IsErrorOutcome step → ((x : A) → IsErrorOutcome (next x)) → IsErrorOutcome (step >>= next)
next_short (Ok x) next p q = q x
next_short (Err refusal) next p q = p

refused_short : {A E : Type 0} (refusal : E → Refusal) (step : Result A E) → ((fault : E) → IsErrorRefusal (refusal fault)) → IsErrorOutcome (or_refused refusal step)
refused_short refusal (Ok x) p = tt
refused_short refusal (Err fault) p = p fault

form_short : (fault : FormFault) → IsErrorRefusal (of_form fault)
form_short WrongKind = (omega arith, omega arith)
form_short NoBoundary = (omega arith, omega arith)
form_short (BadPart at) = (omega arith, omega arith)
form_short TooMany = (omega arith, omega arith)
form_short NoMemoryOfForm = tt

plan_short : (fault : PlanFault) → IsErrorRefusal (of_plan fault)
plan_short BadOperation = (omega arith, omega arith)
plan_short NoDest = (omega arith, omega arith)
plan_short BadOrder = (omega arith, omega arith)
plan_short (BadHint name) = (omega arith, omega arith)
plan_short (BadPath text) = (omega arith, omega arith)
plan_short NoMemoryOfPlan = tt

tree_short : (fault : TreeFault) → IsErrorRefusal (tree_refusal fault)
tree_short (NoSuch path) = (omega arith, omega arith)
tree_short RootFixed = (omega arith, omega arith)
tree_short IntoItself = (omega arith, omega arith)
tree_short (Exists path) = (omega arith, omega arith)
tree_short (Taken path) = (omega arith, omega arith)
tree_short NoSibling = (omega arith, omega arith)
tree_short TooDeep = (omega arith, omega arith)
tree_short FullTree = (omega arith, omega arith)
tree_short NoMemoryOfTree = tt

operation_short : (fault : ApplyFault) → IsErrorRefusal (of_operation fault)
operation_short (Tree fault) = tree_short fault
operation_short (Value name fault) = (omega arith, omega arith)
operation_short (DestThere path) = (omega arith, omega arith)
operation_short NoMemoryOfOperation = tt

target_short : (target : Option PostTarget) → IsErrorOutcome (or_bad_request target)
target_short (Some target) = tt
target_short None = (omega arith, omega arith)

posting_short : (tree : Content) (ask : Ask) (text : List ℕ) → IsErrorOutcome (posting tree ask text)
unfolding posting
posting_short tree ask text =
    next_short _ _ (target_short (post_target tree text ask.slash)) (λ target.
    next_short _ _ (refused_short of_form (form_of ask.kind ask.body) form_short) (λ pairs.
    next_short _ _ (refused_short of_plan (plan_of target.path target.star pairs) plan_short) (λ operation.
    refused_short of_operation (post_outcome operation tree) operation_short)))

pub refused_is : (tree : Content) (ask : Ask) (text : List ℕ) (status : ℕ) → posting tree ask text ≡ Err (Status status) → IsErrorStatus status
refused_is tree ask text status is = subst (λ (outcome : PostOutcome PostEffect). IsErrorOutcome outcome) is (posting_short tree ask text)

status_apart : (status : ℕ) → Status status ≡ NoMemory → ⊥
status_apart status e = cc

-- what is refused has no 200
pub refused_fits : {E : Type 0} (r : Result Answer E) (tree : Content) (ask : Ask) (text : List ℕ) (refusal : Refusal) (status : ℕ) → refusal ≡ Status status
    → (refusal ≢ NoMemory → posting tree ask text ≡ Err refusal) → IfOk r (λ a. a ≡ error_answer status) → IfOk r (λ a. a.status ≡ 200 → length a.body ≤ most_rendered_bytes)
refused_fits r tree ask text refusal status is refused answer =
    let outcome : posting tree ask text ≡ Err (Status status) = refused (λ e. status_apart status (sym is ∙ e)) ∙ ap (λ (e : Refusal). Err e) is in
    let error = refused_is tree ask text status outcome in
    fits_as r (error_answer status) (error_fits status (λ ok. absurd (omega (arith, ok, error.0)))) answer

-- nor has what isn't allowed
pub not_allowed_fits : {E : Type 0} (r : Result Answer E) → IfOk r (λ a. a ≡ error_answer 405) → IfOk r (λ a. a.status ≡ 200 → length a.body ≤ most_rendered_bytes)
not_allowed_fits r answer = fits_as r (error_answer 405) (error_fits 405 (λ ok. absurd (omega (arith, ok)))) answer

report_short : (created : Bool) → (if created then 201 else 200) ≤ 500
report_short true = omega arith
report_short false = omega arith

refusal_short : (refusal : Refusal) → IsErrorRefusal refusal → Short (refusal_answer refusal)
refusal_short (Status status) error = error_short status error.1
refusal_short NoMemory error = error_short 500 (omega arith)

outcome_short : (outcome : PostOutcome PostEffect) → IsErrorOutcome outcome → Short (posting_answer outcome)
outcome_short (Ok done) short = report_short done.report.created
outcome_short (Err refusal) short = refusal_short refusal short

posted_short : (tree : Content) (ask : Ask) (answer : MapAnswer) → ((status : ℕ) (reference : List ℕ) → answer ≡ Away status reference → is_redirect status ≡ true) → Short (posted_answer tree ask answer)
posted_short tree ask (Inside text) away = outcome_short (posting tree ask text) (posting_short tree ask text)
posted_short tree ask (Away status reference) away = redirect_short status (away status reference refl)

-- ---- all answers

-- what leads away does so by a status of a redirect
abbrev pub AwayRedirects : Type 0
AwayRedirects = (tree : Content) (host : List ℕ) (port : ℕ) (text reference : List ℕ) (status : ℕ) → map_answer tree host port text ≡ Away status reference → is_redirect status ≡ true

pub rendered_short : AwayRedirects → (tree : Content) (ask : Ask) → Short (answer_to_request tree ask)
unfolding answer_to_request
rendered_short away tree ask =
    let leads = λ (status : ℕ) (reference : List ℕ). away tree ask.host ask.port (text_of ask.path) reference status in
    either (is_read ask.method) _ _ (mapped_short tree (mapping tree ask) leads)
    (either (is_post ask.method) _ _ (posted_short tree ask (mapping tree ask) leads) (error_short 405 (omega arith)))

pub below_1000 : (status : ℕ) → status ≤ 500 → status < 1000
below_1000 status short = omega (arith, short)

pub not_507 : (status : ℕ) → status ≤ 500 → status ≢ 507
not_507 status short is = absurd (omega (arith, short, is))

pub errors_short : (status : ℕ) → (error_answer status).status ≡ status
unfolding error_answer
errors_short status = refl
