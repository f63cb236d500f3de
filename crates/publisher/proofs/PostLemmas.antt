-- What leaves the content as it is.
use Rattle.std.proofs.Common.{◌≡◌, ◌≢◌, ℕ, Bool, true, false, cond, List, Ok, Err, refl, ◌∙◌, ap, ⊎_elim}
use Rattle.std.specs.Prelude.{◌||◌, codes, nat_eq, if◌then◌else◌}
use Rattle.std.specs.Cmp.Lexicographic.{pointwise}
use Rattle.std.proofs.lemmas.Bool.{or_cases}
use Rattle.sp_base.specs.declared.answer.Ask.{Ask}
use Rattle.sp_base.proofs.TextLemmas.{text_is}
use Rattle.resource_tree.specs.Content.{Content}
use Rattle.url_maps.specs.declared.answer.MapAnswer.{MapAnswer}
use Rattle.url_maps.specs.declared.answer.MapAnswer.TheVariants.{Inside, Away}
use Rattle.error_answers.specs.Errors.{error_answer}
use Rattle.post_apply.specs.Posting.{PostEffect}
use Rattle.publisher.specs.Errors.{redirect}
use Rattle.publisher.specs.Posting.{PostOutcome, posting, posting_answer, posting_content}
use Rattle.publisher.proofs.RenderingLemmas.{read_is}
use Rattle.publisher.specs.Rendering.{content_after_request, is_post, is_read, mapped_answer, mapping, posted_answer, posted_content, answer_to_request}

-- ---- methods

read_is_no_post : (method : List ℕ) → is_read method ≡ true → is_post method ≡ false
read_is_no_post method read =
    ⊎_elim (λ get. ap is_post (text_is method (codes "GET") get)) (λ head. ap is_post (text_is method (codes "HEAD") head))
    (or_cases (pointwise nat_eq method (codes "GET")) (pointwise nat_eq method (codes "HEAD")) read)

post_is_no_read : (method : List ℕ) → is_post method ≡ true → is_read method ≡ false
post_is_no_read method post = ap is_read (text_is method (codes "POST") post)

pub reads_keep : (tree : Content) (ask : Ask) → is_read ask.method ≡ true → content_after_request tree ask ≡ tree
unfolding content_after_request
reads_keep tree ask read = ap (λ b. cond b (posted_content tree ask (mapping tree ask)) tree) (read_is_no_post ask.method read)

-- ---- refusals

abbrev status_by : Bool → ℕ
status_by created = if created then 201 else 200

created_by : (created : Bool) → status_by created ≢ 200 → status_by created ≢ 201 → ⊥
created_by true one other = other refl
created_by false one other = one refl

outcome_keeps : (tree : Content) (outcome : PostOutcome PostEffect) → (posting_answer outcome).status ≢ 200 → (posting_answer outcome).status ≢ 201 → posting_content tree outcome ≡ tree
outcome_keeps tree (Ok done) one other = absurd (created_by done.report.created one other)
outcome_keeps tree (Err refusal) one other = refl

posted_keeps : (tree : Content) (ask : Ask) (answer : MapAnswer) → (posted_answer tree ask answer).status ≢ 200 → (posted_answer tree ask answer).status ≢ 201 → posted_content tree ask answer ≡ tree
posted_keeps tree ask (Inside text) one other = outcome_keeps tree (posting tree ask text) one other
posted_keeps tree ask (Away status reference) one other = refl

pub post_is : (tree : Content) (ask : Ask) → is_post ask.method ≡ true → answer_to_request tree ask ≡ posted_answer tree ask (mapping tree ask)
unfolding answer_to_request
post_is tree ask post =
    ap (λ b. cond b (mapped_answer tree (mapping tree ask)) (cond (is_post ask.method) (posted_answer tree ask (mapping tree ask)) (error_answer 405))) (post_is_no_read ask.method post)
    ∙ ap (λ b. cond b (posted_answer tree ask (mapping tree ask)) (error_answer 405)) post

keeps_by : (post : Bool) (tree : Content) (ask : Ask) → is_post ask.method ≡ post → (answer_to_request tree ask).status ≢ 200 → (answer_to_request tree ask).status ≢ 201 → cond post (posted_content tree ask (mapping tree ask)) tree ≡ tree
keeps_by true tree ask is one other =
    let same = post_is tree ask is in
    posted_keeps tree ask (mapping tree ask) (λ e. one (ap (λ a. a.status) same ∙ e)) (λ e. other (ap (λ a. a.status) same ∙ e))
keeps_by false tree ask is one other = refl

pub refusals_keep : (tree : Content) (ask : Ask) → (answer_to_request tree ask).status ≢ 200 → (answer_to_request tree ask).status ≢ 201 → content_after_request tree ask ≡ tree
unfolding content_after_request
refusals_keep tree ask one other = keeps_by (is_post ask.method) tree ask refl one other

-- ---- requests that are mapped away

pub away_answer : (tree : Content) (ask : Ask) (status : ℕ) (reference : List ℕ) → (is_read ask.method || is_post ask.method) ≡ true → mapping tree ask ≡ Away status reference → answer_to_request tree ask ≡ redirect status reference
away_answer tree ask status reference asks away =
    ⊎_elim
    (λ (read : is_read ask.method ≡ true). read_is tree ask read ∙ ap (mapped_answer tree) away)
    (λ (post : is_post ask.method ≡ true). post_is tree ask post ∙ ap (posted_answer tree ask) away)
    (or_cases (is_read ask.method) (is_post ask.method) asks)

either : (b : Bool) (tree : Content) → cond b tree tree ≡ tree
either true tree = refl
either false tree = refl

pub away_keeps : (tree : Content) (ask : Ask) (status : ℕ) (reference : List ℕ) → mapping tree ask ≡ Away status reference → content_after_request tree ask ≡ tree
unfolding content_after_request
away_keeps tree ask status reference away = ap (λ a. cond (is_post ask.method) (posted_content tree ask a) tree) away ∙ either (is_post ask.method) tree
