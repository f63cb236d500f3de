-- The content after a request is good: a POST's target is a path, so the operation names paths, and that leaves the content good.
use Rattle.std.proofs.Common.{◌≡◌, refl, ℕ, List, Option, Some, None, take, Bool, true, false, cond}
use Rattle.std.specs.Prelude.{IfOk, IfSome, Result, Ok, Err, option_map}
use Rattle.std.specs.Option.{option_or}
use Rattle.std.specs.Result.{result_ok}
use Rattle.sp_base.specs.Outcomes.{◌>>=◌}
use Rattle.sp_base.specs.Paths.{is_path, parent_of, path_in, path_of}
use Rattle.sp_base.specs.declared.path.PathFault.{PathFault}
use Rattle.sp_base.specs.declared.answer.Ask.{Ask}
use Rattle.resource_tree.specs.Content.{Content, IsGood}
use Rattle.overlay_merge.specs.Merged.{has_resource}
use Rattle.url_maps.specs.declared.answer.MapAnswer.{MapAnswer}
use Rattle.url_maps.specs.declared.answer.MapAnswer.TheVariants.{Inside, Away}
use Rattle.url_split.specs.declared.decompose.Parts.{Parts}
use Rattle.url_split.specs.Split.{IsSplit, split_of}
use Rattle.form_input.specs.Forms.{form_of}
use Rattle.post_plan.specs.declared.operation.Op.{Op}
use Rattle.post_plan.specs.declared.fault.PlanFault.{PlanFault}
use Rattle.post_plan.specs.OperationPaths.{AsksForPaths, names_paths}
use Rattle.post_plan.specs.Plan.{plan_of}
use Rattle.post_apply.specs.Posting.{PostEffect, content_after_post, post_outcome}
use Rattle.post_apply.specs.Laws.{OperationsKeepContentGood}
use Rattle.post_apply.specs.declared.fault.ApplyFault.{ApplyFault}
use Rattle.post_apply.proofs.GoodLemmas.{parent_path}
use Rattle.publisher.specs.declared.refusal.Refusal.{Refusal}
use Rattle.publisher.specs.declared.targets.PostTarget.{PostTarget}
use Rattle.publisher.specs.Refusals.{of_form, of_operation, of_plan}
use Rattle.publisher.specs.Posting.{PostOutcome, ends_in_star, named_path, or_bad_request, or_refused, posting, posting_content, star_target, target_at, post_target}
use Rattle.publisher.specs.Rendering.{content_after_request, is_post, mapping, posted_content}
use Rattle.publisher.specs.PostLaws.{RequestsKeepContentGood}

-- ---- one step after another

followed : {A B : Type 0} (P : A → Type 0) (Q : B → Type 0) (o : PostOutcome A) (f : A → PostOutcome B) → IfOk o P → ((x : A) → P x → IfOk (f x) Q) → IfOk (o >>= f) Q
followed P Q (Ok x) f was next = next x was
followed P Q (Err e) f was next = tt

taken_on : {A E : Type 0} (P : A → Type 0) (refusal : E → Refusal) (r : Result A E) → IfOk r P → IfOk (or_refused refusal r) P
taken_on P refusal (Ok x) was = was
taken_on P refusal (Err e) was = tt

any_is : {A E : Type 0} (r : Result A E) → IfOk r (λ (x : A). x ≡ x)
any_is (Ok x) = refl
any_is (Err e) = tt

-- ---- the target

abbrev IsPathIf : Option (List (List ℕ)) → Type 0
IsPathIf o = IfSome o (λ (p : List (List ℕ)). is_path p ≡ true)

abbrev HasPathIf : Option PostTarget → Type 0
HasPathIf o = IfSome o (λ (t : PostTarget). is_path t.path ≡ true)

at_path : (star : Bool) (o : Option (List (List ℕ))) → IsPathIf o → HasPathIf (option_map (target_at star) o)
at_path star None is = tt
at_path star (Some path) is = is

at_parent : (o : Option (List (List ℕ))) → IsPathIf o → HasPathIf (option_map (λ path. target_at true (parent_of path)) o)
at_parent None is = tt
at_parent (Some path) is = parent_path path is

by_test : (b : Bool) (one other : Option PostTarget) → HasPathIf one → HasPathIf other → HasPathIf (cond b one other)
by_test true one other this that = this
by_test false one other this that = that

or_other : (parts : Option Parts) (other : Option (List (List ℕ))) → IfSome parts (λ (p : Parts). is_path p.path ≡ true) → IsPathIf other → IsPathIf (option_or (option_map (λ (p : Parts). p.path) parts) other)
or_other None other is otherwise = otherwise
or_other (Some parts) other is otherwise = is

module _ (valid : (text : List ℕ) (path : List (List ℕ)) → path_of text ≡ Ok path → is_path path ≡ true) (split : (known : List (List ℕ) → Bool) (text : List ℕ) → IfSome (split_of known text) (IsSplit known text)) where
  spelled_is : (text : List ℕ) → IsPathIf (path_in text)
  spelled_is text = go (path_of text) refl
    where
      go : (r : Result (List (List ℕ)) PathFault) → path_of text ≡ r → IsPathIf (result_ok r)
      go (Ok path) is = valid text path is
      go (Err fault) is = tt

  split_is : (known : List (List ℕ) → Bool) (text : List ℕ) → IfSome (split_of known text) (λ (p : Parts). is_path p.path ≡ true)
  split_is known text = go (split_of known text) (split known text)
    where
      go : (o : Option Parts) → IfSome o (IsSplit known text) → IfSome o (λ (p : Parts). is_path p.path ≡ true)
      go None is = tt
      go (Some parts) is = valid (take is.at text) parts.path is.leads.reads

  target_is : (tree : Content) (text : List ℕ) (slash : Bool) → HasPathIf (post_target tree text slash)
  target_is tree text slash =
      by_test (ends_in_star text) (star_target text) (option_map (target_at slash) (named_path tree text)) (at_parent (path_in text) (spelled_is text))
      (at_path slash (named_path tree text) (or_other (split_of (has_resource tree) text) (path_in text) (split_is (has_resource tree) text) (spelled_is text)))

  asked_is : (o : Option PostTarget) → HasPathIf o → IfOk (or_bad_request o) (λ (t : PostTarget). is_path t.path ≡ true)
  asked_is None is = tt
  asked_is (Some target) is = is

  -- ---- the content

  module _ (paths : AsksForPaths) (keeps : OperationsKeepContentGood) where
    planned_is : (target : PostTarget) (pairs : List (List ℕ × List ℕ)) → is_path target.path ≡ true → IfOk (plan_of target.path target.star pairs) (λ (op : Op). names_paths op ≡ true)
    planned_is target pairs is = go (plan_of target.path target.star pairs) refl
      where
        go : (r : Result Op PlanFault) → plan_of target.path target.star pairs ≡ r → IfOk r (λ (op : Op). names_paths op ≡ true)
        go (Ok op) e = paths target.path target.star pairs op is e
        go (Err fault) e = tt

    done_is : (op : Op) (tree : Content) → names_paths op ≡ true → IsGood tree → IfOk (post_outcome op tree) (λ (done : PostEffect). IsGood done.content)
    done_is op tree all good = go (post_outcome op tree) (keeps op tree all good)
      where
        go : (r : Result PostEffect ApplyFault) → IsGood (content_after_post tree r) → IfOk r (λ (done : PostEffect). IsGood done.content)
        go (Ok done) is = is
        go (Err fault) is = tt

    posting_is : (tree : Content) (ask : Ask) (text : List ℕ) → IsGood tree → IfOk (posting tree ask text) (λ (done : PostEffect). IsGood done.content)
    unfolding posting
    posting_is tree ask text good =
        followed (λ (t : PostTarget). is_path t.path ≡ true) (λ (done : PostEffect). IsGood done.content) (or_bad_request (post_target tree text ask.slash)) _ (asked_is (post_target tree text ask.slash) (target_is tree text ask.slash)) (λ target is.
        followed (λ (pairs : List (List ℕ × List ℕ)). pairs ≡ pairs) (λ (done : PostEffect). IsGood done.content) (or_refused of_form (form_of ask.kind ask.body)) _ (any_is _) (λ pairs _.
        followed (λ (op : Op). names_paths op ≡ true) (λ (done : PostEffect). IsGood done.content) (or_refused of_plan (plan_of target.path target.star pairs)) _ (taken_on (λ (op : Op). names_paths op ≡ true) of_plan (plan_of target.path target.star pairs) (planned_is target pairs is)) (λ op all.
        taken_on (λ (done : PostEffect). IsGood done.content) of_operation (post_outcome op tree) (done_is op tree all good))))

    left_good : (tree : Content) (r : PostOutcome PostEffect) → IsGood tree → IfOk r (λ (done : PostEffect). IsGood done.content) → IsGood (posting_content tree r)
    left_good tree (Ok done) good is = is
    left_good tree (Err refusal) good is = good

    posted_good : (tree : Content) (ask : Ask) (answer : MapAnswer) → IsGood tree → IsGood (posted_content tree ask answer)
    posted_good tree ask (Inside text) good = left_good tree (posting tree ask text) good (posting_is tree ask text good)
    posted_good tree ask (Away status reference) good = good

    either_good : (b : Bool) (one other : Content) → IsGood one → IsGood other → IsGood (cond b one other)
    either_good true one other this that = this
    either_good false one other this that = that

    pub requests_keep : RequestsKeepContentGood
    unfolding content_after_request
    requests_keep tree ask good = either_good (is_post ask.method) (posted_content tree ask (mapping tree ask)) tree (posted_good tree ask (mapping tree ask) good) good
