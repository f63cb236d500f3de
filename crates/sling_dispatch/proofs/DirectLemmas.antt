-- The answer to a target is told by its decoded path.
use Rattle.std.proofs.Common.{◌≡◌, ◌∙◌, ℕ, Bool, true, false, cond, List, Option, Some, None, sym, ap, refl}
use Rattle.std.specs.Option.{option_map}
use Rattle.sp_base.specs.declared.answer.Answer.{Answer}
use Rattle.sp_base.specs.Paths.{unmangled_segs}
use Rattle.resource_tree.specs.Content.{Content}
use Rattle.error_answers.specs.Errors.{error_answer}
use Rattle.any_config.specs.declared.farm.Farm.{Farm}
use Rattle.publisher.specs.Rendering.{answer_to_request}
use Rattle.sling_dispatch.specs.Runs.{sling_publisher}
use Rattle.http_front.specs.Targets.{begins_with_slash, path_bytes, ends_in_slash, path_of_bytes, with_path}
use Rattle.run_events.specs.Publishers.{get_of, answer_to, direct_answer}

-- the answer to a target by its decoded path alone
answer_at : Farm → Content → Bool → Option (List (List ℕ)) → Answer
answer_at farm content slash (Some path) = answer_to_request content (get_of farm (record { path = unmangled_segs path; slash = slash; query = None }))
answer_at farm content slash None = error_answer 400

answer_is : (farm : Farm) (content : Content) (target : List ℕ) (path : Option (List (List ℕ)))
    → answer_to sling_publisher farm content (option_map (with_path target) path) ≡ answer_at farm content (ends_in_slash (path_bytes target)) path
unfolding answer_at
answer_is farm content target (Some path) = refl
answer_is farm content target None = refl

-- the same of a target that may not begin with a slash
answer_from : (farm : Farm) (content : Content) (begins : Bool) (target text : List ℕ) → path_bytes target ≡ text
    → answer_to sling_publisher farm content (cond begins (option_map (with_path target) (path_of_bytes (path_bytes target))) None)
    ≡ cond begins (answer_at farm content (ends_in_slash text) (path_of_bytes text)) (error_answer 400)
answer_from farm content true target text e =
    answer_is farm content target (path_of_bytes (path_bytes target)) ∙ ap (λ t. answer_at farm content (ends_in_slash t) (path_of_bytes t)) e
answer_from farm content false target text e = refl

pub same_answer : (farm : Farm) (content : Content) (a b : List ℕ) → begins_with_slash a ≡ begins_with_slash b → path_bytes a ≡ path_bytes b
    → direct_answer sling_publisher farm content a ≡ direct_answer sling_publisher farm content b
same_answer farm content a b slash e =
    answer_from farm content (begins_with_slash a) a (path_bytes a) refl
    ∙ ap (λ begins. cond begins (answer_at farm content (ends_in_slash (path_bytes a)) (path_of_bytes (path_bytes a))) (error_answer 400)) slash
    ∙ sym (answer_from farm content (begins_with_slash b) b (path_bytes a) (sym e))
