-- By definition no POST is refused because memory ran out.
use Rattle.std.proofs.Common.{◌≡◌, refl, ℕ, List, [], ◌∷◌, Option, Some, None, length, Bool, true, false, cond, subst}
use Rattle.std.specs.Prelude.{◌==◌, ◌&&◌, IfErr, IfSome, Result, Ok, Err, codes, is_none, option_map}
use Rattle.sp_base.specs.Outcomes.{◌>>=◌}
use Rattle.sp_base.specs.declared.answer.Ask.{Ask}
use Rattle.resource_tree.specs.Content.{Content}
use Rattle.resource_tree.specs.declared.faults.TreeFault.{TreeFault}
use Rattle.resource_tree.specs.declared.faults.TreeFault.TheVariants.{NoSuch, RootFixed, IntoItself, Exists, Taken, NoSibling, TooDeep, FullTree, NoMemory as NoMemoryOfTree}
use Rattle.form_input.specs.Forms.{form_of}
use Rattle.form_input.specs.FormLaws.{FormsAreRefusedForCauses, is_form_out_of_memory}
use Rattle.form_input.specs.declared.fault.FormFault.{FormFault}
use Rattle.form_input.specs.declared.fault.FormFault.TheVariants.{WrongKind, NoBoundary, BadPart, TooMany, NoMemory as NoMemoryOfForm}
use Rattle.post_plan.specs.declared.operation.Op.{Op}
use Rattle.post_plan.specs.Parameters.{first_word}
use Rattle.resource_tree.specs.MergeRoots.{is_merged_path}
use Rattle.post_plan.specs.Hints.{bad_hint, hint_fault}
use Rattle.post_plan.specs.Plan.{carries_node, dest_word, faults, first_plan_fault, if_fault, is_bad_order, operation_unless_fault, path_fault, plan_of, relative_node, verb_of}
use Rattle.post_plan.specs.declared.fault.PlanFault.{PlanFault}
use Rattle.post_plan.specs.declared.fault.PlanFault.TheVariants.{BadOperation, NoDest, BadOrder, BadHint, BadPath}
use Rattle.post_apply.specs.Laws.{RefusalsHaveCauses, is_post_out_of_memory}
use Rattle.post_apply.specs.Posting.{PostEffect, post_outcome}
use Rattle.post_apply.specs.declared.fault.ApplyFault.{ApplyFault}
use Rattle.post_apply.specs.declared.fault.ApplyFault.TheVariants.{Tree, Value, DestThere, NoMemory as NoMemoryOfOperation}
use Rattle.publisher.specs.declared.refusal.Refusal.{Refusal}
use Rattle.publisher.specs.declared.refusal.Refusal.TheVariants.{Status, NoMemory}
use Rattle.publisher.specs.declared.targets.PostTarget.{PostTarget}
use Rattle.publisher.specs.Refusals.{of_form, of_operation, of_plan, tree_refusal}
use Rattle.publisher.specs.Posting.{PostOutcome, or_bad_request, or_refused, posting, post_target}
use Rattle.publisher.specs.PostLaws.{PostsAreRefusedForCauses}

-- ---- refusals for other causes than memory

abbrev is_cause : Refusal → Bool
is_cause (Status status) = true
is_cause NoMemory = false

abbrev HasCause : {A : Type 0} → PostOutcome A → Type 0
HasCause o = IfErr o (λ (e : Refusal). is_cause e ≡ true)

followed : {A B : Type 0} (o : PostOutcome A) (f : A → PostOutcome B) → HasCause o → ((x : A) → HasCause (f x)) → HasCause (o >>= f)
followed (Ok x) f was next = next x
followed (Err e) f was next = was

refused_so : {A E : Type 0} (refusal : E → Refusal) (r : Result A E) → IfErr r (λ (e : E). is_cause (refusal e) ≡ true) → HasCause (or_refused refusal r)
refused_so refusal (Ok x) was = tt
refused_so refusal (Err e) was = was

target_cause : (o : Option PostTarget) → HasCause (or_bad_request o)
target_cause (Some target) = tt
target_cause None = refl

-- ---- forms

form_cause : (fault : FormFault) → is_form_out_of_memory fault ≡ false → is_cause (of_form fault) ≡ true
form_cause WrongKind e = refl
form_cause NoBoundary e = refl
form_cause (BadPart at) e = refl
form_cause TooMany e = refl
form_cause NoMemoryOfForm e = absurd cc

read_cause : (r : Result (List (List ℕ × List ℕ)) FormFault) → IfErr r (λ (e : FormFault). is_form_out_of_memory e ≡ false) → IfErr r (λ (e : FormFault). is_cause (of_form e) ≡ true)
read_cause (Ok pairs) was = tt
read_cause (Err fault) was = form_cause fault was

-- ---- parameters

abbrev PlanCause : Option PlanFault → Type 0
PlanCause o = IfSome o (λ (e : PlanFault). is_cause (of_plan e) ≡ true)

either_plan : (b : Bool) (one other : Option PlanFault) → PlanCause one → PlanCause other → PlanCause (cond b one other)
either_plan true one other this that = this
either_plan false one other this that = that

first_cause : (o : Option PlanFault) (more : List (Option PlanFault)) → PlanCause o → PlanCause (first_plan_fault more) → PlanCause (first_plan_fault (o ∷ more))
first_cause None more was next = next
first_cause (Some fault) more was next = was

of_hint : (o : Option (List ℕ)) → PlanCause (option_map BadHint o)
of_hint None = tt
of_hint (Some name) = refl

of_path : (o : Option (List ℕ)) → PlanCause (option_map BadPath o)
of_path None = tt
of_path (Some text) = refl

if_cause : (b : Bool) (fault : PlanFault) → is_cause (of_plan fault) ≡ true → PlanCause (if_fault b fault)
if_cause true fault is = is
if_cause false fault is = tt

path_cause : (target : List (List ℕ)) (star : Bool) (pairs : List (List ℕ × List ℕ)) → PlanCause (path_fault target star pairs)
path_cause target star pairs = either_plan (is_merged_path (relative_node target star pairs)) _ _ refl (of_path _)

faults_cause : (target : List (List ℕ)) (star : Bool) (pairs : List (List ℕ × List ℕ)) → PlanCause (first_plan_fault (faults target star pairs))
faults_cause target star pairs =
    let paths = path_fault target star pairs ∷ [] in
    let hints = hint_fault pairs ∷ paths in
    let order = if_fault (is_bad_order (first_word (codes ":order") pairs)) BadOrder ∷ hints in
    let goal = if_fault (carries_node (verb_of pairs) && length (dest_word pairs) == 0) NoDest ∷ order in
    first_cause (if_fault (is_none (verb_of pairs)) BadOperation) goal (if_cause (is_none (verb_of pairs)) BadOperation refl)
    (first_cause (if_fault (carries_node (verb_of pairs) && length (dest_word pairs) == 0) NoDest) order (if_cause (carries_node (verb_of pairs) && length (dest_word pairs) == 0) NoDest refl)
    (first_cause (if_fault (is_bad_order (first_word (codes ":order") pairs)) BadOrder) hints (if_cause (is_bad_order (first_word (codes ":order") pairs)) BadOrder refl)
    (first_cause (hint_fault pairs) paths (of_hint (bad_hint pairs)) (first_cause (path_fault target star pairs) [] (path_cause target star pairs) tt))))

unless_cause : (o : Option PlanFault) (op : Op) → PlanCause o → IfErr (operation_unless_fault o op) (λ (e : PlanFault). is_cause (of_plan e) ≡ true)
unless_cause None op was = tt
unless_cause (Some fault) op was = was

plan_cause : (target : List (List ℕ)) (star : Bool) (pairs : List (List ℕ × List ℕ)) → IfErr (plan_of target star pairs) (λ (e : PlanFault). is_cause (of_plan e) ≡ true)
plan_cause target star pairs = unless_cause (first_plan_fault (faults target star pairs)) _ (faults_cause target star pairs)

-- ---- operations

tree_cause : (fault : TreeFault) → is_post_out_of_memory (Tree fault) ≡ false → is_cause (tree_refusal fault) ≡ true
tree_cause (NoSuch path) e = refl
tree_cause RootFixed e = refl
tree_cause IntoItself e = refl
tree_cause (Exists path) e = refl
tree_cause (Taken path) e = refl
tree_cause NoSibling e = refl
tree_cause TooDeep e = refl
tree_cause FullTree e = refl
tree_cause NoMemoryOfTree e = absurd cc

fault_cause : (fault : ApplyFault) → is_post_out_of_memory fault ≡ false → is_cause (of_operation fault) ≡ true
fault_cause (Tree fault) e = tree_cause fault e
fault_cause (Value name fault) e = refl
fault_cause (DestThere path) e = refl
fault_cause NoMemoryOfOperation e = absurd cc

operation_cause : (r : Result PostEffect ApplyFault) → IfErr r (λ (e : ApplyFault). is_post_out_of_memory e ≡ false) → IfErr r (λ (e : ApplyFault). is_cause (of_operation e) ≡ true)
operation_cause (Ok done) was = tt
operation_cause (Err fault) was = fault_cause fault was

-- ---- POSTs

posting_cause : FormsAreRefusedForCauses → RefusalsHaveCauses → (tree : Content) (ask : Ask) (text : List ℕ) → HasCause (posting tree ask text)
unfolding posting
posting_cause forms causes tree ask text =
    followed (or_bad_request (post_target tree text ask.slash)) _ (target_cause (post_target tree text ask.slash)) (λ target.
    followed (or_refused of_form (form_of ask.kind ask.body)) _ (refused_so of_form (form_of ask.kind ask.body) (read_cause (form_of ask.kind ask.body) (forms ask.kind ask.body))) (λ pairs.
    followed (or_refused of_plan (plan_of target.path target.star pairs)) _ (refused_so of_plan (plan_of target.path target.star pairs) (plan_cause target.path target.star pairs)) (λ op.
    refused_so of_operation (post_outcome op tree) (operation_cause (post_outcome op tree) (causes op tree)))))

pub posting_has_cause : FormsAreRefusedForCauses → RefusalsHaveCauses → PostsAreRefusedForCauses
posting_has_cause forms causes tree ask text is = go (subst (λ (o : PostOutcome PostEffect). HasCause o) is (posting_cause forms causes tree ask text))
  where
    go : false ≡ true → ⊥
    go e = absurd cc
