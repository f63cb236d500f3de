-- The status of an answer that leads away.
use Rattle.std.proofs.Common.{◌≡◌, ℕ, ℤ, pos, negsuc, zero, suc, Bool, true, false, cond, List, Option, Some, None, Result, Ok, Err, take, drop, length, refl, sym, subst, ⊎_elim}
use Rattle.std.specs.Prelude.{IfSome, is_none, option_and_then, option_map, codes}
use Rattle.std.specs.Option.{option_map_or, option_or}
use Rattle.std.proofs.lemmas.Bool.{cases_Bool}
use Rattle.sp_base.specs.Paths.{path_of}
use Rattle.sp_base.specs.Properties.{text_in}
use Rattle.sp_base.specs.declared.path.PathFault.{PathFault}
use Rattle.regex_rules.specs.Fronts.{may_cut}
use Rattle.resource_tree.specs.declared.nodes.Node.{Node}
use Rattle.resource_tree.specs.Content.{Content, kid, node_at, prop_at}
use Rattle.url_maps.specs.declared.answer.MapAnswer.{MapAnswer}
use Rattle.url_maps.specs.declared.answer.MapAnswer.TheVariants.{Inside, Away}
use Rattle.url_maps.specs.declared.pairs.Pair.{Pair}
use Rattle.url_maps.specs.declared.pairs.PairKind.{PairKind}
use Rattle.url_maps.specs.declared.pairs.PairKind.TheVariants.{Alias, VanityPath}
use Rattle.url_maps.specs.Answers.{alias_at, alias_with, answer_of, deciding_pair, earliest, is_without_pattern, map_answer, mapping_at, mapping_with, outcome, pair_at, pair_inside, pair_to, pair_with, sibling_with_alias, turn, vanity_at, vanity_nodes, vanity_with}
use Rattle.url_maps.specs.Mappings.{internal_target, is_redirect, mapping_of, redirect_status, redirect_target, status_in, mapping_status}
use Rattle.url_maps.specs.Patterns.{Asked, asked_for, node_of_host, mappings_path}
use Rattle.url_maps.specs.PatternAnswers.{given_at, given_by, givers, has_front, least, pattern_pair, pattern_with}
use Rattle.url_maps.specs.Pairs.{goes_on_after_prefix}
use Rattle.url_maps.specs.Search.{mapped_path}
use Rattle.url_maps.specs.Turns.{most_turns, text_after}
use Rattle.url_maps.specs.VanityPaths.{vanity_page}
use Rattle.url_maps.specs.Words.{mapping_number}

abbrev IsRedirect : ℕ → Type 0
IsRedirect status = is_redirect status ≡ true

-- a pair that leads away does so by a status of a redirect
abbrev Redirects : Option Pair → Type 0
Redirects o = IfSome o (λ pair. IfSome pair.away IsRedirect)

abbrev Leads : Option (List ℕ × Option ℕ) → Type 0
Leads o = IfSome o (λ m. IfSome m.1 IsRedirect)

listed : (n : ℕ) → IsRedirect (option_map_or (λ s. s) (redirect_status (pos n)) 302)
listed n =
    ⊎_elim
    (λ (is : is_redirect n ≡ true). subst (λ b. IsRedirect (option_map_or (λ s. s) (cond b (Some n) None) 302)) (sym is) is)
    (λ (other : is_redirect n ≡ false). subst (λ b. IsRedirect (option_map_or (λ s. s) (cond b (Some n) None) 302)) (sym other) refl)
    (cases_Bool (is_redirect n))

status_listed : (o : Option ℤ) → IsRedirect (status_in o)
status_listed None = refl
status_listed (Some (pos n)) = listed n
status_listed (Some (negsuc n)) = refl

redirect_leads : (node : Node) (o : Option (List ℕ)) → Leads (option_map (λ target. (target, Some (mapping_status node))) o)
redirect_leads node None = tt
redirect_leads node (Some target) = status_listed (mapping_number (prop_at node (codes "sling:status")))

target_leads : (node : Node) → Leads (redirect_target node)
unfolding redirect_target
target_leads node = redirect_leads node (text_in node.props (codes "sling:redirect"))

mapping_leads : (node : Node) (internal : Option (List ℕ)) → Leads (option_or (option_map (λ target. (target, None)) internal) (redirect_target node))
mapping_leads node None = target_leads node
mapping_leads node (Some target) = tt

to_redirects : (o : Option (List ℕ × Option ℕ)) → Leads o → Redirects (option_map pair_to o)
to_redirects None leads = tt
to_redirects (Some m) leads = leads

node_redirects : (o : Option Node) → Redirects (option_map pair_to (option_and_then mapping_of o))
node_redirects None = tt
node_redirects (Some node) = to_redirects (mapping_of node) (mapping_leads node (internal_target node))

either : (b : Bool) (o : Option Pair) → Redirects o → Redirects (cond b o None)
either true o redirects = redirects
either false o redirects = tt

path_redirects : (tree : Content) (host_node : List (List ℕ)) (o : Option (List (List ℕ))) → Redirects (option_and_then (mapping_at tree host_node) o)
path_redirects tree host_node None = tt
path_redirects tree host_node (Some path) = either (is_without_pattern tree host_node path) (option_map pair_to (option_and_then mapping_of (node_at tree path))) (node_redirects (node_at tree path))

mapping_redirects : (tree : Content) (host_node : Option (List (List ℕ))) (prefix : List ℕ) → Redirects (mapping_with tree host_node prefix)
mapping_redirects tree None prefix = tt
mapping_redirects tree (Some host_node) prefix = path_redirects tree host_node (mapped_path host_node prefix)

inside_redirects : (kind : PairKind) (to : List (List ℕ) → List (List ℕ)) (o : Option (List (List ℕ))) → Redirects (option_map (λ path. pair_inside kind (to path)) o)
inside_redirects kind to None = tt
inside_redirects kind to (Some path) = tt

alias_redirects : (tree : Content) (r : Result (List (List ℕ)) PathFault) → Redirects (alias_at tree r)
alias_redirects tree (Ok path) = either (is_none (node_at tree path)) (option_map (pair_inside Alias) (sibling_with_alias tree path)) (inside_redirects Alias (λ p. p) (sibling_with_alias tree path))
alias_redirects tree (Err e) = tt

vanity_redirects : (tree : Content) (text : List ℕ) (r : Result (List (List ℕ)) PathFault) → Redirects (vanity_at tree text r)
vanity_redirects tree text (Ok at) = either (is_none (node_at tree at)) (option_map (λ path. pair_inside VanityPath (vanity_page path)) (earliest tree (vanity_nodes tree text))) (inside_redirects VanityPath vanity_page (earliest tree (vanity_nodes tree text)))
vanity_redirects tree text (Err e) = tt

first_redirects : (o p : Option Pair) → Redirects o → Redirects p → Redirects (option_or o p)
first_redirects None p first second = second
first_redirects (Some pair) p first second = first

given_leads : (asked : Asked) (prefix : List ℕ) (o : Option Node) → Leads (option_and_then (given_by asked prefix) o)
given_leads asked prefix None = tt
given_leads asked prefix (Some node) = either_leads (has_front asked prefix node) (mapping_of node) (mapping_leads node (internal_target node))
  where
    either_leads : (b : Bool) (o : Option (List ℕ × Option ℕ)) → Leads o → Leads (cond b o None)
    either_leads true o leads = leads
    either_leads false o leads = tt

pair_redirects : (o : Option (List ℕ × Option ℕ)) → Leads o → Redirects (option_map pattern_pair o)
pair_redirects None leads = tt
pair_redirects (Some to) leads = leads

named_redirects : (tree : Content) (asked : Asked) (prefix : List ℕ) (o : Option (List ℕ)) → Redirects (option_map pattern_pair (option_and_then (given_at tree asked prefix) o))
named_redirects tree asked prefix None = tt
named_redirects tree asked prefix (Some name) = pair_redirects (given_at tree asked prefix name) (given_leads asked prefix (node_at tree (kid mappings_path name)))

pattern_redirects : (tree : Content) (asked : Option Asked) (prefix : List ℕ) → Redirects (pattern_with tree asked prefix)
pattern_redirects tree None prefix = tt
pattern_redirects tree (Some asked) prefix = named_redirects tree asked prefix (least (givers tree asked prefix))

place_redirects : (tree : Content) (asked : Option Asked) (text : List ℕ) (at : ℕ) → Redirects (pair_at tree asked text at)
place_redirects tree asked text at =
    let prefix = take at text in
    let rest = drop at text in
    let vanity = cond (goes_on_after_prefix VanityPath rest) (vanity_with tree prefix) None in
    either (may_cut rest) (pair_with tree asked prefix rest)
    (first_redirects (mapping_with tree (node_of_host asked) prefix) (option_or (pattern_with tree asked prefix) (option_or (alias_with tree prefix) vanity)) (mapping_redirects tree (node_of_host asked) prefix)
    (first_redirects (pattern_with tree asked prefix) (option_or (alias_with tree prefix) vanity) (pattern_redirects tree asked prefix)
    (first_redirects (alias_with tree prefix) vanity (alias_redirects tree (path_of prefix))
    (either (goes_on_after_prefix VanityPath rest) (vanity_with tree prefix) (vanity_redirects tree prefix (path_of prefix))))))

abbrev DecisionRedirects : Option (ℕ × Pair) → Type 0
DecisionRedirects o = IfSome o (λ d. IfSome d.1.away IsRedirect)

later_redirects : (at : ℕ) (o : Option Pair) (p : Option (ℕ × Pair)) → Redirects o → DecisionRedirects p → DecisionRedirects (option_or (option_map (λ pair. (at, pair)) o) p)
later_redirects at None p first second = second
later_redirects at (Some pair) p first second = first

decision_redirects : (tree : Content) (asked : Option Asked) (text : List ℕ) (n : ℕ) → DecisionRedirects (deciding_pair tree asked text n)
decision_redirects tree asked text zero = tt
decision_redirects tree asked text (suc at) = later_redirects at (pair_at tree asked text at) (deciding_pair tree asked text at) (place_redirects tree asked text at) (decision_redirects tree asked text at)

-- an answer that leads away does so by a status of a redirect
abbrev AnswerRedirects : MapAnswer → Type 0
AnswerRedirects (Inside text) = Unit {0}
AnswerRedirects (Away status target) = IsRedirect status

outcome_redirects : (away : Option ℕ) (text : List ℕ) (further : List ℕ → MapAnswer) → IfSome away IsRedirect → ((t : List ℕ) → AnswerRedirects (further t)) → AnswerRedirects (outcome away text further)
outcome_redirects (Some status) text further is rest = is
outcome_redirects None text further is rest = rest text

turn_redirects : (text : List ℕ) (further : List ℕ → MapAnswer) (o : Option (ℕ × Pair)) → DecisionRedirects o → ((t : List ℕ) → AnswerRedirects (further t)) → AnswerRedirects (turn text further o)
turn_redirects text further None is rest = tt
turn_redirects text further (Some (at, pair)) is rest = outcome_redirects pair.away (text_after pair at text) further is rest

answer_redirects : (tree : Content) (n : ℕ) (asked : Option Asked) (text : List ℕ) → AnswerRedirects (answer_of tree n asked text)
answer_redirects tree zero asked text = tt
answer_redirects tree (suc n) asked text = turn_redirects text (answer_of tree n None) (deciding_pair tree asked text (suc (length text))) (decision_redirects tree asked text (suc (length text))) (answer_redirects tree n None)

pub away_redirects : (tree : Content) (host : List ℕ) (port : ℕ) (text target : List ℕ) (status : ℕ) → map_answer tree host port text ≡ Away status target → is_redirect status ≡ true
unfolding map_answer
away_redirects tree host port text target status is = subst AnswerRedirects is (answer_redirects tree most_turns (Some (asked_for host port text)) text)
