-- A resource that is seen without its kids is answered as the whole one.
use Rattle.std.proofs.Common.{◌≡◌, ◌==◌, ◌||◌, ℕ, Bool, true, false, not, cond, List, [], ◌∷◌, Option, Some, None, Result, Ok, Err, IfOk, refl, ap, sym, subst, arith, ◌∙◌}
use Rattle.std.specs.Prelude.{if◌then◌else◌, codes, nat_eq, option_map, option_and_then}
use Rattle.std.specs.List.{list_any}
use Rattle.std.specs.Cmp.Lexicographic.{nat_list_eq_equiv, pointwise}
use Rattle.std.proofs.lemmas.Bool.{false≢true}
use Rattle.std.proofs.lemmas.Option.{same_Some}
use Rattle.sp_base.specs.Limits.{most_rendered_bytes}
use Rattle.sp_base.specs.Texts.{Segments}
use Rattle.sp_base.specs.declared.value.Value.{Value}
use Rattle.type_chain.specs.Chain.{chain_of}
use Rattle.script_rank.specs.Search.{search_result as first_script}
use Rattle.sp_base.specs.declared.answer.Answer.{Answer}
use Rattle.resource_tree.specs.Content.{Content}
use Rattle.resource_tree.specs.Seen.{Resource, Seen}
use Rattle.overlay_merge.specs.Roots.{is_merged_path}
use Rattle.overlay_merge.specs.Merged.{merged_resource, merged_alone, merged_with_kid, names_like, with_only_kid, without_kids}
use Rattle.url_split.specs.declared.decompose.Parts.{Parts}
use Rattle.publisher.specs.declared.templates.Reading.{Reading}
use Rattle.publisher.specs.declared.templates.Reading.TheVariants.{Parsed, Refused}
use Rattle.publisher.specs.Readings.{reading_of}
use Rattle.error_answers.specs.Errors.{error_answer}
use Rattle.get_servlet.specs.declared.answer.Depth.{Depth}
use Rattle.get_servlet.specs.declared.answer.JsonAnswer.{JsonAnswer}
use Rattle.get_servlet.specs.declared.answer.JsonAnswer.TheVariants.{Whole, Over, TooLong}
use Rattle.get_servlet.specs.declared.streams.Stream.{Stream}
use Rattle.get_servlet.specs.Answers.{json_answer, levels_of}
use Rattle.get_servlet.specs.Rendering.{json_text, kid_of_name, resource_json}
use Rattle.get_servlet.specs.Streams.{kid_stream, stream_of}
use Rattle.publisher.specs.Depths.{depth_of}
use Rattle.publisher.specs.Rendering.{ScriptAt, answer_by, default_answer, file_representation, is_bare, is_json, json_representation, json_to_depth, resource_answer, script_there, script_for, script_representation, seen_resources, script_with_text}
use Rattle.publisher.specs.SeenAlone.{IsSeenAlone, answer_seen, is_of_no_level, seen_answer, shows_no_kid}

-- the whole resource, of which the other is all but the kids
pub record IsWhole (tree : Content) (path : List (List ℕ)) (res : Resource) : Type 0 where
  pub whole : Resource
  pub seen_is : merged_resource tree path ≡ Some whole
  pub same : res ≡ record whole { kids = res.kids }

whole-of : (tree : Content) (path : List (List ℕ)) (res : Resource) (is : Option Resource) → merged_resource tree path ≡ is → option_map without_kids is ≡ Some res → IsWhole tree path res
whole-of tree path res None at e = absurd (let no : ⊥ = cc in no)
whole-of tree path res (Some whole) at e =
    let same : without_kids whole ≡ res = same_Some (without_kids whole) res e in
    record { whole = whole; seen_is = at; same = subst (λ r. r ≡ record whole { kids = r.kids }) same refl }

pub alone-whole : (tree : Content) (path : List (List ℕ)) (res : Resource) → merged_alone tree path ≡ Some res → IsWhole tree path res
unfolding merged_alone
alone-whole tree path res is = by_root (is_merged_path path) is
  where
    by_root : (b : Bool) → (if b then option_map without_kids (merged_resource tree path) else merged_resource tree path) ≡ Some res → IsWhole tree path res
    by_root true e = whole-of tree path res (merged_resource tree path) refl e
    by_root false e = record { whole = res; seen_is = e; same = refl }

-- elsewhere than under the two roots it is the whole one
pub alone-unmerged : (tree : Content) (path : List (List ℕ)) (res : Resource) → is_merged_path path ≡ false → merged_alone tree path ≡ Some res → merged_resource tree path ≡ Some res
unfolding merged_alone
alone-unmerged tree path res outside is = sym (ap (λ b. if b then option_map without_kids (merged_resource tree path) else merged_resource tree path) outside) ∙ is

-- a script asks for nothing but properties and the path
same-written : (tree : Content) (whole : Resource) (kids : List (List ℕ)) (script : Segments) (reading : Reading) → script_representation tree (record whole { kids = kids }) script reading ≡ script_representation tree whole script reading
same-written tree whole kids script (Parsed blocks) = refl
same-written tree whole kids script Refused = refl

written-whole : (tree : Content) (parts : Parts) (res : Resource) (script : ScriptAt) → IsSeenAlone tree parts res → script_representation tree res script.path (reading_of script.text) ≡ seen_answer (Some script) tree parts
written-whole tree parts res script alone =
    let at = alone-whole tree parts.path res alone in
    ap (λ r. script_representation tree r script.path (reading_of script.text)) at.same ∙ same-written tree at.whole res.kids script.path (reading_of script.text) ∙ sym (ap (answer_seen (Some script) tree parts) at.seen_is)

pub script-whole : (tree : Content) (parts : Parts) (res : Resource) → IsSeenAlone tree parts res → (script : Option ScriptAt) → script_for tree parts res ≡ script → resource_answer tree parts (seen_resources tree parts.path) ≡ seen_answer script tree parts
unfolding script_for
script-whole tree parts res alone script is =
    let at = alone-whole tree parts.path res alone in
    let for_whole : script_for tree parts at.whole ≡ script = sym (ap (script_for tree parts) at.same) ∙ is in
    ap (resource_answer tree parts) at.seen_is ∙ ap (λ s. answer_by s tree parts at.whole) for_whole ∙ sym (ap (answer_seen script tree parts) at.seen_is)

none-of : (is : Option Resource) → option_map without_kids is ≡ None → is ≡ None
none-of None e = refl
none-of (Some whole) e = absurd (let no : ⊥ = cc in no)

-- nothing is seen where nothing is seen without kids
pub alone-none : (tree : Content) (path : List (List ℕ)) → merged_alone tree path ≡ None → merged_resource tree path ≡ None
unfolding merged_alone
alone-none tree path is = by_root (is_merged_path path) is
  where
    by_root : (b : Bool) → (if b then option_map without_kids (merged_resource tree path) else merged_resource tree path) ≡ None → merged_resource tree path ≡ None
    by_root true e = none-of (merged_resource tree path) e
    by_root false e = e

-- by the reading of the script
pub read-written : (tree : Content) (parts : Parts) (res : Resource) (script : Segments) (text : Option (List ℕ)) (reading : Reading) → IsSeenAlone tree parts res → Some reading ≡ option_map reading_of text
    → script_representation tree res script reading ≡ seen_answer (option_map (script_with_text script) text) tree parts
read-written tree parts res script None reading alone is = absurd (let no : ⊥ = cc in no)
read-written tree parts res script (Some text) reading alone is =
    ap (script_representation tree res script) (same_Some reading (reading_of text) is) ∙ written-whole tree parts res (script_with_text script text) alone

-- where there is no reading there is no script
pub unread : (script : Segments) (text : Option (List ℕ)) → None ≡ option_map reading_of text → option_map (script_with_text script) text ≡ None
unread script None is = refl
unread script (Some text) is = absurd (let no : ⊥ = cc in no)

-- the script that was searched for by the properties is the resource's
pub found-script : (tree : Content) (parts : Parts) (res : Resource) (props : List (List ℕ × Value)) (found : Option (List (List ℕ))) (script : List (List ℕ)) → props ≡ res.props → found ≡ first_script tree (chain_of tree props) parts → found ≡ Some script
    → script_for tree parts res ≡ script_there tree script
unfolding script_for
found-script tree parts res props found script same value is = ap (option_and_then (script_there tree)) (ap (λ p. first_script tree (chain_of tree p) parts) (sym same) ∙ sym value ∙ is)

pub found-none : (tree : Content) (parts : Parts) (res : Resource) (props : List (List ℕ × Value)) (found : Option (List (List ℕ))) → props ≡ res.props → found ≡ first_script tree (chain_of tree props) parts → found ≡ None
    → script_for tree parts res ≡ None
unfolding script_for
found-none tree parts res props found same value is = ap (option_and_then (script_there tree)) (ap (λ p. first_script tree (chain_of tree p) parts) (sym same) ∙ sym value ∙ is)

-- an answer that is one is the other
pub answer-as : {E : Type 0} (r : Result Answer E) (a b : Answer) → a ≡ b → IfOk r (λ x. x ≡ a) → IfOk r (λ x. x ≡ b)
answer-as r a b same is = subst (λ y. IfOk r (λ x. x ≡ y)) same is

-- ---- what the default GET servlet shows of the kids

-- JSON of no level shows no kid
no_level : (seen : Seen) (whole : Resource) (kids : List (List ℕ)) (n : ℕ) → n ≡ 0 → json_answer seen (record whole { kids = kids }) n most_rendered_bytes ≡ json_answer seen whole n most_rendered_bytes
unfolding json_text resource_json
no_level seen whole kids n none = rw none refl

of_no_level : (seen : Seen) (whole : Resource) (kids : List (List ℕ)) (depth : Option Depth) → is_of_no_level depth ≡ true → json_to_depth seen (record whole { kids = kids }) depth ≡ json_to_depth seen whole depth
of_no_level seen whole kids None none = refl
of_no_level seen whole kids (Some depth) none =
    json_same whole kids (json_answer seen (record whole { kids = kids }) (levels_of depth) most_rendered_bytes)
    ∙ ap (json_representation whole) (no_level seen whole kids (levels_of depth) (is_zero (levels_of depth) none))
  where
    is_zero : (n : ℕ) → (n == 0) ≡ true → n ≡ 0
    is_zero n e = grind (arith, e)

    json_same : (res : Resource) (ks : List (List ℕ)) (answer : JsonAnswer) → json_representation (record res { kids = ks }) answer ≡ json_representation res answer
    json_same res ks (Whole text) = refl
    json_same res ks (Over most) = refl
    json_same res ks TooLong = refl

-- the default GET servlet's answer, by whether JSON is asked for and whether the URL is bare
abbrev answered : Seen → Parts → Bool → Bool → Resource → Answer
answered seen parts json bare res = if json then json_to_depth seen res (depth_of parts.selectors) else (if bare then file_representation res (stream_of seen res) else error_answer 404)

-- whether that shows no kid
abbrev shows_none : Parts → Bool → Bool → Bool
shows_none parts json bare = if json then is_of_no_level (depth_of parts.selectors) else not bare

-- an answer that shows no kid is the same without them
answered_alone : (seen : Seen) (parts : Parts) (whole : Resource) (kids : List (List ℕ)) (json bare : Bool) → shows_none parts json bare ≡ true → answered seen parts json bare (record whole { kids = kids }) ≡ answered seen parts json bare whole
answered_alone seen parts whole kids true bare none = of_no_level seen whole kids (depth_of parts.selectors) none
answered_alone seen parts whole kids false true none = absurd (false≢true none)
answered_alone seen parts whole kids false false none = refl

shown_alone : (seen : Seen) (parts : Parts) (whole : Resource) (kids : List (List ℕ)) → shows_no_kid parts ≡ true → default_answer seen parts (record whole { kids = kids }) ≡ default_answer seen parts whole
shown_alone seen parts whole kids none = answered_alone seen parts whole kids (is_json parts.extension) (is_bare parts) none

-- so the resource without its kids is answered as it is there
pub alone-shown : (tree : Content) (parts : Parts) (res : Resource) → IsSeenAlone tree parts res → shows_no_kid parts ≡ true → default_answer (seen_resources tree) parts res ≡ seen_answer None tree parts
alone-shown tree parts res alone none =
    let at = alone-whole tree parts.path res alone in
    ap (default_answer (seen_resources tree) parts) at.same ∙ shown_alone (seen_resources tree) parts at.whole res.kids none ∙ sym (ap (answer_seen None tree parts) at.seen_is)

-- a file asks for one kid
abbrev content_name : List ℕ
content_name = codes "jcr:content"

lists_like : (name : List ℕ) (names : List (List ℕ)) → list_any (pointwise nat_eq name) (names_like name names) ≡ list_any (pointwise nat_eq name) names
lists_like name names = by (list_any (pointwise nat_eq name) names) refl
  where
    by : (b : Bool) → list_any (pointwise nat_eq name) names ≡ b → list_any (pointwise nat_eq name) (cond (list_any (pointwise nat_eq name) names) (name ∷ []) []) ≡ list_any (pointwise nat_eq name) names
    by true is = ap (λ b. list_any (pointwise nat_eq name) (cond b (name ∷ []) [])) is ∙ ap (λ t. t || false) (nat_list_eq_equiv.refl name) ∙ sym is
    by false is = ap (λ b. list_any (pointwise nat_eq name) (cond b (name ∷ []) [])) is ∙ sym is

stream_like : (seen : Seen) (res : Resource) → stream_of seen (with_only_kid content_name res) ≡ stream_of seen res
unfolding stream_of
stream_like seen res = ap (λ b. if b then kid_stream (kid_of_name seen res.path content_name) else None) (lists_like content_name res.kids)

file_same : (res : Resource) (ks : List (List ℕ)) (stream : Option Stream) → file_representation (record res { kids = ks }) stream ≡ file_representation res stream
file_same res ks None = refl
file_same res ks (Some stream) = refl

file_like : (seen : Seen) (parts : Parts) (res : Resource) → is_json parts.extension ≡ false → default_answer seen parts (with_only_kid content_name res) ≡ default_answer seen parts res
file_like seen parts res other =
    ap (λ b. answered seen parts b (is_bare parts) (with_only_kid content_name res)) other
    ∙ ap (λ a. if is_bare parts then a else error_answer 404) (file_same res (names_like content_name res.kids) (stream_of seen (with_only_kid content_name res)) ∙ ap (file_representation res) (stream_like seen res))
    ∙ sym (ap (λ b. answered seen parts b (is_bare parts) res) other)

seen_like : (seen : Option Resource) (tree : Content) (parts : Parts) → is_json parts.extension ≡ false → answer_seen None tree parts (option_map (with_only_kid content_name) seen) ≡ answer_seen None tree parts seen
seen_like None tree parts other = refl
seen_like (Some res) tree parts other = file_like (seen_resources tree) parts res other

pub kid-shown : (tree : Content) (parts : Parts) → is_json parts.extension ≡ false → answer_seen None tree parts (merged_with_kid tree parts.path (codes "jcr:content")) ≡ seen_answer None tree parts
unfolding merged_with_kid
kid-shown tree parts other = by (is_merged_path parts.path) refl
  where
    by : (b : Bool) → is_merged_path parts.path ≡ b → answer_seen None tree parts (if is_merged_path parts.path then option_map (with_only_kid content_name) (merged_resource tree parts.path) else merged_resource tree parts.path)
        ≡ answer_seen None tree parts (merged_resource tree parts.path)
    by true is = ap (λ b. answer_seen None tree parts (if b then option_map (with_only_kid content_name) (merged_resource tree parts.path) else merged_resource tree parts.path)) is ∙ seen_like (merged_resource tree parts.path) tree parts other
    by false is = ap (λ b. answer_seen None tree parts (if b then option_map (with_only_kid content_name) (merged_resource tree parts.path) else merged_resource tree parts.path)) is

-- what is seen in place of another is answered as that
pub answer-of : {E : Type 0} (r : Result (Option Resource) E) (tree : Content) (parts : Parts) (seen : Option Resource) → answer_seen None tree parts seen ≡ seen_answer None tree parts → IfOk r (λ o. o ≡ seen)
    → IfOk r (λ o. answer_seen None tree parts o ≡ seen_answer None tree parts)
answer-of (Err e) tree parts seen is found = tt
answer-of (Ok o) tree parts seen is found = ap (answer_seen None tree parts) found ∙ is
