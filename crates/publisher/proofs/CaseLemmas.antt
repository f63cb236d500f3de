-- The answer to a request is the one of the cases that applies.
use Rattle.std.proofs.Common.{◌≡◌, ◌≤◌, ◌<◌, ◌&&◌, ◌||◌, ℕ, Bool, true, false, List, Option, Some, None, Result, Ok, Err, IfSome, IfNone, length, nat_le, refl, sym, ◌∙◌, ap, arith}
use Rattle.std.specs.Prelude.{◌↔◌, is_some, option_and_then, option_map, if◌then◌else◌}
use Rattle.std.proofs.lemmas.Bool.Decides.{nat_tests}
use Rattle.sp_base.specs.Limits.{most_rendered_bytes}
use Rattle.sp_base.specs.Paths.{text_of}
use Rattle.sp_base.specs.declared.answer.Answer.{Answer}
use Rattle.sp_base.specs.declared.answer.Ask.{Ask}
use Rattle.resource_tree.specs.Content.{Content, name_of, node_at}
use Rattle.resource_tree.specs.Seen.{Resource}
use Rattle.overlay_merge.specs.Merged.{has_resource, merged_resource}
use Rattle.url_maps.specs.Turns.{IsMapped}
use Rattle.url_maps.specs.declared.answer.MapAnswer.{MapAnswer}
use Rattle.url_maps.specs.declared.answer.MapAnswer.TheVariants.{Inside, Away}
use Rattle.url_split.specs.declared.decompose.Parts.{Parts}
use Rattle.url_split.specs.Split.{IsLost, IsSplit, split_of}
use Rattle.type_chain.specs.Chain.{chain_of}
use Rattle.script_rank.specs.Ranking.{HasNoCandidate, IsFirstScript, is_script_name, script_text}
use Rattle.script_rank.specs.Search.{search_result}
use Rattle.htl_blocks.specs.declared.block.Block.{Block}
use Rattle.htl_blocks.specs.declared.fault.BlockFault.{BlockFault}
use Rattle.htl_blocks.specs.Reading.{blocks_of, most_nested_blocks}
use Rattle.htl_blocks.specs.Spelling.{SpellsBlocks}
use Rattle.get_servlet.specs.Answers.{IsOver, json_answer, levels_of, text_within}
use Rattle.get_servlet.specs.Rendering.{greatest_fitting, json_text, most_resources, shown_count}
use Rattle.get_servlet.specs.Streams.{stream_of}
use Rattle.get_servlet.specs.declared.answer.Depth.{Depth}
use Rattle.get_servlet.specs.declared.answer.JsonAnswer.TheVariants.{Whole, Over, TooLong}
use Rattle.get_servlet.specs.declared.streams.Stream.{Stream}
use Rattle.error_answers.specs.Errors.{error_answer}
use Rattle.publisher.specs.Cases.{IsAnswer, ReadsByDefault, ReadsByScript, ReadsJson, ReadsResource, ReadsText, not_allowed, read_away, posted_away, posted, lost, refused_script, by_script, no_depth, too_many, json, file, no_file, no_servlet}
use Rattle.publisher.specs.Depths.{depth_of}
use Rattle.publisher.specs.Errors.{answer_with_body}
use Rattle.publisher.specs.Readings.{reading_in}
use Rattle.publisher.specs.Rendering.{answer_by, answer_to_request, default_answer, file_representation, is_bare, is_json, is_post, is_read, json_kind, json_representation, json_to_depth, mapped_answer, mapping, mark_of, posted_answer, representation_of, resource_answer, script_there, script_for, script_representation, seen_resources, split_answer, script_with_text}
use Rattle.publisher.proofs.PostLemmas.{post_is}
use Rattle.publisher.proofs.RenderingLemmas.{read_is}
use Rattle.publisher.proofs.ScriptLaw.{found_first}

-- what the crates below say of the searches
pub record Searches (tree : Content) (ask : Ask) : Type 0 where
  pub mapped : IsMapped tree ask.host ask.port (text_of ask.path) (mapping tree ask)
  pub mapped_only : (answer : MapAnswer) → IsMapped tree ask.host ask.port (text_of ask.path) answer → answer ≡ mapping tree ask
  pub split : (text : List ℕ) → IfSome (split_of (has_resource tree) text) (IsSplit (has_resource tree) text)
  pub not_split : (text : List ℕ) → IfNone (split_of (has_resource tree) text) (IsLost (has_resource tree) text)
  pub split_only : (text : List ℕ) (parts : Parts) → IsSplit (has_resource tree) text parts → split_of (has_resource tree) text ≡ Some parts
  pub first : (res : Resource) (parts : Parts) → IfSome (search_result tree (chain_of tree res.props) parts) (IsFirstScript tree (chain_of tree res.props) parts)
  pub none : (res : Resource) (parts : Parts) → IfNone (search_result tree (chain_of tree res.props) parts) (HasNoCandidate tree (chain_of tree res.props) parts)
  pub one : (res : Resource) (parts : Parts) (p q : List (List ℕ)) → IsFirstScript tree (chain_of tree res.props) parts p → IsFirstScript tree (chain_of tree res.props) parts q → p ≡ q
  pub spelled : (text : List ℕ) (blocks : List Block) → blocks_of text ≡ Ok blocks → SpellsBlocks most_nested_blocks text blocks
  pub spelled_only : (text : List ℕ) (blocks : List Block) → SpellsBlocks most_nested_blocks text blocks → blocks_of text ≡ Ok blocks
  pub over : (res : Resource) (depth most : ℕ) → (json_answer (seen_resources tree) res depth most_rendered_bytes ≡ Over most) ↔ IsOver (seen_resources tree) res depth most

-- ---- the answer is a case

-- JSON that isn't over is the text
within-is : (res : Resource) (small : Bool) (text : List ℕ) → nat_le (length text) most_rendered_bytes ≡ small → json_representation res (text_within most_rendered_bytes text) ≡ representation_of json_kind (mark_of res) text
within-is res true text is = ap (λ b. json_representation res (if b then Whole text else TooLong)) is
within-is res false text is =
    ap (λ b. json_representation res (if b then Whole text else TooLong)) is ∙ sym (ap (λ b. if b then answer_with_body 200 json_kind (mark_of res) text else error_answer 500) is)

no-text : (named node : Bool) (text : Option (List ℕ)) → text ≡ None → (named && (node && is_some text)) ≡ true → ⊥
no-text named node None is e = by_flags named node e
  where
    by_flags : (named node : Bool) → (named && (node && false)) ≡ true → ⊥
    by_flags true true e = cc
    by_flags true false e = cc
    by_flags false node e = cc
no-text named node (Some text) is e = cc

few : (a b : Bool) (depth shown : ℕ) → nat_le depth 1 ≡ a → nat_le shown most_resources ≡ b → (a || b) ≡ true → 1 < depth → shown ≤ most_resources
few true b depth shown small is e deep = grind (arith, nat_tests)
few false true depth shown small is e deep = grind (arith, nat_tests)
few false false depth shown small is e deep = absurd (let no : ⊥ = cc in no)

json-case : (tree : Content) (ask : Ask) → Searches tree ask → (res : Resource) (depth : Depth) → ReadsJson tree ask res depth → (b : Bool)
    → (nat_le (levels_of depth) 1 || nat_le (shown_count (seen_resources tree) res (levels_of depth)) most_resources) ≡ b
    → IsAnswer tree ask (json_representation res (if b then text_within most_rendered_bytes (json_text (seen_resources tree) (levels_of depth) res) else Over (greatest_fitting (shown_count (seen_resources tree) res) (levels_of depth))))
json-case tree ask s res depth reads true is =
    json res depth reads (few _ _ (levels_of depth) (shown_count (seen_resources tree) res (levels_of depth)) refl refl is) (within-is res _ (json_text (seen_resources tree) (levels_of depth) res) refl)
json-case tree ask s res depth reads false is =
    let most = greatest_fitting (shown_count (seen_resources tree) res) (levels_of depth) in
    let over : json_answer (seen_resources tree) res (levels_of depth) most_rendered_bytes ≡ Over most = ap (λ b. if b then text_within most_rendered_bytes (json_text (seen_resources tree) (levels_of depth) res) else Over most) is in
    too_many res depth most reads ((s.over res (levels_of depth) most).0 over) refl

depth-case : (tree : Content) (ask : Ask) → Searches tree ask → (parts : Parts) (res : Resource) → ReadsByDefault tree ask parts res → is_json parts.extension ≡ true
    → (d : Option Depth) → depth_of parts.selectors ≡ d → IsAnswer tree ask (json_to_depth (seen_resources tree) res d)
depth-case tree ask s parts res reads is None none = no_depth parts res reads is none refl
depth-case tree ask s parts res reads is (Some depth) some = json-case tree ask s res depth (record { parts = parts; default = reads; json = is; depth_is = some }) _ refl

file-case : (tree : Content) (ask : Ask) (parts : Parts) (res : Resource) → ReadsByDefault tree ask parts res → is_json parts.extension ≡ false → is_bare parts ≡ true
    → (stream : Option Stream) → stream_of (seen_resources tree) res ≡ stream → IsAnswer tree ask (file_representation res stream)
file-case tree ask parts res reads is bare None none = no_file parts res reads is bare none refl
file-case tree ask parts res reads is bare (Some stream) some = file parts res stream reads is bare some refl

bare-case : (tree : Content) (ask : Ask) (parts : Parts) (res : Resource) → ReadsByDefault tree ask parts res → is_json parts.extension ≡ false
    → (b : Bool) → is_bare parts ≡ b → IsAnswer tree ask (if b then file_representation res (stream_of (seen_resources tree) res) else error_answer 404)
bare-case tree ask parts res reads is true bare = file-case tree ask parts res reads is bare (stream_of (seen_resources tree) res) refl
bare-case tree ask parts res reads is false bare = no_servlet parts res reads is bare refl

default-case : (tree : Content) (ask : Ask) → Searches tree ask → (parts : Parts) (res : Resource) → ReadsByDefault tree ask parts res → (b : Bool) → is_json parts.extension ≡ b
    → IsAnswer tree ask (if b then json_to_depth (seen_resources tree) res (depth_of parts.selectors) else (if is_bare parts then file_representation res (stream_of (seen_resources tree) res) else error_answer 404))
default-case tree ask s parts res reads true is = depth-case tree ask s parts res reads is (depth_of parts.selectors) refl
default-case tree ask s parts res reads false is = bare-case tree ask parts res reads is (is_bare parts) refl

page-case : (tree : Content) (ask : Ask) → Searches tree ask → (res : Resource) (text : List ℕ) (reads : ReadsByScript tree ask res text)
    → (read : Result (List Block) BlockFault) → blocks_of text ≡ read → IsAnswer tree ask (script_representation tree res reads.script (reading_in read))
page-case tree ask s res text reads (Ok blocks) is = by_script res text blocks reads (s.spelled text blocks is) refl
page-case tree ask s res text reads (Err fault) is = refused_script res text reads (λ blocks spells. let read = s.spelled_only text blocks spells in cc) refl

text-case : (tree : Content) (ask : Ask) → Searches tree ask → (parts : Parts) (res : Resource) → ReadsResource tree ask parts res → (script : List (List ℕ)) → IsFirstScript tree (chain_of tree res.props) parts script
    → (text : Option (List ℕ)) → script_text tree script ≡ text → IsAnswer tree ask (answer_by (option_map (script_with_text script) text) tree parts res)
text-case tree ask s parts res reads script first None none = absurd (no-text (is_script_name (name_of script)) (is_some (node_at tree script)) (script_text tree script) none first.candidate.script)
text-case tree ask s parts res reads script first (Some text) some =
    page-case tree ask s res text (record { parts = parts; resource = reads; script = script; first = first; text_is = some }) (blocks_of text) refl

script-case : (tree : Content) (ask : Ask) → Searches tree ask → (parts : Parts) (res : Resource) → ReadsResource tree ask parts res → (found : Option (List (List ℕ)))
    → IfSome found (IsFirstScript tree (chain_of tree res.props) parts) → IfNone found (HasNoCandidate tree (chain_of tree res.props) parts)
    → IsAnswer tree ask (answer_by (option_and_then (script_there tree) found) tree parts res)
script-case tree ask s parts res reads (Some script) first none = text-case tree ask s parts res reads script first (script_text tree script) refl
script-case tree ask s parts res reads None first none = default-case tree ask s parts res (record { resource = reads; none = none }) (is_json parts.extension) refl

nothing-seen : (tree : Content) (path : List (List ℕ)) → merged_resource tree path ≡ None → has_resource tree path ≡ true → ⊥
unfolding has_resource
nothing-seen tree path none there = cc

seen-case : (tree : Content) (ask : Ask) → Searches tree ask → (text : List ℕ) → ReadsText tree ask text → (parts : Parts) → IsSplit (has_resource tree) text parts
    → (seen : Option Resource) → seen_resources tree parts.path ≡ seen → IsAnswer tree ask (resource_answer tree parts seen)
unfolding script_for
seen-case tree ask s text reads parts split None none = absurd (nothing-seen tree parts.path none split.leads.there)
seen-case tree ask s text reads parts split (Some res) some =
    script-case tree ask s parts res (record { text = text; reads = reads; split = split; seen = some }) (search_result tree (chain_of tree res.props) parts) (s.first res parts) (s.none res parts)

split-case : (tree : Content) (ask : Ask) → Searches tree ask → (text : List ℕ) → ReadsText tree ask text → (parts : Option Parts)
    → IfSome parts (IsSplit (has_resource tree) text) → IfNone parts (IsLost (has_resource tree) text) → IsAnswer tree ask (split_answer tree parts)
split-case tree ask s text reads None split none = lost text reads none refl
split-case tree ask s text reads (Some parts) split none = seen-case tree ask s text reads parts split (seen_resources tree parts.path) refl

mapped-case : (tree : Content) (ask : Ask) → Searches tree ask → is_read ask.method ≡ true → (answer : MapAnswer) → IsMapped tree ask.host ask.port (text_of ask.path) answer → IsAnswer tree ask (mapped_answer tree answer)
mapped-case tree ask s read (Inside text) is = split-case tree ask s text (record { method = read; mapped = is }) (split_of (has_resource tree) text) (s.split text) (s.not_split text)
mapped-case tree ask s read (Away status reference) is = read_away status reference read is refl

posted-case : (tree : Content) (ask : Ask) → is_post ask.method ≡ true → (answer : MapAnswer) → IsMapped tree ask.host ask.port (text_of ask.path) answer → IsAnswer tree ask (posted_answer tree ask answer)
posted-case tree ask post (Inside text) is = posted text post is refl
posted-case tree ask post (Away status reference) is = posted_away status reference post is refl

method-case : (tree : Content) (ask : Ask) → Searches tree ask → (read post : Bool) → is_read ask.method ≡ read → is_post ask.method ≡ post
    → IsAnswer tree ask (if read then mapped_answer tree (mapping tree ask) else (if post then posted_answer tree ask (mapping tree ask) else error_answer 405))
method-case tree ask s true post reads posts = mapped-case tree ask s reads (mapping tree ask) s.mapped
method-case tree ask s false true reads posts = posted-case tree ask posts (mapping tree ask) s.mapped
method-case tree ask s false false reads posts = not_allowed reads posts refl

pub answer_case : (tree : Content) (ask : Ask) → Searches tree ask → IsAnswer tree ask (answer_to_request tree ask)
unfolding answer_to_request
answer_case tree ask s = method-case tree ask s (is_read ask.method) (is_post ask.method) refl refl

-- ---- no case but the answer's applies

refused-is : (tree : Content) (ask : Ask) (read post : Bool) → is_read ask.method ≡ read → is_post ask.method ≡ post → read ≡ false → post ≡ false → answer_to_request tree ask ≡ error_answer 405
unfolding answer_to_request
refused-is tree ask read post reads posts unread unposted =
    ap (λ b. if b then mapped_answer tree (mapping tree ask) else (if is_post ask.method then posted_answer tree ask (mapping tree ask) else error_answer 405)) (reads ∙ unread)
    ∙ ap (λ b. if b then posted_answer tree ask (mapping tree ask) else error_answer 405) (posts ∙ unposted)

text-is : (tree : Content) (ask : Ask) → Searches tree ask → (text : List ℕ) → ReadsText tree ask text → answer_to_request tree ask ≡ split_answer tree (split_of (has_resource tree) text)
text-is tree ask s text reads = read_is tree ask reads.method ∙ ap (mapped_answer tree) (sym (s.mapped_only (Inside text) reads.mapped))

lost-is : (tree : Content) (text : List ℕ) (parts : Option Parts) → split_of (has_resource tree) text ≡ parts → IfSome parts (IsSplit (has_resource tree) text) → IsLost (has_resource tree) text → split_answer tree parts ≡ error_answer 404
lost-is tree text None is split nowhere = refl
lost-is tree text (Some parts) is split nowhere = absurd (nowhere split.at parts.path split.leads)

resource-is : (tree : Content) (ask : Ask) → Searches tree ask → (parts : Parts) (res : Resource) → ReadsResource tree ask parts res
    → answer_to_request tree ask ≡ answer_by (option_and_then (script_there tree) (search_result tree (chain_of tree res.props) parts)) tree parts res
unfolding script_for
resource-is tree ask s parts res reads =
    text-is tree ask s reads.text reads.reads ∙ ap (split_answer tree) (s.split_only reads.text parts reads.split) ∙ ap (resource_answer tree parts) reads.seen

script-is : (tree : Content) (ask : Ask) → Searches tree ask → (res : Resource) (text : List ℕ) (reads : ReadsByScript tree ask res text)
    → answer_to_request tree ask ≡ script_representation tree res reads.script (reading_in (blocks_of text))
script-is tree ask s res text reads =
    let parts = reads.parts in
    let found = found_first tree (chain_of tree res.props) parts reads.script (search_result tree (chain_of tree res.props) parts) (s.one res parts) (s.first res parts) (s.none res parts) reads.first in
    resource-is tree ask s parts res reads.resource
    ∙ ap (λ o. answer_by (option_and_then (script_there tree) o) tree parts res) found
    ∙ ap (λ o. answer_by (option_map (script_with_text reads.script) o) tree parts res) reads.text_is

none-found : (tree : Content) (res : Resource) (parts : Parts) (found : Option (List (List ℕ))) → IfSome found (IsFirstScript tree (chain_of tree res.props) parts) → HasNoCandidate tree (chain_of tree res.props) parts → found ≡ None
none-found tree res parts None first none = refl
none-found tree res parts (Some script) first none = absurd (none script first.key first.candidate)

default-is : (tree : Content) (ask : Ask) → Searches tree ask → (parts : Parts) (res : Resource) → ReadsByDefault tree ask parts res → answer_to_request tree ask ≡ default_answer (seen_resources tree) parts res
default-is tree ask s parts res reads =
    resource-is tree ask s parts res reads.resource
    ∙ ap (λ o. answer_by (option_and_then (script_there tree) o) tree parts res) (none-found tree res parts (search_result tree (chain_of tree res.props) parts) (s.first res parts) reads.none)

json-asked : (tree : Content) (parts : Parts) (res : Resource) → is_json parts.extension ≡ true → default_answer (seen_resources tree) parts res ≡ json_to_depth (seen_resources tree) res (depth_of parts.selectors)
json-asked tree parts res is = ap (λ b. if b then json_to_depth (seen_resources tree) res (depth_of parts.selectors) else (if is_bare parts then file_representation res (stream_of (seen_resources tree) res) else error_answer 404)) is

other-asked : (tree : Content) (parts : Parts) (res : Resource) → is_json parts.extension ≡ false
    → default_answer (seen_resources tree) parts res ≡ (if is_bare parts then file_representation res (stream_of (seen_resources tree) res) else error_answer 404)
other-asked tree parts res is = ap (λ b. if b then json_to_depth (seen_resources tree) res (depth_of parts.selectors) else (if is_bare parts then file_representation res (stream_of (seen_resources tree) res) else error_answer 404)) is

bare-asked : (tree : Content) (parts : Parts) (res : Resource) → is_json parts.extension ≡ false → is_bare parts ≡ true → default_answer (seen_resources tree) parts res ≡ file_representation res (stream_of (seen_resources tree) res)
bare-asked tree parts res is bare = other-asked tree parts res is ∙ ap (λ b. if b then file_representation res (stream_of (seen_resources tree) res) else error_answer 404) bare

json-is : (tree : Content) (ask : Ask) → Searches tree ask → (res : Resource) (depth : Depth) → ReadsJson tree ask res depth
    → answer_to_request tree ask ≡ json_representation res (json_answer (seen_resources tree) res (levels_of depth) most_rendered_bytes)
json-is tree ask s res depth reads =
    default-is tree ask s reads.parts res reads.default ∙ json-asked tree reads.parts res reads.json ∙ ap (json_to_depth (seen_resources tree) res) reads.depth_is

few-is : (tree : Content) (res : Resource) (depth : ℕ) (a b : Bool) → nat_le depth 1 ≡ a → nat_le (shown_count (seen_resources tree) res depth) most_resources ≡ b
    → (1 < depth → shown_count (seen_resources tree) res depth ≤ most_resources) → (a || b) ≡ true
few-is tree res depth true b small is few = refl
few-is tree res depth false true small is few = refl
few-is tree res depth false false small is few = absurd (let deep : 1 < depth = grind (arith, nat_tests) in let fits = few deep in let no : ⊥ = grind (arith, nat_tests) in no)

pub case_is : (tree : Content) (ask : Ask) → Searches tree ask → (answer : Answer) → IsAnswer tree ask answer → answer ≡ answer_to_request tree ask
case_is tree ask s answer (not_allowed read post is) = is ∙ sym (refused-is tree ask _ _ refl refl read post)
case_is tree ask s answer (read_away status reference read away is) = is ∙ sym (read_is tree ask read ∙ ap (mapped_answer tree) (sym (s.mapped_only (Away status reference) away)))
case_is tree ask s answer (posted_away status reference post away is) = is ∙ sym (post_is tree ask post ∙ ap (posted_answer tree ask) (sym (s.mapped_only (Away status reference) away)))
case_is tree ask s answer (posted text post inside is) = is ∙ sym (post_is tree ask post ∙ ap (posted_answer tree ask) (sym (s.mapped_only (Inside text) inside)))
case_is tree ask s answer (lost text reads nowhere is) = is ∙ sym (text-is tree ask s text reads ∙ lost-is tree text (split_of (has_resource tree) text) refl (s.split text) nowhere)
case_is tree ask s answer (refused_script res text reads none is) = is ∙ sym (script-is tree ask s res text reads ∙ by_reading (blocks_of text) refl)
  where
    by_reading : (read : Result (List Block) BlockFault) → blocks_of text ≡ read → script_representation tree res reads.script (reading_in read) ≡ error_answer 500
    by_reading (Ok blocks) e = absurd (none blocks (s.spelled text blocks e))
    by_reading (Err fault) e = refl
case_is tree ask s answer (by_script res text blocks reads spells is) =
    is ∙ sym (script-is tree ask s res text reads ∙ ap (λ r. script_representation tree res reads.script (reading_in r)) (s.spelled_only text blocks spells))
case_is tree ask s answer (no_depth parts res reads asks none is) =
    is ∙ sym (default-is tree ask s parts res reads ∙ json-asked tree parts res asks ∙ ap (json_to_depth (seen_resources tree) res) none)
case_is tree ask s answer (too_many res depth most reads over is) = is ∙ sym (json-is tree ask s res depth reads ∙ ap (json_representation res) ((s.over res (levels_of depth) most).1 over))
case_is tree ask s answer (json res depth reads small is) =
    let fits = few-is tree res (levels_of depth) _ _ refl refl small in
    let text = json_text (seen_resources tree) (levels_of depth) res in
    let whole : json_answer (seen_resources tree) res (levels_of depth) most_rendered_bytes ≡ text_within most_rendered_bytes text =
    ap (λ b. if b then text_within most_rendered_bytes text else Over (greatest_fitting (shown_count (seen_resources tree) res) (levels_of depth))) fits in
    is ∙ sym (json-is tree ask s res depth reads ∙ ap (json_representation res) whole ∙ within-is res _ text refl)
case_is tree ask s answer (file parts res stream reads other bare some is) = is ∙ sym (default-is tree ask s parts res reads ∙ bare-asked tree parts res other bare ∙ ap (file_representation res) some)
case_is tree ask s answer (no_file parts res reads other bare none is) = is ∙ sym (default-is tree ask s parts res reads ∙ bare-asked tree parts res other bare ∙ ap (file_representation res) none)
case_is tree ask s answer (no_servlet parts res reads other bare is) = is ∙ sym (default-is tree ask s parts res reads ∙ other-asked tree parts res other ∙ ap (λ b. if b then file_representation res (stream_of (seen_resources tree) res) else error_answer 404) bare)
