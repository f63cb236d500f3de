-- Scaffolding: a resource that is seen without its kids, for private functions and for proofs alone. A reader of the theorem needs none of it.
use Rattle.std.specs.Prelude.{◌≡◌, ◌==◌, Bool, true, not, if◌then◌else◌, Option, Some, None}
use Rattle.sp_base.specs.declared.answer.Answer.{Answer}
use Rattle.resource_tree.specs.Content.{Content}
use Rattle.resource_tree.specs.Seen.{Resource}
use Rattle.overlay_merge.specs.Merged.{merged_alone}
use Rattle.url_split.specs.declared.decompose.Parts.{Parts}
use Rattle.error_answers.specs.Errors.{error_answer}
use Rattle.get_servlet.specs.Answers.{levels_of}
use Rattle.get_servlet.specs.declared.answer.Depth.{Depth}
use Rattle.publisher.specs.Depths.{depth_of}
use Rattle.publisher.specs.Rendering.{ScriptAt, answer_by, is_bare, is_json, seen_resources}

-- it is what is seen at the path of the parts, but that its kids may be left out
abbrev pub IsSeenAlone : Content → Parts → Resource → Type 0
IsSeenAlone tree parts res = merged_alone tree parts.path ≡ Some res

-- the answer of a resource by a script or without one, and 404 without a resource
abbrev pub answer_seen : Option ScriptAt → Content → Parts → Option Resource → Answer
answer_seen script tree parts None = error_answer 404
answer_seen script tree parts (Some res) = answer_by script tree parts res

-- the answer, by a script or without one, of what is seen at the path of the parts
abbrev pub seen_answer : Option ScriptAt → Content → Parts → Answer
seen_answer script tree parts = answer_seen script tree parts (seen_resources tree parts.path)

-- no level below the resource is asked for, or no depth at all
abbrev pub is_of_no_level : Option Depth → Bool
is_of_no_level None = true
is_of_no_level (Some depth) = levels_of depth == 0

-- the answer of the default GET servlet shows no kid: it is JSON of the resource alone, or refuses
abbrev pub shows_no_kid : Parts → Bool
shows_no_kid parts = if is_json parts.extension then is_of_no_level (depth_of parts.selectors) else not (is_bare parts)
