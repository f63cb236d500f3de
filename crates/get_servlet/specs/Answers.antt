-- What a GET of a resource as JSON answers (Apache Sling, "Rendering content, default GET servlets").
use Rattle.std.specs.Prelude.{◌≡◌, ◌<◌, ◌≤◌, ◌||◌, ℕ, nat_le, if◌then◌else◌, List, Some, length, ⊤}
use Rattle.json.specs.Json.{Json, document}
use Rattle.sp_base.specs.Paths.{most_segments}
use Rattle.resource_tree.specs.Seen.{Resource, Seen}
use Rattle.get_servlet.specs.declared.answer.Depth.{Depth}
use Rattle.get_servlet.specs.declared.answer.Depth.TheVariants.{Levels, Infinity}
use Rattle.get_servlet.specs.declared.answer.JsonAnswer.{JsonAnswer}
use Rattle.get_servlet.specs.declared.answer.JsonAnswer.TheVariants.{Whole, Over, TooLong}
use Rattle.get_servlet.specs.Rendering.{most_resources, json_text, shown_count, greatest_fitting}

-- the levels that are asked for; a path has at most 64 segments, so 64 levels are all
abbrev pub levels_of : Depth → ℕ
levels_of (Levels n) = n
levels_of Infinity = most_segments

-- the text, unless it has more bytes than these
abbrev pub text_within : ℕ → List ℕ → JsonAnswer
text_within most_bytes text = if nat_le (length text) most_bytes then Whole text else TooLong

-- the text, unless it is of more than one level and shows more than 1,000 resources, or has more bytes than these
abbrev pub json_answer : Seen → Resource → ℕ → ℕ → JsonAnswer
json_answer seen res depth most_bytes =
    if nat_le depth 1 || nat_le (shown_count seen res depth) most_resources then text_within most_bytes (json_text seen depth res)
    else Over (greatest_fitting (shown_count seen res) depth)

-- the text is given: it has one level at most or is of few resources, and it is short enough
pub record IsWhole (seen : Seen) (res : Resource) (depth most_bytes : ℕ) (text : List ℕ) : Type 0 where
  pub small : 1 < depth → shown_count seen res depth ≤ most_resources
  pub text_is : text ≡ json_text seen depth res
  pub short : length text ≤ most_bytes

-- the text would be given, but is too long
pub record IsTooLong (seen : Seen) (res : Resource) (depth most_bytes : ℕ) : Type 0 where
  pub small : 1 < depth → shown_count seen res depth ≤ most_resources
  pub long : most_bytes < length (json_text seen depth res)

-- the text shows too many resources, and this is the greatest depth that is 1 or shows at most 1,000
pub record IsOver (seen : Seen) (res : Resource) (depth most : ℕ) : Type 0 where
  pub deep : 1 < depth
  pub large : most_resources < shown_count seen res depth
  pub least : 1 ≤ most
  pub below : most < depth
  pub fits : 1 < most → shown_count seen res most ≤ most_resources
  pub deeper : (k : ℕ) → most < k → most_resources < shown_count seen res k

-- an answer is what it says it is
abbrev pub Answers : Seen → Resource → ℕ → ℕ → JsonAnswer → Type 0
Answers seen res depth most_bytes (Whole text) = IsWhole seen res depth most_bytes text
Answers seen res depth most_bytes (Over most) = IsOver seen res depth most
Answers seen res depth most_bytes TooLong = IsTooLong seen res depth most_bytes

-- a text that is given is this JSON value (RFC 8259)
abbrev pub ReadsAs : Json → JsonAnswer → Type 0
ReadsAs json (Whole text) = document text ≡ Some json
ReadsAs json (Over most) = ⊤
ReadsAs json TooLong = ⊤
