-- Reading a file dispatcher.any (Adobe Dispatcher manual, "Configuring Dispatcher") from left to right, with the first fault that is met.
use Rattle.std.specs.Prelude.{ℕ, zero, suc, ◌-◌, Bool, ◌||◌, if◌then◌else◌, ◌==◌, List, [], ◌∷◌, ◌++◌, length, drop, Result, Ok, Err}
use Rattle.sp_base.specs.Outcomes.{◌>>=◌}
use Rattle.sp_base.specs.Bytes.{begins_with_byte}
use Rattle.any_config.specs.declared.stop.AnyStop.{AnyStop}
use Rattle.any_config.specs.declared.stop.AnyStop.TheVariants as stop
use Rattle.any_config.specs.declared.any_fault.AnyFault.{AnyFault}
use Rattle.any_config.specs.declared.any_fault.AnyFault.TheVariants as fault
use Rattle.any_config.specs.declared.node.AnyNode.{AnyNode}
use Rattle.any_config.specs.declared.node.AnyNode.TheVariants as node
use Rattle.any_config.specs.Tokens.{TokenOutcome, comments_skipped, member_name, ungrouped_value}

-- the names of a group and their values
abbrev pub Members : Type 0
Members = List (List ℕ × AnyNode)

-- members end at a `}` and at the end of the text
unfoldable pub ends_members : List ℕ → Bool
ends_members t = length t == 0 || begins_with_byte 125 t

-- Inside a group, `inner` reads the groups that it holds.
module _ (inner : List ℕ → TokenOutcome AnyNode) where
  -- a value of the member that begins at a place
  unfoldable pub value : ℕ → List ℕ → TokenOutcome AnyNode
  value at t = if begins_with_byte 123 t then inner t else ungrouped_value at t

  -- a name and its value, or a value alone
  unfoldable pub member : List ℕ → TokenOutcome (List ℕ × AnyNode)
  member t = do
    n ← member_name t
    v ← value (length t) n.1
    Ok ((n.0, v.0), v.1)

  -- Members follow one another between blanks and comments. Each has a byte at least, so the count of bytes is enough.
  unfoldable pub more_members : ℕ → Members → List ℕ → TokenOutcome Members
  more_members zero found t = Ok (found, t)
  more_members (suc k) found t = if ends_members t then Ok (found, t) else (do
    m ← member t
    more_members k (found ++ m.0 ∷ []) (comments_skipped m.1))

  -- all members from a place on, after its blanks and comments
  unfoldable pub members : List ℕ → TokenOutcome Members
  members t = more_members (length (comments_skipped t)) [] (comments_skipped t)

  -- a group from its `{` to its `}`
  unfoldable pub braced_group : List ℕ → TokenOutcome AnyNode
  braced_group t = do
    ms ← members (drop 1 t)
    if begins_with_byte 125 ms.1 then Ok (node.Group ms.0, drop 1 ms.1) else Err (stop.Unclosed (length t))

-- a group in a place where groups may still nest this deep
unfoldable pub group : ℕ → List ℕ → TokenOutcome AnyNode
group zero t = Err (stop.TooDeep (length t))
group (suc depth) t = braced_group (group depth) t

-- how many levels groups may nest
abbrev pub deepest_group : ℕ
deepest_group = 32

-- the whole file is a group without braces
unfoldable pub file_read : List ℕ → Result AnyNode AnyStop
file_read t = do
  ms ← members (group deepest_group) t
  if length ms.1 == 0 then Ok (node.Group ms.0) else Err (stop.BadName (length ms.1))

-- the answer of the reading, with its place counted from the beginning
abbrev pub placed_answer : List ℕ → Result AnyNode AnyStop → Result AnyNode AnyFault
placed_answer t (Ok n) = Ok n
placed_answer t (Err stop.NoMemory) = Err fault.NoMemory
placed_answer t (Err (stop.BadName left)) = Err (fault.BadName (length t - left))
placed_answer t (Err (stop.BadQuote left)) = Err (fault.BadQuote (length t - left))
placed_answer t (Err (stop.TooDeep left)) = Err (fault.TooDeep (length t - left))
placed_answer t (Err (stop.Unclosed left)) = Err (fault.Unclosed (length t - left))

-- what bytes are read as
abbrev pub any_of : List ℕ → Result AnyNode AnyFault
any_of t = placed_answer t (file_read t)
