-- The scripts of a content whose texts have no reading (HTL specification 1.4, "Expression Language" and "Block Statements"), each with what is wrong
-- first in it.
use Rattle.std.specs.Prelude.{◌≡◌, ◌+◌, ◌&&◌, ◌||◌, ℕ, Bool, false, if◌then◌else◌, nat_eq, nat_le, List, Option, Some, None, option_and_then, Result, Ok, Err, codes, drop, length, slice_get}
use Rattle.std.specs.Cmp.Lexicographic.{pointwise}
use Rattle.std.specs.List.{starts_with}
use Rattle.std.specs.List.Sorted.{IsStrictlySortedBy}
use Rattle.std.specs.Map.{lookup, keys_of}
use Rattle.sp_base.specs.Texts.{Segments}
use Rattle.sp_base.specs.Paths.{by_path, name_of}
use Rattle.resource_tree.specs.Content.{Content, same_path}
use Rattle.script_rank.specs.Ranking.{is_script, is_script_name, script_text}
use Rattle.htl_syntax.specs.Fault.{expression_of}
use Rattle.htl_syntax.specs.declared.expression.Expression.{Expression}
use Rattle.htl_syntax.specs.declared.expression.ExprFault.{ExprFault}
use Rattle.htl_syntax.specs.declared.expression.ExprFault.TheVariants as expression
use Rattle.htl_text.specs.declared.fault.TextFault.{TextFault}
use Rattle.htl_text.specs.declared.fault.TextFault.TheVariants as text
use Rattle.htl_blocks.specs.declared.block.Block.{Block}
use Rattle.htl_blocks.specs.declared.fault.BlockFault.{BlockFault}
use Rattle.htl_blocks.specs.declared.fault.BlockFault.TheVariants as block
use Rattle.htl_blocks.specs.Reading.{blocks_of}
use Rattle.site_faults.specs.declared.script_fault.ScriptFault.{ScriptFault}
use Rattle.site_faults.specs.declared.script_fault.ScriptFault.TheVariants.{Unclosed, Unexpected, TooDeep, OpenTag, BadBlock, DeepBlock, BadTag}

-- ---- the fault of a text

-- the text after the `${` at a position
abbrev pub after_opening : List ℕ → ℕ → List ℕ
after_opening t position = drop (position + 2) t

-- what is wrong with the expression that opens at a position: the first byte after its `${` with which no expression goes on
abbrev pub expression_fault : ℕ → Result Expression ExprFault → ScriptFault
expression_fault position (Err (expression.Unexpected at)) = Unexpected (position + 2 + at)
expression_fault position (Err (expression.TooDeep at)) = TooDeep (position + 2 + at)
expression_fault position (Err expression.NoMemory) = Unexpected position
expression_fault position (Ok e) = Unexpected position

-- an expression opens at a position
abbrev pub opens_at : List ℕ → ℕ → Bool
opens_at t position = nat_le position (length t) && starts_with nat_eq (drop position t) (codes "${")

-- what is wrong where an expression that opens at a position isn't closed, or else one of the tag there
abbrev pub unclosed_fault : List ℕ → ℕ → ScriptFault
unclosed_fault t position = if opens_at t position then Unclosed position else BadTag position

-- what is wrong with the expression that opens at a position, or else with one of the tag there
abbrev pub read_fault : List ℕ → ℕ → ScriptFault
read_fault t position = if opens_at t position then expression_fault position (expression_of (after_opening t position)) else BadTag position

-- what is wrong with a script of which this is told of a template: at the expression, or at the tag in which it stands
abbrev pub fault_of_template : List ℕ → TextFault → Option ScriptFault
fault_of_template t (text.Unclosed position) = Some (unclosed_fault t position)
fault_of_template t (text.BadExpr position) = Some (read_fault t position)
fault_of_template t text.NoMemory = None

-- what is wrong with a script as which this was read
abbrev pub fault_of_reading : List ℕ → Result (List Block) BlockFault → Option ScriptFault
fault_of_reading t (Ok blocks) = None
fault_of_reading t (Err (block.OpenTag position)) = Some (OpenTag position)
fault_of_reading t (Err (block.BadBlock position)) = Some (BadBlock position)
fault_of_reading t (Err (block.TooDeep position)) = Some (DeepBlock position)
fault_of_reading t (Err (block.Text fault)) = fault_of_template t fault
fault_of_reading t (Err block.NoMemory) = None

-- what is wrong first with a script's text, where it has no reading
abbrev pub fault_of_text : List ℕ → Option ScriptFault
fault_of_text t = fault_of_reading t (blocks_of t)

-- ---- the faults of a content

-- whether this is the first segment of a search path, `apps` or `libs`
abbrev pub is_search_top : Option (List ℕ) → Bool
is_search_top None = false
is_search_top (Some top) = pointwise nat_eq top (codes "apps") || pointwise nat_eq top (codes "libs")

-- whether a path is that of a script of a type: it is below a search path, and its name ends in `.html`
abbrev pub is_script_path : Segments → Bool
is_script_path path = is_search_top (slice_get path 0) && is_script_name (name_of path)

-- what is wrong with the script at a path, where one is there whose text has no reading
abbrev pub script_fault_at : Content → Segments → Option ScriptFault
script_fault_at tree path = if is_script_path path && is_script tree path then option_and_then fault_of_text (script_text tree path) else None

-- Each script whose text has no reading is told with what is wrong, and nothing else is, in the order of the paths.
pub record AreScriptFaults (tree : Content) (told : List (Segments × ScriptFault)) : Type 0 where
  pub ordered : IsStrictlySortedBy by_path (keys_of told)
  pub each : (path : Segments) → lookup (same_path path) told ≡ script_fault_at tree path
