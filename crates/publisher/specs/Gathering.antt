-- A page while it is gathered. Only proofs and private functions need this.
use Rattle.std.specs.Prelude.{◌≡◌, ◌≢◌, ◌<◌, ◌+◌, ◌⊎◌, true, List, Result, Ok, Err, length}
use Rattle.sp_base.specs.Limits.{most_rendered_bytes}
use Rattle.sp_base.specs.Texts.{Pairs}
use Rattle.htl_expr.specs.Bindings.{Bindings}
use Rattle.htl_expr.specs.Variables.{vars_of}
use Rattle.htl_blocks.specs.declared.block.Block.{Block}
use Rattle.htl_blocks.specs.Parts.{Part, inclusions, rounds, text_of_parts}
use Rattle.htl_blocks.specs.Refused.{most_inclusions, most_rounds}
use Rattle.htl_blocks.specs.Written.{blocks_parts}
use Rattle.publisher.specs.declared.page_fault.PageFault.{PageFault}
use Rattle.publisher.specs.declared.page_fault.PageFault.TheVariants.{NoMemory}
use Rattle.publisher.specs.declared.setting.Setting.{Setting}
use Rattle.publisher.specs.declared.waiting.Waiting.{Waiting}
use Rattle.publisher.specs.Pages.{GatheredPage, ScriptSetting, bindings_at, inclusion, joined, written_by_script, written_page}

-- where the script of a setting stands
abbrev pub setting_in : Setting → ScriptSetting
setting_in s = record { script = s.script.now; path = s.path.now; props = s.props.now }

-- the variables that are seen in a setting
abbrev pub vars_in : Setting → Pairs
vars_in s = vars_of s.vars.now

-- what the expressions see in a setting
abbrev pub bindings_in : Setting → Bindings
bindings_in s = bindings_at (setting_in s) (vars_in s)

-- the parts that blocks write in a setting
abbrev pub parts_in : Setting → List Block → List Part
parts_in s blocks = blocks_parts (bindings_in s) blocks

-- what stands in a setting for a part that puts something in
abbrev pub inclusion_in : Setting → Part → GatheredPage
inclusion_in s = inclusion s.content.now s.levels (setting_in s)

-- what the script of a setting writes there, with what it puts in
abbrev pub script_page : Setting → GatheredPage
script_page s = written_page (inclusion s.content.now s.levels) (written_by_script s.content.now (setting_in s) (vars_in s))

-- a limit is passed, what waits counted too
abbrev pub IsPassed : Waiting → GatheredPage → Type 0
IsPassed waiting page = (page.is_deep ≡ true) ⊎ ((most_rendered_bytes < length page.text + waiting.text) ⊎ ((most_inclusions < page.inclusions + waiting.inclusions) ⊎ (most_rounds < page.rounds)))

-- a limit is passed by what stands in parts, whatever they put in
abbrev pub PassLimits : List Part → Type 0
PassLimits ps = (most_rendered_bytes < length (text_of_parts ps)) ⊎ ((most_inclusions < inclusions ps) ⊎ (most_rounds < rounds ps))

-- a page is gathered after another, or with it a limit is passed
abbrev pub Gathered : {A : Type 0} → Waiting → Result A PageFault → GatheredPage → GatheredPage → GatheredPage → Type 0
Gathered waiting (Ok _) old new page = new ≡ joined old page
Gathered waiting (Err fault) old new page = fault ≢ NoMemory → IsPassed waiting (joined old page)
