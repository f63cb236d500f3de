-- One step of the telling, which proofs and private functions alone need.
use Rattle.std.specs.Prelude.{◌≡◌, ◌&&◌, if◌then◌else◌, is_some, List}
use Rattle.std.specs.Map.{lookup}
use Rattle.sp_base.specs.Texts.{Segments}
use Rattle.resource_tree.specs.Content.{Content, same_path}
use Rattle.site_faults.specs.declared.script_fault.ScriptFault.{ScriptFault}
use Rattle.site_faults.specs.Scripts.{script_fault_at}

-- the script at a path is told, if there is something wrong with it, and what is told of others stays
abbrev pub Tells : Content → Segments → List (Segments × ScriptFault) → List (Segments × ScriptFault) → Type 0
Tells tree path old new = (q : Segments) → lookup (same_path q) new ≡ (if same_path path q && is_some (script_fault_at tree path) then script_fault_at tree path else lookup (same_path q) old)
