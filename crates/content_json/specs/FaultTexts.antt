-- How the fault of a content is written.
use Rattle.std.specs.Prelude.{◌++◌, ℕ, List, [], codes}
use Rattle.sp_base.specs.Texts.{Segments}
use Rattle.sp_base.specs.Paths.{text_of}
use Rattle.content_json.specs.declared.fault.ContentFault.{ContentFault}
use Rattle.content_json.specs.declared.fault.ContentFault.TheVariants.{NotJson, NotObject, BadName, BadNumber, MixedArray, BadOrder, TooBig, NoMemory}

-- a fault at a place of the content
abbrev pub fault_at_path : List ℕ → Segments → List ℕ
fault_at_path name path = name ++ codes " at " ++ text_of path

-- a fault of a content, by its name and its place
abbrev pub fault_text : ContentFault → List ℕ
fault_text NotJson = codes "NotJson"
fault_text NotObject = codes "NotObject"
fault_text (BadName path) = fault_at_path (codes "BadName") path
fault_text (BadNumber path) = fault_at_path (codes "BadNumber") path
fault_text (MixedArray path) = fault_at_path (codes "MixedArray") path
fault_text (BadOrder path) = fault_at_path (codes "BadOrder") path
fault_text TooBig = codes "TooBig"
fault_text NoMemory = []
