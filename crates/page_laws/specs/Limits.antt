-- Which limits a page passes.
use Rattle.std.specs.Prelude.{◌≡◌, ◌↔◌, ◌<◌, ℕ, zero, suc, true, List, [], ◌∷◌, ◌++◌, Some, length}
use Rattle.sp_base.specs.Limits.{most_rendered_bytes}
use Rattle.sp_base.specs.Texts.{Text}
use Rattle.sp_base.specs.declared.answer.Ask.{Ask}
use Rattle.resource_tree.specs.Content.{Content, IsGood}
use Rattle.resource_tree.specs.Seen.{Resource}
use Rattle.htl_blocks.specs.declared.block.Block.{Block}
use Rattle.htl_blocks.specs.Parts.{Part, is_inclusion}
use Rattle.htl_blocks.specs.Reading.{most_nested_blocks}
use Rattle.htl_blocks.specs.Refused.{most_inclusions, most_rounds}
use Rattle.htl_blocks.specs.Spelling.{SpellsBlocks}
use Rattle.htl_blocks.specs.Written.{blocks_parts}
use Rattle.publisher.specs.Cases.{ReadsByScript}
use Rattle.publisher.specs.Pages.{ScriptSetting, Written, bindings_at, most_levels, page_of, setting_for, put_in}
use Rattle.publisher.specs.Rendering.{answer_to_request}

-- among parts something is to be put in, whether it is there or not
pub record PutsSomethingIn (ps : List Part) : Type 0 where
  pub before : List Part
  pub part : Part
  pub after : List Part
  pub whole : ps ≡ before ++ part ∷ after
  pub puts : is_inclusion part ≡ true

-- among parts in a setting one puts this in
pub record PutsIn (tree : Content) (setting : ScriptSetting) (ps : List Part) (written : Written) : Type 0 where
  pub before : List Part
  pub part : Part
  pub after : List Part
  pub whole : ps ≡ before ++ part ∷ after
  pub there : put_in tree setting part ≡ Some written

-- so many scripts and resources are put in, one in another, and in the last something more is to be put in
abbrev pub Nests : Content → ℕ → ScriptSetting → List Part → Type 0
Nests tree zero setting ps = PutsSomethingIn ps
Nests tree (suc levels) setting ps = (written : Written) × PutsIn tree setting ps written × Nests tree levels written.setting written.parts

-- A page passes a limit: of its text, of what is to be put in, of the contents of lists, or of how deep scripts and resources stand one in another.
pub data PassesALimit (tree : Content) (setting : ScriptSetting) (blocks : List Block) : Type 0 where
  TooLong : most_rendered_bytes < length (page_of tree setting blocks).text → PassesALimit tree setting blocks
  TooMuchPutIn : most_inclusions < (page_of tree setting blocks).inclusions → PassesALimit tree setting blocks
  TooManyRounds : most_rounds < (page_of tree setting blocks).rounds → PassesALimit tree setting blocks
  TooDeep : Nests tree most_levels setting (blocks_parts (bindings_at setting []) blocks) → PassesALimit tree setting blocks

-- a page by a script is answered 500 exactly where it passes a limit
abbrev pub IsRefusedWhereItPassesALimit : Content → Ask → Resource → Text → List Block → Type 0
IsRefusedWhereItPassesALimit tree ask res text blocks = (reads : ReadsByScript tree ask res text) → SpellsBlocks most_nested_blocks text blocks
    → ((answer_to_request tree ask).status ≡ 500) ↔ PassesALimit tree (setting_for reads.script res) blocks

-- so it is with each page by a script
abbrev pub PagesAreRefusedWhereTheyPassALimit : Type 0
PagesAreRefusedWhereTheyPassALimit = (tree : Content) (ask : Ask) (res : Resource) (text : Text) (blocks : List Block) → IsGood tree → IsRefusedWhereItPassesALimit tree ask res text blocks
