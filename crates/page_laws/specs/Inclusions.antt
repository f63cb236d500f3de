-- What a script puts in (HTML Template Language specification 1.4, "Block Statements", include and resource), by relations in place of searches.
use Rattle.std.specs.Prelude.{◌≡◌, ℕ, suc, true, List, [], ◌∷◌, Some}
use Rattle.sp_base.specs.Paths.{name_of, parent_of}
use Rattle.sp_base.specs.Texts.{Pairs, Segments, Text}
use Rattle.resource_tree.specs.Content.{Content}
use Rattle.resource_tree.specs.Seen.{Resource}
use Rattle.overlay_merge.specs.Merged.{merged_resource}
use Rattle.type_chain.specs.Chain.{chain_of}
use Rattle.script_rank.specs.Ranking.{IsFirstScript, is_script_name, script_text}
use Rattle.htl_blocks.specs.declared.block.Block.{Block}
use Rattle.htl_blocks.specs.Parts.{Script, Resource as ResourcePart}
use Rattle.htl_blocks.specs.Reading.{most_nested_blocks}
use Rattle.htl_blocks.specs.Spelling.{SpellsBlocks}
use Rattle.htl_blocks.specs.Written.{blocks_parts}
use Rattle.publisher.specs.Pages.{GatheredPage, ScriptSetting, bindings_at, blank, html_parts, inclusion, joined, one_inclusion, page_of, parts_page, path_named, setting_for}

-- the script at a path: its name is one of a script, and its text spells these blocks
pub record HasScript (tree : Content) (path : Segments) (blocks : List Block) : Type 0 where
  pub text : Text
  pub named : is_script_name (name_of path) ≡ true
  pub there : script_text tree path ≡ Some text
  pub spelled : SpellsBlocks most_nested_blocks text blocks

-- the script that a name leads to, from the folder of the script of a setting
pub record LeadsToScript (tree : Content) (setting : ScriptSetting) (name : Text) (script : Segments) (blocks : List Block) : Type 0 where
  pub named : path_named (parent_of setting.script) name ≡ Some script
  pub has : HasScript tree script blocks

-- the resource that a name leads to, from the resource of a setting, and the script that ranks first for it with the extension html
pub record LeadsToResource (tree : Content) (setting : ScriptSetting) (name : Text) (res : Resource) (script : Segments) (blocks : List Block) : Type 0 where
  pub path : Segments
  pub named : path_named setting.path name ≡ Some path
  pub seen : merged_resource tree path ≡ Some res
  pub first : IsFirstScript tree (chain_of tree res.props) (html_parts res.path) script
  pub has : HasScript tree script blocks

-- what blocks give in a setting with variables, where so many scripts and resources may still stand one in another
abbrev pub page_within : Content → ℕ → ScriptSetting → Pairs → List Block → GatheredPage
page_within tree levels setting vars blocks = parts_page (inclusion tree levels setting) (blocks_parts (bindings_at setting vars) blocks)

-- for a script stands its page for the same resource, with the variables
abbrev pub ScriptsStandForTheSameResource : Type 0
ScriptsStandForTheSameResource = (tree : Content) (levels : ℕ) (setting : ScriptSetting) (name : Text) (vars : Pairs) (script : Segments) (blocks : List Block) → LeadsToScript tree setting name script blocks
    → inclusion tree (suc levels) setting (Script name vars) ≡ page_within tree levels (record setting { script = script }) vars blocks

-- for a resource stands its page by its first script, without variables
abbrev pub ResourcesStandByTheirFirstScript : Type 0
ResourcesStandByTheirFirstScript = (tree : Content) (levels : ℕ) (setting : ScriptSetting) (name : Text) (res : Resource) (script : Segments) (blocks : List Block) → LeadsToResource tree setting name res script blocks
    → inclusion tree (suc levels) setting (ResourcePart name) ≡ page_within tree levels (setting_for script res) [] blocks

-- where a name leads to no script, nothing stands
abbrev pub NothingStandsForMissingScripts : Type 0
NothingStandsForMissingScripts = (tree : Content) (levels : ℕ) (setting : ScriptSetting) (name : Text) (vars : Pairs)
    → ((script : Segments) (blocks : List Block) → LeadsToScript tree setting name script blocks → ⊥) → inclusion tree (suc levels) setting (Script name vars) ≡ blank

-- and where it leads to no resource with a script
abbrev pub NothingStandsForMissingResources : Type 0
NothingStandsForMissingResources = (tree : Content) (levels : ℕ) (setting : ScriptSetting) (name : Text)
    → ((res : Resource) (script : Segments) (blocks : List Block) → LeadsToResource tree setting name res script blocks → ⊥) → inclusion tree (suc levels) setting (ResourcePart name) ≡ blank

-- so the page of a script that is one include is that script's page, and one inclusion more
abbrev pub PagesOfOneIncludeAreThatScripts : Type 0
PagesOfOneIncludeAreThatScripts = (tree : Content) (setting : ScriptSetting) (own : List Block) (name : Text) (script : Segments) (blocks : List Block)
    → blocks_parts (bindings_at setting []) own ≡ Script name [] ∷ [] → LeadsToScript tree setting name script blocks
    → page_of tree setting own ≡ joined one_inclusion (page_within tree 15 (record setting { script = script }) [] blocks)

-- and the page of one that is one resource is that resource's page, and one inclusion more
abbrev pub PagesOfOneResourceAreThatResources : Type 0
PagesOfOneResourceAreThatResources = (tree : Content) (setting : ScriptSetting) (own : List Block) (name : Text) (res : Resource) (script : Segments) (blocks : List Block)
    → blocks_parts (bindings_at setting []) own ≡ ResourcePart name ∷ [] → LeadsToResource tree setting name res script blocks
    → page_of tree setting own ≡ joined one_inclusion (page_within tree 15 (setting_for script res) [] blocks)

-- those that aren't there are counted too: the page of a script that is one include, which leads to no script, is one inclusion and no text
abbrev pub MissingScriptsAreCounted : Type 0
MissingScriptsAreCounted = (tree : Content) (setting : ScriptSetting) (own : List Block) (name : Text)
    → blocks_parts (bindings_at setting []) own ≡ Script name [] ∷ [] → ((script : Segments) (blocks : List Block) → LeadsToScript tree setting name script blocks → ⊥)
    → page_of tree setting own ≡ one_inclusion

-- and so is the page of one that is one resource, which leads to none with a script
abbrev pub MissingResourcesAreCounted : Type 0
MissingResourcesAreCounted = (tree : Content) (setting : ScriptSetting) (own : List Block) (name : Text)
    → blocks_parts (bindings_at setting []) own ≡ ResourcePart name ∷ [] → ((res : Resource) (script : Segments) (blocks : List Block) → LeadsToResource tree setting name res script blocks → ⊥)
    → page_of tree setting own ≡ one_inclusion
