-- A page: what a script writes for a resource, with what the scripts and resources write that are put in, one in another
-- (HTML Template Language specification 1.4, "Block Statements", include and resource).
use Rattle.std.specs.Prelude.{ℕ, zero, suc, ◌+◌, Bool, true, false, nat_lt, ◌||◌, if◌then◌else◌, List, [], ◌∷◌, ◌++◌, codes, Option, Some, None, option_and_then}
use Rattle.std.specs.Result.{result_ok}
use Rattle.sp_base.specs.Bytes.{begins_with_byte}
use Rattle.sp_base.specs.Paths.{child_of, name_of, parent_of, path_of, text_of}
use Rattle.sp_base.specs.Texts.{Pairs, Properties, Segments, Text}
use Rattle.resource_tree.specs.Content.{Content}
use Rattle.resource_tree.specs.Seen.{Resource}
use Rattle.overlay_merge.specs.Merged.{merged_resource}
use Rattle.url_split.specs.declared.decompose.Parts.{Parts}
use Rattle.type_chain.specs.Chain.{chain_of, type_text}
use Rattle.script_rank.specs.Ranking.{is_script_name, script_text}
use Rattle.script_rank.specs.Search.{search_result as first_script}
use Rattle.htl_expr.specs.Bindings.{Bindings}
use Rattle.htl_blocks.specs.declared.block.Block.{Block}
use Rattle.htl_blocks.specs.Parts.{Part, Byte, Round, Script, Resource as ResourcePart}
use Rattle.htl_blocks.specs.Reading.{blocks_of}
use Rattle.htl_blocks.specs.Refused.{most_inclusions, most_rounds}
use Rattle.htl_blocks.specs.Written.{blocks_parts}

-- ---- where scripts stand

-- where a script stands: its path, and the path and the properties of the resource that it is for
pub record ScriptSetting : Type 0 where
  pub script : Segments
  pub path : Segments
  pub props : Properties

-- a script for a resource
abbrev pub setting_for : Segments → Resource → ScriptSetting
setting_for script res = record { script = script; path = res.path; props = res.props }

-- what the expressions of a setting see, with variables
abbrev pub bindings_at : ScriptSetting → Pairs → Bindings
bindings_at setting vars = record { props = setting.props; path = text_of setting.path; name = name_of setting.path; resource_type = type_text setting.props; vars = vars }

-- a setting, and what a script writes there
pub record Written : Type 0 where
  pub setting : ScriptSetting
  pub parts : List Part

-- the same of blocks that may not be there
abbrev pub written_at : ScriptSetting → Pairs → Option (List Block) → Option Written
written_at setting vars None = None
written_at setting vars (Some blocks) = Some (record { setting = setting; parts = blocks_parts (bindings_at setting vars) blocks })

-- the blocks of a text that has a reading
abbrev pub readable_blocks : Text → Option (List Block)
readable_blocks text = result_ok (blocks_of text)

-- the blocks of the script at a path, if one is there and has a reading
unfoldable pub script_blocks : Content → Segments → Option (List Block)
script_blocks tree path = if is_script_name (name_of path) then option_and_then readable_blocks (script_text tree path) else None

-- what the script of a setting writes there with variables, if it is there and has a reading
abbrev pub written_by_script : Content → ScriptSetting → Pairs → Option Written
written_by_script tree setting vars = written_at setting vars (script_blocks tree setting.script)

-- ---- what is put in

-- the path that a name stands for: the one that it spells, where it begins with a slash, or else the one below a folder
unfoldable pub path_named : Segments → Text → Option Segments
path_named folder name = result_ok (if begins_with_byte 47 name then path_of name else child_of folder name)

-- a script on the resource of a setting, with variables
abbrev pub included_script : Content → ScriptSetting → Pairs → Option Segments → Option Written
included_script tree setting vars None = None
included_script tree setting vars (Some script) = written_by_script tree (record setting { script = script }) vars

-- a URL that asks for the resource at a path with the extension html
abbrev pub html_parts : Segments → Parts
html_parts path = record { path = path; selectors = []; extension = codes "html"; suffix = [] }

-- a resource by a script, without variables
abbrev pub resource_by : Content → Resource → Option Segments → Option Written
resource_by tree res None = None
resource_by tree res (Some script) = written_by_script tree (setting_for script res) []

-- what is seen at a path, by the script that ranks first for it with the extension html
abbrev pub written_resource : Content → Option Resource → Option Written
written_resource tree None = None
written_resource tree (Some res) = resource_by tree res (first_script tree (chain_of tree res.props) (html_parts res.path))

-- the resource at a path
abbrev pub included_resource : Content → Option Segments → Option Written
included_resource tree None = None
included_resource tree (Some path) = written_resource tree (merged_resource tree path)

-- What a part puts in in a setting, if there is something to put in. A script's name is one below the folder of the script that names it, a
-- resource's one below the resource.
abbrev pub put_in : Content → ScriptSetting → Part → Option Written
put_in tree setting (Byte c) = None
put_in tree setting Round = None
put_in tree setting (Script name vars) = included_script tree setting vars (path_named (parent_of setting.script) name)
put_in tree setting (ResourcePart name) = included_resource tree (path_named setting.path name)

-- ---- what a page gathers

-- its text; how many scripts and resources were to be put in; how often the contents of lists stood; and whether something was to be put
-- in where nothing may be any more
pub record GatheredPage : Type 0 where
  pub text : Text
  pub inclusions : ℕ
  pub rounds : ℕ
  pub is_deep : Bool

-- nothing
abbrev pub blank : GatheredPage
blank = record { text = []; inclusions = 0; rounds = 0; is_deep = false }

-- a text
abbrev pub text_page : Text → GatheredPage
text_page text = record { text = text; inclusions = 0; rounds = 0; is_deep = false }

-- contents of lists, by themselves
abbrev pub rounds_page : ℕ → GatheredPage
rounds_page rounds = record { text = []; inclusions = 0; rounds = rounds; is_deep = false }

-- something that is to be put in, by itself
abbrev pub one_inclusion : GatheredPage
one_inclusion = record { text = []; inclusions = 1; rounds = 0; is_deep = false }

-- what is to be put in where nothing may be any more
abbrev pub too_deep : GatheredPage
too_deep = record { text = []; inclusions = 0; rounds = 0; is_deep = true }

-- one after the other
abbrev pub joined : GatheredPage → GatheredPage → GatheredPage
joined a b = record { text = a.text ++ b.text; inclusions = a.inclusions + b.inclusions; rounds = a.rounds + b.rounds; is_deep = a.is_deep || b.is_deep }

-- what a part gives, where this is given for what it puts in
abbrev pub part_page : (Part → GatheredPage) → Part → GatheredPage
part_page inclusion (Byte c) = text_page (c ∷ [])
part_page inclusion Round = rounds_page 1
part_page inclusion (Script name vars) = joined one_inclusion (inclusion (Script name vars))
part_page inclusion (ResourcePart name) = joined one_inclusion (inclusion (ResourcePart name))

-- what parts give, one after another
unfoldable pub parts_page : (Part → GatheredPage) → List Part → GatheredPage
parts_page inclusion [] = blank
parts_page inclusion (p ∷ ps) = joined (part_page inclusion p) (parts_page inclusion ps)

-- what is put in, whose own parts stand in its own setting; where there is nothing to put in, nothing stands
abbrev pub written_page : (ScriptSetting → Part → GatheredPage) → Option Written → GatheredPage
written_page inner None = blank
written_page inner (Some written) = parts_page (inner written.setting) written.parts

-- what stands for a part that puts something in, where so many scripts and resources may still stand one in another
unfoldable pub inclusion : Content → ℕ → ScriptSetting → Part → GatheredPage
inclusion tree zero setting p = too_deep
inclusion tree (suc levels) setting p = written_page (inclusion tree levels) (put_in tree setting p)

-- how many scripts and resources may stand one in another, in the script of the page itself
abbrev pub most_levels : ℕ
most_levels = 16

-- the page of a script in a setting, which has these blocks and sees no variables
abbrev pub page_of : Content → ScriptSetting → List Block → GatheredPage
page_of tree setting blocks = parts_page (inclusion tree most_levels setting) (blocks_parts (bindings_at setting []) blocks)

-- something was to be put in too deep, too much was put in, or the contents of lists stood too often
abbrev pub is_over : GatheredPage → Bool
is_over page = page.is_deep || (nat_lt most_inclusions page.inclusions || nat_lt most_rounds page.rounds)
