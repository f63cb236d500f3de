-- What is put in.
use Rattle.std.proofs.Common.{◌≡◌, ℕ, suc, Bool, true, false, cond, List, [], Option, Some, None, IfSome, IfNone, Result, Ok, Err, refl, ap, ◌∙◌}
use Rattle.std.specs.Prelude.{option_and_then}
use Rattle.std.specs.Result.{result_ok}
use Rattle.sp_base.specs.Paths.{name_of, parent_of}
use Rattle.sp_base.specs.Texts.{Pairs, Segments, Text}
use Rattle.resource_tree.specs.Content.{Content}
use Rattle.resource_tree.specs.Seen.{Resource}
use Rattle.overlay_merge.specs.Merged.{merged_resource}
use Rattle.type_chain.specs.Chain.{chain_of}
use Rattle.type_chain.specs.declared.type_name.TypeName.{TypeName}
use Rattle.url_split.specs.declared.decompose.Parts.{Parts}
use Rattle.script_rank.specs.Ranking.{HasNoCandidate, IsFirstScript, is_script_name, script_text}
use Rattle.script_rank.specs.Search.{search_result as first_script}
use Rattle.htl_blocks.specs.declared.block.Block.{Block}
use Rattle.htl_blocks.specs.declared.fault.BlockFault.{BlockFault}
use Rattle.htl_blocks.specs.Parts.{Part, Script, Resource as ResourcePart}
use Rattle.htl_blocks.specs.Reading.{blocks_of, most_nested_blocks}
use Rattle.htl_blocks.specs.Spelling.{SpellsBlocks}
use Rattle.publisher.specs.Pages.{ScriptSetting, html_parts, included_resource, included_script, inclusion, joined, one_inclusion, parts_page, path_named, setting_for, put_in, readable_blocks, resource_by, script_blocks, written_resource, written_at, written_page}
use Rattle.publisher.proofs.PageLemmas.{joined_blank, resource_is, script_is}
use Rattle.publisher.proofs.ScriptLaw.{found_first}
use Rattle.page_laws.specs.Inclusions.{HasScript, ScriptsStandForTheSameResource, ResourcesStandByTheirFirstScript, NothingStandsForMissingScripts, NothingStandsForMissingResources, PagesOfOneIncludeAreThatScripts, PagesOfOneResourceAreThatResources, MissingScriptsAreCounted, MissingResourcesAreCounted}

-- what the layers below say: a script is read as the blocks that it spells, and the search finds the script that ranks first
pub record Known : Type 0 where
  pub spelled : (text : Text) (bs : List Block) → blocks_of text ≡ Ok bs → SpellsBlocks most_nested_blocks text bs
  pub spelled_only : (text : Text) (bs : List Block) → SpellsBlocks most_nested_blocks text bs → blocks_of text ≡ Ok bs
  pub first : (tree : Content) (chain : List TypeName) (parts : Parts) → IfSome (first_script tree chain parts) (IsFirstScript tree chain parts)
  pub none : (tree : Content) (chain : List TypeName) (parts : Parts) → IfNone (first_script tree chain parts) (HasNoCandidate tree chain parts)
  pub one : (tree : Content) (chain : List TypeName) (parts : Parts) (p q : Segments) → IsFirstScript tree chain parts p → IsFirstScript tree chain parts q → p ≡ q

-- ---- the script at a path

blocks_there : Known → (tree : Content) (path : Segments) (blocks : List Block) → HasScript tree path blocks → script_blocks tree path ≡ Some blocks
unfolding script_blocks
blocks_there known tree path blocks x = rw x.named (rw x.there (ap result_ok (known.spelled_only x.text blocks x.spelled)))

read_there : Known → (tree : Content) (path : Segments) (text : Text) (blocks : List Block) → is_script_name (name_of path) ≡ true → script_text tree path ≡ Some text → readable_blocks text ≡ Some blocks → HasScript tree path blocks
read_there known tree path text blocks named there e = go (blocks_of text) refl e
  where
    go : (r : Result (List Block) BlockFault) → blocks_of text ≡ r → result_ok r ≡ Some blocks → HasScript tree path blocks
    go (Ok bs) is f = let same : bs ≡ blocks = cc in record { text = text; named = named; there = there; spelled = known.spelled text blocks (is ∙ ap Ok same) }
    go (Err fault) is f = absurd cc

there_found : Known → (tree : Content) (path : Segments) (blocks : List Block) → script_blocks tree path ≡ Some blocks → HasScript tree path blocks
unfolding script_blocks
there_found known tree path blocks e = named (is_script_name (name_of path)) refl e
  where
    text_there : (o : Option Text) → is_script_name (name_of path) ≡ true → script_text tree path ≡ o → option_and_then readable_blocks o ≡ Some blocks → HasScript tree path blocks
    text_there None is there f = absurd cc
    text_there (Some text) is there f = read_there known tree path text blocks is there f

    named : (b : Bool) → is_script_name (name_of path) ≡ b → cond b (option_and_then readable_blocks (script_text tree path)) None ≡ Some blocks → HasScript tree path blocks
    named true is f = text_there (script_text tree path) is refl f
    named false is f = absurd cc

none_there : Known → (tree : Content) (path : Segments) → ((blocks : List Block) → HasScript tree path blocks → ⊥) → script_blocks tree path ≡ None
none_there known tree path apart = go (script_blocks tree path) refl
  where
    go : (o : Option (List Block)) → script_blocks tree path ≡ o → o ≡ None
    go None is = refl
    go (Some blocks) is = absurd (apart blocks (there_found known tree path blocks is))

-- ---- one part

put_in_stands : (tree : Content) (levels : ℕ) (setting : ScriptSetting) (p : Part) (at : ScriptSetting) (vars : Pairs) (blocks : List Block) → put_in tree setting p ≡ written_at at vars (Some blocks)
    → inclusion tree (suc levels) setting p ≡ written_page (inclusion tree levels) (written_at at vars (Some blocks))
unfolding inclusion
put_in_stands tree levels setting p at vars blocks e = ap (written_page (inclusion tree levels)) e

nothing_stands : (tree : Content) (levels : ℕ) (setting : ScriptSetting) (p : Part) → put_in tree setting p ≡ None → inclusion tree (suc levels) setting p ≡ written_page (inclusion tree levels) None
unfolding inclusion
nothing_stands tree levels setting p e = ap (written_page (inclusion tree levels)) e

pub scripts_stand : Known → ScriptsStandForTheSameResource
scripts_stand known tree levels setting name vars script blocks x =
    let at : ScriptSetting = record setting { script = script } in
    put_in_stands tree levels setting (Script name vars) at vars blocks (ap (included_script tree setting vars) x.named ∙ ap (written_at at vars) (blocks_there known tree script blocks x.has))

first_is : Known → (tree : Content) (res : Resource) (script : Segments) → IsFirstScript tree (chain_of tree res.props) (html_parts res.path) script → first_script tree (chain_of tree res.props) (html_parts res.path) ≡ Some script
first_is known tree res script first =
    let chain = chain_of tree res.props in
    let parts = html_parts res.path in
    found_first tree chain parts script (first_script tree chain parts) (known.one tree chain parts) (known.first tree chain parts) (known.none tree chain parts) first

pub resources_stand : Known → ResourcesStandByTheirFirstScript
resources_stand known tree levels setting name res script blocks x =
    put_in_stands tree levels setting (ResourcePart name) (setting_for script res) [] blocks
    (ap (included_resource tree) x.named ∙ ap (written_resource tree) x.seen ∙ ap (resource_by tree res) (first_is known tree res script x.first) ∙ ap (written_at (setting_for script res) []) (blocks_there known tree script blocks x.has))

pub no_script_stands : Known → NothingStandsForMissingScripts
no_script_stands known tree levels setting name vars apart = nothing_stands tree levels setting (Script name vars) (go (path_named (parent_of setting.script) name) refl)
  where
    go : (o : Option Segments) → path_named (parent_of setting.script) name ≡ o → included_script tree setting vars o ≡ None
    go None is = refl
    go (Some script) is = ap (written_at (record setting { script = script }) vars) (none_there known tree script (λ blocks has. apart script blocks (record { named = is; has = has })))

pub no_resource_stands : Known → NothingStandsForMissingResources
no_resource_stands known tree levels setting name apart = nothing_stands tree levels setting (ResourcePart name) (named (path_named setting.path name) refl)
  where
    scripted : (path : Segments) (res : Resource) → path_named setting.path name ≡ Some path → merged_resource tree path ≡ Some res
        → (o : Option Segments) → IfSome o (IsFirstScript tree (chain_of tree res.props) (html_parts res.path)) → resource_by tree res o ≡ None
    scripted path res is seen None first = refl
    scripted path res is seen (Some script) first =
        ap (written_at (setting_for script res) []) (none_there known tree script (λ blocks has. apart res script blocks (record { path = path; named = is; seen = seen; first = first; has = has })))

    shown : (path : Segments) → path_named setting.path name ≡ Some path → (o : Option Resource) → merged_resource tree path ≡ o → written_resource tree o ≡ None
    shown path is None seen = refl
    shown path is (Some res) seen = scripted path res is seen (first_script tree (chain_of tree res.props) (html_parts res.path)) (known.first tree (chain_of tree res.props) (html_parts res.path))

    named : (o : Option Segments) → path_named setting.path name ≡ o → included_resource tree o ≡ None
    named None is = refl
    named (Some path) is = shown path is (merged_resource tree path) refl

-- ---- whole pages

pub include_page : Known → PagesOfOneIncludeAreThatScripts
include_page known tree setting own name script blocks is x =
    ap (parts_page (inclusion tree 16 setting)) is ∙ script_is (inclusion tree 16 setting) name [] ∙ ap (joined one_inclusion) (scripts_stand known tree 15 setting name [] script blocks x)

pub resource_page : Known → PagesOfOneResourceAreThatResources
resource_page known tree setting own name res script blocks is x =
    ap (parts_page (inclusion tree 16 setting)) is ∙ resource_is (inclusion tree 16 setting) name ∙ ap (joined one_inclusion) (resources_stand known tree 15 setting name res script blocks x)

pub no_include_page : Known → MissingScriptsAreCounted
no_include_page known tree setting own name is apart =
    ap (parts_page (inclusion tree 16 setting)) is ∙ script_is (inclusion tree 16 setting) name [] ∙ ap (joined one_inclusion) (no_script_stands known tree 15 setting name [] apart) ∙ joined_blank one_inclusion

pub no_resource_page : Known → MissingResourcesAreCounted
no_resource_page known tree setting own name is apart =
    ap (parts_page (inclusion tree 16 setting)) is ∙ resource_is (inclusion tree 16 setting) name ∙ ap (joined one_inclusion) (no_resource_stands known tree 15 setting name apart) ∙ joined_blank one_inclusion
