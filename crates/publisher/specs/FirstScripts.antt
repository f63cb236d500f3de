-- The scripts that rank first, each of which a publisher remembers once it was searched for. What is answered needs none of it: only private
-- types and functions and proofs cite this.
use Rattle.std.specs.Prelude.{◌≡◌, ◌==◌, ◌&&◌, ◌||◌, ℕ, Bool, true, List, Option, Some, None, is_some, length, nat_eq, option_and_then}
use Rattle.std.specs.Map.{lookup}
use Rattle.sp_base.specs.Texts.{Properties, Segments}
use Rattle.resource_tree.specs.Content.{Content, node_at}
use Rattle.resource_tree.specs.Patches.{PatchEntries, left_by, patching_at}
use Rattle.resource_tree.specs.declared.nodes.Node.{Node}
use Rattle.resource_tree.specs.declared.patch.PatchNode.{PatchNode}
use Rattle.url_split.specs.declared.decompose.Parts.{Parts}
use Rattle.type_chain.specs.Chain.{chain_of, own_super, type_text}
use Rattle.script_rank.specs.Index.{ScriptPathsChange}
use Rattle.script_rank.specs.Search.{search_result}
use Rattle.publisher.specs.declared.first_scripts.FirstScript.{FirstScript}

-- scripts that are remembered, each under a number
abbrev pub KeptFirsts : Type 0
KeptFirsts = List (ℕ × FirstScript)

-- how many are remembered at most
abbrev pub most_firsts : ℕ
most_firsts = 4096

-- the one that is remembered under a number
abbrev pub first_at : KeptFirsts → ℕ → Option FirstScript
first_at firsts number = lookup (nat_eq number) firsts

-- it is that of a resource with these properties, for a request with these parts: all that the search asks beside the tree is the same
pub record IsKeptFor (first : FirstScript) (props : Properties) (parts : Parts) : Type 0 where
  pub type : first.type_text ≡ type_text props
  pub super : first.super_text ≡ own_super props
  pub selectors : first.selectors ≡ parts.selectors
  pub extension : first.extension ≡ parts.extension

-- it is what the search finds
abbrev pub IsFirst : Content → FirstScript → Type 0
IsFirst tree first = (props : Properties) (parts : Parts) → IsKeptFor first props parts → search_result tree (chain_of tree props) parts ≡ first.script

-- each that is remembered is
abbrev pub AreFirst : Content → KeptFirsts → Type 0
AreFirst tree firsts = (number : ℕ) (first : FirstScript) → first_at firsts number ≡ Some first → IsFirst tree first

-- no script is remembered that wasn't before
abbrev pub AreAmongFirsts : KeptFirsts → KeptFirsts → Type 0
AreAmongFirsts old new = (number : ℕ) (first : FirstScript) → first_at new number ≡ Some first → first_at old number ≡ Some first

-- ---- what a patch changes of the types

-- the text of the super type that a node names
abbrev pub super_in : Option Node → Option (List ℕ)
super_in node = option_and_then (λ node. own_super node.props) node

-- whether a node names a super type at the path of an entry, before the patch or after it
abbrev pub names_super : Content → Segments × PatchNode → Bool
names_super tree entry = is_some (super_in (node_at tree entry.0)) || is_some (super_in (left_by (Some entry.1) None))

-- no node names another super type after a patch
abbrev pub KeepsSupers : Content → PatchEntries → Type 0
KeepsSupers tree patch = (path : Segments) → super_in (patching_at tree patch path) ≡ super_in (node_at tree path)

-- a patch makes no script, and takes none away
abbrev pub ChangesNoScript : ScriptPathsChange → Type 0
ChangesNoScript change = (length change.added == 0 && length change.gone == 0) ≡ true
