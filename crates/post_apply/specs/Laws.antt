-- What holds of every POST.
use Rattle.std.specs.Prelude.{◌≡◌, ◌<◌, ◌^◌, ℕ, Bool, true, false, List, IsTrue, IfErr}
use Rattle.sp_base.specs.Texts.{Segments}
use Rattle.resource_tree.specs.declared.faults.TreeFault.{TreeFault}
use Rattle.resource_tree.specs.declared.faults.TreeFault.TheVariants.{NoMemory as NoMemoryOfTree}
use Rattle.resource_tree.specs.Content.{Content, IsGood}
use Rattle.post_plan.specs.declared.operation.Op.{Op}
use Rattle.post_plan.specs.declared.operation.NameWish.TheVariants.{Hint}
use Rattle.post_plan.specs.OperationPaths.{names_paths}
use Rattle.post_apply.specs.declared.fault.ApplyFault.{ApplyFault}
use Rattle.post_apply.specs.declared.fault.ApplyFault.TheVariants.{Tree, Value, DestThere, NoMemory}
use Rattle.post_apply.specs.Names.{is_taken, most_taken, name_given, numbered_name}
use Rattle.post_apply.specs.Posting.{content_after, post_outcome}

-- an operation whose paths are paths leaves a good content good
abbrev pub OperationsKeepContentGood : Type 0
OperationsKeepContentGood = (op : Op) (tree : Content) → IsTrue (names_paths op) → IsGood tree → IsGood (content_after op tree)

-- whether a tree's fault is that memory ran out
abbrev pub is_tree_out_of_memory : TreeFault → Bool
is_tree_out_of_memory NoMemoryOfTree = true
is_tree_out_of_memory _ = false

-- a fault that is no cause of the content's or the form's
abbrev pub is_post_out_of_memory : ApplyFault → Bool
is_post_out_of_memory (Tree fault) = is_tree_out_of_memory fault
is_post_out_of_memory (Value name fault) = false
is_post_out_of_memory (DestThere path) = false
is_post_out_of_memory NoMemory = true

-- what an operation is refused for is never out of memory
abbrev pub RefusalsHaveCauses : Type 0
RefusalsHaveCauses = (op : Op) (tree : Content) → IfErr (post_outcome op tree) (λ fault. is_post_out_of_memory fault ≡ false)

-- what is made of a hint isn't taken; it is the hint where that isn't, and else has the least number with which it isn't
pub record IsMadeName (tree : Content) (parent : Segments) (hint made : List ℕ) : Type 0 where
  pub free : is_taken tree parent made ≡ false
  pub bare : is_taken tree parent hint ≡ false → made ≡ hint
  pub least : is_taken tree parent hint ≡ true → (n : ℕ) × (made ≡ numbered_name hint n) × ((m : ℕ) → m < n → is_taken tree parent (numbered_name hint m) ≡ true)

-- in a good content a new node gets such a name, below a node with fewer than 2^64 kids and properties: no node in memory has more
abbrev pub MadeNamesAreLeast : Type 0
MadeNamesAreLeast = (tree : Content) (parent : Segments) (hint : List ℕ) → IsGood tree → most_taken tree parent < 2 ^ 64 → IsMadeName tree parent hint (name_given tree parent (Hint hint))
