-- How the fault of a change is written.
use Rattle.std.specs.Prelude.{◌++◌, ℕ, List, codes}
use Rattle.sp_base.specs.Paths.{text_of}
use Rattle.resource_tree.specs.declared.faults.TreeFault.{TreeFault}
use Rattle.resource_tree.specs.declared.faults.TreeFault.TheVariants.{NoSuch, RootFixed, IntoItself, Exists, Taken, NoSibling, TooDeep, FullTree, NoMemory}

-- by its name, and with the path that it is about
abbrev pub tree_fault_text : TreeFault → List ℕ
tree_fault_text (NoSuch path) = codes "NoSuch at " ++ text_of path
tree_fault_text RootFixed = codes "RootFixed"
tree_fault_text IntoItself = codes "IntoItself"
tree_fault_text (Exists path) = codes "Exists at " ++ text_of path
tree_fault_text (Taken path) = codes "Taken at " ++ text_of path
tree_fault_text NoSibling = codes "NoSibling"
tree_fault_text TooDeep = codes "TooDeep"
tree_fault_text FullTree = codes "FullTree"
tree_fault_text NoMemory = codes "Out of memory"
