-- The fault of an operation that is one of its tree. Only `From` and proofs cite this.
use Rattle.resource_tree.specs.declared.faults.TreeFault.{TreeFault}
use Rattle.resource_tree.specs.declared.faults.TreeFault.TheVariants.{NoSuch, RootFixed, IntoItself, Exists, Taken, NoSibling, TooDeep, FullTree, NoMemory}
use Rattle.post_apply.specs.declared.fault.ApplyFault.{ApplyFault}
use Rattle.post_apply.specs.declared.fault.ApplyFault.TheVariants.{Tree, NoMemory as out_of_memory}

-- the tree's fault, where memory didn't run out
abbrev pub apply_fault : TreeFault → ApplyFault
apply_fault (NoSuch path) = Tree (NoSuch path)
apply_fault RootFixed = Tree RootFixed
apply_fault IntoItself = Tree IntoItself
apply_fault (Exists path) = Tree (Exists path)
apply_fault (Taken path) = Tree (Taken path)
apply_fault NoSibling = Tree NoSibling
apply_fault TooDeep = Tree TooDeep
apply_fault FullTree = Tree FullTree
apply_fault NoMemory = out_of_memory
