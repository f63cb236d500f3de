-- The statuses of the POSTs that are refused (RFC 9110, section 15.5).
use Rattle.resource_tree.specs.declared.faults.TreeFault.{TreeFault}
use Rattle.resource_tree.specs.declared.faults.TreeFault.TheVariants.{NoSuch, NoMemory as NoMemoryOfTree}
use Rattle.form_input.specs.declared.fault.FormFault.{FormFault}
use Rattle.form_input.specs.declared.fault.FormFault.TheVariants.{WrongKind, NoMemory as NoMemoryOfForm}
use Rattle.post_plan.specs.declared.fault.PlanFault.{PlanFault}
use Rattle.post_plan.specs.declared.fault.PlanFault.TheVariants.{NoMemory as NoMemoryOfPlan}
use Rattle.post_apply.specs.declared.fault.ApplyFault.{ApplyFault}
use Rattle.post_apply.specs.declared.fault.ApplyFault.TheVariants.{Tree, Value, DestThere, NoMemory as NoMemoryOfOperation}
use Rattle.publisher.specs.declared.refusal.Refusal.{Refusal}
use Rattle.publisher.specs.declared.refusal.Refusal.TheVariants.{Status, NoMemory}

-- a body of another kind than a form's is an unsupported media type, a body that isn't well formed a bad request
abbrev pub of_form : FormFault → Refusal
of_form WrongKind = Status 415
of_form NoMemoryOfForm = NoMemory
of_form _ = Status 400

-- parameters that ask for no operation are a bad request
abbrev pub of_plan : PlanFault → Refusal
of_plan NoMemoryOfPlan = NoMemory
of_plan _ = Status 400

-- a node that isn't there isn't found; what else the tree refuses is a conflict
abbrev pub tree_refusal : TreeFault → Refusal
tree_refusal (NoSuch path) = Status 404
tree_refusal NoMemoryOfTree = NoMemory
tree_refusal _ = Status 409

-- words that are no value of their type are a bad request; a goal that is there and isn't to be replaced fails a precondition
abbrev pub of_operation : ApplyFault → Refusal
of_operation (Tree fault) = tree_refusal fault
of_operation (Value name fault) = Status 400
of_operation (DestThere path) = Status 412
of_operation NoMemoryOfOperation = NoMemory
