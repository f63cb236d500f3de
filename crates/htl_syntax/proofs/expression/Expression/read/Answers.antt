use Rattle.std.proofs.Common.{rules}
use Rattle.htl_syntax.specs.Grammar.{nesting_limit}
use Rattle.htl_syntax.proofs.Unique.{only_ok, only_err}
use Rattle.htl_syntax.proofs.Faults.{unexpected_is, too_deep_is}
use Rattle.htl_syntax.proofs.WholeRead.{read_sound}
use Rattle.htl_syntax.proofs.expression.Expression.read.Goals as goal

pub returns-in-Ok-clause-found : goal.returns-in-Ok-clause-found
returns-in-Ok-clause-found c = read_sound nesting_limit c.args.text.now c.in-Ok.e c.in-Ok.ensures

pub returns-in-Ok-clause-only : goal.returns-in-Ok-clause-only
returns-in-Ok-clause-only c = only_ok nesting_limit c.args.text.now c.in-Ok.e c.in-Ok.ensures

pub returns-in-Ok-place_of-clause-only : goal.returns-in-Ok-place_of-clause-only
returns-in-Ok-place_of-clause-only c = only_err nesting_limit c.args.text.now _ (rw c.in-Err-Unexpected.field-0-is at c.in-Err-Unexpected.ensures)

pub returns-in-Err-TooDeep-clause-only : goal.returns-in-Err-TooDeep-clause-only
returns-in-Err-TooDeep-clause-only c = only_err nesting_limit c.args.text.now _ (rw c.in-Err-TooDeep.field-0-is at c.in-Err-TooDeep.ensures)

pub returns-in-Ok-place_of-clause-fault : goal.returns-in-Ok-place_of-clause-fault
returns-in-Ok-place_of-clause-fault c = unexpected_is c.args.text.now _ _ (rw c.in-Err-Unexpected.field-0-is at c.in-Err-Unexpected.ensures) (search rules)

pub returns-in-Err-TooDeep-clause-fault : goal.returns-in-Err-TooDeep-clause-fault
returns-in-Err-TooDeep-clause-fault c = too_deep_is c.args.text.now _ _ (rw c.in-Err-TooDeep.field-0-is at c.in-Err-TooDeep.ensures) (search rules)
