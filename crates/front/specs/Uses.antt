-- How a call uses a disk. (Of the theorem's reader this file is no concern.)
use Rattle.std.specs.Prelude.{◌≤◌, ℕ, List, Option}
use Rattle.docroot_changes.specs.DocrootCalls.{MakesDocrootCalls}
use Rattle.sp_outside.specs.Calls.{Call}

-- The disk's count of faults, this one and then that, hasn't fallen; and between these calls and those each was one that the cache may make.
pub record UsesDisk (before after : ℕ) (asked made : Option (List Call)) : Type 0 where
  pub count : before ≤ after
  pub calls : MakesDocrootCalls asked made
