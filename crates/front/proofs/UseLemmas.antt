-- How calls use a disk, one after the other.
use Rattle.std.proofs.Common.{◌≡◌, ◌≤◌, ◌+◌, ◌++◌, ℕ, Bool, true, false, List, [], ◌∷◌, Option, Result, Ok, Err, refl, arith}
use Rattle.sp_outside.specs.Calls.{Call, told_call, told_calls}
use Rattle.sp_outside.specs.Causes.{IsDiskFailure}
use Rattle.cache_files.specs.Epochs.{HasOpenCause}
use Rattle.cache_files.specs.declared.epoch.OpenFault.{OpenFault}
use Rattle.cache_files.specs.declared.epoch.OpenFault.TheVariants as open_fault
use Rattle.docroot_changes.specs.DocrootCalls.{IsDocrootCall, MakesDocrootCalls}
use Rattle.docroot_changes.proofs.MadeCalls.{makes_more}
use Rattle.front.specs.Uses.{UsesDisk}

-- ---- which calls are made
pub calls-none : (x y : Option (List Call)) → y ≡ x → MakesDocrootCalls x y
calls-none x y e = ([], (tt, e))

pub calls-one : (x y : Option (List Call)) (call : Call) → IsDocrootCall call → y ≡ told_call x call → MakesDocrootCalls x y
calls-one x y call is e = (call ∷ [], ((is, tt), e))

told-append : (x : Option (List Call)) (a b : List Call) → told_calls x (a ++ b) ≡ told_calls (told_calls x a) b
told-append x [] b = refl
told-append x (call ∷ a) b = told-append (told_call x call) a b

-- ---- how the disk is used
pub uses-none : (faults : ℕ) (calls : Option (List Call)) → UsesDisk faults faults calls calls
uses-none faults calls = record { count = omega arith; calls = calls-none calls calls refl }

pub uses-then : (f g h : ℕ) (x y z : Option (List Call)) → UsesDisk f g x y → UsesDisk g h y z → UsesDisk f h x z
uses-then f g h x y z first then = record {
  count = (let one = first.count in let two = then.count in omega (arith, one, two));
  calls = makes_more x y z first.calls then.calls;
}

told-count : (before after : ℕ) (failed : Bool) → IsDiskFailure before after failed → before ≤ after
told-count before after true rose = rose.0
told-count before after false same = omega (arith, same)

pub uses-told : (before after : ℕ) (failed : Bool) (x y : Option (List Call)) → IsDiskFailure before after failed → MakesDocrootCalls x y → UsesDisk before after x y
uses-told before after failed x y told calls = record { count = told-count before after failed told; calls = calls }

open-count : {T : Type 0} (before after : ℕ) (opened : Result T OpenFault) → HasOpenCause before after opened → before ≤ after
open-count before after (Ok t) cause = omega (arith, cause)
open-count before after (Err open_fault.Disk) cause = cause.0
open-count before after (Err open_fault.Foreign) cause = omega (arith, cause)
open-count before after (Err open_fault.EpochEnd) cause = omega (arith, cause)
open-count before after (Err open_fault.NoMemory) cause = omega (arith, cause)

pub uses-open : {T : Type 0} (before after : ℕ) (opened : Result T OpenFault) (x y : Option (List Call)) → HasOpenCause before after opened → MakesDocrootCalls x y → UsesDisk before after x y
uses-open before after opened x y cause calls = record { count = open-count before after opened cause; calls = calls }
