-- When a call of a world or of inputs may answer that it failed.
use Rattle.std.specs.Prelude.{◌≡◌, ◌+◌, ◌≤◌, ℕ, Result, Ok, Err, min}
use Rattle.sp_base.specs.Limits.{greatest_u64}
use Rattle.sp_outside.specs.Causes.{Rose}
use Rattle.outside_world.specs.declared.world.WorldFault.{WorldFault}
use Rattle.outside_world.specs.declared.world.WorldFault.TheVariants.{Failed as next_failed, NoMemory as next_memory}
use Rattle.outside_world.specs.declared.world.SendFault.{SendFault}
use Rattle.outside_world.specs.declared.world.SendFault.TheVariants.{Failed as send_failed, NoMemory as send_memory}
use Rattle.outside_world.specs.declared.inputs.InputFault.{InputFault}
use Rattle.outside_world.specs.declared.inputs.InputFault.TheVariants.{Failed as input_failed}

-- `next` answers Failed only where its count rose, or stands at its end, and any other answer leaves the count.
abbrev pub HasNextCause : {T : Type 0} → ℕ → ℕ → Result T WorldFault → Type 0
HasNextCause before after (Ok _) = after ≡ before
HasNextCause before after (Err next_failed) = Rose before after
HasNextCause before after (Err next_memory) = after ≡ before

-- the same of a sending
abbrev pub HasSendCause : {T : Type 0} → ℕ → ℕ → Result T SendFault → Type 0
HasSendCause before after (Ok _) = after ≡ before
HasSendCause before after (Err send_failed) = Rose before after
HasSendCause before after (Err send_memory) = after ≡ before

-- the same of inputs, where a file that is too long leaves the count too
abbrev pub HasInputCause : {T : Type 0} → ℕ → ℕ → Result T InputFault → Type 0
HasInputCause before after (Err input_failed) = Rose before after
HasInputCause before after _ = after ≡ before

-- a count of faults rose by at least this much, or stands at its end
abbrev pub HasRisenBy : ℕ → ℕ → ℕ → Type 0
HasRisenBy n before after = (before ≤ after) × (min (before + n) greatest_u64 ≤ after)
