-- When a call of the outside may answer that it failed.
use Rattle.std.specs.Prelude.{◌≡◌, ◌+◌, ◌≤◌, ℕ, Bool, true, false, Result, Ok, Err, min}
use Rattle.sp_base.specs.Limits.{greatest_u64}
use Rattle.sp_outside.specs.declared.source.SourceFault.{SourceFault}
use Rattle.sp_outside.specs.declared.source.SourceFault.TheVariants.{Failed as source_failed}
use Rattle.sp_outside.specs.declared.sink.SinkFault.{SinkFault}
use Rattle.sp_outside.specs.declared.sink.SinkFault.TheVariants.{Failed as sink_failed, NoMemory}
use Rattle.sp_outside.specs.declared.disk.DiskFault.{DiskFault}
use Rattle.sp_outside.specs.declared.disk.DiskFault.TheVariants.{Failed as disk_failed, NoMemory as out_of_memory}

-- one more, in a count that stands still at `greatest_u64`
abbrev pub next : ℕ → ℕ
next count = min (count + 1) greatest_u64

-- a count of faults rose, or stands at `greatest_u64`
abbrev pub Rose : ℕ → ℕ → Type 0
Rose before after = (before ≤ after) × (next before ≤ after)

-- Failed comes only where the count rose, or stands at its end, and any other answer leaves the count.
abbrev pub HasSourceCause : {T : Type 0} → ℕ → ℕ → Result T SourceFault → Type 0
HasSourceCause before after (Ok _) = after ≡ before
HasSourceCause before after (Err source_failed) = Rose before after

-- the same of a sink, where running out of memory leaves the count too
abbrev pub HasSinkCause : {T : Type 0} → ℕ → ℕ → Result T SinkFault → Type 0
HasSinkCause before after (Ok _) = after ≡ before
HasSinkCause before after (Err sink_failed) = Rose before after
HasSinkCause before after (Err NoMemory) = after ≡ before

-- the same of a disk
abbrev pub HasDiskCause : {T : Type 0} → ℕ → ℕ → Result T DiskFault → Type 0
HasDiskCause before after (Ok _) = after ≡ before
HasDiskCause before after (Err disk_failed) = Rose before after
HasDiskCause before after (Err out_of_memory) = after ≡ before

-- the disk is said to have failed exactly where its count of faults rose
abbrev pub IsDiskFailure : ℕ → ℕ → Bool → Type 0
IsDiskFailure before after true = Rose before after
IsDiskFailure before after false = after ≡ before
