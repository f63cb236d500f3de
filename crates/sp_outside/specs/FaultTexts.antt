-- How the faults of sources, sinks and disks are written.
use Rattle.std.specs.Prelude.{ℕ, List, codes}
use Rattle.sp_outside.specs.declared.source.SourceFault.{SourceFault}
use Rattle.sp_outside.specs.declared.source.SourceFault.TheVariants as source
use Rattle.sp_outside.specs.declared.sink.SinkFault.{SinkFault}
use Rattle.sp_outside.specs.declared.sink.SinkFault.TheVariants as sink
use Rattle.sp_outside.specs.declared.disk.DiskFault.{DiskFault}
use Rattle.sp_outside.specs.declared.disk.DiskFault.TheVariants as disk

-- in words
abbrev pub source_fault_text : SourceFault → List ℕ
source_fault_text source.Failed = codes "source failed"

-- in words
abbrev pub sink_fault_text : SinkFault → List ℕ
sink_fault_text sink.Failed = codes "sink failed"
sink_fault_text sink.NoMemory = codes "Out of memory"

-- in words
abbrev pub disk_fault_text : DiskFault → List ℕ
disk_fault_text disk.Failed = codes "disk failed"
disk_fault_text disk.NoMemory = codes "Out of memory"
