use Rattle.std.proofs.Common.{◌∙◌, ap}
use Rattle.std.specs.FinMap.{keys}
use Rattle.sp_base.proofs.ResultLemmas.{IfOk-then}
use Rattle.sp_outside.specs.DiskMemory.{DiskState}
use Rattle.sp_outside.proofs.Listed.{all_names_of}
use Rattle.sp_outside.proofs.mem_disk.MemDisk.all_names.Goals as goal

pub returns : goal.returns
returns c = IfOk-then c.all.result (λ names is. all_names_of c.args.self.now.files names (is ∙ ap (λ (d : DiskState). keys d.files) c.self.view_is)) c.all.ensures
