use Rattle.std.proofs.Common.{◌≡◌, ◌≤◌, true}
use Rattle.sp_outside.specs.FolderFiles.{files_held}
use Rattle.sp_outside.proofs.folder_disk.FolderDisk.names_listed.Given as goal

abbrev pub invariant-doubts : goal.invariant-doubts
invariant-doubts g l = record {
  same : files_held g.F.RawFiles.boot l.self ≡ files_held g.F.RawFiles.boot l.initial.self;
  known : l.self.is_known ≡ true;
  begun : l.self.is_open ≡ true;
  count : l.self.failed ≡ l.initial.self.failed;
  below : l.self.below ≡ l.initial.self.below;
  rising : l.initial.self.faults ≤ l.self.faults;
}
