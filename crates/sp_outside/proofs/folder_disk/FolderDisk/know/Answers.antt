use Rattle.std.proofs.Common.{◌∙◌, sym, ap}
use Rattle.sp_outside.specs.FolderFiles.{FolderState}
use Rattle.sp_outside.proofs.Indexed.{known_index}
use Rattle.sp_outside.proofs.folder_disk.FolderDisk.know.Goals as goal

pub names_found-requires : goal.names_found-requires
names_found-requires g c = sym (ap (λ (s : FolderState). s.is_known) c.self.view_is) ∙ c.if-self.false

-- the names that were found are those of the files, and none is in doubt
pub invariant_of-self : goal.invariant_of-self
invariant_of-self g c = record {
  begun = λ known. ap (λ (s : FolderState). s.is_open) c.self-2.view_is ∙ c.in_ok-self-inside.ensures.begun;
  index = λ known. known_index _ _ _ _ (ap (λ (s : FolderState). s.below) c.self-2.view_is) c.new.ensures c.in_ok-self-inside.ensures.index;
}
