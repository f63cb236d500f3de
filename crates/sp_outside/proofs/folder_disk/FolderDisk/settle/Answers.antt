use Rattle.std.proofs.Common.{◌≡◌, sym, subst}
use Rattle.std.specs.Prelude.{IfSome}
use Rattle.std.specs.FinMap.{contains_key, remove}
use Rattle.sp_outside.specs.FolderFiles.{disk_files}
use Rattle.sp_outside.specs.NameIndex.{NameSet}
use Rattle.sp_outside.proofs.Indexed.{Knows, settled_gone, settled_there, still_knows}
use Rattle.sp_outside.proofs.folder_disk.FolderDisk.settle.Goals as goal

pub invariant_of-self : goal.invariant_of-self
invariant_of-self g c = record {
  begun = c.self.invariant.begun;
  index = λ known. still_knows _ _ _ _ c.has_file.ensures.same (c.self.invariant.index known);
}

pub invariant_of-self-then-branch : goal.invariant_of-self-then-branch
invariant_of-self-then-branch g c = record {
  begun = c.self.invariant.begun;
  index = λ known. subst (λ (doubts : NameSet). Knows (g.F.RawFiles.files c.has_file.new.below) c.self.inside.names doubts) (sym c.remove.ensures)
      (settled_there (g.F.RawFiles.files c.self.inside.below) _ c.self.inside.names c.self.inside.doubts c.args.name.now c.has_file.ensures.same
      (subst (λ b. IfSome (g.F.RawFiles.files c.self.inside.below) (λ files. b ≡ contains_key (disk_files files) c.args.name.now)) c.if-branch.true c.in_ok-has_file.ensures.value)
      (c.self.invariant.index known));
}

pub invariant_of-self-2 : goal.invariant_of-self-2
invariant_of-self-2 g c = record {
  begun = c.self.invariant.begun;
  index = λ known. subst (λ (names : NameSet). Knows (g.F.RawFiles.files c.has_file.new.below) names c.remove-3.new.self) (sym c.remove-2.ensures)
      (subst (λ (doubts : NameSet). Knows (g.F.RawFiles.files c.has_file.new.below) (remove c.self.inside.names c.args.name.now) doubts) (sym c.remove-3.ensures)
      (settled_gone (g.F.RawFiles.files c.self.inside.below) _ c.self.inside.names c.self.inside.doubts c.args.name.now c.has_file.ensures.same
      (subst (λ b. IfSome (g.F.RawFiles.files c.self.inside.below) (λ files. b ≡ contains_key (disk_files files) c.args.name.now)) c.if-branch.false c.in_ok-has_file.ensures.value)
      (c.self.invariant.index known)));
}
