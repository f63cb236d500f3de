use Rattle.std.proofs.Common.{◌≡◌, false, Option, refl, sym, ◌∙◌, ap, subst}
use Rattle.std.specs.Prelude.{IfSome}
use Rattle.std.proofs.lemmas.Bool.{true≢false}
use Rattle.sp_outside.specs.Files.{Files}
use Rattle.sp_outside.specs.FolderFiles.{FolderState, IsNamesOf, files_held}
use Rattle.sp_outside.proofs.Begun.{told_begun, told_still}
use Rattle.sp_outside.proofs.Indexed.{closed_parts}
use Rattle.sp_outside.proofs.folder_disk.FolderDisk.start.Goals as goal

pub begin-requires : goal.begin-requires
begin-requires g c =
    subst (λ (told : Option Files). IfSome told (λ files. IsNamesOf files c.args.found.now)) (sym (ap (λ (s : FolderState). s.below) c.self.view_is)) c.requires.names

-- the names aren't known yet
pub invariant_of-self : goal.invariant_of-self
invariant_of-self g c =
    let unknown : c.self.inside.is_known ≡ false = ap (λ (s : FolderState). s.is_known) c.self.view_is ∙ c.requires.unknown in
    record {
      begun = λ known. absurd (true≢false (sym known ∙ unknown));
      index = λ known. absurd (true≢false (sym known ∙ unknown));
    }

pub invariant_of-self-2 : goal.invariant_of-self-2
invariant_of-self-2 g c =
    let unknown : c.self.inside.is_known ≡ false = ap (λ (s : FolderState). s.is_known) c.self.view_is ∙ c.requires.unknown in
    record {
      begun = λ known. refl;
      index = λ known. absurd (true≢false (sym known ∙ unknown));
    }

pub returns-in_err-kept-clause-same : goal.returns-in_err-kept-clause-same
returns-in_err-kept-clause-same g c =
    let boot = g.F.RawFiles.boot in
    let old = g.F.RawFiles.files c.self.inside.below in
    let new = g.F.RawFiles.files c.begin.new.below in
    closed_parts boot new c.self.inside.is_open c.if-self.false ∙ told_still boot old new c.in_err-kept.ensures.err ∙ sym (closed_parts boot old c.self.inside.is_open c.if-self.false) ∙ ap (files_held boot) c.self.view_is

pub returns-clause-same : goal.returns-clause-same
returns-clause-same g c =
    let boot = g.F.RawFiles.boot in
    let old = g.F.RawFiles.files c.self.inside.below in
    let new = g.F.RawFiles.files c.begin.new.below in
    told_begun boot old new c.in_ok-kept.ensures.ok ∙ sym (closed_parts boot old c.self.inside.is_open c.if-self.false) ∙ ap (files_held boot) c.self.view_is
