use Rattle.std.proofs.Common.{◌≡◌, true, None, Option, sym, ◌∙◌, ap, subst}
use Rattle.std.specs.Prelude.{IfSome}
use Rattle.sp_outside.specs.Files.{Files, file_at}
use Rattle.sp_outside.specs.FolderFiles.{FolderState, files_held}
use Rattle.sp_outside.proofs.Begun.{below_of_inside}
use Rattle.sp_outside.proofs.Indexed.{held_now, met, open_held, outside_absent, still_knows, unlisted_absent}
use Rattle.sp_outside.proofs.folder_disk.FolderDisk.find.Goals as goal

pub returns-then-not-is_inside-clause-value : goal.returns-then-not-is_inside-clause-value
returns-then-not-is_inside-clause-value g c =
    subst (λ (told : Option Files). IfSome told (λ held. None ≡ file_at held c.args.name.now))
    (sym (open_held g.F.RawFiles.boot c.know.new.self c.in_ok-know.ensures.begun) ∙ c.in_ok-know.ensures.same)
    (outside_absent c.know.new.self.below c.args.name.now (sym c.is_inside.ensures ∙ c.if-not-is_inside.true))

pub returns-then-not-has-clause-value : goal.returns-then-not-has-clause-value
returns-then-not-has-clause-value g c =
    let is = held_now g.F.RawFiles.boot (files_held g.F.RawFiles.boot c.args.self.now) _ c.know.new.self c.self.view_is c.in_ok-know.ensures.begun c.in_ok-know.ensures.same in
    let known : c.self.inside.is_known ≡ true = ap (λ (s : FolderState). s.is_known) c.self.view_is ∙ c.in_ok-know.ensures.known in
    subst (λ (told : Option Files). IfSome told (λ held. None ≡ file_at held c.args.name.now)) is
    (unlisted_absent (g.F.RawFiles.files c.self.inside.below) c.self.inside.names c.self.inside.doubts c.args.name.now (c.self.invariant.index known) (sym c.has.ensures.value ∙ c.if-not-has.true))

pub read-requires : goal.read-requires
read-requires g c = below_of_inside c.args.name.now (sym c.is_inside.ensures ∙ c.if-not-is_inside.false)

pub invariant_of-self : goal.invariant_of-self
invariant_of-self g c = record {
  begun = c.self.invariant.begun;
  index = λ known. still_knows _ _ _ _ c.read.ensures.same (c.self.invariant.index known);
}

pub returns-clause-value : goal.returns-clause-value
returns-clause-value g c =
    let is = held_now g.F.RawFiles.boot (files_held g.F.RawFiles.boot c.args.self.now) _ c.know.new.self c.self.view_is c.in_ok-know.ensures.begun c.in_ok-know.ensures.same in
    met (g.F.RawFiles.files c.self.inside.below) (files_held g.F.RawFiles.boot c.args.self.now) c.args.name.now c.read.result (sym c.is_inside.ensures ∙ c.if-not-is_inside.false) is c.read.ensures.value
