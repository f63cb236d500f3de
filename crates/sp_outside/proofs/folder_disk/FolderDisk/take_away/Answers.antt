use Rattle.std.proofs.Common.{◌≡◌, true, None, Option, sym, ◌∙◌, ap, subst}
use Rattle.std.specs.Prelude.{IfSome}
use Rattle.std.specs.FinMap.{remove}
use Rattle.sp_outside.specs.Files.{Files, IsOldOrNew, file_at, told_without}
use Rattle.sp_outside.specs.FolderFiles.{FolderState, files_held}
use Rattle.sp_outside.specs.NameIndex.{NameSet}
use Rattle.sp_outside.proofs.Begun.{below_of_inside}
use Rattle.sp_outside.proofs.Indexed.{Knows, after_failed_removal, after_removal, held_now, nothing_told, open_held, open_parts, outside_absent, removal_err, removal_ok, unlisted_absent}
use Rattle.sp_outside.proofs.Left.{rises, rising_seen}
use Rattle.sp_outside.proofs.Results.{where_ok}
use Rattle.sp_outside.proofs.Tidy.{cleaned_then, own_after, own_without, own_without_or_not, tidy_seen, tidy_without}
use Rattle.sp_outside.proofs.folder_disk.FolderDisk.take_away.Goals as goal

pub unlink-requires : goal.unlink-requires
unlink-requires g c = below_of_inside c.args.name.now (sym c.is_inside.ensures ∙ c.if-not-is_inside.false)

-- a name outside has no file
pub returns-then-not-is_inside-clause-ok : goal.returns-then-not-is_inside-clause-ok
returns-then-not-is_inside-clause-ok g c =
    let boot = g.F.RawFiles.boot in
    let told = files_held boot c.args.self.now in
    c.in_ok-know.ensures.same ∙ nothing_told told c.args.name.now
    (subst (λ (t : Option Files). IfSome t (λ held. None ≡ file_at held c.args.name.now))
    (sym (open_held boot c.know.new.self c.in_ok-know.ensures.begun) ∙ c.in_ok-know.ensures.same)
    (outside_absent c.know.new.self.below c.args.name.now (sym c.is_inside.ensures ∙ c.if-not-is_inside.true)))

pub returns-then-not-has-clause-ok : goal.returns-then-not-has-clause-ok
returns-then-not-has-clause-ok g c =
    let boot = g.F.RawFiles.boot in
    let told = files_held boot c.args.self.now in
    let is = held_now boot told _ c.know.new.self c.self.view_is c.in_ok-know.ensures.begun c.in_ok-know.ensures.same in
    let known : c.self.inside.is_known ≡ true = ap (λ (s : FolderState). s.is_known) c.self.view_is ∙ c.in_ok-know.ensures.known in
    c.in_ok-know.ensures.same ∙ nothing_told told c.args.name.now
    (subst (λ (t : Option Files). IfSome t (λ held. None ≡ file_at held c.args.name.now)) is
    (unlisted_absent (g.F.RawFiles.files c.self.inside.below) c.self.inside.names c.self.inside.doubts c.args.name.now (c.self.invariant.index known) (sym c.has.ensures.value ∙ c.if-not-has.true)))

pub invariant_of-self : goal.invariant_of-self
invariant_of-self g c =
    let below = g.F.RawFiles.files c.self.inside.below in
    let new = g.F.RawFiles.files c.unlink.new.self in
    let begun : c.self.inside.is_open ≡ true = ap (λ (s : FolderState). s.is_open) c.self.view_is ∙ c.in_ok-know.ensures.begun in
    let known : c.self.inside.is_known ≡ true = ap (λ (s : FolderState). s.is_known) c.self.view_is ∙ c.in_ok-know.ensures.known in
    record {
      begun = λ _. begun;
      index = λ sure.
          subst (λ (doubts : NameSet). Knows new c.self.inside.names doubts) (sym (where_ok c.insert.result (sym c.is_ok-self-inside.ensures.value ∙ sure) c.insert.ensures.ok))
          (after_failed_removal below new c.self.inside.names c.self.inside.doubts c.args.name.now _ (sym c.has.ensures.value ∙ c.if-not-has.false) (c.self.invariant.index known) c.in-Err.ensures.err);
    }

pub returns-in-Err-clause-err : goal.returns-in-Err-clause-err
returns-in-Err-clause-err g c =
    let boot = g.F.RawFiles.boot in
    let told = files_held boot c.args.self.now in
    let below = g.F.RawFiles.files c.self.inside.below in
    let new = g.F.RawFiles.files c.unlink.new.self in
    let is = held_now boot told _ c.know.new.self c.self.view_is c.in_ok-know.ensures.begun c.in_ok-know.ensures.same in
    let begun : c.self.inside.is_open ≡ true = ap (λ (s : FolderState). s.is_open) c.self.view_is ∙ c.in_ok-know.ensures.begun in
    subst (λ (t : Option Files). IsOldOrNew told (told_without told c.args.name.now) t c.in-Err.fault) (sym (open_parts boot new c.self.inside.is_open begun))
    (removal_err below new told c.args.name.now _ is c.in-Err.ensures.err)

pub returns-in-Err-clause-own : goal.returns-in-Err-clause-own
returns-in-Err-clause-own g c =
    let below = g.F.RawFiles.files c.self.inside.below in
    let new = g.F.RawFiles.files c.unlink.new.self in
    let inside = sym c.is_inside.ensures ∙ c.if-not-is_inside.false in
    own_after c.args.self.now.below c.know.new.self.below below new (ap (λ (s : FolderState). s.below) c.self.view_is) c.know.ensures.own (own_without_or_not below new c.args.name.now _ inside c.in-Err.ensures.err)

pub invariant_of-self-2 : goal.invariant_of-self-2
invariant_of-self-2 g c =
    let below = g.F.RawFiles.files c.self.inside.below in
    let new = g.F.RawFiles.files c.unlink.new.self in
    record {
      begun = c.self.invariant.begun;
      index = λ known.
          subst (λ (names : NameSet). Knows new names c.remove-2.new.self) (sym c.remove.ensures)
          (subst (λ (doubts : NameSet). Knows new (remove c.self.inside.names c.args.name.now) doubts) (sym c.remove-2.ensures)
          (after_removal below new c.self.inside.names c.self.inside.doubts c.args.name.now (c.self.invariant.index known) c.in_default.ensures.ok));
    }

pub returns-clause-ok : goal.returns-clause-ok
returns-clause-ok g c =
    let boot = g.F.RawFiles.boot in
    let told = files_held boot c.args.self.now in
    let below = g.F.RawFiles.files c.self.inside.below in
    let new = g.F.RawFiles.files c.unlink.new.self in
    let is = held_now boot told _ c.know.new.self c.self.view_is c.in_ok-know.ensures.begun c.in_ok-know.ensures.same in
    let begun : c.self.inside.is_open ≡ true = ap (λ (s : FolderState). s.is_open) c.self.view_is ∙ c.in_ok-know.ensures.begun in
    open_parts boot new c.self.inside.is_open begun ∙ removal_ok below new told c.args.name.now is c.in_default.ensures.ok

pub returns-clause-own : goal.returns-clause-own
returns-clause-own g c =
    let below = g.F.RawFiles.files c.self.inside.below in
    let new = g.F.RawFiles.files c.unlink.new.self in
    let inside = sym c.is_inside.ensures ∙ c.if-not-is_inside.false in
    own_after c.args.self.now.below c.know.new.self.below below new (ap (λ (s : FolderState). s.below) c.self.view_is) c.know.ensures.own (own_without below new c.args.name.now inside c.in_default.ensures.ok)

pub returns-clause-left : goal.returns-clause-left
returns-clause-left g c =
    let below = g.F.RawFiles.files c.self.inside.below in
    let new = g.F.RawFiles.files c.unlink.new.self in
    let rise = rising_seen c.know.new.self.faults (g.F.RawFiles.faults c.self.inside.below) (g.F.RawFiles.faults c.unlink.new.self) (ap (λ (s : FolderState). s.faults) c.self.view_is) (rises _ _ c.unlink.result c.unlink.ensures.cause) in
    cleaned_then c.args.self.now c.know.new.self (g.F.RawFiles.faults c.unlink.new.self) new c.in_ok-know.ensures.left c.know.ensures.rising rise
    (λ none. tidy_without below new c.args.name.now c.in_default.ensures.ok (tidy_seen c.know.new.self.below below (ap (λ (s : FolderState). s.below) c.self.view_is) none))
