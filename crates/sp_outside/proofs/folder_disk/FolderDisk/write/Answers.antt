use Rattle.std.proofs.Common.{◌≡◌, true, Option, sym, ◌∙◌, ap, subst}
use Rattle.std.specs.FinMap.{insert}
use Rattle.sp_outside.specs.Files.{Files, IsOldOrNew, told_with}
use Rattle.sp_outside.specs.FolderFiles.{FolderState, files_held}
use Rattle.sp_outside.specs.NameIndex.{NameSet}
use Rattle.sp_outside.proofs.Begun.{below_of_inside}
use Rattle.sp_outside.proofs.Indexed.{Knows, after_failed_put, after_put, held_now, open_parts, put_err, put_ok}
use Rattle.sp_outside.proofs.Left.{rises, rising_seen}
use Rattle.sp_outside.proofs.Results.{where_ok}
use Rattle.sp_outside.proofs.Tidy.{cleaned_then, own_after, own_seen, own_with, own_with_or_not, tidy_seen, tidy_with}
use Rattle.sp_outside.proofs.folder_disk.FolderDisk.write.Goals as goal

pub replace-requires-clause-below : goal.replace-requires-clause-below
replace-requires-clause-below g c =
    below_of_inside c.args.name.now (sym c.is_inside.ensures ∙ c.if-not-is_inside.false)

-- the change failed: the name is in doubt, where there is memory to note it
pub invariant_of-self-in-Err : goal.invariant_of-self-in-Err
invariant_of-self-in-Err g c =
    let below = g.F.RawFiles.files c.self.inside.below in
    let new = g.F.RawFiles.files c.replace.new.self in
    let inside = sym c.is_inside.ensures ∙ c.if-not-is_inside.false in
    let begun : c.self.inside.is_open ≡ true = ap (λ (s : FolderState). s.is_open) c.self.view_is ∙ c.in_ok-know.ensures.begun in
    let known : c.self.inside.is_known ≡ true = ap (λ (s : FolderState). s.is_known) c.self.view_is ∙ c.in_ok-know.ensures.known in
    record {
      begun = λ _. begun;
      index = λ sure.
          subst (λ (names : NameSet). Knows new names c.insert-in-Err.new.self) (sym c.in_ok-insert.ensures.ok)
          (subst (λ (doubts : NameSet). Knows new (insert c.self.inside.names c.args.name.now tt) doubts) (sym (where_ok c.insert-in-Err.result (sym c.is_ok-self-inside.ensures.value ∙ sure) c.insert-in-Err.ensures.ok))
          (after_failed_put below new c.self.inside.names c.self.inside.doubts c.args.name.now c.args.bytes.now _ inside (c.self.invariant.index known) c.in-Err.ensures.err));
    }

pub returns-in-Err-clause-err : goal.returns-in-Err-clause-err
returns-in-Err-clause-err g c =
    let boot = g.F.RawFiles.boot in
    let told = files_held boot c.args.self.now in
    let below = g.F.RawFiles.files c.self.inside.below in
    let new = g.F.RawFiles.files c.replace.new.self in
    let inside = sym c.is_inside.ensures ∙ c.if-not-is_inside.false in
    let is = held_now boot told _ c.know.new.self c.self.view_is c.in_ok-know.ensures.begun c.in_ok-know.ensures.same in
    let begun : c.self.inside.is_open ≡ true = ap (λ (s : FolderState). s.is_open) c.self.view_is ∙ c.in_ok-know.ensures.begun in
    subst (λ (t : Option Files). IsOldOrNew told (told_with told c.args.name.now c.args.bytes.now) t c.in-Err.fault) (sym (c.settle-in-Err.ensures.same ∙ open_parts boot new c.self.inside.is_open begun))
    (put_err below new told c.args.name.now c.args.bytes.now _ inside is c.in-Err.ensures.err)

pub returns-in-Err-clause-own : goal.returns-in-Err-clause-own
returns-in-Err-clause-own g c =
    let below = g.F.RawFiles.files c.self.inside.below in
    let new = g.F.RawFiles.files c.replace.new.self in
    let inside = sym c.is_inside.ensures ∙ c.if-not-is_inside.false in
    own_seen c.args.self.now.below new c.settle-in-Err.new.self.below c.settle-in-Err.ensures.below
    (own_after c.args.self.now.below c.know.new.self.below below new (ap (λ (s : FolderState). s.below) c.self.view_is) c.know.ensures.own (own_with_or_not below new c.args.name.now c.args.bytes.now _ inside c.in-Err.ensures.err))

-- the file is written
pub invariant_of-self-2 : goal.invariant_of-self-2
invariant_of-self-2 g c =
    let below = g.F.RawFiles.files c.self.inside.below in
    let new = g.F.RawFiles.files c.replace.new.self in
    let inside = sym c.is_inside.ensures ∙ c.if-not-is_inside.false in
    record {
      begun = c.self.invariant.begun;
      index = λ known.
          subst (λ (names : NameSet). Knows new names c.remove.new.self) (sym c.in_ok-insert.ensures.ok)
          (subst (λ (doubts : NameSet). Knows new (insert c.self.inside.names c.args.name.now tt) doubts) (sym c.remove.ensures)
          (after_put below new c.self.inside.names c.self.inside.doubts c.args.name.now c.args.bytes.now inside (c.self.invariant.index known) c.in_default.ensures.ok));
    }

pub returns-clause-ok : goal.returns-clause-ok
returns-clause-ok g c =
    let boot = g.F.RawFiles.boot in
    let told = files_held boot c.args.self.now in
    let below = g.F.RawFiles.files c.self.inside.below in
    let new = g.F.RawFiles.files c.replace.new.self in
    let inside = sym c.is_inside.ensures ∙ c.if-not-is_inside.false in
    let is = held_now boot told _ c.know.new.self c.self.view_is c.in_ok-know.ensures.begun c.in_ok-know.ensures.same in
    let begun : c.self.inside.is_open ≡ true = ap (λ (s : FolderState). s.is_open) c.self.view_is ∙ c.in_ok-know.ensures.begun in
    open_parts boot new c.self.inside.is_open begun ∙ put_ok below new told c.args.name.now c.args.bytes.now inside is c.in_default.ensures.ok

pub returns-clause-own : goal.returns-clause-own
returns-clause-own g c =
    let below = g.F.RawFiles.files c.self.inside.below in
    let new = g.F.RawFiles.files c.replace.new.self in
    let inside = sym c.is_inside.ensures ∙ c.if-not-is_inside.false in
    own_after c.args.self.now.below c.know.new.self.below below new (ap (λ (s : FolderState). s.below) c.self.view_is) c.know.ensures.own (own_with below new c.args.name.now c.args.bytes.now inside c.in_default.ensures.ok)

pub returns-clause-left : goal.returns-clause-left
returns-clause-left g c =
    let below = g.F.RawFiles.files c.self.inside.below in
    let new = g.F.RawFiles.files c.replace.new.self in
    let inside = sym c.is_inside.ensures ∙ c.if-not-is_inside.false in
    let rise = rising_seen c.know.new.self.faults (g.F.RawFiles.faults c.self.inside.below) (g.F.RawFiles.faults c.replace.new.self) (ap (λ (s : FolderState). s.faults) c.self.view_is) (rises _ _ c.replace.result c.replace.ensures.cause) in
    cleaned_then c.args.self.now c.know.new.self (g.F.RawFiles.faults c.replace.new.self) new c.in_ok-know.ensures.left c.know.ensures.rising rise
    (λ none. tidy_with below new c.args.name.now c.args.bytes.now inside c.in_default.ensures.ok (tidy_seen c.know.new.self.below below (ap (λ (s : FolderState). s.below) c.self.view_is) none))
