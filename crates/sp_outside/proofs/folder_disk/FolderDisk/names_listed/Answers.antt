use Rattle.std.proofs.Common.{◌≡◌, true, [], Option, refl, sym, ◌∙◌, ap, subst, take, arith}
use Rattle.std.specs.Prelude.{IfSome, option_copied, slice_get}
use Rattle.std.specs.FinMap.{keys}
use Rattle.sp_outside.specs.Files.{Files, names_after, names_from}
use Rattle.sp_outside.specs.FolderFiles.{FolderState, files_held}
use Rattle.sp_outside.proofs.Indexed.{held_now}
use Rattle.sp_outside.proofs.SameNames.{listed_told, none_first}
use Rattle.sp_outside.proofs.Tidy.{cleaned_then, own_seen, tidy_seen}
use Rattle.sp_outside.proofs.folder_disk.FolderDisk.names_listed.Goals as goal

-- where no name of the range is in doubt those that are listed are the names of files
pub returns-in-None-clause-value : goal.returns-in-None-clause-value
returns-in-None-clause-value g c =
    let boot = g.F.RawFiles.boot in
    let told = files_held boot c.args.self.now in
    let s = c.doubts.self in
    let is = held_now boot told _ s c.self.view_is c.doubts.invariant.begun (c.doubts.invariant.same ∙ c.in_ok-know.ensures.same) in
    let known : c.self.inside.is_known ≡ true = ap (λ (v : FolderState). v.is_known) c.self.view_is ∙ c.doubts.invariant.known in
    let none : names_from (keys c.self.inside.doubts) c.args.prefix.now c.args.after.now ≡ [] =
    none_first _ (ap (λ names. slice_get names 0) (sym c.in_ok-doubt.ensures.value) ∙ sym c.get.ensures ∙ ap option_copied c.in-None.is) in
    subst (λ (t : Option Files). IfSome t (λ held. c.in_ok-list-in-None.field-0 ≡ take c.args.most (names_after held c.args.prefix.now c.args.after.now))) is
    (listed_told (g.F.RawFiles.files c.self.inside.below) c.self.inside.names c.self.inside.doubts c.args.prefix.now c.args.after.now c.args.most _
    (c.self.invariant.index known) none c.in_ok-list-in-None.ensures.value)

pub doubts-init : goal.doubts-init
doubts-init g c = record {
  same = refl;
  known = c.in_ok-know.ensures.known;
  begun = c.in_ok-know.ensures.begun;
  count = refl;
  below = refl;
  rising = omega arith;
}

pub doubts-preserved : goal.doubts-preserved
doubts-preserved g c = record {
  same = c.settle.ensures.same ∙ c.doubts.invariant.same;
  known = c.settle.ensures.known ∙ c.doubts.invariant.known;
  begun = c.settle.ensures.begun ∙ c.doubts.invariant.begun;
  count = c.settle.ensures.count ∙ c.doubts.invariant.count;
  below = c.settle.ensures.below ∙ c.doubts.invariant.below;
  rising = omega (arith, c.doubts.invariant.rising, c.settle.ensures.rising);
}

pub returns-in_err-doubt-clause-own : goal.returns-in_err-doubt-clause-own
returns-in_err-doubt-clause-own g c =
    own_seen c.args.self.now.below c.know.new.self.below c.doubts.self.below c.doubts.invariant.below c.know.ensures.own

pub returns-in_err-list-in-None-clause-own : goal.returns-in_err-list-in-None-clause-own
returns-in_err-list-in-None-clause-own g c =
    own_seen c.args.self.now.below c.know.new.self.below c.doubts.self.below c.doubts.invariant.below c.know.ensures.own

pub returns-in-None-clause-own : goal.returns-in-None-clause-own
returns-in-None-clause-own g c =
    own_seen c.args.self.now.below c.know.new.self.below c.doubts.self.below c.doubts.invariant.below c.know.ensures.own

pub returns-clause-own : goal.returns-clause-own
returns-clause-own g c =
    own_seen c.args.self.now.below c.know.new.self.below c.doubts.self.below c.doubts.invariant.below c.know.ensures.own

pub returns-in_err-settle-in-Some-clause-own : goal.returns-in_err-settle-in-Some-clause-own
returns-in_err-settle-in-Some-clause-own g c =
    own_seen c.args.self.now.below c.know.new.self.below c.settle.new.self.below (c.settle.ensures.below ∙ c.doubts.invariant.below) c.know.ensures.own

pub returns-in-None-clause-left : goal.returns-in-None-clause-left
returns-in-None-clause-left g c =
    cleaned_then c.args.self.now c.know.new.self c.doubts.self.faults c.doubts.self.below c.in_ok-know.ensures.left c.know.ensures.rising c.doubts.invariant.rising
    (tidy_seen c.know.new.self.below c.doubts.self.below c.doubts.invariant.below)
