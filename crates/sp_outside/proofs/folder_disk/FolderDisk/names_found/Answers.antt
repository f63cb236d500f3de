use Rattle.std.proofs.Common.{◌≡◌, true, sym, ◌∙◌, ap, subst}
use Rattle.std.specs.FinMap.{empty}
use Rattle.sp_base.proofs.ResultLemmas.{IfOk-then, OnOk-from}
use Rattle.sp_outside.specs.FolderFiles.{FolderState, files_held}
use Rattle.sp_outside.specs.NameIndex.{NameSet}
use Rattle.sp_outside.proofs.Found.{begun_index, held_found, held_parts, kept_index, names_walked}
use Rattle.sp_outside.proofs.Indexed.{Knows, open_parts}
use Rattle.sp_outside.proofs.Left.{rises, rising_seen}
use Rattle.sp_outside.proofs.Tidy.{cleaned_found, fault_free, own_begun, own_found}
use Rattle.sp_outside.proofs.folder_disk.FolderDisk.names_found.Goals as goal

pub returns-in_err-kept-clause-own : goal.returns-in_err-kept-clause-own
returns-in_err-kept-clause-own g c =
    let walked = g.F.RawFiles.files c.walk.new.self in
    let same = c.walk.ensures.same ∙ ap (λ (s : FolderState). s.below) c.self.view_is in
    own_begun c.args.self.now.below walked c.start.new.self.below same c.start.ensures.rest

pub returns-then-kept-clause-same : goal.returns-then-kept-clause-same
returns-then-kept-clause-same g c =
    let walked = g.F.RawFiles.files c.walk.new.self in
    let same = c.walk.ensures.same ∙ ap (λ (s : FolderState). s.below) c.self.view_is in
    let opened = g.F.RawFiles.files c.self-2.inside.below in
    let last = g.F.RawFiles.files c.take_left.new.below in
    let seen = ap (λ (s : FolderState). s.below) c.self-2.view_is in
    let open_is : c.self-2.inside.is_open ≡ true = ap (λ (s : FolderState). s.is_open) c.self-2.view_is ∙ c.in_ok-kept.ensures.begun in
    open_parts g.F.RawFiles.boot last c.self-2.inside.is_open open_is ∙ held_found g.F.RawFiles.boot (files_held g.F.RawFiles.boot c.args.self.now) c.start.new.self opened last c.in_ok-kept.ensures.begun seen c.take_left.ensures.left
    (c.start.ensures.same ∙ held_parts g.F.RawFiles.boot walked c.args.self.now.below c.self.inside.is_open c.args.self.now.is_open same (ap (λ (s : FolderState). s.is_open) c.self.view_is))

pub returns-then-kept-clause-index : goal.returns-then-kept-clause-index
returns-then-kept-clause-index g c =
    let inside = g.F.RawFiles.files c.self.inside.below in
    let walked = g.F.RawFiles.files c.walk.new.self in
    let opened = g.F.RawFiles.files c.self-2.inside.below in
    let last = g.F.RawFiles.files c.take_left.new.below in
    let seen = ap (λ (s : FolderState). s.below) c.self-2.view_is in
    let names = names_walked inside walked c.in_ok-walked.walked c.as_slice-found.result.now c.walk.ensures.same c.as_slice-found.ensures c.in_ok-walked.ensures.value in
    IfOk-then c.names_inside.result (λ set is. kept_index c.as_slice-found.result.now set walked c.start.new.self.below opened last c.in_ok-kept.kept c.if-kept.true names is c.in_ok-kept.ensures.kept seen c.take_left.ensures.left)
    c.names_inside.ensures

pub returns-then-kept-clause-own : goal.returns-then-kept-clause-own
returns-then-kept-clause-own g c =
    let walked = g.F.RawFiles.files c.walk.new.self in
    let same = c.walk.ensures.same ∙ ap (λ (s : FolderState). s.below) c.self.view_is in
    let opened = g.F.RawFiles.files c.self-2.inside.below in
    let last = g.F.RawFiles.files c.take_left.new.below in
    let seen = ap (λ (s : FolderState). s.below) c.self-2.view_is in
    own_found c.args.self.now.below walked c.start.new.self.below opened last same c.start.ensures.rest seen c.take_left.ensures.left

pub returns-then-kept-clause-left : goal.returns-then-kept-clause-left
returns-then-kept-clause-left g c =
    let inside = g.F.RawFiles.files c.self.inside.below in
    let walked = g.F.RawFiles.files c.walk.new.self in
    let opened = g.F.RawFiles.files c.self-2.inside.below in
    let last = g.F.RawFiles.files c.take_left.new.below in
    let seen = ap (λ (s : FolderState). s.below) c.self-2.view_is in
    let names = names_walked inside walked c.in_ok-walked.walked c.as_slice-found.result.now c.walk.ensures.same c.as_slice-found.ensures c.in_ok-walked.ensures.value in
    let rise = rising_seen c.args.self.now.faults _ (g.F.RawFiles.faults c.walk.new.self) (ap (λ (s : FolderState). s.faults) c.self.view_is) (rises _ _ c.walk.result c.walk.ensures.cause) in
    OnOk-from c.names_inside.result (λ none.
    cleaned_found c.as_slice-found.result.now walked c.start.new.self.below opened last names c.start.ensures.rest seen c.take_left.ensures.left
    (c.take_left.ensures.gone (fault_free c.args.self.now.faults (g.F.RawFiles.faults c.walk.new.self) c.start.new.self.faults (g.F.RawFiles.faults c.self-2.inside.below) (g.F.RawFiles.faults c.take_left.new.below) rise c.start.ensures.rising (ap (λ (s : FolderState). s.faults) c.self-2.view_is) c.take_left.ensures.rising none)))

pub returns-clause-same : goal.returns-clause-same
returns-clause-same g c =
    let walked = g.F.RawFiles.files c.walk.new.self in
    let same = c.walk.ensures.same ∙ ap (λ (s : FolderState). s.below) c.self.view_is in
    let opened = g.F.RawFiles.files c.self-2.inside.below in
    let last = g.F.RawFiles.files c.take_left.new.below in
    let seen = ap (λ (s : FolderState). s.below) c.self-2.view_is in
    let open_is : c.self-2.inside.is_open ≡ true = ap (λ (s : FolderState). s.is_open) c.self-2.view_is ∙ c.in_ok-kept.ensures.begun in
    open_parts g.F.RawFiles.boot last c.self-2.inside.is_open open_is ∙ held_found g.F.RawFiles.boot (files_held g.F.RawFiles.boot c.args.self.now) c.start.new.self opened last c.in_ok-kept.ensures.begun seen c.take_left.ensures.left
    (c.start.ensures.same ∙ held_parts g.F.RawFiles.boot walked c.args.self.now.below c.self.inside.is_open c.args.self.now.is_open same (ap (λ (s : FolderState). s.is_open) c.self.view_is))

pub returns-clause-index : goal.returns-clause-index
returns-clause-index g c =
    let walked = g.F.RawFiles.files c.walk.new.self in
    let opened = g.F.RawFiles.files c.self-2.inside.below in
    let last = g.F.RawFiles.files c.take_left.new.below in
    let seen = ap (λ (s : FolderState). s.below) c.self-2.view_is in
    subst (λ (set : NameSet). Knows last set empty) (sym c.new.ensures)
    (begun_index walked c.start.new.self.below opened last c.in_ok-kept.kept c.if-kept.false c.in_ok-kept.ensures.kept seen c.take_left.ensures.left)

pub returns-clause-own : goal.returns-clause-own
returns-clause-own g c =
    let walked = g.F.RawFiles.files c.walk.new.self in
    let same = c.walk.ensures.same ∙ ap (λ (s : FolderState). s.below) c.self.view_is in
    let opened = g.F.RawFiles.files c.self-2.inside.below in
    let last = g.F.RawFiles.files c.take_left.new.below in
    let seen = ap (λ (s : FolderState). s.below) c.self-2.view_is in
    own_found c.args.self.now.below walked c.start.new.self.below opened last same c.start.ensures.rest seen c.take_left.ensures.left

pub returns-clause-left : goal.returns-clause-left
returns-clause-left g c =
    let inside = g.F.RawFiles.files c.self.inside.below in
    let walked = g.F.RawFiles.files c.walk.new.self in
    let opened = g.F.RawFiles.files c.self-2.inside.below in
    let last = g.F.RawFiles.files c.take_left.new.below in
    let seen = ap (λ (s : FolderState). s.below) c.self-2.view_is in
    let names = names_walked inside walked c.in_ok-walked.walked c.as_slice-found.result.now c.walk.ensures.same c.as_slice-found.ensures c.in_ok-walked.ensures.value in
    let rise = rising_seen c.args.self.now.faults _ (g.F.RawFiles.faults c.walk.new.self) (ap (λ (s : FolderState). s.faults) c.self.view_is) (rises _ _ c.walk.result c.walk.ensures.cause) in
    λ none.
    cleaned_found c.as_slice-found.result.now walked c.start.new.self.below opened last names c.start.ensures.rest seen c.take_left.ensures.left
    (c.take_left.ensures.gone (fault_free c.args.self.now.faults (g.F.RawFiles.faults c.walk.new.self) c.start.new.self.faults (g.F.RawFiles.faults c.self-2.inside.below) (g.F.RawFiles.faults c.take_left.new.below) rise c.start.ensures.rising (ap (λ (s : FolderState). s.faults) c.self-2.view_is) c.take_left.ensures.rising none))
