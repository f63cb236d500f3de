use Rattle.std.proofs.Common.{◌≡◌, ◌⊎◌, ◌≤◌, false, None, Some, length, refl, sym, subst}
use Rattle.std.proofs.lemmas.Result.{on_err_weaker, on_ok_weaker}
use Rattle.sp_base.specs.Texts.{Segments}
use Rattle.sp_base.proofs.ResultLemmas.{OnErr-from}
use Rattle.page_index.specs.Held.{same_folder}
use Rattle.page_index.specs.Limits.{most_young}
use Rattle.page_index.specs.Notes.{held_stamp}
use Rattle.page_index.specs.declared.index.PageIndex.{PageIndex}
use Rattle.page_index.proofs.IndexLemmas.{stamp_forgotten, stamp_lost, stamp_set}
use Rattle.page_index.proofs.index.PageIndex.note_stat.Goals as goal

pub returns-in_err-duplicate-clause-err : goal.returns-in_err-duplicate-clause-err
returns-in_err-duplicate-clause-err c =
    let old = c.args.self.now in
    let folder = c.args.folder.now in
    let new : PageIndex = record { young = old.young; older = old.older; stamps = c.forget.new.self } in
    OnErr-from c.from_residual.result (stamp_lost folder old new (stamp_forgotten folder old new c.forget.ensures.gone refl refl))

others : (c : goal.After-put) → (other : Segments) → same_folder c.args.folder.now other ≡ false
    → (held_stamp c.put.new.self other ≡ held_stamp c.forget.new.self other) ⊎ ((most_young ≤ length c.forget.new.self.young) × (held_stamp c.put.new.self other ≡ None))
others c other apart = c.put.ensures.others other (subst (λ f. same_folder f other ≡ false) (sym c.in_ok-duplicate.ensures) apart)

pub returns-clause-ok : goal.returns-clause-ok
returns-clause-ok c =
    let old = c.args.self.now in
    let folder = c.args.folder.now in
    let stamps = c.put.new.self in
    let new : PageIndex = record { young = old.young; older = old.older; stamps = stamps } in
    on_ok_weaker c.put.result
    (λ here. stamp_set folder (Some c.args.stamp) old new c.forget.new.self c.forget.ensures.gone c.forget.ensures.fewer (subst (λ f. held_stamp stamps f ≡ Some c.args.stamp) c.in_ok-duplicate.ensures here) (others c) refl refl)
    c.put.ensures.here

pub returns-clause-err : goal.returns-clause-err
returns-clause-err c =
    let old = c.args.self.now in
    let folder = c.args.folder.now in
    let stamps = c.put.new.self in
    let new : PageIndex = record { young = old.young; older = old.older; stamps = stamps } in
    on_err_weaker c.put.result
    (λ gone. stamp_set folder None old new c.forget.new.self c.forget.ensures.gone c.forget.ensures.fewer (subst (λ f. held_stamp stamps f ≡ None) c.in_ok-duplicate.ensures gone) (others c) refl refl)
    c.put.ensures.err
