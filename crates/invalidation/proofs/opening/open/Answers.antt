use Rattle.std.proofs.Common.{◌+◌, inl, inr, refl}
use Rattle.cover_rules.specs.Coverage.{touched_of}
use Rattle.docroot_changes.specs.Changes.{Told}
use Rattle.docroot_changes.proofs.ToldFiles.{on_ok}
use Rattle.invalidation.specs.Slices.{IsHandlePage}
use Rattle.invalidation.specs.Walks.{AreTouched, IsHandleGone, Opened, SliceChange, TakesFiles, Touches}
use Rattle.invalidation.proofs.Chains.{Relation, told_as, told_both, told_then}
use Rattle.invalidation.proofs.TakenFiles.{takes_none}
use Rattle.invalidation.proofs.opening.open.Goals as goal

pub returns-in_err-touch_folders-clause-changes : goal.returns-in_err-touch_folders-clause-changes
returns-in_err-touch_folders-clause-changes g c =
    let inv = c.args.inv.now in
    let folders = touched_of c.args.level inv in
    told_as (Touches folders (c.args.level + 1) c.args.stamp) (SliceChange (IsHandlePage inv) folders (c.args.level + 1) 2 c.args.stamp) _ _
    (λ a b touches. record { between = b; touches = touches; takes = takes_none (IsHandlePage inv) 2 b; first = inr refl }) c.touch_folders.ensures.touches

pub returns-clause-changes : goal.returns-clause-changes
returns-clause-changes g c =
    let inv = c.args.inv.now in
    let stamp = c.args.stamp in
    let folders = touched_of c.args.level inv in
    let step : Relation = λ a b. Touches folders (c.args.level + 1) stamp a b × AreTouched folders stamp b in
    let touched = told_both (Touches folders (c.args.level + 1) stamp) (λ a b. AreTouched folders stamp b) step (g.D.Disk.files c.args.disk.now) (g.D.Disk.files c.touch_folders.new.disk) (λ a b p q. (p, q))
    c.in_ok-touch_folders.ensures.touches c.in_ok-touch_folders.ensures.touched in
    told_then step (TakesFiles (IsHandlePage inv) 2) (SliceChange (IsHandlePage inv) folders (c.args.level + 1) 2 stamp) _ _ _
    (λ a b d p q. record { between = b; touches = p.0; takes = q; first = inl p.1 }) touched c.drop_at_handle.ensures.takes

pub returns-clause-opened : goal.returns-clause-opened
returns-clause-opened g c =
    let inv = c.args.inv.now in
    let stamp = c.args.stamp in
    let folders = touched_of c.args.level inv in
    let x = g.D.Disk.files c.args.disk.now in
    let y = g.D.Disk.files c.touch_folders.new.disk in
    let z = g.D.Disk.files c.drop_at_handle.new.disk in
    let step : Relation = λ a b. Touches folders (c.args.level + 1) stamp a b × AreTouched folders stamp b in
    let taken : Relation = λ a b. TakesFiles (IsHandlePage inv) 2 a b × IsHandleGone inv b in
    let gone : Relation = λ a b. IsHandleGone inv b in
    let touched = told_both (Touches folders (c.args.level + 1) stamp) (λ a b. AreTouched folders stamp b) step x y (λ a b p q. (p, q)) c.in_ok-touch_folders.ensures.touches c.in_ok-touch_folders.ensures.touched in
    on_ok c.drop_at_handle.result (Told gone y z) (Told (Opened c.args.level inv stamp) x z)
    (λ went. told_then step taken (Opened c.args.level inv stamp) x y z (λ a b d p q. record { between = b; touches = p.0; touched = p.1; takes = q.0; gone = q.1 }) touched
    (told_both (TakesFiles (IsHandlePage inv) 2) gone taken y z (λ a b p q. (p, q)) c.drop_at_handle.ensures.takes went)) c.drop_at_handle.ensures.gone

pub returns-clause-calls : goal.returns-clause-calls
returns-clause-calls g c =
    c.docroot_calls_add_up.ensures.more (g.D.Disk.calls c.args.disk.now) (g.D.Disk.calls c.touch_folders.new.disk) (g.D.Disk.calls c.drop_at_handle.new.disk) c.in_ok-touch_folders.ensures.calls c.drop_at_handle.ensures.calls
