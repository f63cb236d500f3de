use Rattle.std.proofs.Common.{◌≡◌, ◌∙◌, Some, Ok, ap, subst}
use Rattle.cache_files.specs.Epochs.{next_epoch}
use Rattle.front.specs.Boards.{BoardAt, at_disk}
use Rattle.front.specs.Fronts.{BeginsRun, epoch_of_board}
use Rattle.run_events.specs.States.{start_of}
use Rattle.sling_dispatch.specs.Runs.{sling_publisher, sling_start}
use Rattle.sling_dispatch.specs.ScriptedStates.{FailingState, fault_count}
use Rattle.sling_dispatch.proofs.BeginLemmas.{begins}
use Rattle.sling_dispatch.proofs.FrontLemmas.{unarmed_by}
use Rattle.sling_dispatch.proofs.session.Session.begin.Goals as goal

pub returns-clause-stands : goal.returns-clause-stands
returns-clause-stands c =
    let publisher = c.args.publisher in
    let now = c.in-Ok.front.renderer.publisher in
    let left = c.new.new.disk in
    let b : BoardAt = at_disk c.in-Ok.front.board (Some left.files) (fault_count left.spent) in
    let run = subst (λ (d : FailingState). BeginsRun sling_publisher publisher c.args.farm (Some d.files) b now) c.new-disk.ensures c.in-Ok.ensures.stands in
    let epoch = subst (λ (d : FailingState). next_epoch d.files ≡ Ok (epoch_of_board b)) c.new-disk.ensures c.in-Ok.ensures.epoch in
    c.a_front_stands_whatever_the_count.ensures sling_publisher now c.in-Ok.front.board (Some left.files) (fault_count left.spent) 0 (start_of (sling_start c.args.farm publisher))
    (begins publisher now c.args.farm b c.empty_files_hold_no_page.ensures.next (c.no_files_hold_the_empty_log.ensures c.args.farm) run epoch)

pub returns-clause-unarmed : goal.returns-clause-unarmed
returns-clause-unarmed c = unarmed_by c.new.new.disk.spent (c.in-Ok.ensures.cause ∙ ap (λ (d : FailingState). fault_count d.spent) c.new-disk.ensures)
