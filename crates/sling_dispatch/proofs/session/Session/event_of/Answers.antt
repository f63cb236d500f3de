use Rattle.std.proofs.Common.{◌+◌, ap}
use Rattle.sling_dispatch.specs.Fronts.{FrontStandsOver}
use Rattle.sling_dispatch.specs.ScriptedDisks.{arming_of_disk}
use Rattle.sling_dispatch.specs.declared.session.Session.{Session}
use Rattle.sling_dispatch.proofs.FrontLemmas.{makes_next}
use Rattle.sling_dispatch.proofs.session.Session.event_of.Goals as goal

pub returns-clause-made : goal.returns-clause-made
returns-clause-made c =
    let left = c.step_over.new in (
      makes_next (FrontStandsOver left.front left.disk) c.args.self.now c.make_ready.new.self (arming_of_disk left.disk) c.args.step.now c.in_ok-notes.notes c.make_ready.ensures c.in_ok-notes.ensures,
      ap (λ (s : Session). s.event + 1) c.make_ready.ensures,
    )
