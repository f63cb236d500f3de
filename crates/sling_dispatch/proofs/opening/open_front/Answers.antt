use Rattle.std.proofs.Common.{ap}
use Rattle.sling_dispatch.specs.declared.renderer.PublisherRenderer.{PublisherRenderer}
use Rattle.sling_dispatch.proofs.Openings.{opened_if_cleared}
use Rattle.sling_dispatch.proofs.opening.open_front.Goals as goal

pub returns-in-Fresh-clause-opens : goal.returns-in-Fresh-clause-opens
returns-in-Fresh-clause-opens g c =
    let old = g.D.Disk.files c.args.disk.now in
    let mid = g.D.Disk.files c.new.new.disk in
    let new = g.D.Disk.files c.cleared.new.disk in
    let opened = c.in_ok-front.ensures in
    opened_if_cleared c.args.beginning c.in-Fresh.is c.args.farm c.args.publisher old mid new (g.D.Disk.faults c.cleared.new.disk) c.in_ok-front.front c.cleared.result
    (ap (λ (r : PublisherRenderer). r.publisher) opened.renderer) opened.opened opened.after c.cleared.ensures.same c.cleared.ensures.stands

pub returns-in-Fresh-clause-calls : goal.returns-in-Fresh-clause-calls
returns-in-Fresh-clause-calls g c =
    c.docroot_calls_add_up.ensures.more (g.D.Disk.calls c.args.disk.now) (g.D.Disk.calls c.new.new.disk) (g.D.Disk.calls c.cleared.new.disk) c.new.ensures.calls c.cleared.ensures.calls
