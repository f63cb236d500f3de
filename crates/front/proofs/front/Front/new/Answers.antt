use Rattle.std.proofs.Common.{refl}
use Rattle.front.specs.Boards.{at_disk}
use Rattle.front.proofs.FrontLemmas.{begins}
use Rattle.front.proofs.front.Front.new.Goals as goal

pub returns-clause-stands : goal.returns-clause-stands
returns-clause-stands g c = begins _ (g.R.Renderer.content c.args.renderer) c.args.farm (g.D.Disk.files c.args.disk.now) (at_disk (record { open_connections = c.new.result; cache = c.in_ok-cache.cache }) (g.D.Disk.files c.start.new.disk) (g.D.Disk.faults c.start.new.disk))
    c.in_ok-cache.ensures.log c.in_ok-cache.ensures.farm c.in_ok-cache.ensures.empty.0 c.in_ok-cache.ensures.empty.1 c.in_ok-cache.ensures.empty.2 c.in_ok-cache.ensures.empty.3 (λ q. rw c.new.ensures.empty refl) c.new.ensures.len
