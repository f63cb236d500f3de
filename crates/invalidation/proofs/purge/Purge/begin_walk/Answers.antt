use Rattle.invalidation.specs.Walks.{IsTakenFirst}
use Rattle.invalidation.proofs.SliceFacts.{no_change}
use Rattle.invalidation.proofs.purge.Purge.begin_walk.Goals as goal

pub returns-then-is_some-clause-changes : goal.returns-then-is_some-clause-changes
returns-then-is_some-clause-changes g c = let p = c.args.self.now in no_change (IsTakenFirst p.inv p.place) p.level p.inv p.stamp p.place (g.D.Disk.files c.args.disk.now)

pub returns-in_err-start-clause-changes : goal.returns-in_err-start-clause-changes
returns-in_err-start-clause-changes g c = let p = c.args.self.now in no_change (IsTakenFirst p.inv p.place) p.level p.inv p.stamp p.place (g.D.Disk.files c.args.disk.now)
