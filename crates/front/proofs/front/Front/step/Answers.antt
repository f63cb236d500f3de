use Rattle.front.specs.Boards.{at_disk}
use Rattle.front.proofs.FrontLemmas.{extends}
use Rattle.front.proofs.front.Front.step.Goals as goal

pub returns-clause-event : goal.returns-clause-event
returns-clause-event g c = extends _ _ _ (at_disk c.args.self.now.board (g.D.Disk.files c.args.disk.now) (g.D.Disk.faults c.args.disk.now)) (at_disk c.take_step.new.self.board (g.D.Disk.files c.take_step.new.disk) (g.D.Disk.faults c.take_step.new.disk)) c.args.step.now c.in_ok-effect.effect c.in_ok-notes.notes c.the_files_hold_what_stands.ensures.bound c.in_ok-effect.ensures.event c.in_ok-notes.ensures
