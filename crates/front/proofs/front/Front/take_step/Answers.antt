use Rattle.front.proofs.FrontLemmas.{board-tells, ok-map}
use Rattle.front.proofs.front.Front.take_step.Goals as goal

pub returns-in-Opened-clause-event : goal.returns-in-Opened-clause-event
returns-in-Opened-clause-event g c = ok-map c.open.result c.open.ensures (λ effect tells. rw c.in-Opened.is (board-tells _ _ _ _ _ effect tt (tells (g.D.Disk.files c.args.disk.now) (g.D.Disk.faults c.args.disk.now))))

pub returns-in-Piece-clause-event : goal.returns-in-Piece-clause-event
returns-in-Piece-clause-event g c = ok-map c.take_piece.result c.take_piece.ensures.event (λ effect tells. rw c.in-Piece.is (board-tells _ _ _ _ _ effect tt tells))

pub returns-in-Gone-clause-event : goal.returns-in-Gone-clause-event
returns-in-Gone-clause-event g c = ok-map c.close.result c.close.ensures (λ effect tells. rw c.in-Gone.is (board-tells _ _ _ _ _ effect tt (tells (g.D.Disk.files c.args.disk.now) (g.D.Disk.faults c.args.disk.now))))

pub returns-in-Direct-clause-event : goal.returns-in-Direct-clause-event
returns-in-Direct-clause-event g c = ok-map c.answer_directly.result c.answer_directly.ensures (λ effect tells. rw c.in-Direct.is (rw c.text.ensures at (tells (g.D.Disk.files c.args.disk.now) (g.D.Disk.faults c.args.disk.now))))

pub returns-in-Render-clause-event : goal.returns-in-Render-clause-event
returns-in-Render-clause-event g c = ok-map c.render.result c.render.ensures (λ effect tells. rw c.in-Render.is (tells (g.D.Disk.files c.args.disk.now) (g.D.Disk.faults c.args.disk.now)))

pub returns-in-Deliver-clause-event : goal.returns-in-Deliver-clause-event
returns-in-Deliver-clause-event g c = ok-map c.deliver.result c.deliver.ensures.event (λ effect tells. rw c.in-Deliver.is (board-tells _ _ _ _ _ effect tt tells))

pub returns-in-Lose-clause-event : goal.returns-in-Lose-clause-event
returns-in-Lose-clause-event g c = ok-map c.lose.result c.lose.ensures.event (λ effect tells. rw c.in-Lose.is (board-tells _ _ _ _ _ effect tt tells))

pub returns-in-Purge-clause-event : goal.returns-in-Purge-clause-event
returns-in-Purge-clause-event g c = ok-map c.purge.result c.purge.ensures.event (λ effect tells. rw c.in-Purge.is (board-tells _ _ _ _ _ effect tt tells))

pub returns-in-Restart-clause-event : goal.returns-in-Restart-clause-event
returns-in-Restart-clause-event g c = ok-map c.restart.result c.restart.ensures.event (λ effect tells. rw c.in-Restart.is (board-tells _ _ _ _ _ effect tt tells))
