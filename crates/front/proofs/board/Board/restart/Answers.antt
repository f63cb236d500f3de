use Rattle.std.proofs.Common.{refl}
use Rattle.front.specs.Boards.{at_disk}
use Rattle.front.specs.Caches.{behind}
use Rattle.front.proofs.RestartEventLemmas.{notes-joined, restart-event}
use Rattle.front.proofs.board.Board.restart.Goals as goal

pub returns-clause-event : goal.returns-clause-event
returns-clause-event g c = λ w tied.
    let files = g.D.Disk.files c.args.disk.now in
    let faults = g.D.Disk.faults c.args.disk.now in
    restart-event (at_disk c.args.self.now files faults) (behind c.lose_flights.new.self files faults) (at_disk (record { open_connections = c.clear.new.self; cache = c.restart-note.new.self }) (g.D.Disk.files c.restart-note.new.disk) (g.D.Disk.faults c.restart-note.new.disk)) c.restart-note.result (record { notes = c.push.new.self; conditions = c.restart-note.result.conditions }) w tied
    (c.in_ok-lose_flights.ensures.loses files faults) c.in_ok-lose_flights.ensures.flushes refl c.in_ok-note_connections.ensures.open c.restart-note.ensures.given (λ q. rw c.clear.ensures.empty refl) c.clear.ensures.len
    (notes-joined c.new-notes.result.items c.lose_flights.new.notes.items c.note_flushes.new.notes.items c.note_connections.new.notes.items c.push.new.self.items _ _ _ _ c.new-notes.ensures.items c.in_ok-lose_flights.ensures.notes c.in_ok-note_flushes.ensures c.in_ok-note_connections.ensures.notes c.in_ok-push.ensures.items) refl
