use Rattle.std.specs.Prelude.{◌≡◌, ◌++◌, take}
use Rattle.front.specs.Restarts.{failed_notes}
use Rattle.front.proofs.cache.Cache.note_flushes.Given as goal

abbrev pub invariant-loop-flush : goal.invariant-loop-flush
invariant-loop-flush l = l.notes.items ≡ l.fn.notes.items ++ failed_notes (take l.flush-index l.flush-items)
