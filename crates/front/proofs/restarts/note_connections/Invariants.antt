use Rattle.std.specs.Prelude.{◌≡◌, ◌++◌, map}
use Rattle.std.specs.BTreeMap.{keys}
use Rattle.run_events.specs.declared.note.Note.TheVariants.{Shut}
use Rattle.front.proofs.restarts.note_connections.Given as goal

abbrev pub invariant-loop-c : goal.invariant-loop-c
invariant-loop-c l = l.notes.items ++ map Shut l.c-iterator ≡ l.fn.notes.items ++ map Shut (keys l.fn.open_connections)
