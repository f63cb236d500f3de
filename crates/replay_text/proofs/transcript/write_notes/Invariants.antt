use Rattle.std.proofs.Common.{◌≡◌, ◌++◌, ◌∷◌, take, codes}
use Rattle.std.specs.Prelude.{flat_map}
use Rattle.std.specs.Fmt.{decimal}
use Rattle.replay_text.specs.Transcript.{note_text}
use Rattle.replay_text.proofs.transcript.write_notes.Given as goal

abbrev pub invariant-loop-note : goal.invariant-loop-note
invariant-loop-note l = l.out.items ≡ codes "@ " ++ decimal l.event ++ 10 ∷ flat_map note_text (take l.note-index l.notes)
