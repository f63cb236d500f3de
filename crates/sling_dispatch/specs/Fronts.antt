-- Scaffolding: what a front makes of a line, for the private functions of the run and for proofs alone.
use Rattle.std.specs.Prelude.{◌≡◌, ◌+◌, ◌++◌, ◌∷◌, [], List, Option, Some, None, ℕ}
use Rattle.replay_text.specs.EventLines.{line_of, IsEventLine}
use Rattle.replay_text.specs.Transcript.{event_text}
use Rattle.replay_text.specs.declared.event_line.EventLine.{EventLine}
use Rattle.run_events.specs.declared.note.Note.{Note}
use Rattle.run_events.specs.declared.step.Step.{Step}
use Rattle.run_events.specs.Events.{Extends}
use Rattle.run_events.specs.States.{RunState}
use Rattle.front.specs.Boards.{at_disk}
use Rattle.front.specs.Fronts.{FrontStandsFor}
use Rattle.front.specs.declared.front.Front.{Front}
use Rattle.sling_dispatch.specs.Runs.{Arming, OneFailure, UntilRestart, arming_in, arming_of, sling_publisher, step_of}
use Rattle.sling_dispatch.specs.ScriptedDisks.{LeavesCount, arming_of_disk, files_of_disk, planned_count}
use Rattle.sling_dispatch.specs.declared.renderer.PublisherRenderer.{PublisherRenderer}
use Rattle.sling_dispatch.specs.declared.scripted_disk.ScriptedDisk.{ScriptedDisk}
use Rattle.sling_dispatch.specs.declared.session.Session.{Session}
use Rattle.sling_dispatch.specs.declared.steps.Task.{Task}
use Rattle.sling_dispatch.specs.declared.steps.Task.TheVariants as task

-- a front over a disk stands for the state, whatever the disk has counted
abbrev pub FrontStandsOver : Front PublisherRenderer → ScriptedDisk → RunState → Type 0
FrontStandsOver front disk w = FrontStandsFor sling_publisher front.renderer.publisher (at_disk front.board (Some (files_of_disk disk)) 0) w

-- the session's front and disk stand for the state
abbrev pub SessionStandsFor : Session → RunState → Type 0
SessionStandsFor s w = FrontStandsOver s.front s.disk w

-- A disk that may fail so took part in an event, which goes on with each run that was stood for. It may fail then so.
pub record ExtendsArmed (Before After : RunState → Type 0) (armed left : Arming) (step : Step) (notes : List Note) : Type 0 where
  pub after : ℕ
  pub extends : Extends Before After (planned_count armed) after step notes
  pub counted : LeavesCount armed left after

-- the session made an event, in which its disk might fail as it did before, but that a restart ends a stop
abbrev pub MakesNext : Session → Session → Step → List Note → Type 0
MakesNext old new step notes =
    ExtendsArmed (SessionStandsFor old) (SessionStandsFor new) (arming_in (arming_of_disk old.disk) step) (arming_of_disk new.disk) step notes × (new.event ≡ old.event + 1)

-- the session's disk may fail so from here on, and nothing else changed
abbrev pub ArmsNext : Session → Session → Arming → Type 0
ArmsNext old new planned = ((w : RunState) → SessionStandsFor old w → SessionStandsFor new w) × (arming_of_disk new.disk ≡ planned) × (new.event ≡ old.event)

-- A line without a step plans failures, and writes nothing. A step has notes, of which the text is the event's lines.
abbrev pub IsPlayed : Option Step → Option Arming → Session → Session → List ℕ → Type 0
IsPlayed None (Some planned) old new text = ArmsNext old new planned × (text ≡ [])
IsPlayed (Some step) None old new text = (notes : List Note) × MakesNext old new step notes × (text ≡ event_text new.event notes)
IsPlayed _ _ old new text = ⊥

-- An act stands first, and it was played: this text is to be written, and the session stands then for what is left.
pub record IsNext (host lines rest : List ℕ) (old new : Session) (text : List ℕ) : Type 0 where
  pub act : EventLine
  pub is_line : IsEventLine act
  pub lines_are : lines ≡ line_of act ++ 10 ∷ rest
  pub played : IsPlayed (step_of host act) (arming_of act) old new text

-- A line without a step has no event, and plans failures. A step has one, with these notes.
abbrev pub IsMade : Option Step → Option Arming → Session → Session → Option (List Note) → Type 0
IsMade None (Some planned) old new None = ArmsNext old new planned
IsMade (Some step) None old new (Some notes) = MakesNext old new step notes
IsMade _ _ old new _ = ⊥

-- An act stands first, and its event was made, if it has one: these are its notes, and the session stands then for what is left.
pub record IsNextEvent (host lines rest : List ℕ) (old new : Session) (notes : Option (List Note)) : Type 0 where
  pub act : EventLine
  pub is_line : IsEventLine act
  pub lines_are : lines ≡ line_of act ++ 10 ∷ rest
  pub made : IsMade (step_of host act) (arming_of act) old new notes

-- the lines of an event, where there is one
abbrev pub lines_of_event : ℕ → Option (List Note) → List ℕ
lines_of_event event None = []
lines_of_event event (Some notes) = event_text event notes

-- the step that a task asks for, where it asks for one
abbrev pub step_of_task : Task → Option Step
step_of_task (task.Step step) = Some step
step_of_task (task.Fail n way) = None
step_of_task (task.Stop n way) = None

-- how it says that the disk may fail, where it does
abbrev pub arming_of_task : Task → Option Arming
arming_of_task (task.Step step) = None
arming_of_task (task.Fail n way) = Some OneFailure
arming_of_task (task.Stop n way) = Some UntilRestart

-- a front over the disk of a scenario made a step, in which the disk might fail so, and may fail then so
abbrev pub FrontMakesNext : Front PublisherRenderer → ScriptedDisk → Front PublisherRenderer → ScriptedDisk → Step → List Note → Type 0
FrontMakesNext old before new after step notes = ExtendsArmed (FrontStandsOver old before) (FrontStandsOver new after) (arming_of_disk before) (arming_of_disk after) step notes
