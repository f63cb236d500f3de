-- What single steps of a server make of a run. (Of the theorem's reader this file is no concern.)
use Rattle.std.specs.Prelude.{◌≡◌, ◌≤◌, ◌+◌, ◌⊎◌, ℕ, true, false, List, [], ◌∷◌, Option, Some, None, IfSome, IsSome, length, OnOk, OnErr, Result}
use Rattle.sp_outside.specs.Causes.{Rose}
use Rattle.sp_outside.specs.Files.{Files}
use Rattle.resource_tree.specs.Content.{Content}
use Rattle.outside_world.specs.Faults.{HasRisenBy}
use Rattle.outside_world.specs.Worlds.{is_connected, told_more}
use Rattle.outside_world.specs.declared.world.Happening.{Happening}
use Rattle.outside_world.specs.declared.world.Happening.TheVariants.{Opened as opened_news, Piece as piece_news, Gone as gone_news, Quiet}
use Rattle.outside_world.specs.declared.world.WorldEntry.{WorldEntry}
use Rattle.outside_world.specs.declared.world.WorldEntry.TheVariants.{Came}
use Rattle.connections.specs.Ids.{ConnectionId}
use Rattle.run_events.specs.declared.step.Step.{Step}
use Rattle.run_events.specs.declared.step.Step.TheVariants.{Opened, Gone}
use Rattle.run_events.specs.declared.flying.Flying.{Flying}
use Rattle.run_events.specs.Publishers.{Publishing}
use Rattle.run_events.specs.States.{RunState}
use Rattle.run_events.specs.Events.{Event, Happens, Run, after_event, notes_of, state_after_events}
use Rattle.run_laws.specs.Addressed.{LeavesSession, opened_by_step}
use Rattle.run_laws.specs.Rounds.{AreUnrendered, HasNothingDue}
use Rattle.front.specs.Boards.{BoardAt, at_disk}
use Rattle.front.specs.Fronts.{FrontStandsFor}
use Rattle.front.specs.declared.front.Front.{Front}
use Rattle.serve_loop.specs.declared.turn.TurnEnd.{TurnEnd}
use Rattle.serve_loop.specs.declared.turn.TurnEnd.TheVariants.{Whole, WorldFailed, NoMemory}
use Rattle.serve_loop.specs.Turns.{HandedEvent, IsHandedOn, ServedTurn, AreDue, AreWholeTurns, IsCutTurn, MayRest, Stage, Renders, due_step, entries_made, events_made, stage_after, stage_handed, stage_of, turn_entries, turn_events, with_cut}
use Rattle.serve_loop.specs.Served.{AreCaused, HasOpenConnections, count_unsent}
use Rattle.flights.specs.Flights.{most_flights}

-- ---- a server at a moment

-- a server: its front before its disk, and what its world tells
pub record ServerAt : Type 0 where
  pub publishing : Publishing
  pub content : Content
  pub board : BoardAt
  pub told : Option (List WorldEntry)
  pub send_faults : ℕ

abbrev pub server_at : Publishing → Content → BoardAt → Option (List WorldEntry) → ℕ → ServerAt
server_at publishing content board told send_faults = record { publishing = publishing; content = content; board = board; told = told; send_faults = send_faults }

-- its front stands for the state, in which nothing is due
pub record ServesRun (s : ServerAt) (w : RunState) : Type 0 where
  pub stands : FrontStandsFor s.publishing s.content s.board w
  pub nothing_due : HasNothingDue w

-- the same, and the connections are open in its world: as between two steps of a turn
pub record IsServing (s : ServerAt) (w : RunState) : Type 0 where
  pub serves : ServesRun s w
  pub connections : HasOpenConnections s.told w

-- the same, and nothing is in the air: as between two turns
pub record RestsAt (s : ServerAt) (w : RunState) : Type 0 where
  pub serving : IsServing s w
  pub flights : w.flights ≡ []

-- ---- what was made in a turn

-- these events lead from one stage to another, and from one state to another
abbrev pub LeadsTo : Stage → RunState → List HandedEvent → Stage → RunState → Type 0
LeadsTo stage w [] later v = (stage ≡ later) × (w ≡ v)
LeadsTo stage w (m ∷ made) later v = (due_step stage w ≡ Some m.event.step) × IsHandedOn m.handed (notes_of m.event) m.entries
    × LeadsTo (stage_handed m.handed (stage_after stage w)) (after_event w m.event) made later v

-- between these moments the run went on from one stage and state to another
pub record TurnGoesOn (old new : ServerAt) (stage : Stage) (w : RunState) (later : Stage) (v : RunState) : Type 0 where
  pub made : List HandedEvent
  pub leads : LeadsTo stage w made later v
  pub run : Run w (events_made made)
  pub told : new.told ≡ told_more old.told (entries_made made)
  pub unsents : HasRisenBy (count_unsent (entries_made made)) old.send_faults new.send_faults
  pub caused : AreCaused old.board.faults new.board.faults w (events_made made)

-- between these moments it went on from one stage and state, and memory cut it
pub record TurnIsCut (old new : ServerAt) (stage : Stage) (w : RunState) : Type 0 where
  pub made : List HandedEvent
  pub due : AreDue false stage w made
  pub run : Run w (events_made made)
  pub told : new.told ≡ told_more old.told (entries_made made)
  pub unsents : HasRisenBy (count_unsent (entries_made made)) old.send_faults new.send_faults
  pub last : ℕ
  pub caused : AreCaused old.board.faults last w (events_made made)
  pub last_is : last ≤ new.board.faults

-- ---- one step

-- the connection that the step is to open is open
abbrev pub HasOpened : Step → Option (List WorldEntry) → Type 0
HasOpened step told = IfSome told (λ log. (c : ConnectionId) → opened_by_step step ≡ Some c → is_connected log c ≡ true)

-- the connections but for that one are open
abbrev pub HasOthersOpen : ConnectionId → Option (List WorldEntry) → RunState → Type 0
HasOthersOpen c told w = IfSome told (λ log. (d : ConnectionId) → IsSome (w.connection d) → (is_connected log d ≡ true) ⊎ (d ≡ c))

-- a step may be made that is no restart: the connections are open, and the one that it is to open is so too
pub record AwaitsStep (step : Step) (told : Option (List WorldEntry)) (w : RunState) : Type 0 where
  pub session : LeavesSession step
  pub connections : HasOpenConnections told w
  pub opened : HasOpened step told

-- An event of the step was made, and if a sending failed then one in which its connection goes; and the server serves on.
pub record MakesStep (old new : ServerAt) (step : Step) (stage : Stage) (w : RunState) : Type 0 where
  pub event : Event
  pub step_is : event.step ≡ step
  pub happens : Happens w event
  pub left : RunState
  pub goes_on : TurnGoesOn old new stage w (stage_after stage w) left
  pub serving : IsServing new left
  pub flights : left.flights ≡ (after_event w event).flights

-- so it is with each state that the server stood for, wherever the step was due
abbrev pub MakesStepOf : Step → ServerAt → ServerAt → Type 0
MakesStepOf step old new = (stage : Stage) (w : RunState) → ServesRun old w → AwaitsStep step old.told w → due_step stage w ≡ Some step → MakesStep old new step stage w

-- memory cut it, likewise
abbrev pub CutsStepOf : Step → ServerAt → ServerAt → Type 0
CutsStepOf step old new = (stage : Stage) (w : RunState) → ServesRun old w → AwaitsStep step old.told w → due_step stage w ≡ Some step → TurnIsCut old new stage w

-- a connection goes, and the others are open
abbrev pub MakesGoneOf : ConnectionId → ServerAt → ServerAt → Type 0
MakesGoneOf c old new = (stage : Stage) (w : RunState) → ServesRun old w → HasOthersOpen c old.told w → due_step stage w ≡ Some (Gone c) → MakesStep old new (Gone c) stage w

abbrev pub CutsGoneOf : ConnectionId → ServerAt → ServerAt → Type 0
CutsGoneOf c old new = (stage : Stage) (w : RunState) → ServesRun old w → HasOthersOpen c old.told w → due_step stage w ≡ Some (Gone c) → TurnIsCut old new stage w

-- ---- the steps of a turn

-- From here the run went on, and the server serves on with these flights in the air.
pub record LeavesInAir (flights : List Flying) (old new : ServerAt) (stage : Stage) (w : RunState) (later : Stage) : Type 0 where
  pub left : RunState
  pub goes_on : TurnGoesOn old new stage w later left
  pub serving : IsServing new left
  pub flights_are : left.flights ≡ flights

-- the first flight was rendered and landed, where it was not rendered
abbrev pub LandsFirst : ServerAt → ServerAt → Type 0
LandsFirst old new = (w : RunState) (flying : Flying) (later : List Flying) → IsServing old w → w.flights ≡ flying ∷ later → flying.rendered ≡ None → LeavesInAir later old new Renders w Renders

abbrev pub CutsLanding : ServerAt → ServerAt → Type 0
CutsLanding old new = (w : RunState) (flying : Flying) (later : List Flying) → IsServing old w → w.flights ≡ flying ∷ later → flying.rendered ≡ None → TurnIsCut old new Renders w

-- all flights were rendered and landed, where none was rendered
abbrev pub LandsAll : ServerAt → ServerAt → Type 0
LandsAll old new = (w : RunState) → IsServing old w → AreUnrendered w.flights → LeavesInAir [] old new Renders w Renders

abbrev pub CutsLandings : ServerAt → ServerAt → Type 0
CutsLandings old new = (w : RunState) → IsServing old w → AreUnrendered w.flights → TurnIsCut old new Renders w

-- so many of them were at least, and none of those that are left is rendered
pub record LandsSome (old new : ServerAt) (rounds : ℕ) (w : RunState) : Type 0 where
  pub left : RunState
  pub goes_on : TurnGoesOn old new Renders w Renders left
  pub serving : IsServing new left
  pub unrendered : AreUnrendered left.flights
  pub few : length left.flights + rounds ≤ most_flights

-- From here the run went on to where no step is due, and nothing is in the air.
pub record ComesToRest (old new : ServerAt) (stage : Stage) (w : RunState) : Type 0 where
  pub later : Stage
  pub left : RunState
  pub goes_on : TurnGoesOn old new stage w later left
  pub resting : MayRest true later left
  pub rests : RestsAt new left

-- the slice that is due was made, where one is and nothing is in the air
abbrev pub EndsTurn : ServerAt → ServerAt → Type 0
EndsTurn old new = (w : RunState) → IsServing old w → w.flights ≡ [] → ComesToRest old new Renders w

abbrev pub CutsEnd : ServerAt → ServerAt → Type 0
CutsEnd old new = (w : RunState) → IsServing old w → w.flights ≡ [] → TurnIsCut old new Renders w

-- the connections are open before the step of what came, but for one that goes; and one that it is to open is open
abbrev pub AwaitsNews : Happening → Option (List WorldEntry) → RunState → Type 0
AwaitsNews (opened_news c peer) told w = HasOpenConnections told w × HasOpened (Opened c peer) told
AwaitsNews (piece_news c bytes) told w = HasOpenConnections told w
AwaitsNews (gone_news c) told w = HasOthersOpen c told w
AwaitsNews Quiet told w = HasOpenConnections told w

-- From here the run went on to where flights are to be rendered, and none is rendered yet.
pub record ComesToFlights (old new : ServerAt) (stage : Stage) (w : RunState) : Type 0 where
  pub left : RunState
  pub goes_on : TurnGoesOn old new stage w Renders left
  pub serving : IsServing new left
  pub unrendered : AreUnrendered left.flights

-- the step of what came was made, if it has one
abbrev pub BeginsTurn : Happening → ServerAt → ServerAt → Type 0
BeginsTurn news old new = (w : RunState) → ServesRun old w → AwaitsNews news old.told w → w.flights ≡ [] → ComesToFlights old new (stage_of news) w

-- all steps of a turn were made
abbrev pub MakesTurn : Happening → ServerAt → ServerAt → Type 0
MakesTurn news old new = (w : RunState) → ServesRun old w → AwaitsNews news old.told w → w.flights ≡ [] → ComesToRest old new (stage_of news) w

abbrev pub CutsTurn : Happening → ServerAt → ServerAt → Type 0
CutsTurn news old new = (w : RunState) → ServesRun old w → AwaitsNews news old.told w → w.flights ≡ [] → TurnIsCut old new (stage_of news) w

-- ---- turns

-- a whole turn
pub record TakesTurn (old new : ServerAt) (w : RunState) : Type 0 where
  pub turn : ServedTurn
  pub whole : AreDue true (stage_of turn.news) w turn.made
  pub run : Run w (events_made turn.made)
  pub told : new.told ≡ told_more old.told (Came turn.news ∷ entries_made turn.made)
  pub unsents : HasRisenBy (count_unsent (entries_made turn.made)) old.send_faults new.send_faults
  pub caused : AreCaused old.board.faults new.board.faults w (events_made turn.made)
  pub rests : RestsAt new (state_after_events w (events_made turn.made))

-- a turn that memory cut, if it began
pub record CutsOffTurn (old new : ServerAt) (w : RunState) : Type 0 where
  pub cut : Option ServedTurn
  pub cut_is : IsCutTurn w cut
  pub run : Run w (turn_events (with_cut [] cut))
  pub told : new.told ≡ told_more old.told (turn_entries (with_cut [] cut))
  pub unsents : HasRisenBy (count_unsent (turn_entries (with_cut [] cut))) old.send_faults new.send_faults
  pub last : ℕ
  pub caused : AreCaused old.board.faults last w (turn_events (with_cut [] cut))
  pub last_is : last ≤ new.board.faults

-- what a turn came to: where `next` failed nothing was done
abbrev pub EndsAs : TurnEnd → ServerAt → ServerAt → Type 0
EndsAs Whole old new = (w : RunState) → RestsAt old w → TakesTurn old new w
EndsAs WorldFailed old new = new ≡ old
EndsAs NoMemory old new = (w : RunState) → RestsAt old w → CutsOffTurn old new w

-- the same of the count of `next`
abbrev pub HasTurnCause : TurnEnd → ℕ → ℕ → Type 0
HasTurnCause Whole before after = after ≡ before
HasTurnCause WorldFailed before after = Rose before after
HasTurnCause NoMemory before after = after ≡ before

-- so many whole turns
pub record TakesTurns (old new : ServerAt) (count : ℕ) (w : RunState) : Type 0 where
  pub turns : List ServedTurn
  pub count_is : length turns ≡ count
  pub whole : AreWholeTurns w turns
  pub run : Run w (turn_events turns)
  pub told : new.told ≡ told_more old.told (turn_entries turns)
  pub unsents : HasRisenBy (count_unsent (turn_entries turns)) old.send_faults new.send_faults
  pub caused : AreCaused old.board.faults new.board.faults w (turn_events turns)
  pub rests : RestsAt new (state_after_events w (turn_events turns))

-- ---- before and after a call, over a publisher, a disk and a world, of which this says what the publisher does, which content it has, what the
-- ---- disk tells of its files, how often it failed, what the world tells, and how many sendings failed

-- this is so of the server before and after
abbrev pub Relates : {R D W : Type 0} → Publishing → (R → Content) → (D → Option Files) → (D → ℕ) → (W → Option (List WorldEntry)) → (W → ℕ) → (ServerAt → ServerAt → Type 0) → Front R → D → W → Front R → D → W → Type 0
Relates publishing content files faults log send_faults IsSo old before said new after says =
    IsSo (server_at publishing (content old.renderer) (at_disk old.board (files before) (faults before)) (log said) (send_faults said)) (server_at publishing (content new.renderer) (at_disk new.board (files after) (faults after)) (log says) (send_faults says))

-- this is so where the call leaves the world alone, whatever that tells
abbrev pub RelatesAlone : {R D : Type 0} → Publishing → (R → Content) → (D → Option Files) → (D → ℕ) → (ServerAt → ServerAt → Type 0) → Front R → D → Front R → D → Type 0
RelatesAlone publishing content files faults IsSo old before new after = (told : Option (List WorldEntry)) (send_faults : ℕ)
    → IsSo (server_at publishing (content old.renderer) (at_disk old.board (files before) (faults before)) told send_faults) (server_at publishing (content new.renderer) (at_disk new.board (files after) (faults after)) told send_faults)

-- the same where the call is done
abbrev pub IfDone : {A E R D W : Type 0} → Publishing → (R → Content) → (D → Option Files) → (D → ℕ) → (W → Option (List WorldEntry)) → (W → ℕ) → (ServerAt → ServerAt → Type 0) → Result A E → Front R → D → W → Front R → D → W → Type 0
IfDone publishing content files faults log send_faults IsSo result old before said new after says = OnOk result (Relates publishing content files faults log send_faults IsSo old before said new after says)

-- the same where it was cut off, since memory ran out
abbrev pub IfCut : {A E R D W : Type 0} → Publishing → (R → Content) → (D → Option Files) → (D → ℕ) → (W → Option (List WorldEntry)) → (W → ℕ) → (ServerAt → ServerAt → Type 0) → Result A E → Front R → D → W → Front R → D → W → Type 0
IfCut publishing content files faults log send_faults IsSo result old before said new after says = OnErr result (Relates publishing content files faults log send_faults IsSo old before said new after says)

-- a call that is done makes this step
abbrev pub StepIfDone : {A E R D W : Type 0} → Publishing → (R → Content) → (D → Option Files) → (D → ℕ) → (W → Option (List WorldEntry)) → (W → ℕ) → Step → Result A E → Front R → D → W → Front R → D → W → Type 0
StepIfDone publishing content files faults log send_faults step result old before said new after says = OnOk result (Relates publishing content files faults log send_faults (MakesStepOf step) old before said new after says)

-- one that is cut off ends within it
abbrev pub StepIfCut : {A E R D W : Type 0} → Publishing → (R → Content) → (D → Option Files) → (D → ℕ) → (W → Option (List WorldEntry)) → (W → ℕ) → Step → Result A E → Front R → D → W → Front R → D → W → Type 0
StepIfCut publishing content files faults log send_faults step result old before said new after says = OnErr result (Relates publishing content files faults log send_faults (CutsStepOf step) old before said new after says)

-- a call that is done makes the turn of this news
abbrev pub TurnIfDone : {A E R D W : Type 0} → Publishing → (R → Content) → (D → Option Files) → (D → ℕ) → (W → Option (List WorldEntry)) → (W → ℕ) → Happening → Result A E → Front R → D → W → Front R → D → W → Type 0
TurnIfDone publishing content files faults log send_faults news result old before said new after says = OnOk result (Relates publishing content files faults log send_faults (MakesTurn news) old before said new after says)

-- one that is cut off ends within it
abbrev pub TurnIfCut : {A E R D W : Type 0} → Publishing → (R → Content) → (D → Option Files) → (D → ℕ) → (W → Option (List WorldEntry)) → (W → ℕ) → Happening → Result A E → Front R → D → W → Front R → D → W → Type 0
TurnIfCut publishing content files faults log send_faults news result old before said new after says = OnErr result (Relates publishing content files faults log send_faults (CutsTurn news) old before said new after says)

-- a call that is done makes what comes of the news before the flights
abbrev pub BeginIfDone : {A E R D W : Type 0} → Publishing → (R → Content) → (D → Option Files) → (D → ℕ) → (W → Option (List WorldEntry)) → (W → ℕ) → Happening → Result A E → Front R → D → W → Front R → D → W → Type 0
BeginIfDone publishing content files faults log send_faults news result old before said new after says = OnOk result (Relates publishing content files faults log send_faults (BeginsTurn news) old before said new after says)
