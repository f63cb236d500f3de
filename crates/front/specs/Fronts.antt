-- What a front stands for: the state of a run. (How its parts do so is scaffolding: `Boards.antt`, `Caches.antt`, `KeptConnections.antt`.)
use Rattle.std.specs.Prelude.{◌≡◌, ℕ, Bool, true, false, List, [], ◌∷◌, Option, Some, None, Result, Ok, Err, slice_get}
use Rattle.std.specs.BTreeMap.{btree_map_len, get}
use Rattle.std.specs.Ordering.{nat_cmp}
use Rattle.sp_base.specs.declared.answer.Answer.{Answer}
use Rattle.resource_tree.specs.Content.{Content}
use Rattle.sp_outside.specs.Files.{Files}
use Rattle.any_config.specs.declared.farm.Farm.{Farm}
use Rattle.cache_log.specs.Entries.{LogEntry, Session}
use Rattle.docroot_changes.specs.Changes.{Told}
use Rattle.coherence_core.specs.Holds.{HoldsClosed, files_counted}
use Rattle.coherence_core.specs.Openings.{IsCoreOpened}
use Rattle.connections.specs.Ids.{ConnectionId}
use Rattle.connections.specs.Slots.{fixed_answer}
use Rattle.run_events.specs.declared.step.Step.{Step}
use Rattle.run_events.specs.Publishers.{Publishing}
use Rattle.run_events.specs.States.{RunState, start_of}
use Rattle.run_events.specs.Events.{Extends}
use Rattle.run_events.specs.declared.flying.Flying.{Flying}
use Rattle.run_events.specs.declared.note.Note.{Note}
use Rattle.front.specs.declared.board.Board.{Board}
use Rattle.front.specs.declared.effect.Effect.{Effect}
use Rattle.front.specs.Boards.{BoardAt, BoardStandsFor, IsEventOf, at_disk}
use Rattle.front.specs.declared.front.Front.{Front}
use Rattle.dispatch_rules.specs.Asking.{publisher_ask}

-- The publisher and its content are those of the state, and the board before its disk is what is left of it.
pub record FrontStandsFor (publishing : Publishing) (content : Content) (b : BoardAt) (w : RunState) : Type 0 where
  pub publishing_is : w.publishing ≡ publishing
  pub content_is : w.content ≡ content
  pub board_is : BoardStandsFor b w

-- the epoch in which the session of a board began, as long as it hasn't restarted
abbrev pub epoch_of_board : BoardAt → ℕ
epoch_of_board b = b.board.cache.core.epoch

-- Over files that hold a closed log, a front with this board and this content of its publisher stands for the state in which a run begins
-- with that log and a new session, which found as many files as there were.
abbrev pub BeginsRun : Publishing → Content → Farm → Option Files → BoardAt → Content → Type 0
BeginsRun publishing content farm None b now = Unit {0}
BeginsRun publishing content farm (Some files) b now =
    (log : List LogEntry) → HoldsClosed farm files log → FrontStandsFor publishing now b (start_of (record { publishing = publishing; farm = farm; content = content; log = Session (epoch_of_board b) ∷ log; found = files_counted files }))

-- A front with this board, which does this for its site, was just opened over files of which so many were found: no connection is open, no
-- flight is in the air, and no flush is unfinished.
pub record IsFrontOpened (farm : Farm) (found : ℕ) (files : Files) (board : Board) : Type 0 where
  pub farm_is : board.cache.core.farm ≡ farm
  pub core : IsCoreOpened found files board.cache.core
  pub connections : (c : ConnectionId) → get nat_cmp board.open_connections c ≡ None
  pub count : btree_map_len board.open_connections ≡ 0
  pub flying : board.cache.flying ≡ []
  pub flushes : board.cache.flushes ≡ []

-- it was just opened over the files of a disk, where that tells them, whatever they held
abbrev pub OpensFront : Farm → Option Files → Option Files → Board → Type 0
OpensFront farm told after board = Told (λ old new. IsFrontOpened farm (files_counted old) new board) told after

-- A front that was just opened over such files stands for the state in which a run begins with the log of its session alone, with this board
-- before its disk.
abbrev pub BeginsFresh : Publishing → Content → Option Files → BoardAt → Type 0
BeginsFresh publishing content None b = Unit {0}
BeginsFresh publishing content (Some files) b =
    (farm : Farm) (found : ℕ) → IsFrontOpened farm found files b.board → FrontStandsFor publishing content b (start_of (record { publishing = publishing; farm = farm; content = content; log = Session (epoch_of_board b) ∷ []; found = found }))

-- what was brought about is an event of this step, of each state that was stood for
abbrev pub MakesEvent : (Before After : RunState → Type 0) → Step → Effect → (before after : ℕ) → Type 0
MakesEvent Before After step effect before after = (w : RunState) → Before w → IsEventOf After w step effect before after

-- the answer that was made, or the fixed one where memory ran out
abbrev pub IsRenderGiven : {E : Type 0} → Result Answer E → Answer → Bool → Type 0
IsRenderGiven (Ok made) answer out_of_memory = (answer ≡ made) × (out_of_memory ≡ false)
IsRenderGiven (Err fault) answer out_of_memory = (answer ≡ fixed_answer) × (out_of_memory ≡ true)

-- ---- over a publisher and a disk, of which this says what the publisher does, which content it has, what the disk tells of its files, and how
-- often it failed

-- a front before its disk stands for the state
abbrev pub FrontStandsAt : {R D : Type 0} → Publishing → (R → Content) → (D → Option Files) → (D → ℕ) → Front R → D → RunState → Type 0
FrontStandsAt publishing content files faults front disk w = FrontStandsFor publishing (content front.renderer) (at_disk front.board (files disk) (faults disk)) w

-- what was brought about is an event of this step, of each state that the front stood for
abbrev pub FrontMakesEvent : {R D : Type 0} → Publishing → (R → Content) → (D → Option Files) → (D → ℕ) → Step → Front R → D → Front R → D → Effect → Type 0
FrontMakesEvent publishing content files faults step old before new after effect =
    MakesEvent (FrontStandsAt publishing content files faults old before) (FrontStandsAt publishing content files faults new after) step effect (faults before) (faults after)

-- the same of a step that leaves the disk alone: whatever this tells
abbrev pub FrontMakesEventAlone : {R : Type 0} → Publishing → (R → Content) → Step → Front R → Front R → Effect → Type 0
FrontMakesEventAlone publishing content step old new effect =
    (files : Option Files) (faults : ℕ) → MakesEvent (FrontStandsFor publishing (content old.renderer) (at_disk old.board files faults)) (FrontStandsFor publishing (content new.renderer) (at_disk new.board files faults)) step effect faults faults

-- the notes of this step go on with each run that the front stood for
abbrev pub FrontExtends : {R D : Type 0} → Publishing → (R → Content) → (D → Option Files) → (D → ℕ) → Step → Front R → D → Front R → D → List Note → Type 0
FrontExtends publishing content files faults step old before new after notes =
    Extends (FrontStandsAt publishing content files faults old before) (FrontStandsAt publishing content files faults new after) (faults before) (faults after) step notes

-- a front begins a run of this publisher and this site over the files of the disk
abbrev pub FrontBegins : {R D : Type 0} → Publishing → (R → Content) → (D → Option Files) → (D → ℕ) → R → Farm → D → D → Front R → Type 0
FrontBegins publishing content files faults renderer farm before after front =
    BeginsRun publishing (content renderer) farm (files before) (at_disk front.board (files after) (faults after)) (content front.renderer)

-- over files that were cleared it begins one
abbrev pub FrontBeginsFresh : {R D : Type 0} → Publishing → (R → Content) → (D → Option Files) → (D → ℕ) → Front R → D → D → Type 0
FrontBeginsFresh publishing content files faults front before after = BeginsFresh publishing (content front.renderer) (files before) (at_disk front.board (files after) (faults after))

-- the epoch in which its session began, as long as it hasn't restarted
abbrev pub epoch_of_front : {R : Type 0} → Front R → ℕ
epoch_of_front front = front.board.cache.core.epoch

-- this is so of each state that a front with this board stands for, whatever its content and its disk
abbrev pub InEachState : Publishing → Board → (RunState → Type 0) → Type 0
InEachState publishing board IsSo = (content : Content) (files : Option Files) (faults : ℕ) (w : RunState) → FrontStandsFor publishing content (at_disk board files faults) w → IsSo w

-- the flight that is rendered is the one at this place, and the answer is the publisher's to its request
abbrev pub IsAnswerAt : Publishing → Content → Board → ℕ → Answer → Type 0
IsAnswerAt publishing content board at answer = (flying : Flying) → slice_get board.cache.flying at ≡ Some flying → answer ≡ (publishing content (publisher_ask board.cache.core.farm flying.request)).answer

-- the content is that after the publisher's answer to its request
abbrev pub IsContentAfter : Publishing → Content → Board → ℕ → Content → Type 0
IsContentAfter publishing content board at after = (flying : Flying) → slice_get board.cache.flying at ≡ Some flying → after ≡ (publishing content (publisher_ask board.cache.core.farm flying.request)).content
