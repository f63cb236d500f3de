-- What the front keeps of a connection. (Of the theorem's reader this file is no concern.)
use Rattle.std.specs.Prelude.{◌≡◌, ◌+◌, ◌*◌, ◌++◌, ℕ, Bool, true, false, List, [], ◌∷◌, Option, Some, None, length}
use Rattle.http_front.specs.Turns.{End, Waits, Breaks, SpellsTurns}
use Rattle.http_front.specs.Intakes.{StandsFor}
use Rattle.http_front.specs.declared.fault.InFault.{InFault}
use Rattle.http_front.specs.declared.intake.Intake.{Intake}
use Rattle.http_front.specs.declared.turn.Turn.{Turn}
use Rattle.http_front.specs.declared.turn.Turn.TheVariants.{Continue, Whole}
use Rattle.connections.specs.Connections.{Connection, Treat, Refuse, Close, Nothing, due, with_piece, with_due_continue, with_slot}
use Rattle.connections.specs.AnswerQueues.{QueueStandsFor, unsent_count, PlaceStandsFor}
use Rattle.connections.specs.declared.place.AnswerPlace.{AnswerPlace}
use Rattle.connections.specs.declared.place.Reply.{Reply}
use Rattle.connections.specs.declared.awaited.Awaited.{Awaited}
use Rattle.connections.specs.Slots.{Response, Slot}
use Rattle.front.specs.declared.connection.Connection.{Connection as KeptConnection}
use Rattle.front.specs.declared.connection.Taken.{Taken}
use Rattle.front.specs.declared.connection.Taken.TheVariants.{Request, Fault, Waiting, Over}
use Rattle.front.specs.Caches.{RepliesFor, with_end_if}

-- how the turns of a stream end: by the fault, if there is one
abbrev pub end_of : Option InFault → End
end_of None = Waits
end_of (Some fault) = Breaks fault

-- the turns don't begin with a Continue
abbrev pub IsReady : List Turn → Type 0
IsReady [] = Unit {0}
IsReady (Continue ∷ turns) = ⊥
IsReady (Whole request ∷ turns) = Unit {0}

-- no Continue stands after a Continue
abbrev pub IsPaired : List Turn → Type 0
IsPaired [] = Unit {0}
IsPaired (Continue ∷ turns) = IsReady turns × IsPaired turns
IsPaired (Whole request ∷ turns) = IsPaired turns

-- the first `count` turns are treated, and these are left
pub record Splits (turns : List Turn) (count : ℕ) (left : List Turn) : Type 0 where
  pub done : List Turn
  pub counted : length done ≡ count
  pub joined : turns ≡ done ++ left

-- what is kept of a stream that is read on
pub record ReadsOn (k : KeptConnection) (c : Connection) : Type 0 where
  pub read : StandsFor k.intake c.stream c.turns
  pub splits : Splits c.turns (length c.slots) k.turns.items
  pub ends : c.ends ≡ end_of k.fault
  pub paired : IsPaired k.turns.items

-- the peer and the answers that are kept are those of the connection
pub record AnswersStandFor (k : KeptConnection) (c : Connection) : Type 0 where
  pub peer_is : k.peer ≡ c.peer
  pub answers : QueueStandsFor k.answers c

-- what is kept stands for the connection, but that a 100 Continue may be owed
pub record StandsForButContinue (k : KeptConnection) (c : Connection) : Type 0 where
  pub peer_is : k.peer ≡ c.peer
  pub answers : QueueStandsFor k.answers c
  pub reads : c.closing ≡ false → ReadsOn k c

-- what is kept stands for the connection: it is what is left of it
pub record ConnectionStandsFor (k : KeptConnection) (c : Connection) : Type 0 where
  pub keeps : StandsForButContinue k c
  pub ready : c.closing ≡ false → IsReady k.turns.items

-- the same, but that a slot is owed for the turn that was taken
pub record Owes (k : KeptConnection) (c : Connection) : Type 0 where
  pub peer_is : k.peer ≡ c.peer
  pub answers : QueueStandsFor k.answers c
  pub read : StandsFor k.intake c.stream c.turns
  pub splits : Splits c.turns (length c.slots + 1) k.turns.items
  pub ends : c.ends ≡ end_of k.fault
  pub paired : IsPaired k.turns.items

-- the bytes spell further turns, and what is kept stands for the connection with them
pub record ConnectionReads (bytes : List ℕ) (c : Connection) (k : KeptConnection) : Type 0 where
  pub turns : List Turn
  pub ends : End
  pub spells : c.closing ≡ false → SpellsTurns (c.stream ++ bytes) (c.turns ++ turns) ends
  pub holds : ConnectionStandsFor k (with_piece bytes turns ends c)

-- further turns are read, and then the stream ends so
pub record TellsTurns (old : Intake) (before : List Turn) (new : Intake) (after : List Turn) (fault : Option InFault) : Type 0 where
  pub turns : List Turn
  pub joined : after ≡ before ++ turns
  pub read : (stream : List ℕ) (read : List Turn) → StandsFor old stream read → StandsFor new stream (read ++ turns)
  pub spells : (stream : List ℕ) (read : List Turn) → StandsFor old stream read → SpellsTurns stream (read ++ turns) (end_of fault)

-- the same before the end is found
pub record TellsOn (old : Intake) (before : List Turn) (new : Intake) (after : List Turn) : Type 0 where
  pub turns : List Turn
  pub joined : after ≡ before ++ turns
  pub read : (stream : List ℕ) (read : List Turn) → StandsFor old stream read → StandsFor new stream (read ++ turns)

-- the turns begin with a Continue
abbrev pub begins_with_continue : List Turn → Bool
begins_with_continue [] = false
begins_with_continue (Continue ∷ turns) = true
begins_with_continue (Whole request ∷ turns) = false

-- what was taken is what is due of the connection, and this is how what is kept then stands for it
abbrev pub TakenAs : Taken → Connection → KeptConnection → Type 0
TakenAs (Request request) c k = (due c ≡ Treat (Whole request)) × Owes k c
TakenAs (Fault fault) c k = (due c ≡ Refuse fault) × AnswersStandFor k c
TakenAs Waiting c k = (due c ≡ Nothing) × ConnectionStandsFor k c
TakenAs Over c k = (due c ≡ Close) × ConnectionStandsFor k c

-- by how much less work is left after it
abbrev pub taken_work : Taken → ℕ
taken_work (Request request) = 3
taken_work (Fault fault) = 2
taken_work Waiting = 0
taken_work Over = 0

-- at most how many notes a fault can still give
abbrev pub fault_work : Option InFault → ℕ
fault_work None = 0
fault_work (Some fault) = 2

-- at most how many notes the connection can still give
abbrev pub work_of : KeptConnection → ℕ
work_of k = unsent_count k.answers + 3 * length k.turns.items + fault_work k.fault

-- ---- before and after a call

-- this slot is there for the request that was taken of each connection of which one was owed
abbrev pub TakesSlot : AnswerPlace → KeptConnection → KeptConnection → Type 0
TakesSlot place old new = (c : Connection) (slot : Slot) → PlaceStandsFor place slot → Owes old c → ConnectionStandsFor new (with_due_continue (with_slot slot c))

-- this slot, which closes the connection, is there whatever was taken of it
abbrev pub TakesLastSlot : AnswerPlace → KeptConnection → KeptConnection → Type 0
TakesLastSlot place old new = (c : Connection) (slot : Slot) → PlaceStandsFor place slot → slot.closes ≡ true → AnswersStandFor old c → ConnectionStandsFor new (with_due_continue (with_slot slot c))

-- the slot that waits for this has the response, if there is one
abbrev pub FillsSlotIf : Awaited → Option Reply → KeptConnection → KeptConnection → Type 0
FillsSlotIf awaited reply old new = (c : Connection) (response : Option Response) → RepliesFor reply response → ConnectionStandsFor old c → ConnectionStandsFor new (with_end_if awaited response c)
