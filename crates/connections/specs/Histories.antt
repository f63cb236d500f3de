-- What may happen to a connection, one thing after another, and what is then sent on it.
use Rattle.std.specs.Prelude.{◌≡◌, ◌≢◌, ℕ, Bool, true, false, List, [], ◌∷◌, length, IsTrue}
use Rattle.std.specs.List.{list_any}
use Rattle.http_front.specs.Faults.{fault_status}
use Rattle.http_front.specs.Turns.{End, Waits, Breaks}
use Rattle.http_front.specs.declared.fault.InFault.{InFault}
use Rattle.http_front.specs.declared.turn.Turn.{Turn}
use Rattle.http_front.specs.declared.turn.Turn.TheVariants.{Continue, Whole}
use Rattle.connections.specs.declared.awaited.Awaited.{Awaited}
use Rattle.connections.specs.declared.sending.Sending.{Sending}
use Rattle.connections.specs.Slots.{Slot, Response, Fixed, MayAnswer, is_answered, is_last, local_response, request_slot, fault_slot, interim_slot}
use Rattle.connections.specs.Connections.{Connection, Due, Send, Treat, Refuse, Close, Nothing, due, with_piece, with_slot, with_due_continue, with_end, with_sent, IsInPlaceOfDue, fresh}

-- What happens to a connection: bytes come, with the turns that they add; a turn or a fault gets its slot; what a slot waits for, a flight or
-- a flush, ends; a slot is sent; it is shut.
pub data Move : Type 0 where
  Piece : (bytes : List ℕ) (turns : List Turn) (ends : End) → Move
  Treatment : (slot : Slot) → Move
  Ending : (what : Awaited) (response : Response) → Move
  Sent : (sending : Sending) → Move
  Shut : Move

-- the connection after what happened
abbrev pub connection_after_move : Connection → Move → Connection
connection_after_move c (Piece bytes turns ends) = with_piece bytes turns ends c
connection_after_move c (Treatment slot) = with_due_continue (with_slot slot c)
connection_after_move c (Ending what response) = with_end what response c
connection_after_move c (Sent sending) = with_sent sending.bytes c
connection_after_move c Shut = c

-- The slot is that of the turn: a 100 Continue of a sender that waits for it, or a request's own. After the fixed 507 the connection
-- closes.
abbrev pub IsOfTurn : Turn → Slot → Type 0
IsOfTurn Continue slot = slot ≡ interim_slot
IsOfTurn (Whole request) slot = (closes : Bool) × (response : Response) × (slot ≡ request_slot request closes response) × (response ≡ Fixed → slot.closes ≡ true)

-- the slot is that of a stream's fault, which is answered by its status
abbrev pub IsOfFault : InFault → Slot → Type 0
IsOfFault fault slot = slot ≡ fault_slot (local_response (fault_status fault))

-- the slot is that of how the turns of a stream end: by a fault, which it is of
abbrev pub IsOfEnd : End → Slot → Type 0
IsOfEnd Waits slot = ⊥
IsOfEnd (Breaks fault) slot = IsOfFault fault slot

-- The slot is one of what is due. (A Continue has its slot without being asked for.)
abbrev pub IsSlotOf : Due → Slot → Type 0
IsSlotOf (Treat (Whole request)) slot = IsOfTurn (Whole request) slot
IsSlotOf (Refuse fault) slot = IsOfFault fault slot
IsSlotOf _ slot = ⊥

-- the slot is due to be sent, and this may be sent for it
pub record IsDueSending (c : Connection) (sending : Sending) : Type 0 where
  pub slot : Slot
  pub is_due : due c ≡ Send slot
  pub answers : MayAnswer slot sending

-- The move may come: bytes at any time, and the end of what a slot waits for, which isn't the fixed 507; the others where they are due.
abbrev pub IsMove : Connection → Move → Type 0
IsMove c (Treatment slot) = IsSlotOf (due c) slot
IsMove c (Ending what response) = response ≢ Fixed
IsMove c (Sent sending) = IsDueSending c sending
IsMove c Shut = due c ≡ Close
IsMove c _ = Unit {0}

-- each of these may happen to the connection in the state that those before it left
abbrev pub AreMovesOf : Connection → List Move → Type 0
AreMovesOf c [] = Unit {0}
AreMovesOf c (move ∷ moves) = IsMove c move × AreMovesOf (connection_after_move c move) moves

-- the connection after all of these
abbrev pub after_all : Connection → List Move → Connection
after_all c [] = c
after_all c (move ∷ moves) = after_all (connection_after_move c move) moves

-- what was sent
abbrev pub sendings : List Move → List Sending
sendings [] = []
sendings (Sent sending ∷ moves) = sending ∷ sendings moves
sendings (_ ∷ moves) = sendings moves

-- nothing comes after the last, and after another the rest
abbrev pub IsEndOr : {A : Type 0} → Bool → List A → Type 0 → Type 0
IsEndOr true later Rest = later ≡ []
IsEndOr false later Rest = Rest

-- What was sent answers the slots in their order, each once, up to the first that waits, and nothing after one that closes
-- the connection.
abbrev pub AnswersRun : List Slot → List Sending → Type 0
AnswersRun [] [] = Unit {0}
AnswersRun [] (sending ∷ sent) = ⊥
AnswersRun (slot ∷ slots) [] = is_answered slot.response ≡ false
AnswersRun (slot ∷ slots) (sending ∷ sent) = MayAnswer slot sending × IsEndOr (is_last slot sending.bytes) sent (AnswersRun slots sent) × (is_answered slot.response ≡ true)

-- The slots are those of the turns in their order, and after all turns, where these end by a fault, that fault's; and none comes after one
-- that closes the connection.
abbrev pub AreOfTurns : List Turn → End → List Slot → Type 0
AreOfTurns turns ends [] = Unit {0}
AreOfTurns [] ends (slot ∷ slots) = IsOfEnd ends slot × (slots ≡ [])
AreOfTurns (turn ∷ turns) ends (slot ∷ slots) = IsOfTurn turn slot × IsEndOr slot.closes slots (AreOfTurns turns ends slots)

-- a slot after which the connection closes is among them
abbrev pub some_closes : List Slot → Bool
some_closes slots = list_any (λ (slot : Slot). slot.closes) slots

-- memory ran out as none of these was sent
abbrev pub HaveNoSendingOutOfMemory : List Sending → Type 0
HaveNoSendingOutOfMemory [] = Unit {0}
HaveNoSendingOutOfMemory (sending ∷ sent) = (sending.out_of_memory ≡ false) × HaveNoSendingOutOfMemory sent

-- nothing is due but the end
abbrev pub IsAtRest : Due → Type 0
IsAtRest Close = Unit {0}
IsAtRest Nothing = Unit {0}
IsAtRest _ = ⊥

-- each turn has its slot, and no fault that ends the turns is left without one
pub record AreAllTreated (turns : List Turn) (ends : End) (slots : List Slot) : Type 0 where
  pub each : length slots ≡ length turns
  pub no_fault : ends ≡ Waits

-- this is so of a connection that was just opened, whatever happens to it then
abbrev pub WhateverHappens : (Connection → List Move → Type 0) → Type 0
WhateverHappens IsSo = (peer : List ℕ) (moves : List Move) → AreMovesOf (fresh peer) moves → IsSo (after_all (fresh peer) moves) moves

-- Where nothing is due of the connection but its end, each of its turns has its slot, and so has the fault that ends them, unless a slot closes
-- the connection, or memory ran out as something was sent.
abbrev pub AreTreatedIfAtRestUnlessCut : Connection → List Move → Type 0
AreTreatedIfAtRestUnlessCut c moves = IsAtRest (due c) → some_closes c.slots ≡ false → HaveNoSendingOutOfMemory (sendings moves) → AreAllTreated c.turns c.ends c.slots

-- ---- what the code keeps of a connection, before and after

-- what is sent is due of each connection that was stood for, and the connection is stood for with it
abbrev pub SendsDue : (Old New : Connection → Type 0) → Sending → Type 0
SendsDue Old New sending = (c : Connection) → Old c → IsDueSending c sending × New (with_sent sending.bytes c)

-- what is sent where memory runs out stands in place of what is due of each connection that was stood for
abbrev pub SendsInPlaceOfDue : (Connection → Type 0) → Sending → Type 0
SendsInPlaceOfDue Old sending = (c : Connection) → Old c → IsTrue sending.out_of_memory → IsInPlaceOfDue (due c) sending.bytes
