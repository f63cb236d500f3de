-- A connection as its whole past: what came, which turns that spells, and the slots of the turns that were treated.
use Rattle.std.specs.Prelude.{◌+◌, ◌||◌, ◌++◌, ℕ, Bool, false, nat_le, if◌then◌else◌, List, [], ◌∷◌, Option, Some, None, drop, length, slice_get}
use Rattle.std.specs.List.{count_by}
use Rattle.http_front.specs.Turns.{End, Waits, Breaks}
use Rattle.http_front.specs.declared.fault.InFault.{InFault}
use Rattle.http_front.specs.declared.turn.Turn.{Turn}
use Rattle.http_front.specs.declared.turn.Turn.TheVariants.{Continue}
use Rattle.connections.specs.declared.awaited.Awaited.{Awaited}
use Rattle.connections.specs.Slots.{IsInPlaceOf, Response, Slot, is_answered, is_awaiting, is_final, is_last, interim_slot}

-- An open connection: its peer; its stream, as far as it was read; the turns that the stream spells, and how they end; a slot for
-- each turn that was treated; how many of the slots were sent; whether no further turn is treated; and whether no further slot is sent.
pub record Connection : Type 0 where
  pub peer : List ℕ
  pub stream : List ℕ
  pub turns : List Turn
  pub ends : End
  pub slots : List Slot
  pub sent : ℕ
  pub closing : Bool
  pub over : Bool

-- ---- what is due

-- what a connection is owed next
pub data Due : Type 0 where
  Send : (slot : Slot) → Due
  Treat : (turn : Turn) → Due
  Refuse : (fault : InFault) → Due
  Close : Due
  Nothing : Due

-- what is due after all turns: the refusal of a fault, if they end by one
abbrev pub due_at_end : End → Due
due_at_end Waits = Nothing
due_at_end (Breaks fault) = Refuse fault

-- the next turn is due, or where there is none what is due after all turns
abbrev pub due_at_turn : Option Turn → End → Due
due_at_turn None ends = due_at_end ends
due_at_turn (Some turn) ends = Treat turn

-- the next turn: each treated turn has a slot
abbrev pub next_turn : Connection → Option Turn
next_turn c = slice_get c.turns (length c.slots)

-- what is due where no slot can be sent
abbrev pub due_without_sending : Connection → Due
due_without_sending c = if c.over then Close else (if c.closing then Nothing else due_at_turn (next_turn c) c.ends)

-- the next slot is due where it is answered
abbrev pub due_at_slot : Option Slot → Connection → Due
due_at_slot None c = due_without_sending c
due_at_slot (Some slot) c = if is_answered slot.response then Send slot else due_without_sending c

-- The end of a connection that is over comes first, then the next slot that is answered, then the next turn.
abbrev pub due : Connection → Due
due c = if c.over then Close else due_at_slot (slice_get c.slots c.sent) c

-- the bytes stand in place of what is due to be sent
abbrev pub IsInPlaceOfDue : Due → List ℕ → Type 0
IsInPlaceOfDue (Send slot) bytes = IsInPlaceOf slot bytes
IsInPlaceOfDue _ bytes = ⊥

-- the number of requests with unsent answers from which a connection's next request is refused
abbrev pub most_unsent : ℕ
most_unsent = 64

-- the answers to `most_unsent` or more of its requests are unsent, so that the next is refused
abbrev pub is_crowded : Connection → Bool
is_crowded c = nat_le most_unsent (count_by (λ slot. is_final slot.response) (drop c.sent c.slots))

-- ---- what happens to it

-- a connection on which nothing came yet
abbrev pub fresh : List ℕ → Connection
fresh peer = record { peer = peer; stream = []; turns = []; ends = Waits; slots = []; sent = 0; closing = false; over = false }

-- the next turn has this slot
abbrev pub with_slot : Slot → Connection → Connection
with_slot slot c = record c { slots = c.slots ++ slot ∷ []; closing = c.closing || slot.closes }

-- a connection whose next turn is this one: a Continue has its slot at once
abbrev pub after_turn : Option Turn → Connection → Connection
after_turn (Some Continue) c = with_slot interim_slot c
after_turn _ c = c

-- a sender that waits for 100 Continue gets it without being asked, unless the connection closes before
abbrev pub with_due_continue : Connection → Connection
with_due_continue c = if c.closing then c else after_turn (next_turn c) c

-- More bytes came, with which the stream spells these turns too and ends so. After the turn that closes the connection none is read.
abbrev pub with_piece : List ℕ → List Turn → End → Connection → Connection
with_piece bytes turns ends c = if c.closing then c else with_due_continue (record c { stream = c.stream ++ bytes; turns = c.turns ++ turns; ends = ends })

-- the slot has this response
abbrev pub with_response : Response → Slot → Slot
with_response response slot = record slot { response = response }

-- the first slot that waits for this has the response
abbrev pub slots_with_end : Awaited → Response → List Slot → List Slot
slots_with_end what response [] = []
slots_with_end what response (slot ∷ slots) = if is_awaiting what slot.response then with_response response slot ∷ slots else slot ∷ slots_with_end what response slots

-- a flight has landed or is lost, or a flush has ended
abbrev pub with_end : Awaited → Response → Connection → Connection
with_end what response c = record c { slots = slots_with_end what response c.slots }

-- the connection closes after these bytes of the slot, if there is one
abbrev pub is_last_at : Option Slot → List ℕ → Bool
is_last_at None bytes = false
is_last_at (Some slot) bytes = is_last slot bytes

-- these bytes were sent for the next slot
abbrev pub with_sent : List ℕ → Connection → Connection
with_sent bytes c = record c { sent = c.sent + 1; over = is_last_at (slice_get c.slots c.sent) bytes }
