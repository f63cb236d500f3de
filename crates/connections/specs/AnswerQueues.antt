-- What the code keeps of a connection: the places of its answers that aren't sent yet.
-- `has_reply`, `first_has_reply`, `is_final_reply`, `reply_bytes`, `place_bytes` and `IsSendingOf` are needed by private functions and proofs
-- alone.
use Rattle.std.specs.Prelude.{◌≡◌, ◌≤◌, ◌⊎◌, ℕ, Bool, true, false, not, List, [], ◌∷◌, drop, length, take}
use Rattle.error_answers.specs.Errors.{error_answer}
use Rattle.http_front.specs.Answers.{answer_bytes, fixed_507, interim_100}
use Rattle.connections.specs.declared.place.AnswerPlace.{AnswerPlace}
use Rattle.connections.specs.declared.place.Reply.{Reply}
use Rattle.connections.specs.declared.place.Reply.TheVariants.{Interim, Fixed, Own, Awaits, Says}
use Rattle.connections.specs.declared.answer_queue.AnswerQueue.{AnswerQueue}
use Rattle.connections.specs.declared.sending.Sending.{Sending}
use Rattle.connections.specs.declared.awaited.Awaited.{Awaited}
use Rattle.connections.specs.Slots.{IsHit, Slot, Response, is_answered, is_same_awaited, are_fixed_507}
use Rattle.connections.specs.Slots as model
use Rattle.connections.specs.Connections.{Connection, with_end}

-- ---- replies

-- it waits for nothing
abbrev pub has_reply : Reply → Bool
has_reply (Awaits what) = false
has_reply _ = true

-- it awaits this flight, or the end of this flush
abbrev pub awaits : Awaited → Reply → Bool
awaits what (Awaits other) = is_same_awaited other what
awaits what _ = false

-- it answers a request, and is no interim response
abbrev pub is_final_reply : Reply → Bool
is_final_reply Interim = false
is_final_reply _ = true

-- the bytes of a reply: none while it is awaited
abbrev pub reply_bytes : Bool → Bool → Reply → List ℕ
reply_bytes head_only closes Interim = interim_100
reply_bytes head_only closes Fixed = fixed_507
reply_bytes head_only closes (Own status) = answer_bytes head_only closes (error_answer status)
reply_bytes head_only closes (Awaits what) = []
reply_bytes head_only closes (Says answer) = answer_bytes head_only closes answer

-- the bytes of the reply in its place
abbrev pub place_bytes : AnswerPlace → List ℕ
place_bytes place = reply_bytes place.head_only place.closes place.reply

-- the first place has its reply
abbrev pub first_has_reply : List AnswerPlace → Bool
first_has_reply [] = false
first_has_reply (place ∷ places) = has_reply place.reply

-- what is sent for the place: its bytes; or the spare ones, and then memory ran out unless the fixed 507 is its own
abbrev pub IsSendingOf : AnswerPlace → List ℕ → Sending → Type 0
IsSendingOf place spare sending = ((sending.out_of_memory ≡ false) × (sending.bytes ≡ place_bytes place)) ⊎ ((sending.out_of_memory ≡ not (are_fixed_507 (place_bytes place))) × (sending.bytes ≡ spare))

-- ---- places and slots

-- the reply stands for the response: an answer also for a hit that it may be the answer of
abbrev pub ReplyStandsFor : Reply → Response → Type 0
ReplyStandsFor Interim model.Interim = Unit {0}
ReplyStandsFor Fixed model.Fixed = Unit {0}
ReplyStandsFor (Own status) (model.Says b) = b ≡ error_answer status
ReplyStandsFor (Awaits m) (model.Awaits n) = m ≡ n
ReplyStandsFor (Says a) (model.Says b) = a ≡ b
ReplyStandsFor (Says a) (model.Cached farm log key) = IsHit farm log key a
ReplyStandsFor _ _ = ⊥

-- the place stands for the slot
pub record PlaceStandsFor (place : AnswerPlace) (slot : Slot) : Type 0 where
  pub head_only_is : place.head_only ≡ slot.head_only
  pub closes_is : place.closes ≡ slot.closes
  pub replies : ReplyStandsFor place.reply slot.response

-- each place stands for the slot at its position, and there are as many
abbrev pub PlacesStandFor : List AnswerPlace → List Slot → Type 0
PlacesStandFor [] [] = Unit {0}
PlacesStandFor (place ∷ places) (slot ∷ slots) = PlaceStandsFor place slot × PlacesStandFor places slots
PlacesStandFor _ _ = ⊥

-- none of the slots waits
abbrev pub AllAnswered : List Slot → Type 0
AllAnswered [] = Unit {0}
AllAnswered (slot ∷ slots) = (is_answered slot.response ≡ true) × AllAnswered slots

-- ---- connections

-- These places are those of the slots that aren't sent, and the connection is closing and over so. While it isn't over, the spare bytes
-- are the fixed 507.
pub record IsLeft (places : List AnswerPlace) (closing over : Bool) (spare : List ℕ) (c : Connection) : Type 0 where
  pub unsent : PlacesStandFor places (drop c.sent c.slots)
  pub within : c.sent ≤ length c.slots
  pub past : AllAnswered (take c.sent c.slots)
  pub closing_is : closing ≡ c.closing
  pub over_is : over ≡ c.over
  pub spare_is : over ≡ false → spare ≡ fixed_507

-- the queue stands for the connection: it is what is left of it
abbrev pub QueueStandsFor : AnswerQueue → Connection → Type 0
QueueStandsFor queue c = IsLeft queue.places.items queue.closing queue.over queue.spare c

-- how many places a queue has
abbrev pub unsent_count : AnswerQueue → ℕ
unsent_count queue = length queue.places.items

-- each connection that was stood for is stood for with the response in its slot that waits for this
abbrev pub FillsSlot : Awaited → Reply → (Old New : Connection → Type 0) → Type 0
FillsSlot awaited reply Old New = (c : Connection) (response : Response) → ReplyStandsFor reply response → Old c → New (with_end awaited response c)
