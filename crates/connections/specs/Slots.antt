-- The places of a connection's answers, one for each turn of its stream, in their order (RFC 9112, section 9.3.2).
use Rattle.std.specs.Prelude.{◌≡◌, ◌==◌, ◌||◌, ◌⊎◌, ℕ, Bool, true, false, nat_eq, if◌then◌else◌, List, [], IsTrue, codes}
use Rattle.std.specs.Cmp.Lexicographic.{pointwise}
use Rattle.sp_base.specs.declared.answer.Answer.{Answer}
use Rattle.sp_base.specs.declared.answer.Mark.TheVariants.{Plain}
use Rattle.sp_base.specs.Requests.{Request}
use Rattle.any_config.specs.declared.farm.Farm.{Farm}
use Rattle.cover_rules.specs.declared.page.PageKey.{PageKey}
use Rattle.dispatch_rules.specs.Caching.{is_storable}
use Rattle.cache_log.specs.Entries.{LogEntry}
use Rattle.cache_log.specs.Hits.{MayHit}
use Rattle.cache_log.specs.Rules.{IsLegal}
use Rattle.error_answers.specs.Errors.{error_answer}
use Rattle.http_front.specs.Answers.{answer_bytes, fixed_507, interim_100}
use Rattle.http_front.specs.Faults.{insufficient_storage}
use Rattle.connections.specs.declared.awaited.Awaited.{Awaited}
use Rattle.connections.specs.declared.awaited.Awaited.TheVariants.{Flight, Flush}
use Rattle.connections.specs.declared.sending.Sending.{Sending}

-- the answer in place of one for which no memory was there (RFC 4918, section 11.5): its status alone
abbrev pub fixed_answer : Answer
fixed_answer = record { status = insufficient_storage; kind = []; location = []; mark = Plain; body = [] }

-- The cache may answer a hit on the page so, before this farm with this log: the hit is permitted (RFC 9111, section 4), and the answer is one
-- that may be stored (section 3). Of a legal log each permitted answer is.
abbrev pub IsHit : Farm → List LogEntry → PageKey → Answer → Type 0
IsHit farm log key answer = MayHit farm log key answer × IsTrue (is_storable answer)

-- What a slot is answered by: 100 Continue (RFC 9110, section 15.2.1), the fixed 507, what a flight or the end of a flush will bring, an
-- answer, or any of those that the cache may answer for a page, by its log as it was when the request was treated.
pub data Response : Type 0 where
  Interim : Response
  Fixed : Response
  Awaits : (what : Awaited) → Response
  Says : (answer : Answer) → Response
  Cached : (farm : Farm) (log : List LogEntry) (key : PageKey) → Response

-- The place of a response: whether it is sent without its body, whether the connection closes after it, and what answers it. The
-- bytes are made when they are sent.
pub record Slot : Type 0 where
  pub head_only : Bool
  pub closes : Bool
  pub response : Response

-- what is answered by a status alone: the answer of an error, or the fixed 507
abbrev pub local_response : ℕ → Response
local_response status = if status == insufficient_storage then Fixed else Says (error_answer status)

-- it waits for nothing
abbrev pub is_answered : Response → Bool
is_answered (Awaits what) = false
is_answered _ = true

-- both are the same flight, or the same flush
abbrev pub is_same_awaited : Awaited → Awaited → Bool
is_same_awaited (Flight n) (Flight m) = nat_eq n m
is_same_awaited (Flush v) (Flush u) = nat_eq v u
is_same_awaited _ _ = false

-- it awaits this flight, or the end of this flush
abbrev pub is_awaiting : Awaited → Response → Bool
is_awaiting what (Awaits other) = is_same_awaited other what
is_awaiting what _ = false

-- it answers a request, and isn't an interim response before the request's own
abbrev pub is_final : Response → Bool
is_final Interim = false
is_final _ = true

-- the bytes of a response in this slot
abbrev pub IsWritten : Slot → Response → List ℕ → Type 0
IsWritten slot Interim bytes = bytes ≡ interim_100
IsWritten slot Fixed bytes = bytes ≡ fixed_507
IsWritten slot (Awaits what) bytes = ⊥
IsWritten slot (Says answer) bytes = bytes ≡ answer_bytes slot.head_only slot.closes answer
IsWritten slot (Cached farm log key) bytes = (answer : Answer) × IsHit farm log key answer × (bytes ≡ answer_bytes slot.head_only slot.closes answer)

-- What may be sent for a slot: its own bytes; or the fixed 507, where memory ran out.
abbrev pub MayAnswer : Slot → Sending → Type 0
MayAnswer slot sending = IsWritten slot slot.response sending.bytes ⊎ (IsTrue sending.out_of_memory × (sending.bytes ≡ fixed_507))

-- The bytes stand in place of the slot's own: they are the fixed 507, and the slot's own aren't.
abbrev pub IsInPlaceOf : Slot → List ℕ → Type 0
IsInPlaceOf slot bytes = (bytes ≡ fixed_507) × (IsWritten slot slot.response bytes → ⊥)

-- the bytes are the fixed 507
abbrev pub are_fixed_507 : List ℕ → Bool
are_fixed_507 bytes = pointwise nat_eq bytes fixed_507

-- the connection closes after these bytes of this slot
abbrev pub is_last : Slot → List ℕ → Bool
is_last slot bytes = slot.closes || are_fixed_507 bytes

-- HEAD is answered without a body (RFC 9110, section 9.3.2)
abbrev pub is_head : Request → Bool
is_head request = pointwise nat_eq request.method (codes "HEAD")

-- The slot of a request, after which the connection closes where the request asks for it, or for another reason (`closes`).
abbrev pub request_slot : Request → Bool → Response → Slot
request_slot request closes response = record { head_only = is_head request; closes = closes || request.close; response = response }

-- the slot of a stream's fault
abbrev pub fault_slot : Response → Slot
fault_slot response = record { head_only = false; closes = true; response = response }

-- the slot of a sender that waits with its body for 100 Continue
abbrev pub interim_slot : Slot
interim_slot = record { head_only = false; closes = false; response = Interim }

-- the fixed answer, sent whole where the connection closes after it
abbrev pub IsFixedWhole : Bool → Bool → Answer → Type 0
IsFixedWhole head_only closes answer = (head_only ≡ false) × (closes ≡ true) × (answer ≡ fixed_answer)

-- a hit that a legal log permits may be answered so
abbrev pub IsHitIfPermitted : Farm → List LogEntry → PageKey → Answer → Type 0
IsHitIfPermitted farm log key answer = IsLegal farm log → MayHit farm log key answer → IsHit farm log key answer
