-- The turns of a stream of bytes: its requests, one after another (RFC 9112, section 2), each with 100 Continue before it where its
-- sender waits for that.
use Rattle.std.specs.Prelude.{◌≡◌, ◌⊎◌, ◌<◌, ◌≤◌, ◌++◌, ℕ, Bool, true, false, List, [], ◌∷◌, Some, length, take}
use Rattle.httparse.specs.Grammar.{RequestHead, print_request, ReadsRequest, HasNoRequest, NeverHasRequest, MayBecomeRequest}
use Rattle.sp_base.specs.Requests.{Request}
use Rattle.http_front.specs.declared.fault.InFault.{InFault}
use Rattle.http_front.specs.declared.fault.InFault.TheVariants.{BadHead, LongHead}
use Rattle.http_front.specs.declared.head.AskedHead.{AskedHead}
use Rattle.http_front.specs.declared.turn.Turn.{Turn}
use Rattle.http_front.specs.declared.turn.Turn.TheVariants.{Continue, Whole}
use Rattle.http_front.specs.Heads.{parts_of, head_fault, Asks}

-- how the turns of a stream end: more bytes may bring more, or a fault ends them
pub data End : Type 0 where
  Waits : End
  Breaks : (fault : InFault) → End

-- the most bytes of a head, the empty lines before it and the one after it among them
abbrev pub longest_head : ℕ
longest_head = 16384

-- the first bytes of a stream, in which its next head has to stand
abbrev pub window : List ℕ → List ℕ
window stream = take longest_head stream

-- the stream begins with this head, within the limit, and rest comes after it
pub record BeginsWith (stream : List ℕ) (head : RequestHead) (rest : List ℕ) : Type 0 where
  pub reads : ReadsRequest stream head rest
  pub fits : length (print_request head) ≤ longest_head

-- the stream begins with a head that asks for this, and rest comes after it
pub record BeginsAsking (stream : List ℕ) (asked : AskedHead) (rest : List ℕ) : Type 0 where
  pub head : RequestHead
  pub begins : BeginsWith stream head rest
  pub asks : Asks (parts_of head) asked

-- the stream begins with a head that has this fault
pub record BeginsRefused (stream : List ℕ) (fault : InFault) : Type 0 where
  pub head : RequestHead
  pub rest : List ℕ
  pub begins : BeginsWith stream head rest
  pub refused : head_fault (parts_of head) ≡ Some fault

-- the request with its body
abbrev pub with_request_body : AskedHead → List ℕ → Request
with_request_body asked body = record asked.request { body = body }

-- the bytes after a head are the body that it tells of, and then rest
pub record HasBody (asked : AskedHead) (bytes : List ℕ) (request : Request) (rest : List ℕ) : Type 0 where
  pub body : List ℕ
  pub joined : bytes ≡ body ++ rest
  pub whole : length body ≡ asked.body_length
  pub request_is : request ≡ with_request_body asked body

-- no whole head is there, and one may still come
abbrev pub AwaitsHead : List ℕ → Type 0
AwaitsHead stream = HasNoRequest (window stream) × MayBecomeRequest (window stream)

-- a head is there, and not yet the whole of its body
pub record AwaitsBody (stream : List ℕ) : Type 0 where
  pub asked : AskedHead
  pub rest : List ℕ
  pub begins : BeginsAsking stream asked rest
  pub unasked : asked.awaits_continue ≡ false
  pub short : length rest < asked.body_length

-- No head is there, and none can come: the bytes begin none, however they go on; or they are at least as many as a head may have. (Within
-- a target that no bytes can save both this and waiting are so: `MayBecomeRequest`.)
abbrev pub HasNoHead : List ℕ → InFault → Type 0
HasNoHead stream fault = ((fault ≡ BadHead) × NeverHasRequest (window stream)) ⊎ ((fault ≡ LongHead) × (AwaitsHead stream × (longest_head ≤ length stream)))

-- no turn is there, and so the stream ends
abbrev pub StopsIn : List ℕ → End → Type 0
StopsIn stream Waits = (AwaitsHead stream × (length stream < longest_head)) ⊎ AwaitsBody stream
StopsIn stream (Breaks fault) = BeginsRefused stream fault ⊎ HasNoHead stream fault

-- the stream begins with a whole request, whose sender waits for 100 Continue or doesn't, and rest comes after it
pub record BeginsWithRequest (stream : List ℕ) (awaits : Bool) (request : Request) (rest : List ℕ) : Type 0 where
  pub asked : AskedHead
  pub bytes : List ℕ
  pub begins : BeginsAsking stream asked bytes
  pub awaits_is : asked.awaits_continue ≡ awaits
  pub body : HasBody asked bytes request rest

-- the stream is a head whose sender waits for 100 Continue, and not yet the whole of its body
pub record AwaitsAskedBody (stream : List ℕ) : Type 0 where
  pub asked : AskedHead
  pub rest : List ℕ
  pub begins : BeginsAsking stream asked rest
  pub asks : asked.awaits_continue ≡ true
  pub short : length rest < asked.body_length

-- The stream spells these turns, and ends so: whole requests, each after a Continue where its sender waits for one, and after them
-- the bytes of no whole request.
abbrev pub SpellsTurns : List ℕ → List Turn → End → Type 0
SpellsTurns stream [] end = StopsIn stream end
SpellsTurns stream (Whole request ∷ turns) end = (rest : List ℕ) × BeginsWithRequest stream false request rest × SpellsTurns rest turns end
SpellsTurns stream (Continue ∷ []) end = AwaitsAskedBody stream × (end ≡ Waits)
SpellsTurns stream (Continue ∷ Continue ∷ turns) end = ⊥
SpellsTurns stream (Continue ∷ Whole request ∷ turns) end = (rest : List ℕ) × BeginsWithRequest stream true request rest × SpellsTurns rest turns end
