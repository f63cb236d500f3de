-- Two connections on which the same bytes came, or the one's and more, in whatever pieces.
use Rattle.std.specs.Prelude.{◌≡◌, ◌++◌, ◌⊎◌, ℕ, true, List, ◌∷◌, flat_map, Some, false}
use Rattle.connections.specs.Histories.{HaveNoSendingOutOfMemory}
use Rattle.connections.specs.Ids.{ConnectionId}
use Rattle.connections.specs.Slots.{Cached, Response, Slot, is_answered}
use Rattle.connections.specs.declared.sending.Sending.{Sending}
use Rattle.connections.specs.Connections.{Connection}
use Rattle.run_events.specs.Events.{Event, Run, state_after_events}
use Rattle.run_laws.specs.Histories.{AnswersWhatCame, came_since_opened, sent_since_opened}
use Rattle.run_events.specs.States.{Start, start_of}

-- one of the lists begins the other
abbrev pub OneBegins : {A : Type 0} → List A → List A → Type 0
OneBegins {A} one other = ((more : List A) × (other ≡ one ++ more)) ⊎ ((more : List A) × (one ≡ other ++ more))

-- all bytes that were sent, one after another
abbrev pub bytes_sent : List Sending → List ℕ
bytes_sent sent = flat_map (λ (sending : Sending). sending.bytes) sent

-- the response is one answer: it isn't any of those that the cache may give
abbrev pub IsOneAnswer : Response → Type 0
IsOneAnswer (Cached farm log key) = ⊥
IsOneAnswer _ = Unit {0}

-- wherever the slots of both are answered they are the same: the same answer, with its body or without, after which the connection
-- closes or doesn't
abbrev pub AreAnsweredAlike : List Slot → List Slot → Type 0
AreAnsweredAlike (slot ∷ slots) (other ∷ others) = (is_answered slot.response ≡ true → is_answered other.response ≡ true → (slot ≡ other) × IsOneAnswer slot.response) × AreAnsweredAlike slots others
AreAnsweredAlike _ _ = Unit {0}

-- This came on one connection, and this and more on another, and what was sent answers it. In whatever way that is seen: the turns that
-- were read of the one begin those of the other, or the other way round; and so do the bytes that were sent, where the same requests had
-- the same answers.
pub record AreCutAlike (came more : List ℕ) (sent other : List Sending) : Type 0 where
  pub one : AnswersWhatCame came sent
  pub two : AnswersWhatCame (came ++ more) other
  pub turns : (x : AnswersWhatCame came sent) (y : AnswersWhatCame (came ++ more) other) → OneBegins x.answers.turns y.answers.turns
  pub bytes : (x : AnswersWhatCame came sent) (y : AnswersWhatCame (came ++ more) other) → AreAnsweredAlike x.answers.slots y.answers.slots → HaveNoSendingOutOfMemory sent → HaveNoSendingOutOfMemory other → OneBegins (bytes_sent sent) (bytes_sent other)

-- How a stream was cut into pieces changes no byte that is sent, in one run or in two, whether the connections are open, shut or gone.
abbrev pub CuttingsAgree : Type 0
CuttingsAgree = (p q : Start) (a b : List Event) (c d : ConnectionId) (more : List ℕ) → Run (start_of p) a → Run (start_of q) b
    → came_since_opened d b ≡ came_since_opened c a ++ more → AreCutAlike (came_since_opened c a) more (sent_since_opened c a) (sent_since_opened d b)

-- where the same bytes came on two open connections that aren't closing, in one run or in two, the same turns were read of both
abbrev pub SameStreamsHaveSameTurnsIfNeitherCloses : Type 0
SameStreamsHaveSameTurnsIfNeitherCloses = (p q : Start) (a b : List Event) (c d : ConnectionId) (x y : Connection) → Run (start_of p) a → Run (start_of q) b
    → (state_after_events (start_of p) a).connection c ≡ Some x → (state_after_events (start_of q) b).connection d ≡ Some y → x.closing ≡ false → y.closing ≡ false
    → came_since_opened c a ≡ came_since_opened d b → x.turns ≡ y.turns
