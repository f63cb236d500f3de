-- A connection's past: what came, what was sent, and which stream it has read.
use Rattle.std.proofs.Common.{◌≡◌, ℕ, ◌<◌, ◌++◌, Bool, true, false, List, [], ◌∷◌, Option, Some, None, refl, ap, sym, subst, ◌∙◌, arith, inl, append-nil, append_assoc, length-append}
use Rattle.std.specs.Prelude.{if◌then◌else◌, length}
use Rattle.std.proofs.lemmas.List.Elements.{All-nil, All-push}
use Rattle.std.proofs.lemmas.Str.{IsUtf8-from_ascii}
use Rattle.std.proofs.lemmas.Str.Ascii.{IsAscii-cons, IsAscii-nil}
use Rattle.sp_base.proofs.BoolLemmas.{or_first}
use Rattle.httparse.specs.Grammar.{RequestHead, IsRequestHead, HasNoRequest, MayBecomeRequest, is_token_byte, is_uri_byte, print_request, lf}
use Rattle.http_front.specs.Turns.{End, SpellsTurns, Waits}
use Rattle.http_front.specs.declared.turn.Turn.{Turn}
use Rattle.http_front.specs.declared.turn.Turn.TheVariants.{Continue, Whole}
use Rattle.http_front.proofs.ParserLemmas.{head_takes_bytes}
use Rattle.connections.specs.declared.awaited.Awaited.{Awaited}
use Rattle.connections.specs.Slots.{Response, Slot, interim_slot}
use Rattle.connections.specs.Connections.{Connection, with_due_continue, after_turn, with_piece, fresh, next_turn, with_end, with_sent, with_slot}
use Rattle.connections.specs.Connections as model
use Rattle.connections.specs.Histories.{AreMovesOf, IsAtRest, IsMove, Ending, Move, Shut as ShutMove, Sent as SentMove, Piece as PieceMove, Treatment, after_all, sendings}
use Rattle.connections.specs.Histories as history
use Rattle.connections.specs.declared.sending.Sending.{Sending}

-- ---- what a connection has read
-- the same stream was read, and no further turn is treated after one that closes
pub record Same (d v : Connection) : Type 0 where
  pub stream : v.stream ≡ d.stream
  pub turns : v.turns ≡ d.turns
  pub ends : v.ends ≡ d.ends
  pub closing : v.closing ≡ false → d.closing ≡ false

pub same-here : (d : Connection) → Same d d
same-here d = record { stream = refl; turns = refl; ends = refl; closing = λ e. e }

same-then : (a b c : Connection) → Same a b → Same b c → Same a c
same-then a b c first next = record {
  stream = next.stream ∙ first.stream;
  turns = next.turns ∙ first.turns;
  ends = next.ends ∙ first.ends;
  closing = λ e. first.closing (next.closing e);
}

same-slot : (slot : Slot) (d : Connection) → Same d (with_slot slot d)
same-slot slot d = record { stream = refl; turns = refl; ends = refl; closing = or_first d.closing slot.closes }

same-turn : (turn : Option Turn) (d : Connection) → Same d (after_turn turn d)
same-turn None d = same-here d
same-turn (Some Continue) d = same-slot interim_slot d
same-turn (Some (Whole request)) d = same-here d

pub same-advanced : (d : Connection) → Same d (with_due_continue d)
same-advanced d = by_test d.closing
  where
    by_test : (b : Bool) → Same d (if b then d else after_turn (next_turn d) d)
    by_test true = same-here d
    by_test false = same-turn (next_turn d) d

pub same-treated : (slot : Slot) (d : Connection) → Same d (with_due_continue (with_slot slot d))
same-treated slot d = same-then d (with_slot slot d) (with_due_continue (with_slot slot d)) (same-slot slot d) (same-advanced (with_slot slot d))

pub same-sent : (bytes : List ℕ) (d : Connection) → Same d (with_sent bytes d)
same-sent bytes d = record { stream = refl; turns = refl; ends = refl; closing = λ e. e }

pub same-end : (what : Awaited) (response : Response) (d : Connection) → Same d (with_end what response d)
same-end what response d = record { stream = refl; turns = refl; ends = refl; closing = λ e. e }

-- the connection with further bytes, before the sender that waits has its 100 Continue
abbrev pub longer : List ℕ → List Turn → End → Connection → Connection
longer bytes turns ends d = record d { stream = d.stream ++ bytes; turns = d.turns ++ turns; ends = ends }

pub fed-closed : (bytes : List ℕ) (turns : List Turn) (ends : End) (d : Connection) → d.closing ≡ true → with_piece bytes turns ends d ≡ d
fed-closed bytes turns ends d e = rw e refl

fed-open : (bytes : List ℕ) (turns : List Turn) (ends : End) (d : Connection) → d.closing ≡ false → with_piece bytes turns ends d ≡ with_due_continue (longer bytes turns ends d)
fed-open bytes turns ends d e = rw e refl

-- ---- the stream of no bytes
letter-passes : is_token_byte 65 ≡ true
unfolding is_token_byte
letter-passes = refl

abbrev first-head : RequestHead
first-head = record { blank = []; method = 65 ∷ []; target = 47 ∷ []; minor = 1; line_end = lf; fields = []; last = lf }

is-first-head : IsRequestHead first-head
is-first-head = record {
  method = (omega arith, All-push (λ v. is_token_byte v ≡ true) [] 65 (All-nil _) letter-passes);
  target = (omega arith, All-push (λ v. is_uri_byte v ≡ true) [] 47 (All-nil _) refl);
  target_text = IsUtf8-from_ascii _ (IsAscii-cons 47 [] (omega arith) IsAscii-nil);
  minor = omega arith;
  fields = All-nil _;
}

may-begin : MayBecomeRequest []
may-begin = inl (print_request first-head, first-head, (is-first-head, sym (append-nil (print_request first-head))))

long-with : (a b : List ℕ) (c : ℕ) (rest : List ℕ) → 0 < length (a ++ (b ++ c ∷ rest))
long-with a b c rest = omega (arith, length-append a (b ++ c ∷ rest), length-append b (c ∷ rest))

cons-append : (x : ℕ) (a b : List ℕ) → (x ∷ a) ++ b ≡ x ∷ (a ++ b)
cons-append x a b = refl

regrouped : (a b c d e f : List ℕ) → a ++ b ++ 32 ∷ c ++ 32 ∷ d ++ e ++ f ≡ a ++ (b ++ 32 ∷ (c ++ 32 ∷ (d ++ (e ++ f))))
regrouped a b c d e f = simp (append_assoc, cons-append)

none-yet : HasNoRequest []
none-yet h rest x = omega (arith, head_takes_bytes h, ap length x.1, length-append (print_request h) rest)

nothing-spelled : SpellsTurns [] [] Waits
nothing-spelled = inl ((none-yet, may-begin), omega arith)

-- ---- the past of a connection
-- The moves that made a connection what it is, in which this came and this was sent: it has read what came, but for what came after
-- it was closing.
pub record Past (d : Connection) (came : List ℕ) (sent : List Sending) : Type 0 where
  pub peer : List ℕ
  pub moves : List Move
  pub follows : AreMovesOf (fresh peer) moves
  pub is : after_all (fresh peer) moves ≡ d
  pub sent_is : sendings moves ≡ sent
  pub spells : SpellsTurns d.stream d.turns d.ends
  pub unread : List ℕ
  pub came_is : came ≡ d.stream ++ unread
  pub read : d.closing ≡ false → unread ≡ []

pub past-fresh : (peer : List ℕ) → Past (fresh peer) [] []
past-fresh peer = record { peer = peer; moves = []; follows = tt; is = refl; sent_is = refl; spells = nothing-spelled; unread = []; came_is = refl; read = λ e. refl }

follows-push : (c : Connection) (moves : List Move) (move : Move) → AreMovesOf c moves → IsMove (after_all c moves) move → AreMovesOf c (moves ++ move ∷ [])
follows-push c [] move follows may = (may, tt)
follows-push c (first ∷ moves) move follows may = (follows.0, follows-push (history.connection_after_move c first) moves move follows.1 may)

after-push : (c : Connection) (moves : List Move) (move : Move) → after_all c (moves ++ move ∷ []) ≡ history.connection_after_move (after_all c moves) move
after-push c [] move = refl
after-push c (first ∷ moves) move = after-push (history.connection_after_move c first) moves move

sendings-push : (moves : List Move) (move : Move) → sendings (moves ++ move ∷ []) ≡ sendings moves ++ sendings (move ∷ [])
sendings-push [] move = refl
sendings-push (SentMove sending ∷ moves) move = ap (λ xs. sending ∷ xs) (sendings-push moves move)
sendings-push (PieceMove bytes turns ends ∷ moves) move = sendings-push moves move
sendings-push (Treatment slot ∷ moves) move = sendings-push moves move
sendings-push (Ending what response ∷ moves) move = sendings-push moves move
sendings-push (ShutMove ∷ moves) move = sendings-push moves move

-- a move in which nothing is read
pub past-move : (d : Connection) (came : List ℕ) (sent : List Sending) (move : Move) → Past d came sent → IsMove d move → Same d (history.connection_after_move d move) → Past (history.connection_after_move d move) came (sent ++ sendings (move ∷ []))
past-move d came sent move past may same = record {
  peer = past.peer;
  moves = past.moves ++ move ∷ [];
  follows = follows-push (fresh past.peer) past.moves move past.follows (subst (λ x. IsMove x move) (sym past.is) may);
  is = after-push (fresh past.peer) past.moves move ∙ ap (λ x. history.connection_after_move x move) past.is;
  sent_is = sendings-push past.moves move ∙ ap (λ xs. xs ++ sendings (move ∷ [])) past.sent_is;
  spells = rw (same.stream, same.turns, same.ends) past.spells;
  unread = past.unread;
  came_is = past.came_is ∙ ap (λ s. s ++ past.unread) (sym same.stream);
  read = λ e. past.read (same.closing e);
}

pub past-as : (d : Connection) (came : List ℕ) (a b : List Sending) → a ≡ b → Past d came a → Past d came b
past-as d came a b same past = subst (λ xs. Past d came xs) same past

-- ---- a piece
-- what was read of it
pub record FedRead (d v : Connection) (bytes came : List ℕ) : Type 0 where
  pub spells : SpellsTurns v.stream v.turns v.ends
  pub unread : List ℕ
  pub came_is : came ++ bytes ≡ v.stream ++ unread
  pub read : v.closing ≡ false → unread ≡ []

read-closed : (d v : Connection) (bytes came : List ℕ) (sent : List Sending) → v ≡ d → d.closing ≡ true → Past d came sent → FedRead d v bytes came
read-closed d v bytes came sent same closed past = record {
  spells = subst (λ (x : Connection). SpellsTurns x.stream x.turns x.ends) (sym same) past.spells;
  unread = past.unread ++ bytes;
  came_is = subst (λ (x : Connection). came ++ bytes ≡ x.stream ++ (past.unread ++ bytes)) (sym same) (ap (λ xs. xs ++ bytes) past.came_is ∙ append_assoc d.stream past.unread bytes);
  read = λ e. let now : v.closing ≡ true = ap (λ (x : Connection). x.closing) same ∙ closed in let no : ⊥ = cc in absurd no;
}

read-open : (d v : Connection) (bytes came : List ℕ) (sent : List Sending) (turns : List Turn) (ends : End) → Same (longer bytes turns ends d) v → d.closing ≡ false → SpellsTurns (d.stream ++ bytes) (d.turns ++ turns) ends → Past d came sent → FedRead d v bytes came
read-open d v bytes came sent turns ends same still spells past =
    let all : came ≡ d.stream = past.came_is ∙ ap (λ xs. d.stream ++ xs) (past.read still) ∙ append-nil d.stream in
    record {
      spells = rw (same.stream, same.turns, same.ends) spells;
      unread = [];
      came_is = ap (λ xs. xs ++ bytes) all ∙ sym same.stream ∙ sym (append-nil v.stream);
      read = λ e. refl;
    }

past-read : (d : Connection) (came : List ℕ) (sent : List Sending) (bytes : List ℕ) (turns : List Turn) (ends : End) → Past d came sent → FedRead d (with_piece bytes turns ends d) bytes came → Past (with_piece bytes turns ends d) (came ++ bytes) sent
past-read d came sent bytes turns ends past now = record {
  peer = past.peer;
  moves = past.moves ++ PieceMove bytes turns ends ∷ [];
  follows = follows-push (fresh past.peer) past.moves (PieceMove bytes turns ends) past.follows tt;
  is = after-push (fresh past.peer) past.moves (PieceMove bytes turns ends) ∙ ap (λ x. history.connection_after_move x (PieceMove bytes turns ends)) past.is;
  sent_is = sendings-push past.moves (PieceMove bytes turns ends) ∙ append-nil (sendings past.moves) ∙ past.sent_is;
  spells = now.spells;
  unread = now.unread;
  came_is = now.came_is;
  read = now.read;
}

pub past-fed : (d : Connection) (came : List ℕ) (sent : List Sending) (bytes : List ℕ) (turns : List Turn) (ends : End) → (d.closing ≡ false → SpellsTurns (d.stream ++ bytes) (d.turns ++ turns) ends) → Past d came sent → Past (with_piece bytes turns ends d) (came ++ bytes) sent
past-fed d came sent bytes turns ends spells past = past-read d came sent bytes turns ends past (by_test d.closing refl)
  where
    by_test : (b : Bool) → d.closing ≡ b → FedRead d (with_piece bytes turns ends d) bytes came
    by_test true e = read-closed d (with_piece bytes turns ends d) bytes came sent (fed-closed bytes turns ends d e) e past
    by_test false e = read-open d (with_piece bytes turns ends d) bytes came sent turns ends (subst (λ v. Same (longer bytes turns ends d) v) (sym (fed-open bytes turns ends d e)) (same-advanced (longer bytes turns ends d))) e (spells e) past

-- ---- what a connection was at last
-- it is shut, or gone: what it was when nothing more could be sent
pub record Last (came : List ℕ) (sent : List Sending) : Type 0 where
  pub last : Connection
  pub past : Past last came sent
  pub rests : IsAtRest (model.due last)

abbrev pub last-now : (d : Connection) (came : List ℕ) (sent : List Sending) → Past d came sent → IsAtRest (model.due d) → Last came sent
last-now d came sent past rests = record { last = d; past = past; rests = rests }
