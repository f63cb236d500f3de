-- The slots of a connection are those of its turns.
use Rattle.std.proofs.Common.{◌≡◌, ◌≢◌, ℕ, Bool, true, false, cond, List, [], ◌∷◌, ◌++◌, length, Option, Some, None, refl, ap, sym, ◌∙◌}
use Rattle.std.specs.Prelude.{◌==◌, if◌then◌else◌, slice_get}
use Rattle.error_answers.specs.Errors.{error_answer}
use Rattle.http_front.specs.Faults.{fault_status}
use Rattle.http_front.specs.Turns.{End, Waits, Breaks}
use Rattle.http_front.specs.declared.fault.InFault.{InFault}
use Rattle.http_front.specs.declared.turn.Turn.{Turn}
use Rattle.http_front.specs.declared.turn.Turn.TheVariants.{Continue, Whole}
use Rattle.connections.specs.declared.awaited.Awaited.{Awaited}
use Rattle.connections.specs.Slots.{Fixed, Response, Says, Slot, interim_slot, is_answered, is_awaiting, local_response}
use Rattle.connections.specs.Connections.{Close, Connection, Due, Nothing, Refuse, Send, Treat, with_due_continue, after_turn, due, due_at_slot, due_at_turn, due_without_sending, with_piece, slots_with_end, fresh, next_turn, with_end, with_response, with_sent, with_slot}
use Rattle.connections.specs.Histories.{AreOfTurns, Ending, AreMovesOf, IsEndOr, IsOfEnd, IsOfFault, IsOfTurn, IsSlotOf, Move, Piece, Sent, Shut, Treatment, after_all}

-- the slots are those of turns, and none closes the connection
abbrev pub Open : List Turn → List Slot → Type 0
Open turns [] = Unit {0}
Open [] (slot ∷ slots) = ⊥
Open (turn ∷ turns) (slot ∷ slots) = IsOfTurn turn slot × (slot.closes ≡ false) × Open turns slots

end-or-push : (b : Bool) (turns : List Turn) (ends : End) (slots : List Slot) → slots ≡ [] → AreOfTurns turns ends slots → IsEndOr b slots (AreOfTurns turns ends slots)
end-or-push true turns ends slots none all = none
end-or-push false turns ends slots none all = all

end-or-open : (b : Bool) (slots : List Slot) (P : Type 0) → b ≡ false → P → IsEndOr b slots P
end-or-open true slots P e p = absurd (let no : ⊥ = cc in no)
end-or-open false slots P e p = p

open-are : (turns : List Turn) (ends : End) (slots : List Slot) → Open turns slots → AreOfTurns turns ends slots
open-are turns ends [] open_ = tt
open-are [] ends (s ∷ slots) open_ = absurd open_
open-are (t ∷ turns) ends (s ∷ slots) open_ = (open_.0, end-or-open s.closes slots _ open_.1 (open-are turns ends slots open_.2))

-- ---- a turn or a fault gets its slot
push-turn : (turns : List Turn) (ends : End) (slots : List Slot) (t : Turn) (s : Slot) → Open turns slots → slice_get turns (length slots) ≡ Some t → IsOfTurn t s → AreOfTurns turns ends (slots ++ s ∷ [])
push-turn [] ends [] t s open_ at is = absurd (let no : ⊥ = cc in no)
push-turn (u ∷ turns) ends [] t s open_ at is =
    let same : u ≡ t = cc in
    (rw same is, end-or-push s.closes turns ends [] refl tt)
push-turn [] ends (r ∷ slots) t s open_ at is = absurd open_
push-turn (u ∷ turns) ends (r ∷ slots) t s open_ at is = (open_.0, end-or-open r.closes (slots ++ s ∷ []) _ open_.1 (push-turn turns ends slots t s open_.2 at is))

open-turn : (turns : List Turn) (slots : List Slot) (t : Turn) (s : Slot) → Open turns slots → slice_get turns (length slots) ≡ Some t → IsOfTurn t s → s.closes ≡ false → Open turns (slots ++ s ∷ [])
open-turn [] [] t s open_ at is stays = absurd (let no : ⊥ = cc in no)
open-turn (u ∷ turns) [] t s open_ at is stays =
    let same : u ≡ t = cc in
    (rw same is, stays, tt)
open-turn [] (r ∷ slots) t s open_ at is stays = absurd open_
open-turn (u ∷ turns) (r ∷ slots) t s open_ at is stays = (open_.0, open_.1, open-turn turns slots t s open_.2 at is stays)

push-fault : (turns : List Turn) (ends : End) (slots : List Slot) (s : Slot) → Open turns slots → slice_get turns (length slots) ≡ None → IsOfEnd ends s → AreOfTurns turns ends (slots ++ s ∷ [])
push-fault [] ends [] s open_ at is = (is, refl)
push-fault (u ∷ turns) ends [] s open_ at is = absurd (let no : ⊥ = cc in no)
push-fault [] ends (r ∷ slots) s open_ at is = absurd open_
push-fault (u ∷ turns) ends (r ∷ slots) s open_ at is = (open_.0, end-or-open r.closes (slots ++ s ∷ []) _ open_.1 (push-fault turns ends slots s open_.2 at is))

open-more : (turns more : List Turn) (slots : List Slot) → Open turns slots → Open (turns ++ more) slots
open-more turns more [] open_ = tt
open-more [] more (s ∷ slots) open_ = absurd open_
open-more (t ∷ turns) more (s ∷ slots) open_ = (open_.0, open_.1, open-more turns more slots open_.2)

-- ---- what a slot waits for has ended
of-turn-filled : (n : Awaited) (r : Response) (t : Turn) (s : Slot) → r ≢ Fixed → is_awaiting n s.response ≡ true → IsOfTurn t s → IsOfTurn t (with_response r s)
of-turn-filled n r Continue s other awaits is = absurd (let no : false ≡ true = ap (λ (x : Slot). is_awaiting n x.response) (sym is) ∙ awaits in let none : ⊥ = cc in none)
of-turn-filled n r (Whole request) s other awaits is = (is.0, r, ap (with_response r) is.2, λ fixed. absurd (other fixed))

-- the slot of a fault waits for nothing
pub local-waits : (n : Awaited) (status : ℕ) → is_awaiting n (local_response status) ≡ false
local-waits n status = by_test (status == 507)
  where
    by_test : (b : Bool) → is_awaiting n (if b then Fixed else Says (error_answer status)) ≡ false
    by_test true = refl
    by_test false = refl

end-waits : (n : Awaited) (ends : End) (s : Slot) → IsOfEnd ends s → is_awaiting n s.response ≡ false
end-waits n Waits s is = absurd is
end-waits n (Breaks fault) s is = ap (λ (r : Slot). is_awaiting n r.response) is ∙ local-waits n (fault_status fault)

pub filled-none : (n : Awaited) (r : Response) (slots : List Slot) → slots ≡ [] → slots_with_end n r slots ≡ []
filled-none n r slots e = rw e refl

end-or-map : (b : Bool) (slots others : List Slot) (P Q : Type 0) → IsEndOr b slots P → (slots ≡ [] → others ≡ []) → (P → Q) → IsEndOr b others Q
end-or-map true slots others P Q here none next = none here
end-or-map false slots others P Q here none next = next here

filled-are : (n : Awaited) (r : Response) (turns : List Turn) (ends : End) (slots : List Slot) → r ≢ Fixed → AreOfTurns turns ends slots → AreOfTurns turns ends (slots_with_end n r slots)
filled-are n r turns ends [] other all = tt
filled-are n r [] ends (s ∷ slots) other all = by_test (is_awaiting n s.response) refl
  where
    by_test : (t : Bool) → is_awaiting n s.response ≡ t → AreOfTurns [] ends (cond (is_awaiting n s.response) (with_response r s ∷ slots) (s ∷ slots_with_end n r slots))
    by_test true e = absurd (let waits : is_awaiting n s.response ≡ false = end-waits n ends s all.0 in let no : ⊥ = cc in no)
    by_test false e = rw e (all.0, filled-none n r slots all.1)
filled-are n r (t ∷ turns) ends (s ∷ slots) other all = by_test (is_awaiting n s.response) refl (filled-are n r turns ends slots other)
  where
    by_test : (b : Bool) → is_awaiting n s.response ≡ b → (AreOfTurns turns ends slots → AreOfTurns turns ends (slots_with_end n r slots)) → AreOfTurns (t ∷ turns) ends (cond (is_awaiting n s.response) (with_response r s ∷ slots) (s ∷ slots_with_end n r slots))
    by_test true e rest = rw e (of-turn-filled n r t s other e all.0, all.1)
    by_test false e rest = rw e (all.0, end-or-map s.closes slots (slots_with_end n r slots) _ _ all.1 (filled-none n r slots) rest)

filled-open : (n : Awaited) (r : Response) (turns : List Turn) (slots : List Slot) → r ≢ Fixed → Open turns slots → Open turns (slots_with_end n r slots)
filled-open n r turns [] other open_ = tt
filled-open n r [] (s ∷ slots) other open_ = absurd open_
filled-open n r (t ∷ turns) (s ∷ slots) other open_ = by_test (is_awaiting n s.response) refl (filled-open n r turns slots other open_.2)
  where
    by_test : (b : Bool) → is_awaiting n s.response ≡ b → Open turns (slots_with_end n r slots) → Open (t ∷ turns) (cond (is_awaiting n s.response) (with_response r s ∷ slots) (s ∷ slots_with_end n r slots))
    by_test true e rest = rw e (of-turn-filled n r t s other e open_.0, open_.1, open_.2)
    by_test false e rest = rw e (open_.0, open_.1, rest)

-- ---- the slot that closes a connection is its last
abbrev pub LastCloses : List Slot → Type 0
LastCloses [] = ⊥
LastCloses (s ∷ []) = s.closes ≡ true
LastCloses (s ∷ t ∷ slots) = LastCloses (t ∷ slots)

last-push : (slots : List Slot) (s : Slot) → s.closes ≡ true → LastCloses (slots ++ s ∷ [])
last-push [] s e = e
last-push (r ∷ []) s e = e
last-push (r ∷ t ∷ slots) s e = last-push (t ∷ slots) s e

last-cons : (s : Slot) (slots : List Slot) → LastCloses slots → LastCloses (s ∷ slots)
last-cons s [] last = absurd last
last-cons s (t ∷ slots) last = last

last-filled : (n : Awaited) (r : Response) (slots : List Slot) → LastCloses slots → LastCloses (slots_with_end n r slots)
last-filled n r [] last = absurd last
last-filled n r (s ∷ []) last = by_test (is_awaiting n s.response)
  where
    by_test : (b : Bool) → LastCloses (cond b (with_response r s ∷ []) (s ∷ []))
    by_test true = last
    by_test false = last
last-filled n r (s ∷ t ∷ slots) last = by_test (is_awaiting n s.response) (last-filled n r (t ∷ slots) last)
  where
    by_test : (b : Bool) → LastCloses (slots_with_end n r (t ∷ slots)) → LastCloses (cond b (with_response r s ∷ t ∷ slots) (s ∷ slots_with_end n r (t ∷ slots)))
    by_test true rest = last
    by_test false rest = last-cons s (slots_with_end n r (t ∷ slots)) rest

-- ---- one move
pub record Good (c : Connection) : Type 0 where
  pub are : AreOfTurns c.turns c.ends c.slots
  pub open_ : c.closing ≡ false → Open c.turns c.slots
  pub last : c.closing ≡ true → LastCloses c.slots

-- what is due of the turns
record OfTurn (c : Connection) (o : Option Turn) : Type 0 where
  going : c.closing ≡ false
  next : slice_get c.turns (length c.slots) ≡ o

turn-of : (o : Option Turn) (ends : End) (d : Due) → due_at_turn o ends ≡ d → (turn : Turn) → d ≡ Treat turn → o ≡ Some turn
turn-of None Waits d e turn is = absurd (let no : ⊥ = cc in no)
turn-of None (Breaks fault) d e turn is = absurd (let no : ⊥ = cc in no)
turn-of (Some t) ends d e turn is = let same : t ≡ turn = cc in ap (λ x. Some x) same

fault-of : (o : Option Turn) (ends : End) (d : Due) → due_at_turn o ends ≡ d → (fault : InFault) → d ≡ Refuse fault → (o ≡ None) × (ends ≡ Breaks fault)
fault-of None Waits d e fault is = absurd (let no : ⊥ = cc in no)
fault-of None (Breaks other) d e fault is = let same : other ≡ fault = cc in (refl, ap (λ x. Breaks x) same)
fault-of (Some t) ends d e fault is = absurd (let no : ⊥ = cc in no)

-- what is due is an answer, the end, nothing, or what is due of the turns
turn_without_sending : (c : Connection) (turn : Turn) → due_without_sending c ≡ Treat turn → OfTurn c (Some turn)
turn_without_sending c turn e = by_over c.over c.closing refl e
  where
    by_over : (over closing : Bool) → c.closing ≡ closing → cond over Close (cond closing Nothing (due_at_turn (next_turn c) c.ends)) ≡ Treat turn → OfTurn c (Some turn)
    by_over true closing is e = absurd (let no : ⊥ = cc in no)
    by_over false true is e = absurd (let no : ⊥ = cc in no)
    by_over false false is e = record { going = is; next = turn-of (next_turn c) c.ends _ refl turn e }

-- the stream ends by this fault, which is due
record OfFault (c : Connection) (fault : InFault) : Type 0 where
  turn : OfTurn c None
  ends : c.ends ≡ Breaks fault

fault_without_sending : (c : Connection) (fault : InFault) → due_without_sending c ≡ Refuse fault → OfFault c fault
fault_without_sending c fault e = by_over c.over c.closing refl e
  where
    by_over : (over closing : Bool) → c.closing ≡ closing → cond over Close (cond closing Nothing (due_at_turn (next_turn c) c.ends)) ≡ Refuse fault → OfFault c fault
    by_over true closing is e = absurd (let no : ⊥ = cc in no)
    by_over false true is e = absurd (let no : ⊥ = cc in no)
    by_over false false is e = let at = fault-of (next_turn c) c.ends _ refl fault e in record { turn = record { going = is; next = at.0 }; ends = at.1 }

slot-turn : (c : Connection) (o : Option Slot) (turn : Turn) → due_at_slot o c ≡ Treat turn → due_without_sending c ≡ Treat turn
slot-turn c None turn e = e
slot-turn c (Some s) turn e = by_test (is_answered s.response) e
  where
    by_test : (b : Bool) → cond b (Send s) (due_without_sending c) ≡ Treat turn → due_without_sending c ≡ Treat turn
    by_test true e = absurd (let no : ⊥ = cc in no)
    by_test false e = e

slot-fault : (c : Connection) (o : Option Slot) (fault : InFault) → due_at_slot o c ≡ Refuse fault → due_without_sending c ≡ Refuse fault
slot-fault c None fault e = e
slot-fault c (Some s) fault e = by_test (is_answered s.response) e
  where
    by_test : (b : Bool) → cond b (Send s) (due_without_sending c) ≡ Refuse fault → due_without_sending c ≡ Refuse fault
    by_test true e = absurd (let no : ⊥ = cc in no)
    by_test false e = e

due-turn : (c : Connection) (turn : Turn) → due c ≡ Treat turn → OfTurn c (Some turn)
due-turn c turn e = by_over c.over e
  where
    by_over : (b : Bool) → cond b Close (due_at_slot (slice_get c.slots c.sent) c) ≡ Treat turn → OfTurn c (Some turn)
    by_over true e = absurd (let no : ⊥ = cc in no)
    by_over false e = turn_without_sending c turn (slot-turn c (slice_get c.slots c.sent) turn e)

due-fault : (c : Connection) (fault : InFault) → due c ≡ Refuse fault → OfFault c fault
due-fault c fault e = by_over c.over e
  where
    by_over : (b : Bool) → cond b Close (due_at_slot (slice_get c.slots c.sent) c) ≡ Refuse fault → OfFault c fault
    by_over true e = absurd (let no : ⊥ = cc in no)
    by_over false e = fault_without_sending c fault (slot-fault c (slice_get c.slots c.sent) fault e)

good-turn : (c : Connection) (t : Turn) (s : Slot) → Good c → OfTurn c (Some t) → IsOfTurn t s → Good (with_slot s c)
good-turn c t s good of is =
    let open_ = good.open_ of.going in
    record {
      are = push-turn c.turns c.ends c.slots t s open_ of.next is;
      open_ = λ e. let stays : s.closes ≡ false = rw of.going at e in open-turn c.turns c.slots t s open_ of.next is stays;
      last = λ e. let closes : s.closes ≡ true = rw of.going at e in last-push c.slots s closes;
    }

good-fault : (c : Connection) (fault : InFault) (s : Slot) → Good c → OfFault c fault → IsOfFault fault s → Good (with_slot s c)
good-fault c fault s good at is =
    let of = at.turn in
    let open_ = good.open_ of.going in
    record {
      are = push-fault c.turns c.ends c.slots s open_ of.next (rw at.ends is);
      open_ = λ e.
          let stays : s.closes ≡ false = rw of.going at e in
          let closes : s.closes ≡ true = ap (λ (r : Slot). r.closes) is in
          absurd (let no : ⊥ = cc in no);
      last = λ e. let closes : s.closes ≡ true = rw of.going at e in last-push c.slots s closes;
    }

good-treatment : (c : Connection) (s : Slot) → Good c → IsSlotOf (due c) s → Good (with_slot s c)
good-treatment c s good is = by_due (due c) refl is
  where
    by_due : (d : Due) → due c ≡ d → IsSlotOf d s → Good (with_slot s c)
    by_due (Send slot) e is = absurd is
    by_due (Treat Continue) e is = absurd is
    by_due (Treat (Whole request)) e is = good-turn c (Whole request) s good (due-turn c (Whole request) e) is
    by_due (Refuse fault) e is = good-fault c fault s good (due-fault c fault e) is
    by_due Close e is = absurd is
    by_due Nothing e is = absurd is

good-where : (b : Bool) (c d : Connection) → Good c → (b ≡ false → Good d) → Good (cond b c d)
good-where true c d here there = here
good-where false c d here there = there refl

good-after : (c : Connection) (o : Option Turn) → Good c → c.closing ≡ false → next_turn c ≡ o → Good (after_turn o c)
good-after c None good going is = good
good-after c (Some Continue) good going is = good-turn c Continue interim_slot good (record { going = going; next = is }) refl
good-after c (Some (Whole request)) good going is = good

good-advanced : (c : Connection) → Good c → Good (with_due_continue c)
good-advanced c good = good-where c.closing c (after_turn (next_turn c) c) good (λ going. good-after c (next_turn c) good going refl)

good-more : (c : Connection) (bytes : List ℕ) (turns : List Turn) (ends : End) → Good c → c.closing ≡ false → Good (record c { stream = c.stream ++ bytes; turns = c.turns ++ turns; ends = ends })
good-more c bytes turns ends good going =
    let open_ = open-more c.turns turns c.slots (good.open_ going) in
    record { are = open-are (c.turns ++ turns) ends c.slots open_; open_ = λ e. open_; last = good.last }

good-fed : (c : Connection) (bytes : List ℕ) (turns : List Turn) (ends : End) → Good c → Good (with_piece bytes turns ends c)
good-fed c bytes turns ends good = good-where c.closing c (with_due_continue (record c { stream = c.stream ++ bytes; turns = c.turns ++ turns; ends = ends })) good (λ going. good-advanced _ (good-more c bytes turns ends good going))

good-ending : (c : Connection) (n : Awaited) (r : Response) → r ≢ Fixed → Good c → Good (with_end n r c)
good-ending c n r other good = record { are = filled-are n r c.turns c.ends c.slots other good.are; open_ = λ e. filled-open n r c.turns c.slots other (good.open_ e); last = λ e. last-filled n r c.slots (good.last e) }

good-all : (c : Connection) (moves : List Move) → Good c → AreMovesOf c moves → Good (after_all c moves)
good-all c [] good follows = good
good-all c (Piece bytes turns ends ∷ moves) good follows = good-all (with_piece bytes turns ends c) moves (good-fed c bytes turns ends good) follows.1
good-all c (Treatment slot ∷ moves) good follows = good-all (with_due_continue (with_slot slot c)) moves (good-advanced (with_slot slot c) (good-treatment c slot good follows.0)) follows.1
good-all c (Ending n r ∷ moves) good follows = good-all (with_end n r c) moves (good-ending c n r follows.0 good) follows.1
good-all c (Sent x ∷ moves) good follows = good-all (with_sent x.bytes c) moves (record { are = good.are; open_ = good.open_; last = good.last }) follows.1
good-all c (Shut ∷ moves) good follows = good-all c moves good follows.1

fresh-good : (peer : List ℕ) → Good (fresh peer)
fresh-good peer = record { are = tt; open_ = λ e. tt; last = λ e. absurd (let no : ⊥ = cc in no) }

pub good-of : (peer : List ℕ) (moves : List Move) → AreMovesOf (fresh peer) moves → Good (after_all (fresh peer) moves)
good-of peer moves follows = good-all (fresh peer) moves (fresh-good peer) follows

pub of-turns : (peer : List ℕ) (moves : List Move) → AreMovesOf (fresh peer) moves → AreOfTurns (after_all (fresh peer) moves).turns (after_all (fresh peer) moves).ends (after_all (fresh peer) moves).slots
of-turns peer moves follows = (good-of peer moves follows).are

pub last-of : (peer : List ℕ) (moves : List Move) → AreMovesOf (fresh peer) moves → (after_all (fresh peer) moves).closing ≡ true → LastCloses (after_all (fresh peer) moves).slots
last-of peer moves follows e = (good-of peer moves follows).last e
