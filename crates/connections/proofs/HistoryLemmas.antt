-- What was sent on a connection answers its first slots.
use Rattle.std.proofs.Common.{◌≡◌, ◌≢◌, ℕ, ◌+◌, ◌≤◌, zero, suc, Bool, true, false, cond, List, [], ◌∷◌, ◌++◌, length, take, drop, Option, Some, None, refl, ap, sym, ◌∙◌, arith, add-one, append-nil, append_assoc, length-append}
use Rattle.std.specs.Prelude.{slice_get}
use Rattle.std.proofs.lemmas.Grind.{common_steps}
use Rattle.std.proofs.lemmas.List.{take-append-le}
use Rattle.http_front.specs.Turns.{End, Waits, Breaks}
use Rattle.http_front.specs.declared.turn.Turn.{Turn}
use Rattle.http_front.specs.declared.turn.Turn.TheVariants.{Continue, Whole}
use Rattle.connections.specs.declared.sending.Sending.{Sending}
use Rattle.connections.specs.declared.awaited.Awaited.{Awaited}
use Rattle.connections.specs.Slots.{Response, Slot, MayAnswer, is_answered, is_last, interim_slot}
use Rattle.connections.specs.Connections.{Connection, Close, Nothing, Send, with_due_continue, after_turn, due, due_at_slot, due_at_turn, due_without_sending, with_piece, slots_with_end, fresh, next_turn, with_end, with_sent, with_slot}
use Rattle.connections.specs.Histories.{AnswersRun, Ending, AreMovesOf, IsDueSending, IsEndOr, Move, Piece, Sent, Shut, Treatment, after_all, sendings}
use Rattle.connections.specs.AnswerQueues.{AllAnswered}
use Rattle.connections.proofs.PlaceLemmas.{filled-past, length-filled}
use Rattle.connections.proofs.TurnLemmas.{LastCloses, last-of}
use Rattle.connections.proofs.QueueLemmas.{drop-head, due-answered, take-exact}

-- ---- slots that were sent
abbrev pub PastRest : Bool → List Slot → List Sending → Bool → Type 0 → Type 0
PastRest true slots sent over Rest = (slots ≡ []) × (sent ≡ []) × (over ≡ true)
PastRest false slots sent over Rest = Rest

-- each of the slots was sent, and then the connection was over or not
abbrev pub Past : List Slot → List Sending → Bool → Type 0
Past [] [] over = over ≡ false
Past [] (x ∷ sent) over = ⊥
Past (s ∷ slots) [] over = ⊥
Past (s ∷ slots) (x ∷ sent) over = MayAnswer s x × (is_answered s.response ≡ true) × PastRest (is_last s x.bytes) slots sent over (Past slots sent over)

past-end : (b : Bool) → PastRest b [] [] b (b ≡ false)
past-end true = (refl, refl, refl)
past-end false = refl

push-rest : (b : Bool) (xs us : List Slot) (ys vs : List Sending) (over : Bool) (P Q : Type 0) → PastRest b xs ys false P → (P → Q) → PastRest b us vs over Q
push-rest true xs us ys vs over P Q past next = absurd (let e = past.2 in let no : ⊥ = cc in no)
push-rest false xs us ys vs over P Q past next = next past

past-push : (xs : List Slot) (ys : List Sending) (s : Slot) (x : Sending) → Past xs ys false → MayAnswer s x → is_answered s.response ≡ true → Past (xs ++ s ∷ []) (ys ++ x ∷ []) (is_last s x.bytes)
past-push [] [] s x past may has = (may, has, past-end (is_last s x.bytes))
past-push [] (y ∷ ys) s x past may has = absurd past
past-push (t ∷ xs) [] s x past may has = absurd past
past-push (t ∷ xs) (y ∷ ys) s x past may has =
    (past.0, past.1, push-rest (is_last t y.bytes) xs (xs ++ s ∷ []) ys (ys ++ x ∷ []) (is_last s x.bytes) (Past xs ys false) _ past.2 (λ p. past-push xs ys s x p may has))

answered-rest : (b : Bool) (xs : List Slot) (ys : List Sending) (over : Bool) (P : Type 0) → PastRest b xs ys over P → (P → AllAnswered xs) → AllAnswered xs
answered-rest true xs ys over P past next = rw past.0 tt
answered-rest false xs ys over P past next = next past

past-answered : (xs : List Slot) (ys : List Sending) (over : Bool) → Past xs ys over → AllAnswered xs
past-answered [] ys over past = tt
past-answered (s ∷ xs) [] over past = absurd past
past-answered (s ∷ xs) (y ∷ ys) over past = (past.1, answered-rest (is_last s y.bytes) xs ys over (Past xs ys over) past.2 (past-answered xs ys over))

run-rest : (b : Bool) (xs : List Slot) (ys : List Sending) (over : Bool) (P Q : Type 0) → PastRest b xs ys over P → (P → Q) → IsEndOr b ys Q
run-rest true xs ys over P Q past next = past.1
run-rest false xs ys over P Q past next = next past

past-run : (xs rest : List Slot) (ys : List Sending) (over : Bool) → Past xs ys over → (over ≡ false → AnswersRun rest []) → AnswersRun (xs ++ rest) ys
past-run [] rest [] over past held = held past
past-run [] rest (y ∷ ys) over past held = absurd past
past-run (s ∷ xs) rest [] over past held = absurd past
past-run (s ∷ xs) rest (y ∷ ys) over past held =
    (past.0, run-rest (is_last s y.bytes) xs ys over (Past xs ys over) _ past.2 (λ p. past-run xs rest ys over p held), past.1)

-- ---- what is due to be sent
pub turn-no-send : (o : Option Turn) (ends : End) (slot : Slot) → due_at_turn o ends ≡ Send slot → ⊥
turn-no-send None Waits slot e = let no : ⊥ = cc in no
turn-no-send None (Breaks fault) slot e = let no : ⊥ = cc in no
turn-no-send (Some turn) ends slot e = let no : ⊥ = cc in no

pub without_sending-no-send : (over closing : Bool) (o : Option Turn) (ends : End) (slot : Slot) → cond over Close (cond closing Nothing (due_at_turn o ends)) ≡ Send slot → ⊥
without_sending-no-send true closing o ends slot e = let no : ⊥ = cc in no
without_sending-no-send false true o ends slot e = let no : ⊥ = cc in no
without_sending-no-send false false o ends slot e = turn-no-send o ends slot e

record CanSend (c : Connection) (slot : Slot) : Type 0 where
  going : c.over ≡ false
  at : slice_get c.slots c.sent ≡ Some slot
  has : is_answered slot.response ≡ true

send-due : (c : Connection) (slot : Slot) → due c ≡ Send slot → CanSend c slot
send-due c slot e = by_over c.over refl e
  where
    by_test : (t : Bool) (y : Slot) → c.over ≡ false → slice_get c.slots c.sent ≡ Some y → is_answered y.response ≡ t → cond t (Send y) (due_without_sending c) ≡ Send slot → CanSend c slot
    by_test true y going at has e =
        let same : y ≡ slot = cc in
        record { going = going; at = at ∙ ap (λ s. Some s) same; has = ap (λ (s : Slot). is_answered s.response) (sym same) ∙ has }
    by_test false y going at has e = absurd (without_sending-no-send c.over c.closing (next_turn c) c.ends slot e)

    by_slot : (o : Option Slot) → c.over ≡ false → slice_get c.slots c.sent ≡ o → due_at_slot o c ≡ Send slot → CanSend c slot
    by_slot None going at e = absurd (without_sending-no-send c.over c.closing (next_turn c) c.ends slot e)
    by_slot (Some y) going at e = by_test (is_answered y.response) y going at refl e

    by_over : (b : Bool) → c.over ≡ b → cond b Close (due_at_slot (slice_get c.slots c.sent) c) ≡ Send slot → CanSend c slot
    by_over true is e = absurd (let no : ⊥ = cc in no)
    by_over false is e = by_slot (slice_get c.slots c.sent) is refl e

-- ---- one move
-- this was sent on the connection
pub record Told (c : Connection) (sent : List Sending) : Type 0 where
  pub within : c.sent ≤ length c.slots
  pub past : Past (take c.sent c.slots) sent c.over

take-at : {A : Type 0} (xs : List A) (i : ℕ) (y : A) → slice_get xs i ≡ Some y → (i + 1 ≤ length xs) × (take (i + 1) xs ≡ take i xs ++ y ∷ [])
take-at [] i y e = absurd (let no : ⊥ = cc in no)
take-at (x ∷ xs) zero y e = (grind arith, grind (arith, e))
take-at (x ∷ xs) (suc i) y e = let rest = take-at xs i y e in (omega (arith, rest.0), rw add-one (ap (λ zs. x ∷ zs) (rw add-one at rest.1)))

told-sent : (c : Connection) (sent : List Sending) (x : Sending) → Told c sent → IsDueSending c x → Told (with_sent x.bytes c) (sent ++ x ∷ [])
told-sent c sent x told sends =
    let can = send-due c sends.slot sends.is_due in
    let cut = take-at c.slots c.sent sends.slot can.at in
    let past : Past (take c.sent c.slots) sent false = rw can.going at told.past in
    record { within = cut.0; past = rw (cut.1, can.at) (past-push (take c.sent c.slots) sent sends.slot x past sends.answers can.has) }

told-slot : (c : Connection) (sent : List Sending) (slot : Slot) → Told c sent → Told (with_slot slot c) sent
told-slot c sent slot told =
    let within = told.within in
    record { within = omega (arith, length-append c.slots (slot ∷ [])); past = rw take-append-le told.past }

told-turn : (c : Connection) (sent : List Sending) (o : Option Turn) → Told c sent → Told (after_turn o c) sent
told-turn c sent None told = told
told-turn c sent (Some Continue) told = told-slot c sent interim_slot told
told-turn c sent (Some (Whole request)) told = told

told-where : (b : Bool) (c d : Connection) (sent : List Sending) → Told c sent → Told d sent → Told (cond b c d) sent
told-where true c d sent here there = here
told-where false c d sent here there = there

told-advanced : (c : Connection) (sent : List Sending) → Told c sent → Told (with_due_continue c) sent
told-advanced c sent told = told-where c.closing c (after_turn (next_turn c) c) sent told (told-turn c sent (next_turn c) told)

told-fed : (c : Connection) (sent : List Sending) (bytes : List ℕ) (turns : List Turn) (ends : End) → Told c sent → Told (with_piece bytes turns ends c) sent
told-fed c sent bytes turns ends told =
    let more : Connection = record c { stream = c.stream ++ bytes; turns = c.turns ++ turns; ends = ends } in
    told-where c.closing c (with_due_continue more) sent told (told-advanced more sent (record { within = told.within; past = told.past }))

told-ending : (c : Connection) (sent : List Sending) (n : Awaited) (t : Response) → Told c sent → Told (with_end n t c) sent
told-ending c sent n t told =
    let within = told.within in
    let whole : take c.sent c.slots ++ drop c.sent c.slots ≡ c.slots = grind (arith, common_steps) in
    let split : slots_with_end n t c.slots ≡ take c.sent c.slots ++ slots_with_end n t (drop c.sent c.slots) =
    sym (ap (slots_with_end n t) whole) ∙ filled-past n t (take c.sent c.slots) (drop c.sent c.slots) (past-answered _ sent c.over told.past) in
    let size : length (take c.sent c.slots) ≡ c.sent = grind (arith, common_steps) in
    let cut : take c.sent (slots_with_end n t c.slots) ≡ take c.sent c.slots = rw split (take-exact (take c.sent c.slots) (slots_with_end n t (drop c.sent c.slots)) c.sent size).0 in
    record { within = omega (arith, length-filled n t c.slots); past = rw cut told.past }

-- ---- all moves
told-all : (c : Connection) (moves : List Move) (sent : List Sending) → Told c sent → AreMovesOf c moves → Told (after_all c moves) (sent ++ sendings moves)
told-all c [] sent told follows = rw (append-nil sent) told
told-all c (Piece bytes turns ends ∷ moves) sent told follows = told-all (with_piece bytes turns ends c) moves sent (told-fed c sent bytes turns ends told) follows.1
told-all c (Treatment slot ∷ moves) sent told follows = told-all (with_due_continue (with_slot slot c)) moves sent (told-advanced (with_slot slot c) sent (told-slot c sent slot told)) follows.1
told-all c (Ending n t ∷ moves) sent told follows = told-all (with_end n t c) moves sent (told-ending c sent n t told) follows.1
told-all c (Sent x ∷ moves) sent told follows =
    let joined : (sent ++ x ∷ []) ++ sendings moves ≡ sent ++ x ∷ sendings moves = append_assoc sent (x ∷ []) (sendings moves) in
    rw (sym joined) (told-all (with_sent x.bytes c) moves (sent ++ x ∷ []) (told-sent c sent x told follows.0) follows.1)
told-all c (Shut ∷ moves) sent told follows = told-all c moves sent told follows.1

fresh-told : (peer : List ℕ) → Told (fresh peer) []
fresh-told peer = record { within = grind arith; past = refl }

pub told-of : (peer : List ℕ) (moves : List Move) → AreMovesOf (fresh peer) moves → Told (after_all (fresh peer) moves) (sendings moves)
told-of peer moves follows = told-all (fresh peer) moves [] (fresh-told peer) follows

held : (c : Connection) → ((slot : Slot) → due c ≢ Send slot) → c.over ≡ false → AnswersRun (drop c.sent c.slots) []
held c none going = by_slots (drop c.sent c.slots) refl
  where
    by_test : (s : Slot) (t : Bool) → slice_get c.slots c.sent ≡ Some s → is_answered s.response ≡ t → t ≡ false
    by_test s true at has = absurd (none s (due-answered c s going at has))
    by_test s false at has = refl

    by_slots : (ss : List Slot) → drop c.sent c.slots ≡ ss → AnswersRun ss []
    by_slots [] e = tt
    by_slots (s ∷ ss) e = by_test s (is_answered s.response) (drop-head c.sent c.slots s ss e).0 refl

pub in-order : (peer : List ℕ) (moves : List Move) → AreMovesOf (fresh peer) moves → ((slot : Slot) → due (after_all (fresh peer) moves) ≢ Send slot) → AnswersRun (after_all (fresh peer) moves).slots (sendings moves)
in-order peer moves follows none =
    let c = after_all (fresh peer) moves in
    let told = told-of peer moves follows in
    let within = told.within in
    let whole : take c.sent c.slots ++ drop c.sent c.slots ≡ c.slots = grind (arith, common_steps) in
    rw (sym whole) (past-run (take c.sent c.slots) (drop c.sent c.slots) (sendings moves) c.over told.past (held c none))

-- ---- the end
last-rest : (b : Bool) (slots : List Slot) (ys : List Sending) (over : Bool) (P : Type 0) → PastRest b slots ys over P → b ≡ true → over ≡ true
last-rest true slots ys over P past e = past.2
last-rest false slots ys over P past e = absurd (let no : ⊥ = cc in no)

more-rest : (b : Bool) (t : Slot) (slots : List Slot) (ys : List Sending) (over : Bool) (P : Type 0) → PastRest b (t ∷ slots) ys over P → (P → over ≡ true) → over ≡ true
more-rest true t slots ys over P past next = absurd (let e = past.0 in let no : ⊥ = cc in no)
more-rest false t slots ys over P past next = next past

is_last-closes : (s : Slot) (bytes : List ℕ) → s.closes ≡ true → is_last s bytes ≡ true
is_last-closes s bytes e = rw e refl

past-last : (slots : List Slot) (ys : List Sending) (over : Bool) → Past slots ys over → LastCloses slots → over ≡ true
past-last [] ys over past last = absurd last
past-last (s ∷ []) [] over past last = absurd past
past-last (s ∷ t ∷ slots) [] over past last = absurd past
past-last (s ∷ []) (y ∷ ys) over past last = last-rest (is_last s y.bytes) [] ys over _ past.2 (is_last-closes s y.bytes last)
past-last (s ∷ t ∷ slots) (y ∷ ys) over past last = more-rest (is_last s y.bytes) t slots ys over _ past.2 (λ p. past-last (t ∷ slots) ys over p last)

take-none : {A : Type 0} (xs : List A) (n : ℕ) → slice_get xs n ≡ None → take n xs ≡ xs
take-none [] n e = grind (arith, common_steps)
take-none (x ∷ xs) zero e = absurd (let no : ⊥ = cc in no)
take-none (x ∷ xs) (suc n) e = ap (λ zs. x ∷ zs) (take-none xs n e)

pub at-end : (peer : List ℕ) (moves : List Move) → AreMovesOf (fresh peer) moves → (after_all (fresh peer) moves).closing ≡ true → slice_get (after_all (fresh peer) moves).slots (after_all (fresh peer) moves).sent ≡ None
    → due (after_all (fresh peer) moves) ≡ Close
at-end peer moves follows closing none =
    let c = after_all (fresh peer) moves in
    let told = told-of peer moves follows in
    let past : Past c.slots (sendings moves) c.over = rw (take-none c.slots c.sent none) at told.past in
    let over : c.over ≡ true = past-last c.slots (sendings moves) c.over past (last-of peer moves follows closing) in
    rw over refl
