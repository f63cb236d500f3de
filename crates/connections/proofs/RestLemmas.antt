-- A connection at rest that no slot closes has treated each turn.
use Rattle.std.proofs.Common.{◌≡◌, ◌||◌, ◌≤◌, ◌∙◌, ℕ, zero, suc, Bool, true, false, List, [], ◌∷◌, length, take, get_or, Option, Some, None, refl, ap, sym, subst, arith, inl, inr}
use Rattle.std.specs.Prelude.{if◌then◌else◌, slice_get}
use Rattle.std.specs.Cmp.Lexicographic.{same_text}
use Rattle.sp_base.proofs.BoolLemmas.{or_first, or_second}
use Rattle.http_front.specs.Answers.{fixed_507}
use Rattle.http_front.specs.Turns.{End, Waits, Breaks}
use Rattle.http_front.specs.declared.turn.Turn.{Turn}
use Rattle.http_front.specs.declared.turn.Turn.TheVariants.{Continue, Whole}
use Rattle.connections.specs.declared.sending.Sending.{Sending}
use Rattle.connections.specs.Slots.{Awaits, Cached, Fixed, Interim, IsWritten, MayAnswer, Response, Says, Slot, are_fixed_507, is_answered, is_last}
use Rattle.connections.specs.Connections.{Close, Connection, Nothing, Send, due, due_at_slot, due_at_turn, due_without_sending, fresh, next_turn}
use Rattle.connections.specs.Histories.{AreAllTreated, AreMovesOf, HaveNoSendingOutOfMemory, IsAtRest, IsOfTurn, Move, after_all, sendings, some_closes}
use Rattle.connections.proofs.FixedLemmas.{fixed_is, hit-unfixed}
use Rattle.connections.proofs.HistoryLemmas.{Past, PastRest, told-of}
use Rattle.connections.proofs.TurnLemmas.{LastCloses, Open, good-of}

-- ---- no slot closes
last-none : (slots : List Slot) → LastCloses slots → some_closes slots ≡ false → ⊥
last-none [] last none = last
last-none (s ∷ []) last none = let stays : s.closes ≡ false = or_first s.closes false none in let no : ⊥ = cc in no
last-none (s ∷ t ∷ slots) last none = last-none (t ∷ slots) last (or_second s.closes (some_closes (t ∷ slots)) none)

open-within : (turns : List Turn) (slots : List Slot) → Open turns slots → length slots ≤ length turns
open-within turns [] open_ = omega arith
open-within [] (s ∷ slots) open_ = absurd open_
open-within (t ∷ turns) (s ∷ slots) open_ = omega (arith, open-within turns slots open_.2)

open-take : (n : ℕ) (turns : List Turn) (slots : List Slot) → Open turns slots → Open turns (take n slots)
open-take zero turns slots open_ = tt
open-take (suc n) turns [] open_ = tt
open-take (suc n) [] (s ∷ slots) open_ = absurd open_
open-take (suc n) (t ∷ turns) (s ∷ slots) open_ = (open_.0, open_.1, open-take n turns slots open_.2)

-- ---- nor is the fixed 507 sent
-- the fixed 507 is written for a slot that closes
written-closes : (slot : Slot) (response : Response) (bytes : List ℕ) → IsWritten slot response bytes → bytes ≡ fixed_507 → (response ≡ Fixed → slot.closes ≡ true) → slot.closes ≡ true
written-closes slot Interim bytes written is fixed = absurd (let other : 49 ≡ 53 = ap (λ t. get_or t 9 0) (sym written ∙ is) in omega (arith, other))
written-closes slot Fixed bytes written is fixed = fixed refl
written-closes slot (Awaits what) bytes written is fixed = absurd written
written-closes slot (Says answer) bytes written is fixed = (fixed_is slot.head_only slot.closes answer (sym written ∙ is)).1
written-closes slot (Cached farm log key) bytes written is fixed = absurd (hit-unfixed slot.head_only slot.closes farm log key written.0 written.1 (sym written.2 ∙ is))

fixed-closes : (turn : Turn) (slot : Slot) → IsOfTurn turn slot → slot.response ≡ Fixed → slot.closes ≡ true
fixed-closes Continue slot is e = absurd (let interim : slot.response ≡ Interim = ap (λ (s : Slot). s.response) is in let no : ⊥ = cc in no)
fixed-closes (Whole request) slot is e = is.3 (ap (λ (s : Slot). s.response) (sym is.2) ∙ e)

not-last : (turn : Turn) (slot : Slot) (sending : Sending) → IsOfTurn turn slot → slot.closes ≡ false → sending.out_of_memory ≡ false → MayAnswer slot sending → is_last slot sending.bytes ≡ false
not-last turn slot sending is stays memory answers = ap (λ b. b || are_fixed_507 sending.bytes) stays ∙ by_test (are_fixed_507 sending.bytes) refl answers
  where
    by_test : (t : Bool) → are_fixed_507 sending.bytes ≡ t → MayAnswer slot sending → t ≡ false
    by_test false e may = refl
    by_test true e (inl written) = absurd (let closes : slot.closes ≡ true = written-closes slot slot.response sending.bytes written (same_text _ _ (sym e)) (fixed-closes turn slot is) in let no : ⊥ = cc in no)
    by_test true e (inr ran_out) = absurd (let out : sending.out_of_memory ≡ true = ran_out.0 in let no : ⊥ = cc in no)

rest-of : (b : Bool) (slots : List Slot) (sent : List Sending) (over : Bool) (P : Type 0) → b ≡ false → PastRest b slots sent over P → P
rest-of true slots sent over P e past = absurd (let no : ⊥ = cc in no)
rest-of false slots sent over P e past = past

past-going : (turns : List Turn) (slots : List Slot) (sent : List Sending) (over : Bool) → Open turns slots → HaveNoSendingOutOfMemory sent → Past slots sent over → over ≡ false
past-going turns [] [] over open_ memory past = past
past-going turns [] (y ∷ sent) over open_ memory past = absurd past
past-going [] (s ∷ slots) sent over open_ memory past = absurd open_
past-going (t ∷ turns) (s ∷ slots) [] over open_ memory past = absurd past
past-going (t ∷ turns) (s ∷ slots) (y ∷ sent) over open_ memory past =
    past-going turns slots sent over open_.2 memory.1 (rest-of (is_last s y.bytes) slots sent over (Past slots sent over) (not-last t s y open_.0 open_.1 memory.0 past.0) past.2)

-- ---- what is due at rest
rest-turn : (turn : Option Turn) (ends : End) → IsAtRest (due_at_turn turn ends) → (turn ≡ None) × (ends ≡ Waits)
rest-turn None Waits rests = (refl, refl)
rest-turn None (Breaks fault) rests = absurd rests
rest-turn (Some turn) ends rests = absurd rests

rest-slot : (slot : Option Slot) (c : Connection) → IsAtRest (due_at_slot slot c) → IsAtRest (due_without_sending c)
rest-slot None c rests = rests
rest-slot (Some slot) c rests = by_answer (is_answered slot.response) rests
  where
    by_answer : (answered : Bool) → IsAtRest (if answered then Send slot else due_without_sending c) → IsAtRest (due_without_sending c)
    by_answer true e = absurd e
    by_answer false e = e

rest-going : (c : Connection) → c.over ≡ false → c.closing ≡ false → IsAtRest (due c) → (next_turn c ≡ None) × (c.ends ≡ Waits)
rest-going c over closing rests =
    let slot : IsAtRest (due_at_slot (slice_get c.slots c.sent) c) = subst (λ b. IsAtRest (if b then Close else due_at_slot (slice_get c.slots c.sent) c)) over rests in
    let sending : IsAtRest (if c.closing then Nothing else due_at_turn (next_turn c) c.ends) = subst (λ b. IsAtRest (if b then Close else (if c.closing then Nothing else due_at_turn (next_turn c) c.ends))) over (rest-slot (slice_get c.slots c.sent) c slot) in
    rest-turn (next_turn c) c.ends (subst (λ b. IsAtRest (if b then Nothing else due_at_turn (next_turn c) c.ends)) closing sending)

get-past : {A : Type 0} (xs : List A) (n : ℕ) → slice_get xs n ≡ None → length xs ≤ n
get-past [] n e = omega arith
get-past (x ∷ xs) zero e = absurd (let no : ⊥ = cc in no)
get-past (x ∷ xs) (suc n) e = omega (arith, get-past xs n e)

pub each-treated : (peer : List ℕ) (moves : List Move) → AreMovesOf (fresh peer) moves → IsAtRest (due (after_all (fresh peer) moves)) → some_closes (after_all (fresh peer) moves).slots ≡ false → HaveNoSendingOutOfMemory (sendings moves)
    → AreAllTreated (after_all (fresh peer) moves).turns (after_all (fresh peer) moves).ends (after_all (fresh peer) moves).slots
each-treated peer moves follows rests none memory =
    let c = after_all (fresh peer) moves in
    let good = good-of peer moves follows in
    let told = told-of peer moves follows in
    let closing : c.closing ≡ false = by_closing c.closing refl in
    let open_ = good.open_ closing in
    let over : c.over ≡ false = past-going c.turns (take c.sent c.slots) (sendings moves) c.over (open-take c.sent c.turns c.slots open_) memory told.past in
    let at = rest-going c over closing rests in
    record { each = omega (arith, open-within c.turns c.slots open_, get-past c.turns (length c.slots) at.0); no_fault = at.1 }
  where
    by_closing : (b : Bool) → (after_all (fresh peer) moves).closing ≡ b → b ≡ false
    by_closing true e = absurd (last-none (after_all (fresh peer) moves).slots ((good-of peer moves follows).last e) none)
    by_closing false e = refl
