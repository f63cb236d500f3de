-- What the laws of whole runs say of streams, from the past of a connection.
use Rattle.std.proofs.Common.{◌≡◌, ◌≢◌, ℕ, ◌++◌, Bool, true, false, List, [], Option, Some, None, refl, ap, sym, subst, ◌∙◌, append-nil}
use Rattle.std.specs.Prelude.{if◌then◌else◌, slice_get}
use Rattle.http_front.specs.Turns.{Breaks, End, SpellsTurns, Waits}
use Rattle.http_front.specs.declared.turn.Turn.{Turn}
use Rattle.connections.specs.Slots.{Slot, is_answered}
use Rattle.connections.specs.Connections.{Close, Connection, Nothing, Send, due_at_end, due_at_slot, due_at_turn, due_without_sending, fresh, next_turn}
use Rattle.connections.specs.Connections as model
use Rattle.connections.specs.Histories.{AnswersRun, AreAllTreated, AreOfTurns, AreMovesOf, HaveNoSendingOutOfMemory, IsAtRest, Move, after_all, sendings, some_closes}
use Rattle.connections.specs.declared.sending.Sending.{Sending}
use Rattle.run_events.specs.Events.{Event, Run, state_after_events}
use Rattle.run_laws.specs.Histories.{AnswersStream, AnswersWhatCame, HasReadAll, came_since_opened, sent_since_opened}
use Rattle.run_events.specs.States.{Start, RunState, start_of}
use Rattle.run_laws.proofs.ClosingLemmas.{past-all}
use Rattle.run_laws.proofs.KeptLemmas.{Kept}
use Rattle.run_laws.proofs.RunKeptLemmas.{run-kept, start-kept}
use Rattle.run_laws.proofs.PastLemmas.{Past}
use Rattle.run_laws.proofs.TurnLemmas.{Beginnings, no-more}

-- the laws of one connection
abbrev pub InOrder : Type 0
InOrder = (peer : List ℕ) (moves : List Move) → AreMovesOf (fresh peer) moves → ((slot : Slot) → model.due (after_all (fresh peer) moves) ≢ Send slot) → AnswersRun (after_all (fresh peer) moves).slots (sendings moves)

abbrev pub OfTurns : Type 0
OfTurns = (peer : List ℕ) (moves : List Move) → AreMovesOf (fresh peer) moves → AreOfTurns (after_all (fresh peer) moves).turns (after_all (fresh peer) moves).ends (after_all (fresh peer) moves).slots

pub answers-past : InOrder → (d : Connection) (came : List ℕ) (sent : List Sending) → Past d came sent → ((slot : Slot) → model.due d ≡ Send slot → ⊥) → AnswersRun d.slots sent
answers-past law d came sent past still =
    let answers = law past.peer past.moves past.follows (λ slot e. still slot (ap model.due (sym past.is) ∙ e)) in
    rw (past.is, past.sent_is) at answers

pub turns-past : OfTurns → (d : Connection) (came : List ℕ) (sent : List Sending) → Past d came sent → AreOfTurns d.turns d.ends d.slots
turns-past law d came sent past = subst (λ (x : Connection). AreOfTurns x.turns x.ends x.slots) past.is (law past.peer past.moves past.follows)

-- each turn is treated
abbrev pub EachTreated : Type 0
EachTreated = (peer : List ℕ) (moves : List Move) → AreMovesOf (fresh peer) moves → IsAtRest (model.due (after_all (fresh peer) moves)) → some_closes (after_all (fresh peer) moves).slots ≡ false → HaveNoSendingOutOfMemory (sendings moves)
    → AreAllTreated (after_all (fresh peer) moves).turns (after_all (fresh peer) moves).ends (after_all (fresh peer) moves).slots

pub treated-past : EachTreated → (d : Connection) (came : List ℕ) (sent : List Sending) → Past d came sent → IsAtRest (model.due d) → some_closes d.slots ≡ false → HaveNoSendingOutOfMemory sent → AreAllTreated d.turns d.ends d.slots
treated-past law d came sent past rests none memory =
    subst (λ (x : Connection). AreAllTreated x.turns x.ends x.slots) past.is (law past.peer past.moves past.follows (subst (λ x. IsAtRest (model.due x)) (sym past.is) rests)
    (subst (λ (x : Connection). some_closes x.slots ≡ false) (sym past.is) none) (subst HaveNoSendingOutOfMemory (sym past.sent_is) memory))

pub rest-still : (d : Connection) → IsAtRest (model.due d) → (slot : Slot) → model.due d ≡ Send slot → ⊥
rest-still d rests slot e = subst IsAtRest e rests

pub idle-rest : (d : Connection) → model.due d ≡ Nothing → IsAtRest (model.due d)
idle-rest d idle = subst IsAtRest (sym idle) tt

abbrev pub stream-past : InOrder → OfTurns → (d : Connection) (came : List ℕ) (sent : List Sending) → Past d came sent → ((slot : Slot) → model.due d ≡ Send slot → ⊥) → AnswersStream d.stream sent
stream-past order turns d came sent past still = record {
  turns = d.turns;
  ends = d.ends;
  slots = d.slots;
  spells = past.spells;
  of_turns = turns-past turns d came sent past;
  answers = answers-past order d came sent past still;
}

abbrev pub what-past : InOrder → OfTurns → EachTreated → (d : Connection) (came : List ℕ) (sent : List Sending) → Past d came sent → IsAtRest (model.due d) → AnswersWhatCame came sent
what-past order turns treated d came sent past rests = record {
  stream = d.stream;
  rest = past.unread;
  came_is = past.came_is;
  answers = stream-past order turns d came sent past (rest-still d rests);
  all_read = past-all d came sent past;
  all_treated = treated-past treated d came sent past rests;
}

pub idle-still : (d : Connection) → model.due d ≡ Nothing → (slot : Slot) → model.due d ≡ Send slot → ⊥
idle-still d idle slot e = let no : ⊥ = cc in no

-- ---- an open connection that reads on
idle-end : (ends : End) → due_at_end ends ≡ Nothing → ends ≡ Waits
idle-end Waits e = refl
idle-end (Breaks fault) e = absurd (let no : ⊥ = cc in no)

idle-turn : (turn : Option Turn) (ends : End) → due_at_turn turn ends ≡ Nothing → (turn ≡ None) × (ends ≡ Waits)
idle-turn None ends e = (refl, idle-end ends e)
idle-turn (Some turn) ends e = absurd (let no : ⊥ = cc in no)

idle-without_sending : (d : Connection) → d.closing ≡ false → due_without_sending d ≡ Nothing → (next_turn d ≡ None) × (d.ends ≡ Waits)
idle-without_sending d reads idle = by_over d.over idle
  where
    by_over : (over : Bool) → (if over then Close else (if d.closing then Nothing else due_at_turn (next_turn d) d.ends)) ≡ Nothing → (next_turn d ≡ None) × (d.ends ≡ Waits)
    by_over true e = absurd (let no : ⊥ = cc in no)
    by_over false e = idle-turn (next_turn d) d.ends (sym (ap (λ b. if b then Nothing else due_at_turn (next_turn d) d.ends) reads) ∙ e)

idle-slot : (slot : Option Slot) (d : Connection) → d.closing ≡ false → due_at_slot slot d ≡ Nothing → (next_turn d ≡ None) × (d.ends ≡ Waits)
idle-slot None d reads idle = idle-without_sending d reads idle
idle-slot (Some slot) d reads idle = by_answer (is_answered slot.response) idle
  where
    by_answer : (answered : Bool) → (if answered then Send slot else due_without_sending d) ≡ Nothing → (next_turn d ≡ None) × (d.ends ≡ Waits)
    by_answer true e = absurd (let no : ⊥ = cc in no)
    by_answer false e = idle-without_sending d reads e

idle-due : (d : Connection) → d.closing ≡ false → model.due d ≡ Nothing → (next_turn d ≡ None) × (d.ends ≡ Waits)
idle-due d reads idle = by_over d.over idle
  where
    by_over : (over : Bool) → (if over then Close else due_at_slot (slice_get d.slots d.sent) d) ≡ Nothing → (next_turn d ≡ None) × (d.ends ≡ Waits)
    by_over true e = absurd (let no : ⊥ = cc in no)
    by_over false e = idle-slot (slice_get d.slots d.sent) d reads e

read-past : (d : Connection) (came : List ℕ) (sent : List Sending) → Past d came sent → d.closing ≡ false → model.due d ≡ Nothing → HasReadAll came d
read-past d came sent past reads idle =
    let none = idle-due d reads idle in
    let all : came ≡ d.stream = past.came_is ∙ ap (λ xs. d.stream ++ xs) (past.read reads) ∙ append-nil d.stream in
    record { spells = rw all (subst (λ end. SpellsTurns d.stream d.turns end) none.1 past.spells); treated = none.0 }

-- ---- the laws
end-kept : (s : Start) (events : List Event) (c : ℕ) → Run (start_of s) events
    → Kept (state_after_events (start_of s) events) c (came_since_opened c events) (sent_since_opened c events)
end-kept s events c run = run-kept (start_of s) events c [] [] (start-kept s c) run

pub answered-in-order : InOrder → (s : Start) (events : List Event) (c : ℕ) (d : Connection) → Run (start_of s) events
    → (state_after_events (start_of s) events).connection c ≡ Some d → AnswersRun d.slots (sent_since_opened c events)
answered-in-order law s events c d run some =
    let kept = end-kept s events c run in
    answers-past law d _ _ (kept.held.here d some) (idle-still d (kept.still d some))

pub slots-of-turns : OfTurns → (s : Start) (events : List Event) (c : ℕ) (d : Connection) → Run (start_of s) events
    → (state_after_events (start_of s) events).connection c ≡ Some d → AreOfTurns d.turns d.ends d.slots
slots-of-turns law s events c d run some = turns-past law d _ _ ((end-kept s events c run).held.here d some)

pub stream-spells : (s : Start) (events : List Event) (c : ℕ) (d : Connection) → Run (start_of s) events
    → (state_after_events (start_of s) events).connection c ≡ Some d → SpellsTurns d.stream d.turns d.ends
stream-spells s events c d run some =
    let past = (end-kept s events c run).held.here d some in
    past.spells

pub read-all : (s : Start) (events : List Event) (c : ℕ) (d : Connection) → Run (start_of s) events
    → (state_after_events (start_of s) events).connection c ≡ Some d → d.closing ≡ false → HasReadAll (came_since_opened c events) d
read-all s events c d run some reads =
    let kept = end-kept s events c run in
    read-past d _ _ (kept.held.here d some) reads (kept.still d some)

answers-kept : InOrder → OfTurns → EachTreated → (w : RunState) (c : ℕ) (came : List ℕ) (sent : List Sending) (connection : Option Connection) → w.connection c ≡ connection → Kept w c came sent → AnswersWhatCame came sent
answers-kept order turns treated w c came sent (Some d) is kept =
    let past = kept.held.here d is in
    what-past order turns treated d came sent past (idle-rest d (kept.still d is))
answers-kept order turns treated w c came sent None is kept =
    let last = kept.held.over is in
    what-past order turns treated last.last came sent last.past last.rests

pub answered-streams : InOrder → OfTurns → EachTreated → (s : Start) (events : List Event) (c : ℕ) → Run (start_of s) events
    → AnswersWhatCame (came_since_opened c events) (sent_since_opened c events)
answered-streams order turns treated s events c run =
    answers-kept order turns treated (state_after_events (start_of s) events) c _ _ ((state_after_events (start_of s) events).connection c) refl (end-kept s events c run)

-- ---- cuttings
pub same-turns : Beginnings → (came : List ℕ) (x y : Connection) → HasReadAll came x → HasReadAll came y → x.turns ≡ y.turns
same-turns law came x y one other =
    let first = law came [] x.turns y.turns Waits Waits one.spells (subst (λ s. SpellsTurns s y.turns Waits) (sym (append-nil came)) other.spells) in
    let second = law came [] y.turns x.turns Waits Waits other.spells (subst (λ s. SpellsTurns s x.turns Waits) (sym (append-nil came)) one.spells) in
    no-more x.turns y.turns first.0 second.0 first.1 second.1
