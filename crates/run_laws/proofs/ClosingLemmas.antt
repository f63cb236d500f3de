-- A connection is closing exactly where one of its slots closes it.
use Rattle.std.proofs.Common.{◌≡◌, ℕ, ◌||◌, Bool, true, false, cond, List, [], ◌∷◌, Option, Some, None, refl, ap, sym, subst, ◌∙◌}
use Rattle.std.specs.Prelude.{if◌then◌else◌}
use Rattle.std.proofs.lemmas.List.Folds.{list_any-append}
use Rattle.sp_base.proofs.BoolLemmas.{or_false}
use Rattle.http_front.specs.Turns.{End}
use Rattle.http_front.specs.declared.turn.Turn.{Turn}
use Rattle.http_front.specs.declared.turn.Turn.TheVariants.{Continue, Whole}
use Rattle.connections.specs.declared.awaited.Awaited.{Awaited}
use Rattle.connections.specs.Slots.{Response, Slot, interim_slot, is_awaiting}
use Rattle.connections.specs.Connections.{Connection, with_due_continue, after_turn, with_piece, slots_with_end, fresh, next_turn, with_response, with_slot}
use Rattle.connections.specs.Histories.{Ending, Move, some_closes, Shut as ShutMove, Sent as SentMove, Piece as PieceMove, Treatment, after_all, connection_after_move}
use Rattle.connections.specs.declared.sending.Sending.{Sending}
use Rattle.run_laws.proofs.PastLemmas.{Past, longer}

abbrev IsClosing : Connection → Type 0
IsClosing d = d.closing ≡ some_closes d.slots

closing-slot : (slot : Slot) (d : Connection) → IsClosing d → IsClosing (with_slot slot d)
closing-slot slot d is = ap (λ b. b || slot.closes) is ∙ ap (λ b. some_closes d.slots || b) (sym (or_false slot.closes)) ∙ sym (list_any-append (λ (s : Slot). s.closes) d.slots (slot ∷ []))

closing-turn : (turn : Option Turn) (d : Connection) → IsClosing d → IsClosing (after_turn turn d)
closing-turn None d is = is
closing-turn (Some Continue) d is = closing-slot interim_slot d is
closing-turn (Some (Whole request)) d is = is

closing-advanced : (d : Connection) → IsClosing d → IsClosing (with_due_continue d)
closing-advanced d is = by_test d.closing
  where
    by_test : (b : Bool) → IsClosing (if b then d else after_turn (next_turn d) d)
    by_test true = is
    by_test false = closing-turn (next_turn d) d is

closing-fed : (bytes : List ℕ) (turns : List Turn) (ends : End) (d : Connection) → IsClosing d → IsClosing (with_piece bytes turns ends d)
closing-fed bytes turns ends d is = by_test d.closing
  where
    by_test : (b : Bool) → IsClosing (if b then d else with_due_continue (longer bytes turns ends d))
    by_test true = is
    by_test false = closing-advanced (longer bytes turns ends d) is

closing-filled : (n : Awaited) (answer : Response) (slots : List Slot) → some_closes (slots_with_end n answer slots) ≡ some_closes slots
closing-filled n answer [] = refl
closing-filled n answer (s ∷ slots) = by_test (is_awaiting n s.response) (closing-filled n answer slots)
  where
    by_test : (b : Bool) → some_closes (slots_with_end n answer slots) ≡ some_closes slots → some_closes (cond b (with_response answer s ∷ slots) (s ∷ slots_with_end n answer slots)) ≡ some_closes (s ∷ slots)
    by_test true rest = refl
    by_test false rest = ap (λ b. s.closes || b) rest

closing-move : (d : Connection) (move : Move) → IsClosing d → IsClosing (connection_after_move d move)
closing-move d (PieceMove bytes turns ends) is = closing-fed bytes turns ends d is
closing-move d (Treatment slot) is = closing-advanced (with_slot slot d) (closing-slot slot d is)
closing-move d (Ending flight answer) is = is ∙ sym (closing-filled flight answer d.slots)
closing-move d (SentMove sending) is = is
closing-move d ShutMove is = is

closing-all : (d : Connection) (moves : List Move) → IsClosing d → IsClosing (after_all d moves)
closing-all d [] is = is
closing-all d (move ∷ moves) is = closing-all (connection_after_move d move) moves (closing-move d move is)

-- a connection that no slot closes has read all that came
pub past-all : (d : Connection) (came : List ℕ) (sent : List Sending) (past : Past d came sent) → some_closes d.slots ≡ false → past.unread ≡ []
past-all d came sent past stays = past.read (subst IsClosing past.is (closing-all (fresh past.peer) past.moves refl) ∙ stays)
