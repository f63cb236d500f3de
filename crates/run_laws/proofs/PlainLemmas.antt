-- Connections on which no hit was given.
use Rattle.std.proofs.Common.{◌≡◌, ℕ, zero, suc, ◌++◌, Bool, true, false, List, [], ◌∷◌, Option, Some, None, refl, subst, cond}
use Rattle.std.specs.Prelude.{if◌then◌else◌, slice_get}
use Rattle.std.specs.List.{AllByRecursion}
use Rattle.http_front.specs.Turns.{End}
use Rattle.http_front.specs.declared.turn.Turn.{Turn}
use Rattle.http_front.specs.declared.turn.Turn.TheVariants.{Continue, Whole}
use Rattle.connections.specs.declared.awaited.Awaited.{Awaited}
use Rattle.connections.specs.Slots.{Cached, Response, Slot, interim_slot, is_answered, is_awaiting}
use Rattle.connections.specs.Connections.{Close, Connection, Send, after_turn, due_at_slot, due_without_sending, next_turn, slots_with_end, with_due_continue, with_piece, with_response, with_slot}
use Rattle.connections.specs.Connections as model
use Rattle.connections.proofs.HistoryLemmas.{without_sending-no-send}

-- the response isn't any of those that a hit may give
abbrev pub IsPlain : Response → Type 0
IsPlain (Cached farm log key) = ⊥
IsPlain _ = Unit {0}

abbrev pub ArePlain : List Slot → Type 0
ArePlain slots = AllByRecursion (λ (slot : Slot). IsPlain slot.response) slots

pub plain-push : (slots : List Slot) (slot : Slot) → ArePlain slots → IsPlain slot.response → ArePlain (slots ++ slot ∷ [])
plain-push [] slot are is = (is, tt)
plain-push (s ∷ slots) slot are is = (are.0, plain-push slots slot are.1 is)

plain-turn : (turn : Option Turn) (c : Connection) → ArePlain c.slots → ArePlain (after_turn turn c).slots
plain-turn None c are = are
plain-turn (Some Continue) c are = plain-push c.slots interim_slot are tt
plain-turn (Some (Whole request)) c are = are

plain-continue : (c : Connection) → ArePlain c.slots → ArePlain (with_due_continue c).slots
plain-continue c are = by_test c.closing
  where
    by_test : (b : Bool) → ArePlain (if b then c else after_turn (next_turn c) c).slots
    by_test true = are
    by_test false = plain-turn (next_turn c) c are

pub plain-treated : (slot : Slot) (c : Connection) → IsPlain slot.response → ArePlain c.slots → ArePlain (with_due_continue (with_slot slot c)).slots
plain-treated slot c is are = plain-continue (with_slot slot c) (plain-push c.slots slot are is)

pub plain-fed : (bytes : List ℕ) (turns : List Turn) (ends : End) (c : Connection) → ArePlain c.slots → ArePlain (with_piece bytes turns ends c).slots
plain-fed bytes turns ends c are = by_test c.closing
  where
    by_test : (b : Bool) → ArePlain (if b then c else with_due_continue (record c { stream = c.stream ++ bytes; turns = c.turns ++ turns; ends = ends })).slots
    by_test true = are
    by_test false = plain-continue (record c { stream = c.stream ++ bytes; turns = c.turns ++ turns; ends = ends }) are

pub plain-ended : (what : Awaited) (response : Response) (slots : List Slot) → IsPlain response → ArePlain slots → ArePlain (slots_with_end what response slots)
plain-ended what response [] is are = tt
plain-ended what response (s ∷ slots) is are = by_test (is_awaiting what s.response) (plain-ended what response slots is are.1)
  where
    by_test : (b : Bool) → ArePlain (slots_with_end what response slots) → ArePlain (if b then with_response response s ∷ slots else s ∷ slots_with_end what response slots)
    by_test true rest = (is, are.1)
    by_test false rest = (are.0, rest)

plain-at : (slots : List Slot) (i : ℕ) (slot : Slot) → ArePlain slots → slice_get slots i ≡ Some slot → IsPlain slot.response
plain-at [] i slot are at = absurd (cc at)
plain-at (s ∷ slots) zero slot are at = let same : s ≡ slot = cc at in subst (λ (x : Slot). IsPlain x.response) same are.0
plain-at (s ∷ slots) (suc i) slot are at = plain-at slots i slot are.1 at

-- ---- what is due to be sent
pub plain-due : (c : Connection) (slot : Slot) → ArePlain c.slots → model.due c ≡ Send slot → IsPlain slot.response
plain-due c slot are e = by_over c.over e
  where
    by_test : (t : Bool) (y : Slot) → slice_get c.slots c.sent ≡ Some y → cond t (Send y) (due_without_sending c) ≡ Send slot → IsPlain slot.response
    by_test true y at e = let same : y ≡ slot = cc in subst (λ (x : Slot). IsPlain x.response) same (plain-at c.slots c.sent y are at)
    by_test false y at e = absurd (without_sending-no-send c.over c.closing (next_turn c) c.ends slot e)

    by_slot : (o : Option Slot) → slice_get c.slots c.sent ≡ o → due_at_slot o c ≡ Send slot → IsPlain slot.response
    by_slot None at e = absurd (without_sending-no-send c.over c.closing (next_turn c) c.ends slot e)
    by_slot (Some y) at e = by_test (is_answered y.response) y at e

    by_over : (b : Bool) → cond b Close (due_at_slot (slice_get c.slots c.sent) c) ≡ Send slot → IsPlain slot.response
    by_over true e = absurd (let never : ⊥ = cc in never)
    by_over false e = by_slot (slice_get c.slots c.sent) refl e
