-- Slots that are answered each by its own request's answer.
use Rattle.std.proofs.Common.{◌≡◌, ℕ, ◌≤◌, ◌++◌, Bool, true, false, cond, List, [], ◌∷◌, Some, None, length, refl, ap, sym, subst, ◌∙◌, arith}
use Rattle.std.specs.Prelude.{slice_get}
use Rattle.sp_base.specs.Requests.{Request}
use Rattle.http_front.specs.declared.turn.Turn.{Turn}
use Rattle.http_front.specs.declared.turn.Turn.TheVariants.{Continue, Whole}
use Rattle.connections.specs.Slots.{Awaits, Cached, Fixed, Interim, Response, Says, Slot, interim_slot, is_awaiting, is_same_awaited, local_response}
use Rattle.connections.specs.declared.awaited.Awaited.{Awaited}
use Rattle.connections.specs.declared.awaited.Awaited.TheVariants.{Flight, Flush}
use Rattle.connections.specs.Connections.{slots_with_end, with_response}
use Rattle.connections.proofs.TurnLemmas.{filled-none, local-waits}
use Rattle.run_laws.specs.Owned.{AreEach, ByStatus, Treating}

pub each-map : (P Q : Treating → Request → Response → Type 0) → ((treating : Treating) (request : Request) (response : Response) → P treating request response → Q treating request response)
    → (treatings : List Treating) (turns : List Turn) (slots : List Slot) → AreEach P treatings turns slots → AreEach Q treatings turns slots
each-map P Q next treatings turns [] all = all
each-map P Q next treatings [] (s ∷ slots) all = all
each-map P Q next treatings (Continue ∷ turns) (s ∷ slots) all = (all.0, each-map P Q next treatings turns slots all.1)
each-map P Q next [] (Whole r ∷ turns) (s ∷ slots) all = absurd all
each-map P Q next (x ∷ treatings) (Whole r ∷ turns) (s ∷ slots) all = (next x r s.response all.0, each-map P Q next treatings turns slots all.1)

-- ---- a turn or a fault gets its slot
pub each-push : (P : Treating → Request → Response → Type 0) (treatings : List Treating) (turns : List Turn) (slots : List Slot) (treating : Treating) (request : Request) (slot : Slot) → AreEach P treatings turns slots
    → slice_get turns (length slots) ≡ Some (Whole request) → P treating request slot.response → AreEach P (treatings ++ treating ∷ []) turns (slots ++ slot ∷ [])
each-push P treatings [] [] treating request slot all at is = absurd (let no : ⊥ = cc in no)
each-push P treatings (Continue ∷ turns) [] treating request slot all at is = absurd (let no : ⊥ = cc in no)
each-push P [] (Whole r ∷ turns) [] treating request slot all at is =
    let same : r ≡ request = cc in
    (subst (λ x. P treating x slot.response) (sym same) is, refl)
each-push P (x ∷ treatings) (Whole r ∷ turns) [] treating request slot all at is = absurd (let no : ⊥ = cc in no)
each-push P treatings [] (s ∷ slots) treating request slot all at is = absurd (let no : ⊥ = cc in no)
each-push P treatings (Continue ∷ turns) (s ∷ slots) treating request slot all at is = (all.0, each-push P treatings turns slots treating request slot all.1 at is)
each-push P [] (Whole r ∷ turns) (s ∷ slots) treating request slot all at is = absurd all
each-push P (x ∷ treatings) (Whole r ∷ turns) (s ∷ slots) treating request slot all at is = (all.0, each-push P treatings turns slots treating request slot all.1 at is)

pub each-interim : (P : Treating → Request → Response → Type 0) (treatings : List Treating) (turns : List Turn) (slots : List Slot) → AreEach P treatings turns slots → slice_get turns (length slots) ≡ Some Continue
    → AreEach P treatings turns (slots ++ interim_slot ∷ [])
each-interim P treatings [] [] all at = absurd (let no : ⊥ = cc in no)
each-interim P treatings (Continue ∷ turns) [] all at = (refl, all)
each-interim P treatings (Whole r ∷ turns) [] all at = absurd (let no : ⊥ = cc in no)
each-interim P treatings [] (s ∷ slots) all at = absurd (let no : ⊥ = cc in no)
each-interim P treatings (Continue ∷ turns) (s ∷ slots) all at = (all.0, each-interim P treatings turns slots all.1 at)
each-interim P [] (Whole r ∷ turns) (s ∷ slots) all at = absurd all
each-interim P (x ∷ treatings) (Whole r ∷ turns) (s ∷ slots) all at = (all.0, each-interim P treatings turns slots all.1 at)

pub each-fault : (P : Treating → Request → Response → Type 0) (treatings : List Treating) (turns : List Turn) (slots : List Slot) (slot : Slot) (status : ℕ) → AreEach P treatings turns slots → slice_get turns (length slots) ≡ None
    → length slots ≤ length turns → slot.response ≡ local_response status → AreEach P (treatings ++ ByStatus status ∷ []) turns (slots ++ slot ∷ [])
each-fault P treatings [] [] slot status all at room is = record { status = status; noted = ap (λ ts. ts ++ ByStatus status ∷ []) all; last = refl; response_is = is }
each-fault P treatings (t ∷ turns) [] slot status all at room is = absurd (let no : ⊥ = cc in no)
each-fault P treatings [] (s ∷ slots) slot status all at room is = absurd (omega (arith, room))
each-fault P treatings (Continue ∷ turns) (s ∷ slots) slot status all at room is = (all.0, each-fault P treatings turns slots slot status all.1 at (omega (arith, room)) is)
each-fault P [] (Whole r ∷ turns) (s ∷ slots) slot status all at room is = absurd all
each-fault P (x ∷ treatings) (Whole r ∷ turns) (s ∷ slots) slot status all at room is = (all.0, each-fault P treatings turns slots slot status all.1 at (omega (arith, room)) is)

-- ---- further turns
pub each-more : (P : Treating → Request → Response → Type 0) (treatings : List Treating) (turns more : List Turn) (slots : List Slot) → length slots ≤ length turns → AreEach P treatings turns slots → AreEach P treatings (turns ++ more) slots
each-more P treatings turns more [] room all = all
each-more P treatings [] more (s ∷ slots) room all = absurd (omega (arith, room))
each-more P treatings (Continue ∷ turns) more (s ∷ slots) room all = (all.0, each-more P treatings turns more slots (omega (arith, room)) all.1)
each-more P [] (Whole r ∷ turns) more (s ∷ slots) room all = absurd all
each-more P (x ∷ treatings) (Whole r ∷ turns) more (s ∷ slots) room all = (all.0, each-more P treatings turns more slots (omega (arith, room)) all.1)

-- ---- a flight has landed
same-awaited : (m n : Awaited) → is_same_awaited m n ≡ true → m ≡ n
same-awaited (Flight m) (Flight n) e = let same : m ≡ n = grind (arith, e) in ap Flight same
same-awaited (Flush m) (Flush n) e = let same : m ≡ n = grind (arith, e) in ap Flush same
same-awaited (Flight m) (Flush n) e = absurd (let never : ⊥ = cc in never)
same-awaited (Flush m) (Flight n) e = absurd (let never : ⊥ = cc in never)

pub awaiting-is : (n : Awaited) (response : Response) → is_awaiting n response ≡ true → response ≡ Awaits n
awaiting-is n (Awaits m) e = ap Awaits (same-awaited m n e)
awaiting-is n Interim e = absurd (let never : ⊥ = cc in never)
awaiting-is n Fixed e = absurd (let never : ⊥ = cc in never)
awaiting-is n (Says answer) e = absurd (let never : ⊥ = cc in never)
awaiting-is n (Cached farm log key) e = absurd (let never : ⊥ = cc in never)

pub each-filled : (P Q : Treating → Request → Response → Type 0) (n : Awaited) (a : Response) → ((treating : Treating) (request : Request) (response : Response) → P treating request response → Q treating request response)
    → ((treating : Treating) (request : Request) → P treating request (Awaits n) → Q treating request a) → (treatings : List Treating) (turns : List Turn) (slots : List Slot) → AreEach P treatings turns slots → AreEach Q treatings turns (slots_with_end n a slots)
each-filled P Q n a next lands treatings turns [] all = all
each-filled P Q n a next lands treatings [] (s ∷ slots) all =
    let still : is_awaiting n s.response ≡ false = ap (is_awaiting n) all.response_is ∙ local-waits n all.status in
    rw still (record { status = all.status; noted = all.noted; last = filled-none n a slots all.last; response_is = all.response_is })
each-filled P Q n a next lands treatings (Continue ∷ turns) (s ∷ slots) all =
    let still : is_awaiting n s.response ≡ false = ap (is_awaiting n) all.0 in
    let rest = each-filled P Q n a next lands treatings turns slots all.1 in
    rw still (all.0, rest)
each-filled P Q n a next lands [] (Whole r ∷ turns) (s ∷ slots) all = absurd all
each-filled P Q n a next lands (x ∷ treatings) (Whole r ∷ turns) (s ∷ slots) all = by_test (is_awaiting n s.response) refl (each-filled P Q n a next lands treatings turns slots all.1)
  where
    by_test : (b : Bool) → is_awaiting n s.response ≡ b → AreEach Q treatings turns (slots_with_end n a slots) → AreEach Q (x ∷ treatings) (Whole r ∷ turns) (cond (is_awaiting n s.response) (with_response a s ∷ slots) (s ∷ slots_with_end n a slots))
    by_test true e rest =
        let waits : P x r (Awaits n) = subst (P x r) (awaiting-is n s.response e) all.0 in
        rw e (lands x r waits, each-map P Q next treatings turns slots all.1)
    by_test false e rest = rw e (next x r s.response all.0, rest)
