-- Notes, one after another, and what they leave alone.
use Rattle.std.proofs.Common.{◌≡◌, ◌≢◌, ℕ, ◌+◌, ◌++◌, true, List, [], ◌∷◌, Option, Some, None, refl, ap, sym, subst, ◌∙◌, arith, ◌⊎◌, inl, inr, ⊎_elim}
use Rattle.std.specs.Prelude.{nat_eq, if◌then◌else◌}
use Rattle.std.proofs.lemmas.Map.{update_apart, update_here}
use Rattle.sp_base.specs.Requests.{Request}
use Rattle.cover_rules.specs.declared.page.PageKey.{PageKey}
use Rattle.cover_rules.specs.declared.invalidation.Invalidation.{Invalidation}
use Rattle.cache_log.specs.Entries.{FlushOutcome}
use Rattle.connections.specs.Connections.{Connection}
use Rattle.connections.specs.Slots.{Response}
use Rattle.run_events.specs.declared.conditions.Conditions.{Conditions}
use Rattle.run_events.specs.declared.flying.Flushing.{Flushing}
use Rattle.run_events.specs.declared.note.Note.{Note}
use Rattle.run_events.specs.declared.note.Note.TheVariants.{Local, Shut}
use Rattle.run_events.specs.Moves.{GivesNext, GivesSlice, Serves, state_after_ask, state_after_ending, state_after_flush, state_after_hit, state_after_note, state_after_notes, due_of_connection, flush_at, treated_request}
use Rattle.run_events.specs.States.{RunState}
use Rattle.run_events.proofs.NoteLemmas.{IsGift, IsTreatment, gift}

pub afters-push : (w : RunState) (notes : List Note) (note : Note) → state_after_notes w (notes ++ note ∷ []) ≡ state_after_note (state_after_notes w notes) note
afters-push w [] note = refl
afters-push w (n ∷ notes) note = afters-push (state_after_note w n) notes note

pub serves-push : (m : Conditions) (w : RunState) (c : ℕ) (notes : List Note) (note : Note) → Serves m w c notes → GivesNext m (state_after_notes w notes) c (state_after_notes w notes).slicing note → Serves m w c (notes ++ note ∷ [])
serves-push m w c [] note serves gives = (gives, tt)
serves-push m w c (n ∷ notes) note serves gives = (serves.0, serves-push m (state_after_note w n) c notes note serves.1 gives)

-- ---- what notes on one connection leave alone
pub record Frame (c : ℕ) (w v : RunState) : Type 0 where
  pub others : (d : ℕ) → d ≢ c → v.connection d ≡ w.connection d
  pub count : v.connection_count ≡ w.connection_count

frame-more : (c : ℕ) (u v w : RunState) → Frame c u v → Frame c v w → Frame c u w
frame-more c u v w f g = record {
  others = λ d apart. g.others d apart ∙ f.others d apart;
  count = g.count ∙ f.count;
}

-- no slice is due, or that of the only flush, which this connection waits for
abbrev pub IsOwnSlice : ℕ → RunState → Option ℕ → Type 0
IsOwnSlice c w None = Unit {0}
IsOwnSlice c w (Some flush) = w.flushes ≡ record { number = flush; connection = c } ∷ []

asked-frame : (w : RunState) (number c : ℕ) (key : Option PageKey) (request : Option Request) → IsOwnSlice c w w.slicing → Frame c w (state_after_ask w number c key request) × IsOwnSlice c (state_after_ask w number c key request) (state_after_ask w number c key request).slicing
asked-frame w number c key None own = (record { others = λ d apart. refl; count = refl }, own)
asked-frame w number c key (Some request) own = (record { others = λ d apart. update_apart w.connection c _ d apart; count = refl }, own)

hit-frame : (w : RunState) (c : ℕ) (key : PageKey) (request : Option Request) → IsOwnSlice c w w.slicing → Frame c w (state_after_hit w c key request) × IsOwnSlice c (state_after_hit w c key request) (state_after_hit w c key request).slicing
hit-frame w c key None own = (record { others = λ d apart. refl; count = refl }, own)
hit-frame w c key (Some request) own = (record { others = λ d apart. update_apart w.connection c _ d apart; count = refl }, own)

-- what a note leaves: the other connections, and no slice or its own
abbrev pub Leaves : ℕ → RunState → Note → Type 0
Leaves c w note = Frame c w (state_after_note w note) × IsOwnSlice c (state_after_note w note) (state_after_note w note).slicing

local-frame : (w : RunState) (c status : ℕ) → IsOwnSlice c w w.slicing → Leaves c w (Local c status)
local-frame w c status own = (record { others = λ d apart. update_apart w.connection c _ d apart; count = refl }, own)

flush-frame : (w : RunState) (number c : ℕ) (inv : Invalidation) (request : Option Request) (flushes : List Flushing) → w.flushes ≡ flushes → IsOwnSlice c w w.slicing
    → Frame c w (state_after_flush w number c inv request) × IsOwnSlice c (state_after_flush w number c inv request) (state_after_flush w number c inv request).slicing
flush-frame w number c inv None flushes is own = (record { others = λ d apart. refl; count = refl }, own)
flush-frame w number c inv (Some request) [] is own = (record { others = λ d apart. update_apart w.connection c _ d apart; count = refl }, rw is refl)
flush-frame w number c inv (Some request) (f ∷ fs) is own = (record { others = λ d apart. update_apart w.connection c _ d apart; count = refl }, rw is tt)

treats-frame : (w : RunState) (c : ℕ) (note : Note) → IsOwnSlice c w w.slicing → IsTreatment c note → Leaves c w note
treats-frame w c note own (inl is) = rw is.1 (local-frame w c is.0 own)
treats-frame w c note own (inr (inl is)) = rw is.1 (hit-frame w c is.0 (treated_request (due_of_connection w c)) own)
treats-frame w c note own (inr (inr (inl is))) = rw is.2 (asked-frame w is.0 c is.1 (treated_request (due_of_connection w c)) own)
treats-frame w c note own (inr (inr (inr is))) = rw is.2 (flush-frame w is.0 c is.1 (treated_request (due_of_connection w c)) w.flushes refl own)

-- a note that gives what is due leaves the other connections alone, and shuts its own or keeps their number
gift-frame : (w : RunState) (c : ℕ) (note : Note) → IsOwnSlice c w w.slicing → IsGift c note → (note ≡ Shut c) ⊎ Leaves c w note
gift-frame w c note own (inl sent) = inr (rw sent.1 (record { others = λ d apart. update_apart w.connection c _ d apart; count = refl }, own))
gift-frame w c note own (inr (inl treats)) = inr (treats-frame w c note own treats)
gift-frame w c note own (inr (inr shut)) = inl shut

own-flush : (flush c : ℕ) → flush_at flush (record { number = flush; connection = c } ∷ []) ≡ Some (record { number = flush; connection = c })
own-flush flush c = let here : nat_eq flush flush ≡ true = grind arith in rw here refl

ended-frame : (w : RunState) (flush c : ℕ) (outcome : FlushOutcome) (response : Response) → w.flushes ≡ record { number = flush; connection = c } ∷ []
    → Frame c w (state_after_ending w flush outcome response (flush_at flush w.flushes)) × IsOwnSlice c (state_after_ending w flush outcome response (flush_at flush w.flushes)) (state_after_ending w flush outcome response (flush_at flush w.flushes)).slicing
ended-frame w flush c outcome response is =
    let found : flush_at flush w.flushes ≡ Some (record { number = flush; connection = c }) = ap (flush_at flush) is ∙ own-flush flush c in
    subst (λ f. Frame c w (state_after_ending w flush outcome response f) × IsOwnSlice c (state_after_ending w flush outcome response f) (state_after_ending w flush outcome response f).slicing) (sym found)
    (record { others = λ d apart. update_apart w.connection c _ d apart; count = refl }, tt)

slice-frame : (m : Conditions) (w : RunState) (c flush : ℕ) (note : Note) → w.flushes ≡ record { number = flush; connection = c } ∷ [] → GivesSlice m flush note → Leaves c w note
slice-frame m w c flush note is (inl done) = rw done (ended-frame w flush c _ _ is)
slice-frame m w c flush note is (inr (inl sliced)) = rw sliced (record { others = λ d apart. refl; count = refl }, tt)
slice-frame m w c flush note is (inr (inr (inl failed))) = rw failed.0 (ended-frame w flush c _ _ is)
slice-frame m w c flush note is (inr (inr (inr failed))) = rw failed.0 (ended-frame w flush c _ _ is)

next-frame : (m : Conditions) (w : RunState) (c : ℕ) (slicing : Option ℕ) (note : Note) → w.slicing ≡ slicing → IsOwnSlice c w slicing → GivesNext m w c slicing note → (note ≡ Shut c) ⊎ Leaves c w note
next-frame m w c (Some flush) note is own gives = inr (slice-frame m w c flush note own gives)
next-frame m w c None note is own gives = gift-frame w c note (subst (IsOwnSlice c w) (sym is) own) (gift m w c (due_of_connection w c) note gives)

-- a connection that is shut is owed nothing, so no note follows
shut-last : (m : Conditions) (w : RunState) (c : ℕ) (notes : List Note) (k : Connection) → w.connection c ≡ None → w.slicing ≡ None → Serves m w c notes → (state_after_notes w notes).connection c ≡ Some k → ⊥
shut-last m w c [] k none quiet serves some = let no : ⊥ = cc in no
shut-last m w c (n ∷ notes) k none quiet serves some = rw (quiet, none) at serves.0

pub serves-frame : (m : Conditions) (w : RunState) (c : ℕ) (notes : List Note) (k : Connection) → IsOwnSlice c w w.slicing → Serves m w c notes → (state_after_notes w notes).connection c ≡ Some k → Frame c w (state_after_notes w notes)
serves-frame m w c [] k own serves some = record { others = λ d apart. refl; count = refl }
serves-frame m w c (n ∷ notes) k own serves some =
    ⊎_elim
    (λ shut. absurd (shut-last m (state_after_note w n) c notes k (rw shut (update_here w.connection c None)) (shut-quiet shut) serves.1 some))
    (λ leaves. frame-more c w (state_after_note w n) _ leaves.0 (serves-frame m (state_after_note w n) c notes k leaves.1 serves.1 some))
    (next-frame m w c w.slicing n refl own serves.0)
  where
    by_slicing : (slicing : Option ℕ) → w.slicing ≡ slicing → GivesNext m w c slicing n → n ≡ Shut c → w.slicing ≡ None
    by_slicing None is gives shut = is
    by_slicing (Some flush) is (inl done) shut = absurd (let no : ⊥ = cc in no)
    by_slicing (Some flush) is (inr (inl sliced)) shut = absurd (let no : ⊥ = cc in no)
    by_slicing (Some flush) is (inr (inr (inl failed))) shut = absurd (let e = failed.0 in let no : ⊥ = cc in no)
    by_slicing (Some flush) is (inr (inr (inr failed))) shut = absurd (let e = failed.0 in let no : ⊥ = cc in no)

    shut-quiet : n ≡ Shut c → (state_after_note w n).slicing ≡ None
    shut-quiet shut = rw shut (by_slicing w.slicing refl serves.0 shut)
