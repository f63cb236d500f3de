-- In every run the connections that are there are counted.
use Rattle.std.proofs.Common.{◌≡◌, ◌≢◌, ◌+◌, ◌-◌, ◌<◌, ◌||◌, ◌∙◌, ℕ, Bool, true, false, List, [], ◌∷◌, Option, Some, None, length, refl, ap, sym, subst, arith, inl, inr, ⊎_elim, eq-eqb}
use Rattle.std.specs.Prelude.{if◌then◌else◌, is_some, nat_eq, nat_le, nat_lt}
use Rattle.std.specs.Map.{update}
use Rattle.std.specs.Option.{option_map}
use Rattle.std.proofs.lemmas.Map.{update_apart, update_here}
use Rattle.std.proofs.lemmas.Bool.{cases_eq, ne_eqb}
use Rattle.sp_base.specs.declared.answer.Answer.{Answer}
use Rattle.sp_base.specs.Requests.{Request}
use Rattle.sp_base.proofs.BoolLemmas.{or_first, or_second, or_swapped}
use Rattle.sp_base.proofs.OptionLemmas.{is_some-option_map}
use Rattle.cover_rules.specs.declared.page.PageKey.{PageKey}
use Rattle.cover_rules.specs.declared.invalidation.Invalidation.{Invalidation}
use Rattle.http_front.specs.declared.turn.Turn.TheVariants.{Continue, Whole}
use Rattle.cache_log.specs.Entries.{LogEntry, FlushOutcome}
use Rattle.connections.specs.Slots.{Response}
use Rattle.connections.specs.Connections.{Close, Connection, Due, Nothing, Refuse, Send, Treat, fresh, with_piece}
use Rattle.run_events.specs.declared.conditions.Conditions.{Conditions}
use Rattle.run_events.specs.declared.flying.Flying.{Flying}
use Rattle.run_events.specs.declared.flying.Flushing.{Flushing}
use Rattle.run_events.specs.declared.note.Note.{Note}
use Rattle.run_events.specs.declared.note.Note.TheVariants.{Ask as asked, Hit, Local, Flush, Sliced, Done, Failed, Rendered, Kept, Unkept, Passed, Lost, Sent, Shut, Refused, Idle, Up, Down}
use Rattle.run_events.specs.declared.step.Step.{Step}
use Rattle.run_events.specs.declared.step.Step.TheVariants as step
use Rattle.run_events.specs.Moves.{GivesDue, GivesNext, Serves, due_if_open, due_of_connection, flying_at, flush_at, on_connection, over_with, state_after_ask, state_after_ending, state_after_flush, state_after_hit, state_after_note, state_after_notes, treated_request}
use Rattle.run_events.specs.Restarts.{without_connections}
use Rattle.run_events.specs.Events.{DeliverAs, DeliverTo, Event, HappensBy, LeadsNotes, LoseTo, PieceTo, PurgeTo, RenderTo, Run, after_event, going, is_any, is_rendered, is_unrendered, most_connections, opening, picked_flight, state_after_events, state_after_going, state_after_opening, state_before_notes}
use Rattle.run_events.specs.States.{AreAbove, AreConnectionsCounted, AreNumbersRising, RunState, Start, is_among, start_of}
use Rattle.run_laws.proofs.FormLemmas.{AreCutNotes, IsCutNote, IsLandingNote, IsRequestNote, IsSliceNote, landing-form, restart-cut, slice-form, treated-form}

-- ---- numbers that rise
above-lower : (a b : ℕ) (numbers : List ℕ) → a < b → AreAbove b numbers → AreAbove a numbers
above-lower a b [] less above = tt
above-lower a b (c ∷ numbers) less above = (omega (arith, less, above.0), above.1)

above-rising : (a : ℕ) (numbers : List ℕ) → AreAbove a numbers → AreNumbersRising numbers
above-rising a [] above = tt
above-rising a (b ∷ numbers) above = above.1

-- one number more
abbrev with_number : ℕ → List ℕ → List ℕ
with_number c [] = c ∷ []
with_number c (d ∷ numbers) = if nat_lt c d then c ∷ d ∷ numbers else d ∷ with_number c numbers

above-with : (a c : ℕ) (numbers : List ℕ) → a < c → AreAbove a numbers → is_among c numbers ≡ false → AreAbove a (with_number c numbers)
above-with a c [] less above none = (less, tt)
above-with a c (d ∷ numbers) less above none = by_test (nat_lt c d) refl (above-with d c numbers)
  where
    by_test : (b : Bool) → nat_lt c d ≡ b → (d < c → AreAbove d numbers → is_among c numbers ≡ false → AreAbove d (with_number c numbers)) → AreAbove a (if b then c ∷ d ∷ numbers else d ∷ with_number c numbers)
    by_test true e rest = (less, (grind (arith, e), above.1))
    by_test false e rest =
        let apart = or_first (nat_eq d c) (is_among c numbers) none in
        let more : d < c = grind (arith, e, apart) in
        (above.0, rest more above.1 (or_second (nat_eq d c) (is_among c numbers) none))

rising-with : (c : ℕ) (numbers : List ℕ) → AreNumbersRising numbers → is_among c numbers ≡ false → AreNumbersRising (with_number c numbers)
rising-with c [] rising none = tt
rising-with c (d ∷ numbers) rising none = by_test (nat_lt c d) refl
  where
    by_test : (b : Bool) → nat_lt c d ≡ b → AreNumbersRising (if b then c ∷ d ∷ numbers else d ∷ with_number c numbers)
    by_test true e = (grind (arith, e), rising)
    by_test false e =
        let apart = or_first (nat_eq d c) (is_among c numbers) none in
        let more : d < c = grind (arith, e, apart) in
        above-with d c numbers more rising (or_second (nat_eq d c) (is_among c numbers) none)

among-with : (q c : ℕ) (numbers : List ℕ) → is_among q (with_number c numbers) ≡ (nat_eq c q || is_among q numbers)
among-with q c [] = refl
among-with q c (d ∷ numbers) = by_test (nat_lt c d) (among-with q c numbers)
  where
    by_test : (b : Bool) → is_among q (with_number c numbers) ≡ (nat_eq c q || is_among q numbers) → is_among q (if b then c ∷ d ∷ numbers else d ∷ with_number c numbers) ≡ (nat_eq c q || is_among q (d ∷ numbers))
    by_test true rest = refl
    by_test false rest = ap (λ b. nat_eq d q || b) rest ∙ or_swapped (nat_eq d q) (nat_eq c q) (is_among q numbers)

length-with : (c : ℕ) (numbers : List ℕ) → length (with_number c numbers) ≡ length numbers + 1
length-with c [] = refl
length-with c (d ∷ numbers) = by_test (nat_lt c d) (length-with c numbers)
  where
    by_test : (b : Bool) → length (with_number c numbers) ≡ length numbers + 1 → length (if b then c ∷ d ∷ numbers else d ∷ with_number c numbers) ≡ length (d ∷ numbers) + 1
    by_test true rest = omega arith
    by_test false rest = omega (arith, rest)

-- one number less
abbrev without_number : ℕ → List ℕ → List ℕ
without_number c [] = []
without_number c (d ∷ numbers) = if nat_eq d c then numbers else d ∷ without_number c numbers

above-without : (a c : ℕ) (numbers : List ℕ) → AreAbove a numbers → AreAbove a (without_number c numbers)
above-without a c [] above = tt
above-without a c (d ∷ numbers) above = by_test (nat_eq d c) (above-without d c numbers above.1)
  where
    by_test : (b : Bool) → AreAbove d (without_number c numbers) → AreAbove a (if b then numbers else d ∷ without_number c numbers)
    by_test true rest = above-lower a d numbers above.0 above.1
    by_test false rest = (above.0, rest)

rising-without : (c : ℕ) (numbers : List ℕ) → AreNumbersRising numbers → AreNumbersRising (without_number c numbers)
rising-without c [] rising = tt
rising-without c (d ∷ numbers) rising = by_test (nat_eq d c)
  where
    by_test : (b : Bool) → AreNumbersRising (if b then numbers else d ∷ without_number c numbers)
    by_test true = above-rising d numbers rising
    by_test false = above-without d c numbers rising

among-above : (c a : ℕ) (numbers : List ℕ) → AreAbove a numbers → c < a + 1 → is_among c numbers ≡ false
among-above c a [] above less = refl
among-above c a (d ∷ numbers) above less =
    let over = above.0 in
    let other : nat_eq d c ≡ false = grind (arith, over, less) in
    ap (λ b. b || is_among c numbers) other ∙ among-above c d numbers above.1 (omega (arith, over, less))

among-without-above : (c a : ℕ) (numbers : List ℕ) → AreAbove a numbers → is_among c (without_number c numbers) ≡ false
among-without-above c a [] above = refl
among-without-above c a (d ∷ numbers) above = by_test (nat_eq d c) refl (among-without-above c d numbers above.1)
  where
    by_test : (b : Bool) → nat_eq d c ≡ b → is_among c (without_number c numbers) ≡ false → is_among c (if b then numbers else d ∷ without_number c numbers) ≡ false
    by_test true e rest = let same : c < d + 1 = grind (arith, e) in among-above c d numbers above.1 same
    by_test false e rest = ap (λ b. b || is_among c (without_number c numbers)) e ∙ rest

among-without-same : (c : ℕ) (numbers : List ℕ) → AreNumbersRising numbers → is_among c (without_number c numbers) ≡ false
among-without-same c [] rising = refl
among-without-same c (d ∷ numbers) rising = by_test (nat_eq d c) refl
  where
    by_test : (b : Bool) → nat_eq d c ≡ b → is_among c (if b then numbers else d ∷ without_number c numbers) ≡ false
    by_test true e = let same : c < d + 1 = grind (arith, e) in among-above c d numbers rising same
    by_test false e = ap (λ b. b || is_among c (without_number c numbers)) e ∙ among-without-above c d numbers rising

among-without-other : (q c : ℕ) (numbers : List ℕ) → q ≢ c → is_among q (without_number c numbers) ≡ is_among q numbers
among-without-other q c [] apart = refl
among-without-other q c (d ∷ numbers) apart = by_test (nat_eq d c) refl (among-without-other q c numbers apart)
  where
    by_test : (b : Bool) → nat_eq d c ≡ b → is_among q (without_number c numbers) ≡ is_among q numbers → is_among q (if b then numbers else d ∷ without_number c numbers) ≡ is_among q (d ∷ numbers)
    by_test true e rest =
        let here : d ≡ c = grind (arith, e) in
        let other : nat_eq d q ≡ false = ne_eqb d q (λ same. apart (sym same ∙ here)) in
        sym (ap (λ b. b || is_among q numbers) other)
    by_test false e rest = ap (λ b. nat_eq d q || b) rest

length-without : (c : ℕ) (numbers : List ℕ) → is_among c numbers ≡ true → length (without_number c numbers) + 1 ≡ length numbers
length-without c [] there = absurd (let never : ⊥ = cc in never)
length-without c (d ∷ numbers) there = by_test (nat_eq d c) there (length-without c numbers)
  where
    by_test : (b : Bool) → (b || is_among c numbers) ≡ true → (is_among c numbers ≡ true → length (without_number c numbers) + 1 ≡ length numbers) → length (if b then numbers else d ∷ without_number c numbers) + 1 ≡ length (d ∷ numbers)
    by_test true e rest = omega arith
    by_test false e rest = omega (arith, rest e)

-- ---- what changes the connections
-- the same connections are there
pub record SameThere (w v : RunState) : Type 0 where
  pub there : (c : ℕ) → is_some (v.connection c) ≡ is_some (w.connection c)
  pub count : v.connection_count ≡ w.connection_count

counted-same : (w v : RunState) → SameThere w v → AreConnectionsCounted w → AreConnectionsCounted v
counted-same w v same counted = record { numbers = counted.numbers; rising = counted.rising; each = λ c. same.there c ∙ counted.each c; count = same.count ∙ counted.count }

pub there-map : (connection : ℕ → Option Connection) (c : ℕ) (f : Connection → Connection) (q : ℕ) → is_some (update nat_eq connection c (option_map f (connection c)) q) ≡ is_some (connection q)
there-map connection c f q = ⊎_elim
    (λ same. subst (λ x. is_some (update nat_eq connection c (option_map f (connection c)) x) ≡ is_some (connection x)) same (ap is_some (update_here connection c (option_map f (connection c))) ∙ is_some-option_map f (connection c)))
    (λ apart. ap is_some (update_apart connection c (option_map f (connection c)) q (λ e. apart (sym e))))
    (cases_eq c q)

on-there : (w : RunState) (c : ℕ) (f : Connection → Connection) → SameThere w (on_connection w c f)
on-there w c f = record { there = there-map w.connection c f; count = refl }

same-there : (w : RunState) → SameThere w w
same-there w = record { there = λ c. refl; count = refl }

ask-there : (w : RunState) (n c : ℕ) (key : Option PageKey) (request : Option Request) → SameThere w (state_after_ask w n c key request)
ask-there w n c key None = same-there w
ask-there w n c key (Some request) = record { there = there-map w.connection c _; count = refl }

over-there : (w : RunState) (n : ℕ) (answer : Answer) (entry : LogEntry) (flying : Option Flying) → SameThere w (over_with w n answer entry flying)
over-there w n answer entry None = same-there w
over-there w n answer entry (Some f) = record { there = there-map w.connection f.connection _; count = refl }

-- a connection is there that wasn't
counted-opened : (w : RunState) (c : ℕ) (k : Connection) → w.connection c ≡ None → AreConnectionsCounted w → AreConnectionsCounted (record w { connection = update nat_eq w.connection c (Some k); connection_count = w.connection_count + 1 })
counted-opened w c k none counted = record {
  numbers = with_number c counted.numbers;
  rising = rising-with c counted.numbers counted.rising absent;
  each = λ q. ⊎_elim (here q) (other q) (cases_eq c q);
  count = ap (λ n. n + 1) counted.count ∙ sym (length-with c counted.numbers);
}
  where
    absent : is_among c counted.numbers ≡ false
    absent = sym (counted.each c) ∙ ap is_some none

    here : (q : ℕ) → c ≡ q → is_some (update nat_eq w.connection c (Some k) q) ≡ is_among q (with_number c counted.numbers)
    here q same =
        let now : is_some (update nat_eq w.connection c (Some k) q) ≡ true = subst (λ x. is_some (update nat_eq w.connection c (Some k) x) ≡ true) same (ap is_some (update_here w.connection c (Some k))) in
        let test : nat_eq c q ≡ true = eq-eqb c q same in
        now ∙ sym (among-with q c counted.numbers ∙ ap (λ b. b || is_among q counted.numbers) test)

    other : (q : ℕ) → c ≢ q → is_some (update nat_eq w.connection c (Some k) q) ≡ is_among q (with_number c counted.numbers)
    other q apart =
        let test : nat_eq c q ≡ false = ne_eqb c q apart in
        ap is_some (update_apart w.connection c (Some k) q (λ e. apart (sym e))) ∙ counted.each q ∙ sym (among-with q c counted.numbers ∙ ap (λ b. b || is_among q counted.numbers) test)

-- a connection is there no more
counted-gone : (w : RunState) (c : ℕ) (k : Connection) → w.connection c ≡ Some k → AreConnectionsCounted w → AreConnectionsCounted (record w { connection = update nat_eq w.connection c None; connection_count = w.connection_count - 1 })
counted-gone w c k some counted = record {
  numbers = without_number c counted.numbers;
  rising = rising-without c counted.numbers counted.rising;
  each = λ q. ⊎_elim (here q) (other q) (cases_eq c q);
  count = fewer w.connection_count (length counted.numbers) (length (without_number c counted.numbers)) counted.count (length-without c counted.numbers present);
}
  where
    present : is_among c counted.numbers ≡ true
    present = sym (counted.each c) ∙ ap is_some some

    fewer : (n m l : ℕ) → n ≡ m → l + 1 ≡ m → n - 1 ≡ l
    fewer n m l e f = omega (arith, e, f)

    here : (q : ℕ) → c ≡ q → is_some (update nat_eq w.connection c None q) ≡ is_among q (without_number c counted.numbers)
    here q same = subst (λ x. is_some (update nat_eq w.connection c None x) ≡ is_among x (without_number c counted.numbers)) same (ap is_some (update_here w.connection c None) ∙ sym (among-without-same c counted.numbers counted.rising))

    other : (q : ℕ) → c ≢ q → is_some (update nat_eq w.connection c None q) ≡ is_among q (without_number c counted.numbers)
    other q apart = ap is_some (update_apart w.connection c None q (λ e. apart (sym e))) ∙ counted.each q ∙ sym (among-without-other q c counted.numbers (λ e. apart (sym e)))

hit-there : (w : RunState) (c : ℕ) (key : PageKey) (request : Option Request) → SameThere w (state_after_hit w c key request)
hit-there w c key None = same-there w
hit-there w c key (Some request) = record { there = there-map w.connection c _; count = refl }

flush-there : (w : RunState) (v c : ℕ) (inv : Invalidation) (request : Option Request) → SameThere w (state_after_flush w v c inv request)
flush-there w v c inv None = same-there w
flush-there w v c inv (Some request) = record { there = there-map w.connection c _; count = refl }

ending-there : (w : RunState) (v : ℕ) (outcome : FlushOutcome) (response : Response) (at : Option Flushing) → SameThere w (state_after_ending w v outcome response at)
ending-there w v outcome response None = same-there w
ending-there w v outcome response (Some f) = record { there = there-map w.connection f.connection _; count = refl }

-- ---- notes
-- the note doesn't tell that a connection is shut
abbrev pub LeavesOpen : Note → Type 0
LeavesOpen (Shut c) = ⊥
LeavesOpen _ = Unit {0}

pub note-there : (w : RunState) (note : Note) → LeavesOpen note → SameThere w (state_after_note w note)
note-there w (asked n c key) is = ask-there w n c key (treated_request (due_of_connection w c))
note-there w (Hit c key) is = hit-there w c key (treated_request (due_of_connection w c))
note-there w (Local c status) is = on-there w c _
note-there w (Flush v c inv) is = flush-there w v c inv (treated_request (due_of_connection w c))
note-there w (Sliced v) is = record { there = λ c. refl; count = refl }
note-there w (Done v) is = ending-there w v _ _ (flush_at v w.flushes)
note-there w (Failed v failure) is = ending-there w v _ _ (flush_at v w.flushes)
note-there w (Rendered n answer) is = record { there = λ c. refl; count = refl }
note-there w (Kept n key) is = over-there w n _ _ (flying_at n w.flights)
note-there w (Unkept n) is = over-there w n _ _ (flying_at n w.flights)
note-there w (Passed n) is = over-there w n _ _ (flying_at n w.flights)
note-there w (Lost n) is = over-there w n _ _ (flying_at n w.flights)
note-there w (Sent c bytes) is = on-there w c _
note-there w (Shut c) is = absurd is
note-there w (Up epoch) is = record { there = λ c. refl; count = refl }
note-there w Down is = record { there = λ c. refl; count = refl }
note-there w note is = same-there w

open-counted : (w : RunState) (note : Note) → LeavesOpen note → AreConnectionsCounted w → AreConnectionsCounted (state_after_note w note)
open-counted w note is counted = counted-same w (state_after_note w note) (note-there w note is) counted

-- a connection whose end is due is there
close-there : (connection : Option Connection) → due_if_open connection ≡ Close → (k : Connection) × (connection ≡ Some k)
close-there None e = absurd (let never : ⊥ = cc in never)
close-there (Some k) e = (k, refl)

request-leaves : (w : RunState) (c : ℕ) (note : Note) → IsRequestNote w c note → LeavesOpen note
request-leaves w c note (inl local) = rw local.1 tt
request-leaves w c note (inr (inl ask)) = rw ask.1 tt
request-leaves w c note (inr (inr (inl hit))) = rw hit.1 tt
request-leaves w c note (inr (inr (inr flush))) = rw flush.1 tt

slice-leaves : (v : ℕ) (note : Note) → IsSliceNote v note → LeavesOpen note
slice-leaves v note (inl done) = rw done tt
slice-leaves v note (inr (inl sliced)) = rw sliced tt
slice-leaves v note (inr (inr failed)) = rw failed.1 tt

landing-leaves : (n : ℕ) (note : Note) → IsLandingNote n note → LeavesOpen note
landing-leaves n note (inl kept) = rw kept.1 tt
landing-leaves n note (inr (inl unkept)) = rw unkept tt
landing-leaves n note (inr (inr passed)) = rw passed tt

gives-counted : (m : Conditions) (w : RunState) (c : ℕ) (owed : Due) (note : Note) → due_of_connection w c ≡ owed → AreConnectionsCounted w → GivesDue m w c owed note → AreConnectionsCounted (state_after_note w note)
gives-counted m w c (Send slot) note is counted gives = open-counted w note (rw gives.1 tt) counted
gives-counted m w c (Treat Continue) note is counted gives = absurd gives
gives-counted m w c (Treat (Whole request)) note is counted gives = open-counted w note (request-leaves w c note (treated-form m w c request note gives)) counted
gives-counted m w c (Refuse fault) note is counted gives = open-counted w note (rw gives tt) counted
gives-counted m w c Close note is counted gives =
    let there = close-there (w.connection c) is in
    rw gives (counted-gone w c there.0 there.1 counted)
gives-counted m w c Nothing note is counted gives = absurd gives

next-counted : (m : Conditions) (w : RunState) (c : ℕ) (slicing : Option ℕ) (note : Note) → AreConnectionsCounted w → GivesNext m w c slicing note → AreConnectionsCounted (state_after_note w note)
next-counted m w c None note counted gives = gives-counted m w c (due_of_connection w c) note refl counted gives
next-counted m w c (Some v) note counted gives = open-counted w note (slice-leaves v note (slice-form m v note gives)) counted

serves-counted : (m : Conditions) (w : RunState) (c : ℕ) (notes : List Note) → AreConnectionsCounted w → Serves m w c notes → AreConnectionsCounted (state_after_notes w notes)
serves-counted m w c [] counted serves = counted
serves-counted m w c (note ∷ notes) counted serves = serves-counted m (state_after_note w note) c notes (next-counted m w c w.slicing note counted serves.0) serves.1

-- ---- events
idle-counted : (w : RunState) (notes : List Note) → notes ≡ Idle ∷ [] → AreConnectionsCounted w → AreConnectionsCounted (state_after_notes w notes)
idle-counted w notes is counted = rw is counted

opened-counted : (w : RunState) (c : ℕ) (peer : List ℕ) (at : Option Connection) (notes : List Note) → w.connection c ≡ at → AreConnectionsCounted w → notes ≡ opening c w.connection_count at → AreConnectionsCounted (state_after_notes (state_after_opening w c peer at) notes)
opened-counted w c peer (Some k) notes at counted is = rw is counted
opened-counted w c peer None notes at counted is = by_room (nat_le most_connections w.connection_count) is
  where
    v : RunState
    v = record w { connection = update nat_eq w.connection c (Some (fresh peer)); connection_count = w.connection_count + 1 }

    by_room : (full : Bool) → notes ≡ (if full then Refused c ∷ [] else []) → AreConnectionsCounted (state_after_notes (if full then w else v) notes)
    by_room true is = rw is counted
    by_room false is = rw is (counted-opened w c (fresh peer) at counted)

gone-counted : (w : RunState) (c : ℕ) (at : Option Connection) (notes : List Note) → w.connection c ≡ at → AreConnectionsCounted w → notes ≡ going at → AreConnectionsCounted (state_after_notes (state_after_going w c at) notes)
gone-counted w c None notes at counted is = rw is counted
gone-counted w c (Some k) notes at counted is = rw is (counted-gone w c k at counted)

piece-counted : (w : RunState) (e : Event) (c : ℕ) (bytes : List ℕ) (at : Option Connection) → AreConnectionsCounted w → PieceTo w e c bytes at → AreConnectionsCounted (state_after_notes (on_connection w c (with_piece bytes e.turns e.ends)) e.body)
piece-counted w e c bytes None counted is = idle-counted (on_connection w c (with_piece bytes e.turns e.ends)) e.body is (counted-same w (on_connection w c (with_piece bytes e.turns e.ends)) (on-there w c _) counted)
piece-counted w e c bytes (Some k) counted feeds = serves-counted e.conditions (on_connection w c (with_piece bytes e.turns e.ends)) c e.body (counted-same w (on_connection w c (with_piece bytes e.turns e.ends)) (on-there w c _) counted) feeds.settles.serves

render-counted : (w : RunState) (e : Event) (flying : Option Flying) → AreConnectionsCounted w → RenderTo w e flying → AreConnectionsCounted (state_after_notes w e.body)
render-counted w e None counted is = idle-counted w e.body is counted
render-counted w e (Some f) counted to = rw to.2 (open-counted w (Rendered f.number to.0) tt counted)

leads-counted : (w : RunState) (m : Conditions) (first : Note) (c : ℕ) (notes : List Note) → LeavesOpen first → AreConnectionsCounted w → LeadsNotes w m first c notes → AreConnectionsCounted (state_after_notes w notes)
leads-counted w m first c notes is counted leads = rw leads.begins (serves-counted m (state_after_note w first) c leads.rest (open-counted w first is counted) leads.settles.serves)

deliver-counted : (w : RunState) (e : Event) (f : Flying) (answer : Option Answer) → AreConnectionsCounted w → DeliverAs w e f answer → AreConnectionsCounted (state_after_notes w e.body)
deliver-counted w e f None counted is = idle-counted w e.body is counted
deliver-counted w e f (Some answer) counted to = leads-counted w e.conditions to.0 f.connection e.body (landing-leaves f.number to.0 (landing-form w e.conditions f answer to.0 to.1)) counted to.2

delivers-counted : (w : RunState) (e : Event) (flying : Option Flying) → AreConnectionsCounted w → DeliverTo w e flying → AreConnectionsCounted (state_after_notes w e.body)
delivers-counted w e None counted is = idle-counted w e.body is counted
delivers-counted w e (Some f) counted to = deliver-counted w e f f.rendered counted to

loses-counted : (w : RunState) (e : Event) (flying : Option Flying) → AreConnectionsCounted w → LoseTo w e flying → AreConnectionsCounted (state_after_notes w e.body)
loses-counted w e None counted is = idle-counted w e.body is counted
loses-counted w e (Some f) counted to = leads-counted w e.conditions (Lost f.number) f.connection e.body tt counted to

purges-counted : (w : RunState) (e : Event) (flushes : List Flushing) → AreConnectionsCounted w → PurgeTo w e flushes → AreConnectionsCounted (state_after_notes w e.body)
purges-counted w e [] counted is = idle-counted w e.body is counted
purges-counted w e (flush ∷ flushes) counted to = leads-counted w e.conditions to.0 flush.connection e.body (slice-leaves flush.number to.0 (slice-form e.conditions flush.number to.0 to.1)) counted to.2

-- ---- a restart
-- no connection is there, and none is counted
pub record NoneThere (w : RunState) : Type 0 where
  pub there : (c : ℕ) → is_some (w.connection c) ≡ false
  pub count : w.connection_count ≡ 0

none-same : (w v : RunState) → SameThere w v → NoneThere w → NoneThere v
none-same w v same none = record { there = λ c. same.there c ∙ none.there c; count = same.count ∙ none.count }

pub none-shut : (w : RunState) (c : ℕ) → NoneThere w → NoneThere (state_after_note w (Shut c))
none-shut w c none = record {
  there = λ q. ⊎_elim
      (λ same. subst (λ x. is_some (update nat_eq w.connection c None x) ≡ false) same (ap is_some (update_here w.connection c None)))
      (λ apart. ap is_some (update_apart w.connection c None q (λ e. apart (sym e))) ∙ none.there q)
      (cases_eq c q);
  count = ap (λ n. n - 1) none.count;
}

cut-none : (w : RunState) (note : Note) → IsCutNote note → NoneThere w → NoneThere (state_after_note w note)
cut-none w (Shut c) is none = none-shut w c none
cut-none w (Lost n) is none = none-same w (state_after_note w (Lost n)) (note-there w (Lost n) tt) none
cut-none w (Failed v failure) is none = none-same w (state_after_note w (Failed v failure)) (note-there w (Failed v failure) tt) none
cut-none w (Up epoch) is none = none-same w (state_after_note w (Up epoch)) (note-there w (Up epoch) tt) none
cut-none w Down is none = none-same w (state_after_note w Down) (note-there w Down tt) none
cut-none w note is none = absurd is

pub cuts-none : (w : RunState) (notes : List Note) → AreCutNotes notes → NoneThere w → NoneThere (state_after_notes w notes)
cuts-none w [] are none = none
cuts-none w (note ∷ notes) are none = cuts-none (state_after_note w note) notes are.1 (cut-none w note are.0 none)

none-counted : (w : RunState) → NoneThere w → AreConnectionsCounted w
none-counted w none = record { numbers = []; rising = tt; each = none.there; count = none.count }

-- ---- a run
step-counted : (w : RunState) (e : Event) (s : Step) → AreConnectionsCounted w → HappensBy w e s → AreConnectionsCounted (state_after_notes (state_before_notes w e s) e.body)
step-counted w e (step.Opened c peer) counted is = opened-counted w c peer (w.connection c) e.body refl counted is
step-counted w e (step.Piece c bytes) counted to = piece-counted w e c bytes (w.connection c) counted to
step-counted w e (step.Gone c) counted is = gone-counted w c (w.connection c) e.body refl counted is
step-counted w e (step.Direct target) counted to = rw to.2 counted
step-counted w e (step.Render pick) counted to = render-counted w e (picked_flight pick is_unrendered w.flights) counted to
step-counted w e (step.Deliver pick) counted to = delivers-counted w e (picked_flight pick is_rendered w.flights) counted to
step-counted w e (step.Lose pick) counted to = loses-counted w e (picked_flight pick is_any w.flights) counted to
step-counted w e step.Purge counted to = purges-counted w e w.flushes counted to
step-counted w e step.Restart counted to = none-counted (state_after_notes (without_connections w) e.body) (cuts-none (without_connections w) e.body (restart-cut w e.conditions e.body to) (record { there = λ c. refl; count = refl }))

run-counted : (w : RunState) (events : List Event) → AreConnectionsCounted w → Run w events → AreConnectionsCounted (state_after_events w events)
run-counted w [] counted run = counted
run-counted w (e ∷ events) counted run = run-counted (after_event w e) events (step-counted w e e.step counted run.0.0) run.1

pub connections-counted : (s : Start) (events : List Event) → Run (start_of s) events → AreConnectionsCounted (state_after_events (start_of s) events)
connections-counted s events run = run-counted (start_of s) events (record { numbers = []; rising = tt; each = λ c. refl; count = refl }) run
