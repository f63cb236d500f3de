-- What renders and landings make of the flights in the air.
use Rattle.std.proofs.Common.{◌≡◌, ◌≤◌, ◌+◌, ◌++◌, ◌⊎◌, ◌∙◌, ℕ, Bool, true, false, not, List, [], ◌∷◌, Option, Some, None, refl, ap, sym, subst, inl, inr, arith, eq-eqb, map}
use Rattle.std.specs.Prelude.{IsSome, if◌then◌else◌, is_some, nat_eq, nat_le}
use Rattle.std.specs.List.{AllByRecursion}
use Rattle.std.specs.Map.{update}
use Rattle.sp_base.specs.declared.answer.Answer.{Answer}
use Rattle.sp_base.specs.Requests.{Request}
use Rattle.cover_rules.specs.declared.page.PageKey.{PageKey}
use Rattle.cover_rules.specs.declared.invalidation.Invalidation.{Invalidation}
use Rattle.cache_log.specs.Entries.{LogEntry, FlushOutcome}
use Rattle.connections.specs.Connections.{Connection, fresh}
use Rattle.connections.specs.Slots.{Response}
use Rattle.run_events.specs.declared.conditions.Conditions.{Conditions}
use Rattle.run_events.specs.declared.flying.Flying.{Flying}
use Rattle.run_events.specs.declared.flying.Flushing.{Flushing}
use Rattle.run_events.specs.declared.note.Note.{Note}
use Rattle.run_events.specs.declared.note.Note.TheVariants.{Ask as asked, Hit, Local, Flush, Sliced, Done, Failed, Rendered, Kept, Unkept, Passed, Lost, Sent, Shut, Refused, Idle, Up, Down}
use Rattle.run_events.specs.declared.step.Pick.TheVariants.{First}
use Rattle.run_events.specs.declared.step.Step.{Step}
use Rattle.run_events.specs.declared.step.Step.TheVariants as step
use Rattle.run_events.specs.States.{AirRises, RunState}
use Rattle.run_events.specs.Moves.{due_of_connection, flying_at, flush_at, has_number, new_flight, over_with, state_after_ask, state_after_ending, state_after_flush, state_after_hit, state_after_note, state_after_notes, treated_request, with_rendered, with_rendered_at, air_without}
use Rattle.run_events.specs.Events.{DeliverAs, DeliverTo, Event, HappensBy, LeadsNotes, LoseTo, PurgeTo, RenderTo, going, is_any, is_rendered, is_unrendered, most_connections, opening, picked_flight, state_after_going, state_after_opening, state_before_notes}
use Rattle.run_events.proofs.NoteLemmas.{AreStillNotes, IsStillNote}
use Rattle.run_events.proofs.StillEvents.{IsStillStep, step-still}
use Rattle.run_laws.specs.Rounds.{AreUnrendered, BringsBytes, LeavesFlights, LeavesUnrendered, TreatsNoTurn}
use Rattle.run_laws.proofs.DueLemmas.{HasNoTurns, IsSendingNote, ending-turns, over-turns, serves-send}
use Rattle.run_laws.proofs.FormLemmas.{AreCutNotes, IsCutNote, IsLandingNote, IsSliceNote, landing-form, restart-cut, slice-form}

-- ---- the first flight
others-stay : (n least : ℕ) (flights : List Flying) (most : ℕ) → n ≤ least → AirRises least flights most → air_without n flights ≡ flights
others-stay n least [] most less rising = refl
others-stay n least (f ∷ flights) most less rising =
    let over = rising.0 in
    let other : nat_eq f.number n ≡ false = grind (arith, less, over) in
    rw other (ap (λ (fs : List Flying). f ∷ fs) (others-stay n f.number flights most (omega (arith, less, over)) rising.1))

others-unrendered : (n : ℕ) (answer : Answer) (least : ℕ) (flights : List Flying) (most : ℕ) → n ≤ least → AirRises least flights most → map (with_rendered_at n answer) flights ≡ flights
others-unrendered n answer least [] most less rising = refl
others-unrendered n answer least (f ∷ flights) most less rising =
    let over = rising.0 in
    let other : nat_eq f.number n ≡ false = grind (arith, less, over) in
    rw other (ap (λ (fs : List Flying). f ∷ fs) (others-unrendered n answer f.number flights most (omega (arith, less, over)) rising.1))

first-out : (f : Flying) (later : List Flying) (most : ℕ) → AirRises 0 (f ∷ later) most → air_without f.number (f ∷ later) ≡ later
first-out f later most rising = let same : nat_eq f.number f.number ≡ true = eq-eqb f.number f.number refl in rw same (others-stay f.number f.number later most (omega arith) rising.1)

first-rendered : (f : Flying) (answer : Answer) (later : List Flying) (most : ℕ) → AirRises 0 (f ∷ later) most → map (with_rendered_at f.number answer) (f ∷ later) ≡ with_rendered answer f ∷ later
first-rendered f answer later most rising =
    let same : nat_eq f.number f.number ≡ true = eq-eqb f.number f.number refl in
    rw same (ap (λ (fs : List Flying). with_rendered answer f ∷ fs) (others-unrendered f.number answer f.number later most (omega arith) rising.1))

first-at : (f : Flying) (later : List Flying) → flying_at f.number (f ∷ later) ≡ Some f
first-at f later = let same : nat_eq f.number f.number ≡ true = eq-eqb f.number f.number refl in rw same refl

-- ---- landings
over-out : (w : RunState) (f : Flying) (later : List Flying) (most : ℕ) (answer : Answer) (entry : LogEntry) → w.flights ≡ f ∷ later → AirRises 0 w.flights most → (over_with w f.number answer entry (flying_at f.number w.flights)).flights ≡ later
over-out w f later most answer entry is rising =
    let at : flying_at f.number w.flights ≡ Some f = rw is (first-at f later) in
    rw at (ap (air_without f.number) is ∙ first-out f later most (subst (λ fs. AirRises 0 fs most) is rising))

landing-out : (w : RunState) (f : Flying) (later : List Flying) (most : ℕ) (note : Note) → w.flights ≡ f ∷ later → AirRises 0 w.flights most → IsLandingNote f.number note → (state_after_note w note).flights ≡ later
landing-out w f later most note is rising (inl kept) = rw kept.1 (over-out w f later most _ _ is rising)
landing-out w f later most note is rising (inr (inl unkept)) = rw unkept (over-out w f later most _ _ is rising)
landing-out w f later most note is rising (inr (inr passed)) = rw passed (over-out w f later most _ _ is rising)

over-slicing : (w : RunState) (n : ℕ) (answer : Answer) (entry : LogEntry) (at : Option Flying) → w.slicing ≡ None → (over_with w n answer entry at).slicing ≡ None
over-slicing w n answer entry None none = none
over-slicing w n answer entry (Some f) none = none

ending-slicing : (w : RunState) (v : ℕ) (outcome : FlushOutcome) (response : Response) (at : Option Flushing) → w.slicing ≡ None → (state_after_ending w v outcome response at).slicing ≡ None
ending-slicing w v outcome response None none = none
ending-slicing w v outcome response (Some f) none = refl

ending-flights : (w : RunState) (v : ℕ) (outcome : FlushOutcome) (response : Response) (at : Option Flushing) → (state_after_ending w v outcome response at).flights ≡ w.flights
ending-flights w v outcome response None = refl
ending-flights w v outcome response (Some f) = refl

-- no turn is due, and no slice
record IsCalm (w : RunState) : Type 0 where
  turns : HasNoTurns w
  slicing : w.slicing ≡ None

landing-calm : (w : RunState) (n : ℕ) (note : Note) → IsLandingNote n note → IsCalm w → IsCalm (state_after_note w note)
landing-calm w n note (inl kept) calm = rw kept.1 (record { turns = over-turns w n _ _ (flying_at n w.flights) calm.turns; slicing = over-slicing w n _ _ (flying_at n w.flights) calm.slicing })
landing-calm w n note (inr (inl unkept)) calm = rw unkept (record { turns = over-turns w n _ _ (flying_at n w.flights) calm.turns; slicing = over-slicing w n _ _ (flying_at n w.flights) calm.slicing })
landing-calm w n note (inr (inr passed)) calm = rw passed (record { turns = over-turns w n _ _ (flying_at n w.flights) calm.turns; slicing = over-slicing w n _ _ (flying_at n w.flights) calm.slicing })

slice-calm : (w : RunState) (v : ℕ) (note : Note) → IsSliceNote v note → IsCalm w → IsCalm (state_after_note w note)
slice-calm w v note (inl done) calm = rw done (record { turns = ending-turns w v _ _ (flush_at v w.flushes) calm.turns; slicing = ending-slicing w v _ _ (flush_at v w.flushes) calm.slicing })
slice-calm w v note (inr (inl sliced)) calm = rw sliced (record { turns = calm.turns; slicing = refl })
slice-calm w v note (inr (inr failed)) calm = rw failed.1 (record { turns = ending-turns w v _ _ (flush_at v w.flushes) calm.turns; slicing = ending-slicing w v _ _ (flush_at v w.flushes) calm.slicing })

slice-flights : (w : RunState) (v : ℕ) (note : Note) → IsSliceNote v note → (state_after_note w note).flights ≡ w.flights
slice-flights w v note (inl done) = rw done (ending-flights w v _ _ (flush_at v w.flushes))
slice-flights w v note (inr (inl sliced)) = rw sliced refl
slice-flights w v note (inr (inr failed)) = rw failed.1 (ending-flights w v _ _ (flush_at v w.flushes))

-- ---- a first note, and what its connection is owed then
sending-treats : (notes : List Note) → AllByRecursion IsSendingNote notes → AllByRecursion TreatsNoTurn notes
sending-treats [] all = tt
sending-treats (note ∷ notes) all = (one note all.0, sending-treats notes all.1)
  where
    one : (note : Note) → IsSendingNote note → TreatsNoTurn note
    one (Sent c bytes) is = tt
    one (Shut c) is = tt
    one note is = absurd is

-- the notes treat no turn, and leave these flights
record TreatsNone (notes : List Note) (w : RunState) (flights : List Flying) : Type 0 where
  none : AllByRecursion TreatsNoTurn notes
  flights_are : (state_after_notes w notes).flights ≡ flights

leads-none : (w : RunState) (m : Conditions) (first : Note) (c : ℕ) (notes : List Note) → TreatsNoTurn first → IsCalm (state_after_note w first) → LeadsNotes w m first c notes → TreatsNone notes w (state_after_note w first).flights
leads-none w m first c notes is calm leads =
    let sends = serves-send m (state_after_note w first) c leads.rest calm.slicing calm.turns leads.settles.serves in
    rw leads.begins (record { none = (is, sending-treats leads.rest sends.sending); flights_are = sends.flights })

landing-treats : (n : ℕ) (note : Note) → IsLandingNote n note → TreatsNoTurn note
landing-treats n note (inl kept) = rw kept.1 tt
landing-treats n note (inr (inl unkept)) = rw unkept tt
landing-treats n note (inr (inr passed)) = rw passed tt

slice-treats : (v : ℕ) (note : Note) → IsSliceNote v note → TreatsNoTurn note
slice-treats v note (inl done) = rw done tt
slice-treats v note (inr (inl sliced)) = rw sliced tt
slice-treats v note (inr (inr failed)) = rw failed.1 tt

deliver-none : (w : RunState) (e : Event) (f : Flying) (answer : Answer) (to : DeliverAs w e f (Some answer)) → IsCalm w → TreatsNone e.body w (state_after_note w to.0).flights
deliver-none w e f answer to calm =
    let form = landing-form w e.conditions f answer to.0 to.1 in
    leads-none w e.conditions to.0 f.connection e.body (landing-treats f.number to.0 form) (landing-calm w f.number to.0 form calm) to.2

purges-none : (w : RunState) (e : Event) (flushes : List Flushing) → PurgeTo w e flushes → IsCalm w → TreatsNone e.body w w.flights
purges-none w e [] to calm = rw to (record { none = (tt, tt); flights_are = refl })
purges-none w e (flush ∷ flushes) to calm =
    let form = slice-form e.conditions flush.number to.0 to.1 in
    let leads = leads-none w e.conditions to.0 flush.connection e.body (slice-treats flush.number to.0 form) (slice-calm w flush.number to.0 form calm) to.2 in
    record { none = leads.none; flights_are = leads.flights_are ∙ slice-flights w flush.number to.0 form }

-- ---- turns are treated as they come
idle-treats : (notes : List Note) → notes ≡ Idle ∷ [] → AllByRecursion TreatsNoTurn notes
idle-treats notes is = rw is (tt, tt)

opening-treats : (c count : ℕ) (at : Option Connection) (notes : List Note) → notes ≡ opening c count at → AllByRecursion TreatsNoTurn notes
opening-treats c count (Some k) notes is = rw is (tt, tt)
opening-treats c count None notes is = by_room (nat_le most_connections count) is
  where
    by_room : (full : Bool) → notes ≡ (if full then Refused c ∷ [] else []) → AllByRecursion TreatsNoTurn notes
    by_room true is = rw is (tt, tt)
    by_room false is = rw is tt

going-treats : (at : Option Connection) (notes : List Note) → notes ≡ going at → AllByRecursion TreatsNoTurn notes
going-treats None notes is = rw is (tt, tt)
going-treats (Some k) notes is = rw is tt

render-treats : (w : RunState) (e : Event) (flying : Option Flying) → RenderTo w e flying → AllByRecursion TreatsNoTurn e.body
render-treats w e None to = idle-treats e.body to
render-treats w e (Some f) to = rw to.2 (tt, tt)

deliver-treats : (w : RunState) (e : Event) (f : Flying) (answer : Option Answer) → DeliverAs w e f answer → IsCalm w → AllByRecursion TreatsNoTurn e.body
deliver-treats w e f None to calm = idle-treats e.body to
deliver-treats w e f (Some answer) to calm = (deliver-none w e f answer to calm).none

delivers-treats : (w : RunState) (e : Event) (flying : Option Flying) → DeliverTo w e flying → IsCalm w → AllByRecursion TreatsNoTurn e.body
delivers-treats w e None to calm = idle-treats e.body to
delivers-treats w e (Some f) to calm = deliver-treats w e f f.rendered to calm

loses-treats : (w : RunState) (e : Event) (flying : Option Flying) → LoseTo w e flying → IsCalm w → AllByRecursion TreatsNoTurn e.body
loses-treats w e None to calm = idle-treats e.body to
loses-treats w e (Some f) to calm = (leads-none w e.conditions (Lost f.number) f.connection e.body tt (record { turns = over-turns w f.number _ _ (flying_at f.number w.flights) calm.turns; slicing = over-slicing w f.number _ _ (flying_at f.number w.flights) calm.slicing }) to).none

cuts-treat : (notes : List Note) → AreCutNotes notes → AllByRecursion TreatsNoTurn notes
cuts-treat [] are = tt
cuts-treat (note ∷ notes) are = (one note are.0, cuts-treat notes are.1)
  where
    one : (note : Note) → IsCutNote note → TreatsNoTurn note
    one (Lost n) is = tt
    one (Failed v failure) is = tt
    one (Shut c) is = tt
    one (Up epoch) is = tt
    one Down is = tt
    one note is = absurd is

pub step-treats : (w : RunState) (e : Event) (s : Step) → HasNoTurns w → w.slicing ≡ None → HappensBy w e s → BringsBytes s ⊎ AllByRecursion TreatsNoTurn e.body
step-treats w e (step.Opened c peer) turns slicing is = inr (opening-treats c w.connection_count (w.connection c) e.body is)
step-treats w e (step.Piece c bytes) turns slicing to = inl tt
step-treats w e (step.Gone c) turns slicing is = inr (going-treats (w.connection c) e.body is)
step-treats w e (step.Direct target) turns slicing to = inr (rw to.2 (tt, tt))
step-treats w e (step.Render pick) turns slicing to = inr (render-treats w e (picked_flight pick is_unrendered w.flights) to)
step-treats w e (step.Deliver pick) turns slicing to = inr (delivers-treats w e (picked_flight pick is_rendered w.flights) to (record { turns = turns; slicing = slicing }))
step-treats w e (step.Lose pick) turns slicing to = inr (loses-treats w e (picked_flight pick is_any w.flights) to (record { turns = turns; slicing = slicing }))
step-treats w e step.Purge turns slicing to = inr (purges-none w e w.flushes to (record { turns = turns; slicing = slicing })).none
step-treats w e step.Restart turns slicing to = inr (cuts-treat e.body (restart-cut w e.conditions e.body to))

-- ---- rounds
renders-this : (w : RunState) (e : Event) (f : Flying) (later : List Flying) (most : ℕ) → AirRises 0 w.flights most → w.flights ≡ f ∷ later → RenderTo w e (Some f) → (answer : Answer) × ((state_after_notes w e.body).flights ≡ with_rendered answer f ∷ later)
renders-this w e f later most rising is to =
    (to.0, subst (λ (body : List Note). (state_after_notes w body).flights ≡ with_rendered to.0 f ∷ later) (sym to.2) (ap (map (with_rendered_at f.number to.0)) is ∙ first-rendered f to.0 later most (subst (λ fs. AirRises 0 fs most) is rising)))

pub renders-first : (w : RunState) (e : Event) (f : Flying) (later : List Flying) (most : ℕ) → AirRises 0 w.flights most → w.flights ≡ f ∷ later → f.rendered ≡ None → RenderTo w e (picked_flight First is_unrendered w.flights)
    → (answer : Answer) × ((state_after_notes w e.body).flights ≡ with_rendered answer f ∷ later)
renders-first w e f later most rising is unrendered to =
    let here : picked_flight First is_unrendered (f ∷ later) ≡ Some f = ap (λ (o : Option Answer). if not (is_some o) then Some f else picked_flight First is_unrendered later) unrendered in
    let picked : picked_flight First is_unrendered w.flights ≡ Some f = ap (picked_flight First is_unrendered) is ∙ here in
    renders-this w e f later most rising is (subst (RenderTo w e) picked to)

lands : (w : RunState) (e : Event) (f : Flying) (later : List Flying) (most : ℕ) (answer : Option Answer) → IsCalm w → AirRises 0 w.flights most → w.flights ≡ f ∷ later → IsSome answer → DeliverAs w e f answer → (state_after_notes w e.body).flights ≡ later
lands w e f later most None calm rising is some to = absurd (cc some)
lands w e f later most (Some answer) calm rising is some to = (deliver-none w e f answer to calm).flights_are ∙ landing-out w f later most to.0 is rising (landing-form w e.conditions f answer to.0 to.1)

pub lands-first : (w : RunState) (e : Event) (f : Flying) (later : List Flying) (most : ℕ) → HasNoTurns w → w.slicing ≡ None → AirRises 0 w.flights most → w.flights ≡ f ∷ later → IsSome f.rendered → DeliverTo w e (picked_flight First is_rendered w.flights)
    → (state_after_notes w e.body).flights ≡ later
lands-first w e f later most turns slicing rising is rendered to =
    let here : picked_flight First is_rendered (f ∷ later) ≡ Some f = ap (λ (b : Bool). if b then Some f else picked_flight First is_rendered later) rendered in
    let picked : picked_flight First is_rendered w.flights ≡ Some f = ap (picked_flight First is_rendered) is ∙ here in
    lands w e f later most f.rendered (record { turns = turns; slicing = slicing }) rising is rendered (subst (DeliverTo w e) picked to)

-- ---- steps that leave the flights
opened-same : (w : RunState) (c : ℕ) (peer : List ℕ) (at : Option Connection) (notes : List Note) → notes ≡ opening c w.connection_count at → (state_after_notes (state_after_opening w c peer at) notes).flights ≡ w.flights
opened-same w c peer (Some k) notes is = rw is refl
opened-same w c peer None notes is = by_room (nat_le most_connections w.connection_count) is
  where
    by_room : (full : Bool) → notes ≡ (if full then Refused c ∷ [] else []) → (state_after_notes (if full then w else record w { connection = update nat_eq w.connection c (Some (fresh peer)); connection_count = w.connection_count + 1 }) notes).flights ≡ w.flights
    by_room true is = rw is refl
    by_room false is = rw is refl

gone-same : (w : RunState) (c : ℕ) (at : Option Connection) (notes : List Note) → notes ≡ going at → (state_after_notes (state_after_going w c at) notes).flights ≡ w.flights
gone-same w c None notes is = rw is refl
gone-same w c (Some k) notes is = rw is refl

pub step-leaves : (w : RunState) (e : Event) (s : Step) → HasNoTurns w → w.slicing ≡ None → LeavesFlights s → HappensBy w e s → (state_after_notes (state_before_notes w e s) e.body).flights ≡ w.flights
step-leaves w e (step.Opened c peer) turns slicing leaves is = opened-same w c peer (w.connection c) e.body is
step-leaves w e (step.Gone c) turns slicing leaves is = gone-same w c (w.connection c) e.body is
step-leaves w e (step.Direct target) turns slicing leaves to = rw to.2 refl
step-leaves w e step.Purge turns slicing leaves to = (purges-none w e w.flushes to (record { turns = turns; slicing = slicing })).flights_are
step-leaves w e s turns slicing leaves happens = absurd leaves

-- ---- what renders no flight
unrendered-more : (flights : List Flying) (f : Flying) → f.rendered ≡ None → AreUnrendered flights → AreUnrendered (flights ++ f ∷ [])
unrendered-more [] f is all = (is, tt)
unrendered-more (g ∷ flights) f is all = (all.0, unrendered-more flights f is all.1)

unrendered-air_without : (n : ℕ) (flights : List Flying) → AreUnrendered flights → AreUnrendered (air_without n flights)
unrendered-air_without n [] all = tt
unrendered-air_without n (f ∷ flights) all = by_test (not (has_number n f)) (unrendered-air_without n flights all.1)
  where
    by_test : (b : Bool) → AreUnrendered (air_without n flights) → AreUnrendered (if b then f ∷ air_without n flights else air_without n flights)
    by_test true rest = (all.0, rest)
    by_test false rest = rest

ask-unrendered : (w : RunState) (n c : ℕ) (key : Option PageKey) (request : Option Request) → AreUnrendered w.flights → AreUnrendered (state_after_ask w n c key request).flights
ask-unrendered w n c key None all = all
ask-unrendered w n c key (Some request) all = unrendered-more w.flights (new_flight n c request) refl all

over-unrendered : (w : RunState) (n : ℕ) (answer : Answer) (entry : LogEntry) (at : Option Flying) → AreUnrendered w.flights → AreUnrendered (over_with w n answer entry at).flights
over-unrendered w n answer entry None all = all
over-unrendered w n answer entry (Some f) all = unrendered-air_without n w.flights all

hit-unrendered : (w : RunState) (c : ℕ) (key : PageKey) (request : Option Request) → AreUnrendered w.flights → AreUnrendered (state_after_hit w c key request).flights
hit-unrendered w c key None all = all
hit-unrendered w c key (Some request) all = all

flush-unrendered : (w : RunState) (v c : ℕ) (inv : Invalidation) (request : Option Request) → AreUnrendered w.flights → AreUnrendered (state_after_flush w v c inv request).flights
flush-unrendered w v c inv None all = all
flush-unrendered w v c inv (Some request) all = all

note-unrendered : (w : RunState) (note : Note) → IsStillNote note → AreUnrendered w.flights → AreUnrendered (state_after_note w note).flights
note-unrendered w (asked n c key) is all = ask-unrendered w n c key (treated_request (due_of_connection w c)) all
note-unrendered w (Hit c key) is all = hit-unrendered w c key (treated_request (due_of_connection w c)) all
note-unrendered w (Local c status) is all = all
note-unrendered w (Flush v c inv) is all = flush-unrendered w v c inv (treated_request (due_of_connection w c)) all
note-unrendered w (Sliced v) is all = all
note-unrendered w (Done v) is all = subst AreUnrendered (sym (ending-flights w v _ _ (flush_at v w.flushes))) all
note-unrendered w (Failed v failure) is all = subst AreUnrendered (sym (ending-flights w v _ _ (flush_at v w.flushes))) all
note-unrendered w (Rendered n answer) is all = absurd is
note-unrendered w (Kept n key) is all = over-unrendered w n _ _ (flying_at n w.flights) all
note-unrendered w (Unkept n) is all = over-unrendered w n _ _ (flying_at n w.flights) all
note-unrendered w (Passed n) is all = over-unrendered w n _ _ (flying_at n w.flights) all
note-unrendered w (Lost n) is all = over-unrendered w n _ _ (flying_at n w.flights) all
note-unrendered w (Sent c bytes) is all = all
note-unrendered w (Shut c) is all = all
note-unrendered w (Up epoch) is all = all
note-unrendered w Down is all = all
note-unrendered w note is all = all

notes-unrendered : (w : RunState) (notes : List Note) → AreStillNotes notes → AreUnrendered w.flights → AreUnrendered (state_after_notes w notes).flights
notes-unrendered w [] are all = all
notes-unrendered w (note ∷ notes) are all = notes-unrendered (state_after_note w note) notes are.1 (note-unrendered w note are.0 all)

opened-flights : (w : RunState) (c : ℕ) (peer : List ℕ) (at : Option Connection) → (state_after_opening w c peer at).flights ≡ w.flights
opened-flights w c peer (Some k) = refl
opened-flights w c peer None = by_room (nat_le most_connections w.connection_count)
  where
    by_room : (full : Bool) → (if full then w else record w { connection = update nat_eq w.connection c (Some (fresh peer)); connection_count = w.connection_count + 1 }).flights ≡ w.flights
    by_room true = refl
    by_room false = refl

gone-flights : (w : RunState) (c : ℕ) (at : Option Connection) → (state_after_going w c at).flights ≡ w.flights
gone-flights w c None = refl
gone-flights w c (Some k) = refl

begun-flights : (w : RunState) (e : Event) (s : Step) → (state_before_notes w e s).flights ≡ w.flights
begun-flights w e (step.Opened c peer) = opened-flights w c peer (w.connection c)
begun-flights w e (step.Piece c bytes) = refl
begun-flights w e (step.Gone c) = gone-flights w c (w.connection c)
begun-flights w e step.Restart = refl
begun-flights w e s = refl

leaves-still : (s : Step) → LeavesUnrendered s → IsStillStep s
leaves-still (step.Render pick) leaves = absurd leaves
leaves-still s leaves = tt

pub step-unrendered : (w : RunState) (e : Event) (s : Step) → LeavesUnrendered s → HappensBy w e s → AreUnrendered w.flights → AreUnrendered (state_after_notes (state_before_notes w e s) e.body).flights
step-unrendered w e s leaves happens all = notes-unrendered (state_before_notes w e s) e.body (step-still w e s (leaves-still s leaves) happens) (subst AreUnrendered (sym (begun-flights w e s)) all)
