-- Each answer that is sent in a run is its own request's.
use Rattle.std.proofs.Common.{◌≡◌, ◌≢◌, ℕ, ◌+◌, ◌-◌, ◌++◌, ◌&&◌, Bool, true, false, List, [], ◌∷◌, Option, Some, None, map, refl, ap, sym, subst, ◌∙◌, arith, inl, inr, ⊎_elim, append-nil, eq-eqb}
use Rattle.std.specs.Prelude.{nat_eq, nat_le, if◌then◌else◌}
use Rattle.std.specs.List.{find, list_any}
use Rattle.std.specs.Map.{update}
use Rattle.std.specs.Option.{option_map}
use Rattle.std.proofs.lemmas.Map.{update_apart, update_here}
use Rattle.std.proofs.lemmas.Bool.{cases_eq, ne_eqb}
use Rattle.sp_base.specs.declared.answer.Answer.{Answer}
use Rattle.error_answers.specs.Errors.{error_answer}
use Rattle.cache_log.specs.Entries.{Lost as lost_entry, flights_asked}
use Rattle.connections.specs.Connections.{Connection, with_piece, fresh}
use Rattle.connections.specs.Histories.{IsAtRest}
use Rattle.connections.specs.declared.sending.Sending.{Sending}
use Rattle.run_events.specs.declared.conditions.Conditions.{Conditions}
use Rattle.run_events.specs.declared.flying.Flying.{Flying}
use Rattle.run_events.specs.declared.flying.Flushing.{Flushing}
use Rattle.run_events.specs.declared.note.Failure.TheVariants.{Restart as cut_off}
use Rattle.run_events.specs.declared.note.Note.{Note}
use Rattle.run_events.specs.declared.note.Note.TheVariants.{Answer as answered, Rendered, Failed, Lost, Shut, Refused, Idle, Up, Down}
use Rattle.run_events.specs.declared.step.Step.{Step}
use Rattle.run_events.specs.declared.step.Step.TheVariants as step
use Rattle.run_events.specs.Moves.{flying_at, on_connection, over_with, state_after_note, state_after_notes}
use Rattle.run_events.specs.Restarts.{EndsRestart, Restarts, cut_notes, without_connections}
use Rattle.run_events.specs.Events.{DeliverAs, DeliverTo, Event, HappensBy, LeadsNotes, LoseTo, PieceTo, PurgeTo, RenderTo, Run, after_event, going, is_any, is_picked, is_rendered, is_unrendered, most_connections, opening, picked_flight, state_after_events, state_after_going, state_after_opening, state_before_notes}
use Rattle.run_events.specs.States.{RunState, Start, start_of}
use Rattle.run_laws.specs.Histories.{brought_by, came_after, came_since_opened, is_idle, opens_connection, sent_after, sent_by, sent_since_opened}
use Rattle.run_laws.specs.Renders.{renders_in, renders_of}
use Rattle.run_laws.specs.Owned.{AnswersAreOwn, AreOwnAnswers, IsOfRequest, Outcomes, Treating, ended_in, endings_of, losses_of, lost_in, treated_after, treated_in, treated_since_opened}
use Rattle.run_laws.proofs.AskLemmas.{Numbered, landing-asks, note-numbered, picked-there, slice-asks}
use Rattle.run_laws.proofs.EachLemmas.{each-map}
use Rattle.run_laws.proofs.FormLemmas.{AreCutNotes, IsCutNote, IsLandingNote, IsSliceNote, landing-form, restart-cut, slice-form}
use Rattle.run_laws.proofs.HistoryLemmas.{Held, over-held, slice-held}
use Rattle.run_laws.proofs.KeptLemmas.{Kept, TakesOut, landing-takes, over-slicing, owns-none, piece-idle, piece-read, serves-busy, then_came, then_sent}
use Rattle.run_laws.proofs.NumberedLemmas.{Rising, all_but, at-here, but-first}
use Rattle.run_laws.proofs.OutcomeLemmas.{IsOfAir, moved-same, none-lost, of-request}
use Rattle.run_laws.proofs.OwnedLemmas.{Moves, Own, Owns, own-moved, own-none, own-one, owns-fed}
use Rattle.run_laws.proofs.OwnNoteLemmas.{OwnAfter, OwnAfterAll, all-more, all-none, landing-own, lost-own, own-silent, plus, plus-none, plus-plus, rendered-own, serves-own, slice-own}
use Rattle.run_laws.proofs.PastLemmas.{Last, last-now, past-fresh}
use Rattle.run_laws.proofs.RunKeptLemmas.{NoneOpen, by-step, cut-leaves, run-kept, slice-slicing, start-kept}
use Rattle.run_laws.proofs.SoundLemmas.{flight_number}
use Rattle.run_laws.proofs.StreamLemmas.{EachTreated, InOrder, OfTurns, idle-rest, what-past}

-- nothing more came
own-came : (w : RunState) (c : ℕ) (outcomes : Outcomes) (treatings : List Treating) (came more : List ℕ) (sent : List Sending) → more ≡ [] → Own w c outcomes treatings came sent → Own w c outcomes treatings (came ++ more) sent
own-came w c outcomes treatings came more sent none own = subst (λ xs. Own w c outcomes treatings xs sent) (sym (ap (λ xs. came ++ xs) none ∙ append-nil came)) own

idle-all : (m : Conditions) (v : RunState) (c : ℕ) (outcomes : Outcomes) (treatings : List Treating) (came : List ℕ) (sent : List Sending) (notes : List Note) → Own v c outcomes treatings came sent → notes ≡ Idle ∷ [] → OwnAfterAll v m c outcomes treatings came sent notes
idle-all m v c outcomes treatings came sent notes own is = rw is (own-silent v c outcomes (plus outcomes [] [] []) treatings came sent (sym (plus-none outcomes)) own)

-- ---- events
abbrev pub then_treated : RunState → ℕ → List Treating → Event → Step → List Treating
then_treated w c treatings e s = if opens_connection c s e.body then [] else treatings ++ treated_in (state_before_notes w e s) c e.body

-- what became of flights and flushes, after the event
abbrev outcomes_then : RunState → Event → Step → Outcomes → Outcomes
outcomes_then w e s outcomes = plus outcomes (renders_in (state_before_notes w e s) e.conditions.out_of_memory e.body) (lost_in e.body) (ended_in e.body)

abbrev OwnThen : RunState → Event → ℕ → Outcomes → List Treating → List ℕ → List Sending → Step → Type 0
OwnThen w e c outcomes treatings came sent s = Own (state_after_notes (state_before_notes w e s) e.body) c (outcomes_then w e s outcomes) (then_treated w c treatings e s) (then_came c came e s) (then_sent c sent e s)

opened-own : (w : RunState) (e : Event) (c d : ℕ) (peer : List ℕ) (outcomes : Outcomes) (treatings : List Treating) (came : List ℕ) (sent : List Sending) (at : Option Connection) → Own w c outcomes treatings came sent → e.body ≡ opening d w.connection_count at
    → Own (state_after_notes (state_after_opening w d peer at) e.body) c (plus outcomes (renders_in (state_after_opening w d peer at) e.conditions.out_of_memory e.body) (lost_in e.body) (ended_in e.body)) (if opens_connection c (step.Opened d peer) e.body then [] else treatings ++ treated_in (state_after_opening w d peer at) c e.body)
    (then_came c came e (step.Opened d peer)) (then_sent c sent e (step.Opened d peer))
opened-own w e c d peer outcomes treatings came sent (Some k) own is = rw is (own-came w c (plus outcomes [] [] []) (treatings ++ []) came [] (sent ++ []) refl (own-silent w c outcomes (plus outcomes [] [] []) treatings came sent (sym (plus-none outcomes)) own))
opened-own w e c d peer outcomes treatings came sent None own is = by_room (nat_le most_connections w.connection_count) is
  where
    v : RunState
    v = record w { connection = update nat_eq w.connection d (Some (fresh peer)); connection_count = w.connection_count + 1 }

    same : d ≡ c → Own v c (plus outcomes [] [] []) (if nat_eq d c then [] else treatings ++ []) (if nat_eq d c then [] else came ++ []) (if nat_eq d c then [] else sent ++ [])
    same e =
        let here : nat_eq d c ≡ true = eq-eqb d c e in
        let now : v.connection c ≡ Some (fresh peer) = subst (λ x. v.connection x ≡ Some (fresh peer)) e (update_here w.connection d (Some (fresh peer))) in
        let owns : Owns v outcomes [] (fresh peer) = record { each = refl; room = λ stays. omega arith } in
        rw here (subst (λ os. Own v c os [] [] []) (sym (plus-none outcomes)) (own-one v c outcomes [] [] [] (fresh peer) now owns own.air_is))

    apart : d ≢ c → Own v c (plus outcomes [] [] []) (if nat_eq d c then [] else treatings ++ []) (if nat_eq d c then [] else came ++ []) (if nat_eq d c then [] else sent ++ [])
    apart other =
        let test : nat_eq d c ≡ false = ne_eqb d c other in
        let moves : Moves w outcomes v outcomes = moved-same w.flights (flights_asked w.log) outcomes own.air_is in
        rw test (own-came v c (plus outcomes [] [] []) (treatings ++ []) came [] (sent ++ []) refl (own-silent v c outcomes (plus outcomes [] [] []) treatings came sent (sym (plus-none outcomes)) (own-moved w v c outcomes outcomes treatings came sent (update_apart w.connection d (Some (fresh peer)) c (λ x. other (sym x))) moves own)))

    by_room : (full : Bool) → e.body ≡ (if full then Refused d ∷ [] else []) → Own (state_after_notes (if full then w else v) e.body) c (plus outcomes (renders_in (if full then w else v) e.conditions.out_of_memory e.body) (lost_in e.body) (ended_in e.body)) (if opens_connection c (step.Opened d peer) e.body then [] else treatings ++ treated_in (if full then w else v) c e.body)
        (then_came c came e (step.Opened d peer)) (then_sent c sent e (step.Opened d peer))
    by_room true is = rw is (own-came w c (plus outcomes [] [] []) (treatings ++ []) came [] (sent ++ []) refl (own-silent w c outcomes (plus outcomes [] [] []) treatings came sent (sym (plus-none outcomes)) own))
    by_room false is = rw is (⊎_elim same apart (cases_eq d c))

piece-own : (w : RunState) (e : Event) (c d : ℕ) (bytes : List ℕ) (outcomes : Outcomes) (treatings : List Treating) (came : List ℕ) (sent : List Sending) (at : Option Connection) → w.connection d ≡ at → Kept w c came sent → Own w c outcomes treatings came sent
    → PieceTo w e d bytes at → OwnAfterAll (on_connection w d (with_piece bytes e.turns e.ends)) e.conditions c outcomes treatings (came ++ brought_by c (step.Piece d bytes) e.body) sent e.body
piece-own w e c d bytes outcomes treatings came sent None connection kept own is = idle-all e.conditions v c outcomes treatings (came ++ brought_by c (step.Piece d bytes) e.body) sent e.body (own-came v c outcomes treatings came (brought_by c (step.Piece d bytes) e.body) sent (piece-idle c d bytes e.body is) now) is
  where
    v : RunState
    v = on_connection w d (with_piece bytes e.turns e.ends)

    same : v.connection c ≡ w.connection c
    same = ⊎_elim
        (λ x. subst (λ y. v.connection y ≡ w.connection y) x (update_here w.connection d _ ∙ ap (option_map (with_piece bytes e.turns e.ends)) connection ∙ sym connection))
        (λ other. update_apart w.connection d _ c (λ x. other (sym x)))
        (cases_eq d c)

    now : Own v c outcomes treatings came sent
    now = own-moved w v c outcomes outcomes treatings came sent same (moved-same w.flights (flights_asked w.log) outcomes own.air_is) own
piece-own w e c d bytes outcomes treatings came sent (Some k) connection kept own feeds =
    serves-own e.conditions v c d outcomes treatings all sent e.body (piece-read w e c d bytes came sent k busy connection feeds.spells kept.held) kept.numbered (owns-none v d kept.unsliced) (⊎_elim here apart (cases_eq d c)) feeds.settles.serves
  where
    v : RunState
    v = on_connection w d (with_piece bytes e.turns e.ends)

    all : List ℕ
    all = came ++ brought_by c (step.Piece d bytes) e.body

    busy : list_any is_idle e.body ≡ false
    busy = serves-busy e.conditions v d e.body feeds.settles.serves

    moves : Moves w outcomes v outcomes
    moves = moved-same w.flights (flights_asked w.log) outcomes own.air_is

    here : d ≡ c → Own v c outcomes treatings all sent
    here x =
        let now : v.connection d ≡ Some (with_piece bytes e.turns e.ends k) = update_here w.connection d _ ∙ ap (option_map (with_piece bytes e.turns e.ends)) connection in
        let before : Owns w outcomes treatings k = own.here k (sym (ap w.connection x) ∙ connection) in
        let fed_owns : Owns w outcomes treatings (with_piece bytes e.turns e.ends k) = owns-fed w outcomes treatings bytes e.turns e.ends k before in
        let owns : Owns v outcomes treatings (with_piece bytes e.turns e.ends k) = record { each = fed_owns.each; room = fed_owns.room } in
        own-one v c outcomes treatings all sent (with_piece bytes e.turns e.ends k) (subst (λ y. v.connection y ≡ Some (with_piece bytes e.turns e.ends k)) x now) owns own.air_is

    apart : d ≢ c → Own v c outcomes treatings all sent
    apart other =
        let test : nat_eq d c ≡ false = ne_eqb d c other in
        own-came v c outcomes treatings came (brought_by c (step.Piece d bytes) e.body) sent (rw (busy, test) refl) (own-moved w v c outcomes outcomes treatings came sent (update_apart w.connection d _ c (λ x. other (sym x))) moves own)

-- ---- a connection that goes
-- what a connection was at last, where it is gone
left-own : (w v : RunState) (c : ℕ) (outcomes : Outcomes) (treatings : List Treating) (came : List ℕ) (sent : List Sending) (k : Connection) → w.connection c ≡ Some k → v.connection c ≡ None → v.flights ≡ w.flights → v.log ≡ w.log → Kept w c came sent → Own w c outcomes treatings came sent → Own v c outcomes treatings came sent
left-own w v c outcomes treatings came sent k is none flights log kept own =
    let last : Last came sent = last-now k came sent (kept.held.here k is) (subst IsAtRest (sym (kept.still k is)) tt) in
    own-none v c outcomes treatings came sent none (rw (flights, log) (record { last = last; each = (own.here k is).each })) (rw (flights, log) own.air_is)

gone-own : (w : RunState) (e : Event) (c d : ℕ) (outcomes : Outcomes) (treatings : List Treating) (came : List ℕ) (sent : List Sending) (at : Option Connection) → w.connection d ≡ at → Kept w c came sent → Own w c outcomes treatings came sent → e.body ≡ going at
    → OwnAfterAll (state_after_going w d at) e.conditions c outcomes treatings came sent e.body
gone-own w e c d outcomes treatings came sent None connection kept own is = idle-all e.conditions w c outcomes treatings came sent e.body own is
gone-own w e c d outcomes treatings came sent (Some k) connection kept own is = rw is (own-silent v c outcomes (plus outcomes [] [] []) treatings came sent (sym (plus-none outcomes)) (⊎_elim same apart (cases_eq d c)))
  where
    v : RunState
    v = record w { connection = update nat_eq w.connection d None; connection_count = w.connection_count - 1 }

    same : d ≡ c → Own v c outcomes treatings came sent
    same x = left-own w v c outcomes treatings came sent k (sym (ap w.connection x) ∙ connection) (subst (λ y. v.connection y ≡ None) x (update_here w.connection d None)) refl refl kept own

    apart : d ≢ c → Own v c outcomes treatings came sent
    apart other = own-moved w v c outcomes outcomes treatings came sent (update_apart w.connection d None c (λ x. other (sym x))) (moved-same w.flights (flights_asked w.log) outcomes own.air_is) own

-- ---- a first note, and what its connection is then owed
leads-own : (m : Conditions) (w : RunState) (first : Note) (c d : ℕ) (outcomes : Outcomes) (treatings : List Treating) (came : List ℕ) (sent : List Sending) (notes : List Note) → OwnAfter w m c outcomes treatings came sent first → Held (state_after_note w first) c came (sent ++ sent_by c m first) → Numbered (state_after_note w first)
    → (state_after_note w first).slicing ≡ None → LeadsNotes w m first d notes → OwnAfterAll w m c outcomes treatings came sent notes
leads-own m w first c d outcomes treatings came sent notes own held numbered none leads =
    subst (OwnAfterAll w m c outcomes treatings came sent) (sym leads.begins) (all-more w m c outcomes treatings came sent first leads.rest (serves-own m (state_after_note w first) c d _ _ came _ leads.rest held numbered (owns-none (state_after_note w first) d none) own leads.settles.serves))

takes-held : (m : Conditions) (w : RunState) (n : ℕ) (first : Note) (c : ℕ) (came : List ℕ) (sent : List Sending) → TakesOut w n first → Held w c came sent → Held (state_after_note w first) c came (sent ++ sent_by c m first)
takes-held m w n first c came sent takes held = rw (takes.silent c m) (subst (λ u. Held u c came (sent ++ [])) (sym takes.is) (over-held w c n takes.answer takes.entry came sent (flying_at n w.flights) held))

takes-slicing : (w : RunState) (n : ℕ) (first : Note) → TakesOut w n first → w.slicing ≡ None → (state_after_note w first).slicing ≡ None
takes-slicing w n first takes none = ap (λ (u : RunState). u.slicing) takes.is ∙ over-slicing w n takes.answer takes.entry (flying_at n w.flights) ∙ none

landing-numbered : (w : RunState) (n : ℕ) (note : Note) → IsLandingNote n note → Numbered w → Numbered (state_after_note w note)
landing-numbered w n note form numbered = note-numbered w note (landing-asks w n note form) numbered

slice-numbered : (w : RunState) (v : ℕ) (note : Note) → IsSliceNote v note → Numbered w → Numbered (state_after_note w note)
slice-numbered w v note form numbered = note-numbered w note (slice-asks w v note form) numbered

deliver-own : (w : RunState) (e : Event) (c : ℕ) (outcomes : Outcomes) (treatings : List Treating) (came : List ℕ) (sent : List Sending) (f : Flying) (answer : Option Answer) → f.rendered ≡ answer → flying_at f.number w.flights ≡ Some f → Kept w c came sent → Own w c outcomes treatings came sent → DeliverAs w e f answer
    → OwnAfterAll w e.conditions c outcomes treatings came sent e.body
deliver-own w e c outcomes treatings came sent f None has at kept own is = idle-all e.conditions w c outcomes treatings came sent e.body own is
deliver-own w e c outcomes treatings came sent f (Some answer) has at kept own to =
    let form = landing-form w e.conditions f answer to.0 to.1 in
    let takes = landing-takes w f.number to.0 form in
    leads-own e.conditions w to.0 c f.connection outcomes treatings came sent e.body (landing-own e.conditions w c f.number outcomes treatings came sent f answer to.0 at has own form) (takes-held e.conditions w f.number to.0 c came sent takes kept.held) (landing-numbered w f.number to.0 form kept.numbered) (takes-slicing w f.number to.0 takes kept.unsliced) to.2

delivers-own : (w : RunState) (e : Event) (c : ℕ) (outcomes : Outcomes) (treatings : List Treating) (came : List ℕ) (sent : List Sending) (flying : Option Flying) → ((f : Flying) → flying ≡ Some f → flying_at f.number w.flights ≡ Some f) → Kept w c came sent → Own w c outcomes treatings came sent → DeliverTo w e flying
    → OwnAfterAll w e.conditions c outcomes treatings came sent e.body
delivers-own w e c outcomes treatings came sent None there kept own is = idle-all e.conditions w c outcomes treatings came sent e.body own is
delivers-own w e c outcomes treatings came sent (Some f) there kept own to = deliver-own w e c outcomes treatings came sent f f.rendered refl (there f refl) kept own to

loses-own : (w : RunState) (e : Event) (c : ℕ) (outcomes : Outcomes) (treatings : List Treating) (came : List ℕ) (sent : List Sending) (flying : Option Flying) → ((f : Flying) → flying ≡ Some f → flying_at f.number w.flights ≡ Some f) → Kept w c came sent → Own w c outcomes treatings came sent → LoseTo w e flying
    → OwnAfterAll w e.conditions c outcomes treatings came sent e.body
loses-own w e c outcomes treatings came sent None there kept own is = idle-all e.conditions w c outcomes treatings came sent e.body own is
loses-own w e c outcomes treatings came sent (Some f) there kept own to =
    let takes : TakesOut w f.number (Lost f.number) = record { answer = error_answer 502; entry = lost_entry f.number; is = refl; silent = λ d m. refl } in
    leads-own e.conditions w (Lost f.number) c f.connection outcomes treatings came sent e.body (lost-own e.conditions w c f.number outcomes treatings came sent f (there f refl) kept.numbered own) (takes-held e.conditions w f.number (Lost f.number) c came sent takes kept.held) (note-numbered w (Lost f.number) tt kept.numbered) (takes-slicing w f.number (Lost f.number) takes kept.unsliced) to

purges-own : (w : RunState) (e : Event) (c : ℕ) (outcomes : Outcomes) (treatings : List Treating) (came : List ℕ) (sent : List Sending) (flushes : List Flushing) → Kept w c came sent → Own w c outcomes treatings came sent → PurgeTo w e flushes → OwnAfterAll w e.conditions c outcomes treatings came sent e.body
purges-own w e c outcomes treatings came sent [] kept own is = idle-all e.conditions w c outcomes treatings came sent e.body own is
purges-own w e c outcomes treatings came sent (flush ∷ flushes) kept own to =
    let form = slice-form e.conditions flush.number to.0 to.1 in
    leads-own e.conditions w to.0 c flush.connection outcomes treatings came sent e.body (slice-own e.conditions w c flush.number outcomes treatings came sent to.0 own form) (slice-held e.conditions w c flush.number came sent to.0 kept.held form) (slice-numbered w flush.number to.0 form kept.numbered) (slice-slicing w flush.number to.0 kept.unsliced form) to.2

render-own : (w : RunState) (e : Event) (c : ℕ) (outcomes : Outcomes) (treatings : List Treating) (came : List ℕ) (sent : List Sending) (flying : Option Flying) → ((f : Flying) → flying ≡ Some f → flying_at f.number w.flights ≡ Some f) → Own w c outcomes treatings came sent → RenderTo w e flying
    → OwnAfterAll w e.conditions c outcomes treatings came sent e.body
render-own w e c outcomes treatings came sent None there own is = idle-all e.conditions w c outcomes treatings came sent e.body own is
render-own w e c outcomes treatings came sent (Some f) there own to =
    subst (OwnAfterAll w e.conditions c outcomes treatings came sent) (sym to.2) (all-more w e.conditions c outcomes treatings came sent (Rendered f.number to.0) [] (all-none (state_after_note w (Rendered f.number to.0)) e.conditions c _ _ came _ (rendered-own e.conditions w c outcomes treatings came sent f to.0 (there f refl) own)))

direct-own : (w : RunState) (e : Event) (c : ℕ) (outcomes : Outcomes) (treatings : List Treating) (came : List ℕ) (sent : List Sending) (answer : Answer) → Own w c outcomes treatings came sent → e.body ≡ answered answer ∷ [] → OwnAfterAll w e.conditions c outcomes treatings came sent e.body
direct-own w e c outcomes treatings came sent answer own is = rw is (own-silent w c outcomes (plus outcomes [] [] []) treatings came sent (sym (plus-none outcomes)) own)

-- ---- a restart
-- a flight that is lost is there
abbrev CutFits : RunState → Note → Type 0
CutFits w (Lost n) = (f : Flying) × (flying_at n w.flights ≡ Some f)
CutFits w _ = Unit {0}

abbrev AllCutFit : RunState → List Note → Type 0
AllCutFit w [] = Unit {0}
AllCutFit w (note ∷ notes) = CutFits w note × AllCutFit (state_after_note w note) notes

fit-append : (w : RunState) (notes more : List Note) → AllCutFit w notes → AllCutFit (state_after_notes w notes) more → AllCutFit w (notes ++ more)
fit-append w [] more fit rest = rest
fit-append w (note ∷ notes) more fit rest = (fit.0, fit-append (state_after_note w note) notes more fit.1 rest)

losses-fit : (w : RunState) (flights : List Flying) → Numbered w → w.flights ≡ flights → AllCutFit w (map (λ (f : Flying). Lost f.number) flights)
losses-fit w [] numbered is = tt
losses-fit w (f ∷ flights) numbered is =
    let at : flying_at f.number w.flights ≡ Some f = ap (flying_at f.number) is ∙ at-here flight_number f flights in
    let rising : Rising flight_number 0 (f ∷ flights) (flights_asked w.log) = subst (λ fs. Rising flight_number 0 fs (flights_asked w.log)) is numbered in
    let left : (state_after_note w (Lost f.number)).flights ≡ flights = ap (λ o. (over_with w f.number (error_answer 502) (lost_entry f.number) o).flights) at ∙ ap (all_but flight_number f.number) is ∙ but-first flight_number f flights (flights_asked w.log) rising.1 in
    ((f, at), losses-fit (state_after_note w (Lost f.number)) flights (note-numbered w (Lost f.number) tt numbered) left)

failures-fit : (w : RunState) (flushes : List Flushing) → AllCutFit w (map (λ (f : Flushing). Failed f.number cut_off) flushes)
failures-fit w [] = tt
failures-fit w (f ∷ flushes) = (tt, failures-fit (state_after_note w (Failed f.number cut_off)) flushes)

shuts-fit : (w : RunState) (connections : List ℕ) → AllCutFit w (map (λ (c : ℕ). Shut c) connections)
shuts-fit w [] = tt
shuts-fit w (c ∷ connections) = (tt, shuts-fit (state_after_note w (Shut c)) connections)

ends-fits : (w v : RunState) (m : Conditions) (note : Note) → EndsRestart w m note → CutFits v note
ends-fits w v m note (inl up) = rw up.1 tt
ends-fits w v m note (inr down) = rw down.0 tt

restart-fit : (w : RunState) (m : Conditions) (notes : List Note) → Numbered w → Restarts w m notes → AllCutFit (without_connections w) notes
restart-fit w m notes numbered restarts = rw restarts.notes_are (fit-append v (cut_notes w restarts.connections) (restarts.last ∷ []) cut (ends-fits (state_after_notes v (cut_notes w restarts.connections)) (state_after_notes v (cut_notes w restarts.connections)) m restarts.last restarts.ends, tt))
  where
    v : RunState
    v = without_connections w

    losses : List Note
    losses = map (λ (f : Flying). Lost f.number) w.flights

    failures : List Note
    failures = map (λ (f : Flushing). Failed f.number cut_off) w.flushes

    shuts : List Note
    shuts = map (λ (c : ℕ). Shut c) restarts.connections

    cut : AllCutFit v (cut_notes w restarts.connections)
    cut = fit-append v losses (failures ++ shuts) (losses-fit v w.flights numbered refl) (fit-append (state_after_notes v losses) failures shuts (failures-fit (state_after_notes v losses) w.flushes) (shuts-fit (state_after_notes (state_after_notes v losses) failures) restarts.connections))

cut-asks : (w : RunState) (note : Note) → IsCutNote note → Numbered w → Numbered (state_after_note w note)
cut-asks w (Lost n) is numbered = note-numbered w (Lost n) tt numbered
cut-asks w (Failed v failure) is numbered = note-numbered w (Failed v failure) tt numbered
cut-asks w (Shut c) is numbered = numbered
cut-asks w (Up epoch) is numbered = numbered
cut-asks w Down is numbered = numbered
cut-asks w note is numbered = absurd is

quiet-own : (m : Conditions) (w v : RunState) (c : ℕ) (outcomes : Outcomes) (treatings : List Treating) (came : List ℕ) (sent : List Sending) → v.connection c ≡ w.connection c → Moves w outcomes v outcomes → Own w c outcomes treatings came sent → Own v c (plus outcomes [] [] []) (treatings ++ []) came (sent ++ [])
quiet-own m w v c outcomes treatings came sent connection moves own = own-silent v c outcomes (plus outcomes [] [] []) treatings came sent (sym (plus-none outcomes)) (own-moved w v c outcomes outcomes treatings came sent connection moves own)

cut-own : (m : Conditions) (w : RunState) (c : ℕ) (outcomes : Outcomes) (treatings : List Treating) (came : List ℕ) (sent : List Sending) (note : Note) → IsCutNote note → CutFits w note → NoneOpen w → Numbered w → Own w c outcomes treatings came sent → OwnAfter w m c outcomes treatings came sent note
cut-own m w c outcomes treatings came sent (Lost n) is fits none numbered own = lost-own m w c n outcomes treatings came sent fits.0 fits.1 numbered own
cut-own m w c outcomes treatings came sent (Failed v failure) is fits none numbered own = slice-own m w c v outcomes treatings came sent (Failed v failure) own (inr (inr (failure, refl)))
cut-own m w c outcomes treatings came sent (Shut d) is fits none numbered own = quiet-own m w (state_after_note w (Shut d)) c outcomes treatings came sent ((cut-leaves w (Shut d) tt none).none c ∙ sym (none c)) (moved-same w.flights (flights_asked w.log) outcomes own.air_is) own
cut-own m w c outcomes treatings came sent (Up epoch) is fits none numbered own = quiet-own m w (state_after_note w (Up epoch)) c outcomes treatings came sent refl (moved-same w.flights (flights_asked w.log) outcomes own.air_is) own
cut-own m w c outcomes treatings came sent Down is fits none numbered own = quiet-own m w (state_after_note w Down) c outcomes treatings came sent refl (moved-same w.flights (flights_asked w.log) outcomes own.air_is) own
cut-own m w c outcomes treatings came sent note is fits none numbered own = absurd is

cuts-own : (m : Conditions) (w : RunState) (c : ℕ) (outcomes : Outcomes) (treatings : List Treating) (came : List ℕ) (sent : List Sending) (notes : List Note) → AreCutNotes notes → AllCutFit w notes → NoneOpen w → Numbered w → Own w c outcomes treatings came sent → OwnAfterAll w m c outcomes treatings came sent notes
cuts-own m w c outcomes treatings came sent [] are fit none numbered own = all-none w m c outcomes treatings came sent own
cuts-own m w c outcomes treatings came sent (note ∷ notes) are fit none numbered own =
    all-more w m c outcomes treatings came sent note notes (cuts-own m (state_after_note w note) c _ _ came _ notes are.1 fit.1 (cut-leaves w note are.0 none).none (cut-asks w note are.0 numbered) (cut-own m w c outcomes treatings came sent note are.0 fit.0 none numbered own))

begins-own : (w : RunState) (c : ℕ) (outcomes : Outcomes) (treatings : List Treating) (came : List ℕ) (sent : List Sending) (at : Option Connection) → w.connection c ≡ at → Kept w c came sent → Own w c outcomes treatings came sent → Own (without_connections w) c outcomes treatings came sent
begins-own w c outcomes treatings came sent None is kept own = own-none (without_connections w) c outcomes treatings came sent refl (own.over is) own.air_is
begins-own w c outcomes treatings came sent (Some k) is kept own = left-own w (without_connections w) c outcomes treatings came sent k is refl refl refl kept own

restart-own : (w : RunState) (e : Event) (c : ℕ) (outcomes : Outcomes) (treatings : List Treating) (came : List ℕ) (sent : List Sending) → Kept w c came sent → Own w c outcomes treatings came sent → Restarts w e.conditions e.body → OwnAfterAll (without_connections w) e.conditions c outcomes treatings came sent e.body
restart-own w e c outcomes treatings came sent kept own restarts =
    cuts-own e.conditions (without_connections w) c outcomes treatings came sent e.body (restart-cut w e.conditions e.body restarts) (restart-fit w e.conditions e.body kept.numbered restarts) (λ d. refl) kept.numbered (begins-own w c outcomes treatings came sent (w.connection c) refl kept own)

-- ---- a step
step-own : (w : RunState) (e : Event) (c : ℕ) (outcomes : Outcomes) (treatings : List Treating) (came : List ℕ) (sent : List Sending) (s : Step) → Kept w c came sent → Own w c outcomes treatings came sent → HappensBy w e s → OwnThen w e c outcomes treatings came sent s
step-own w e c outcomes treatings came sent s kept own happens = by_kind s happens
  where
    there : (test : Flying → Bool) (f : Flying) → find test w.flights ≡ Some f → flying_at f.number w.flights ≡ Some f
    there test f found = picked-there w test f kept.numbered found

    quiet : (v : RunState) (os : Outcomes) (ts : List Treating) (xs : List Sending) → Own v c os ts came xs → Own v c os ts (came ++ []) xs
    quiet v os ts xs own = own-came v c os ts came [] xs refl own

    by_kind : (s : Step) → HappensBy w e s → OwnThen w e c outcomes treatings came sent s
    by_kind (step.Opened d peer) is = opened-own w e c d peer outcomes treatings came sent (w.connection d) own is
    by_kind (step.Piece d bytes) to = piece-own w e c d bytes outcomes treatings came sent (w.connection d) refl kept own to
    by_kind (step.Gone d) is = quiet _ _ _ _ (gone-own w e c d outcomes treatings came sent (w.connection d) refl kept own is)
    by_kind (step.Direct target) to = quiet _ _ _ _ (direct-own w e c outcomes treatings came sent to.0 own to.2)
    by_kind (step.Render pick) to = quiet _ _ _ _ (render-own w e c outcomes treatings came sent (picked_flight pick is_unrendered w.flights) (λ f found. there (λ flying. is_picked pick flying && is_unrendered flying) f found) own to)
    by_kind (step.Deliver pick) to = quiet _ _ _ _ (delivers-own w e c outcomes treatings came sent (picked_flight pick is_rendered w.flights) (λ f found. there (λ flying. is_picked pick flying && is_rendered flying) f found) kept own to)
    by_kind (step.Lose pick) to = quiet _ _ _ _ (loses-own w e c outcomes treatings came sent (picked_flight pick is_any w.flights) (λ f found. there (λ flying. is_picked pick flying && is_any flying) f found) kept own to)
    by_kind step.Purge to = quiet _ _ _ _ (purges-own w e c outcomes treatings came sent w.flushes kept own to)
    by_kind step.Restart to = quiet _ _ _ _ (restart-own w e c outcomes treatings came sent kept own to)

-- ---- a run
abbrev outcomes_after : Outcomes → RunState → List Event → Outcomes
outcomes_after outcomes w events = plus outcomes (renders_of w events) (losses_of events) (endings_of events)

run-own : (w : RunState) (events : List Event) (c : ℕ) (outcomes : Outcomes) (treatings : List Treating) (came : List ℕ) (sent : List Sending) → Kept w c came sent → Own w c outcomes treatings came sent → Run w events
    → Own (state_after_events w events) c (outcomes_after outcomes w events) (treated_after w c treatings events) (came_after c came events) (sent_after c sent events)
run-own w [] c outcomes treatings came sent kept own run = subst (λ os. Own w c os treatings came sent) (sym (plus-none outcomes)) own
run-own w (e ∷ events) c outcomes treatings came sent kept own run =
    let rest = run-own (after_event w e) events c (outcomes_then w e e.step outcomes) (then_treated w c treatings e e.step) (then_came c came e e.step) (then_sent c sent e e.step) (by-step w e c came sent e.step kept run.0.0) (step-own w e c outcomes treatings came sent e.step kept own run.0.0) run.1 in
    subst (λ os. Own (state_after_events (after_event w e) events) c os (treated_after (after_event w e) c (then_treated w c treatings e e.step) events) (came_after c (then_came c came e e.step) events) (sent_after c (then_sent c sent e e.step) events))
    (plus-plus outcomes (renders_in (state_before_notes w e e.step) e.conditions.out_of_memory e.body) (renders_of (after_event w e) events) (lost_in e.body) (losses_of events) (ended_in e.body) (endings_of events)) rest

abbrev no_outcomes : Outcomes
no_outcomes = record { renders = []; losses = []; endings = [] }

start-own : (s : Start) (c : ℕ) → Own (start_of s) c no_outcomes [] [] []
start-own s c = record {
  here = λ d some. absurd (let never : ⊥ = cc in never);
  over = λ none. record {
    last = last-now (fresh []) [] [] (past-fresh []) tt;
    each = refl;
  };
  air_is = record { rendered = λ n f answer there has. absurd (let never : ⊥ = cc in never); lost = λ n was. absurd (none-lost n was) };
}

-- the last state of a run
own-answers : InOrder → OfTurns → EachTreated → (w : RunState) (c : ℕ) (outcomes : Outcomes) (treatings : List Treating) (came : List ℕ) (sent : List Sending) (connection : Option Connection) → w.connection c ≡ connection → Kept w c came sent → Own w c outcomes treatings came sent
    → AreOwnAnswers outcomes treatings came sent
own-answers order turns treated w c outcomes treatings came sent (Some d) is kept own =
    record {
      what = what-past order turns treated d came sent (kept.held.here d is) (idle-rest d (kept.still d is));
      own = each-map (IsOfAir w.flights (flights_asked w.log) outcomes) (IsOfRequest outcomes) (of-request w.flights (flights_asked w.log) outcomes) treatings d.turns d.slots (own.here d is).each;
    }
own-answers order turns treated w c outcomes treatings came sent None is kept own =
    let was = own.over is in
    let last = was.last in
    record {
      what = what-past order turns treated last.last came sent last.past last.rests;
      own = each-map (IsOfAir w.flights (flights_asked w.log) outcomes) (IsOfRequest outcomes) (of-request w.flights (flights_asked w.log) outcomes) treatings last.last.turns last.last.slots was.each;
    }

pub answers-own : InOrder → OfTurns → EachTreated → AnswersAreOwn
answers-own order turns treated s events c run =
    let w = start_of s in
    let kept = run-kept w events c [] [] (start-kept s c) run in
    let own = run-own w events c no_outcomes [] [] [] (start-kept s c) (start-own s c) run in
    own-answers order turns treated (state_after_events w events) c (record { renders = renders_of w events; losses = losses_of events; endings = endings_of events }) (treated_since_opened s c events) (came_since_opened c events) (sent_since_opened c events) ((state_after_events w events).connection c) refl kept own
