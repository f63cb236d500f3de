-- Flights that land or are lost, and slices of flushes: what they leave behind the connections.
use Rattle.std.proofs.Common.{◌≡◌, ℕ, zero, suc, ◌<◌, ◌&&◌, Bool, true, false, List, [], ◌∷◌, Option, Some, None, get_or, length, nat_eq, refl, ap, sym, subst, ◌∙◌, inl, inr, arith}
use Rattle.std.specs.Prelude.{◌==◌, IfSome, IsSome, IsTrue, if◌then◌else◌, position, remove, slice_get, unwrap_or}
use Rattle.std.specs.List.{find}
use Rattle.std.specs.Map.{update}
use Rattle.std.specs.Option.{option_map}
use Rattle.std.proofs.lemmas.Bool.Decides.{nat_tests}
use Rattle.std.proofs.lemmas.Grind.{common_steps}
use Rattle.std.proofs.lemmas.List.Quantifiers.{position-Some}
use Rattle.std.proofs.lemmas.Map.{update_apart, update_here}
use Rattle.std.proofs.lemmas.Option.{slice_get-map}
use Rattle.sp_base.specs.MediaTypes.{is_kind}
use Rattle.sp_base.specs.declared.answer.Answer.{Answer}
use Rattle.sp_base.proofs.ListLemmas.{find_passes}
use Rattle.sp_outside.specs.Files.{Files}
use Rattle.cover_rules.specs.declared.page.PageKey.{PageKey}
use Rattle.dispatch_rules.specs.Caching.{cache_key}
use Rattle.error_answers.specs.Errors.{error_answer}
use Rattle.flights.specs.Flights.{AreRising, flight_at, numbers_of, without}
use Rattle.flights.specs.declared.flight.Flight.{Flight}
use Rattle.cache_log.specs.Entries.{Fate, Kept, Landed, LogEntry, Lost as lost_entry, Passed, Unkept, flights_asked, flushes_begun}
use Rattle.cache_log.specs.Rules.{CallConditions, MayStore}
use Rattle.coherence_core.specs.Cores.{ExtendsCore, FlightsRise, KeepsFarm, CoreStandsFor, flight_labels, flights_of, flush_numbers}
use Rattle.coherence_core.specs.Landings.{IsKeptAs, fate_of, landed_under}
use Rattle.coherence_core.specs.declared.answers.Landed.{Landed as LandedAs}
use Rattle.coherence_core.specs.declared.answers.Landed.TheVariants as landed
use Rattle.coherence_core.specs.declared.core_state.Core.{Core}
use Rattle.connections.specs.Connections.{Connection, with_end}
use Rattle.connections.specs.AnswerQueues.{ReplyStandsFor}
use Rattle.connections.specs.Slots as model
use Rattle.connections.specs.Slots.{fixed_answer}
use Rattle.connections.specs.declared.awaited.Awaited.TheVariants.{Flight as flight_awaited}
use Rattle.connections.specs.declared.place.Reply.{Reply}
use Rattle.connections.specs.declared.place.Reply.TheVariants.{Own, Says}
use Rattle.run_events.specs.declared.conditions.Conditions.{Conditions}
use Rattle.run_events.specs.declared.flying.Flying.{Flying}
use Rattle.run_events.specs.declared.flying.Flushing.{Flushing}
use Rattle.run_events.specs.declared.note.Note.{Note}
use Rattle.run_events.specs.declared.note.Note.TheVariants as note
use Rattle.run_events.specs.declared.step.Pick.{Pick}
use Rattle.run_events.specs.declared.step.Pick.TheVariants.{First}
use Rattle.run_events.specs.Events.{is_any, is_picked, is_rendered, picked_flight}
use Rattle.run_events.specs.Moves.{over_with, state_after_landing, state_after_note}
use Rattle.run_events.specs.Moves as moves
use Rattle.run_events.specs.Points.{key_of}
use Rattle.run_events.specs.States as states
use Rattle.run_events.specs.States.{RunState}
use Rattle.front.specs.Caches.{AreTicketed, Behind, BehindStandsFor, HasNoteCause, HaveKinds, IsEnding, IsDelivery, IsLoss, RepliesFor, behind, flying_labels, flying_of, landing_end_of, only_disk, with_end_if}
use Rattle.front.specs.declared.answered.Ended.{Ended}
use Rattle.front.specs.declared.ticketed.TicketedFlight.{TicketedFlight}
use Rattle.front.proofs.FlightListLemmas.{found-some, get-within, got, place, rising-remove}
use Rattle.front.proofs.PositionLemmas.{map-remove}
use Rattle.sp_outside.specs.Causes.{IsDiskFailure}

pub no-false : {P : Type 0} → IsTrue false → P
no-false is = absurd (let no : false ≡ true = is in let none : ⊥ = cc in none)

-- ---- places
-- what stands at a place that is found
pub at-place : (test : Flying → Bool) (ts : List TicketedFlight) (i : ℕ) (t : TicketedFlight) → Some i ≡ position test (flying_of ts) → t ≡ get_or ts i t → slice_get ts i ≡ Some t
at-place test ts i t found is =
    let within = (found-some test (flying_of ts) i (sym found)).0 in
    let here = get-within ts i (subst (λ n. i < n) (length-flying ts) within) in
    here.1 ∙ ap Some (sym (got ts i t here.0 is here.1))
  where
    length-flying : (us : List TicketedFlight) → length (flying_of us) ≡ length us
    length-flying [] = refl
    length-flying (u ∷ us) = ap suc (length-flying us)

pub flying-at : (ts : List TicketedFlight) (i : ℕ) (t : TicketedFlight) → slice_get ts i ≡ Some t → slice_get (flying_of ts) i ≡ Some t.flying
flying-at ts i t at = slice_get-map (λ (u : TicketedFlight). u.flying) ts i ∙ ap (option_map (λ (u : TicketedFlight). u.flying)) at

pub ticket-at : (core : Core) (ts : List TicketedFlight) (i : ℕ) (t : TicketedFlight) → AreTicketed core ts → slice_get ts i ≡ Some t → slice_get (numbers_of (flights_of core)) i ≡ Some t.ticket
ticket-at core ts i t ticketed at = ap (λ ns. slice_get ns i) (sym ticketed.tickets) ∙ slice_get-map (λ (u : TicketedFlight). u.ticket) ts i ∙ ap (option_map (λ (u : TicketedFlight). u.ticket)) at

-- the flight that is found passes the test
pub passes : (test : Flying → Bool) (ts : List TicketedFlight) (i : ℕ) (t : TicketedFlight) → Some i ≡ position test (flying_of ts) → slice_get ts i ≡ Some t → find test (flying_of ts) ≡ Some t.flying
passes test ts i t found at = (found-some test (flying_of ts) i (sym found)).1 ∙ flying-at ts i t at

-- the rendered flight that is found has its answer
pub is-some : (pick : Pick) (ts : List TicketedFlight) (i : ℕ) (t : TicketedFlight) → Some i ≡ position (λ flying. is_picked pick flying && is_rendered flying) (flying_of ts) → slice_get ts i ≡ Some t → IsSome t.flying.rendered
is-some pick ts i t found at = both (is_picked pick t.flying) (is_rendered t.flying) (find_passes (λ flying. is_picked pick flying && is_rendered flying) (flying_of ts) t.flying (passes (λ flying. is_picked pick flying && is_rendered flying) ts i t found at))
  where
    both : (a b : Bool) → (a && b) ≡ true → b ≡ true
    both true b e = e
    both false b e = absurd (let no : ⊥ = cc in no)

-- the first that is asked for is the first of all
first-place : (flights : List Flying) (i : ℕ) → Some i ≡ position (λ flying. is_picked First flying && is_any flying) flights → i ≡ 0
first-place [] i found = absurd (let no : ⊥ = grind (arith, common_steps, found) in no)
first-place (f ∷ flights) zero found = refl
first-place (f ∷ flights) (suc i) found = absurd (let passed : true ≡ false = (position-Some (λ flying. is_picked First flying && is_any flying) (f ∷ flights) (suc i) f (sym found)).2 0 (omega arith) in let no : ⊥ = cc in no)

pub first-left : (ts : List TicketedFlight) (i : ℕ) (t : TicketedFlight) → Some i ≡ position (λ flying. is_picked First flying && is_any flying) (flying_of ts) → t ≡ get_or ts i t
    → (flying : Flying) × (flying_of ts ≡ flying ∷ flying_of (remove ts i)) × (note.Lost t.flying.number ≡ note.Lost flying.number)
first-left [] i t found is = absurd (let no : ⊥ = grind (arith, common_steps, found) in no)
first-left (u ∷ ts) i t found is =
    let start = first-place (flying_of (u ∷ ts)) i found in
    let same : t ≡ u = rw start at is in
    rw start (t.flying, ap (λ (v : TicketedFlight). v.flying ∷ flying_of ts) (sym same), refl)

-- ---- media types
pub kind-at : (flights : List Flying) (i : ℕ) (f : Flying) (answer : Answer) → HaveKinds flights → slice_get flights i ≡ Some f → f.rendered ≡ Some answer → IsTrue (is_kind answer.kind)
kind-at [] i f answer kinds at is = absurd (let no : ⊥ = cc in no)
kind-at (g ∷ flights) zero f answer kinds at is =
    let same : g ≡ f = cc in
    subst (λ o. IfSome o (λ (a : Answer). IsTrue (is_kind a.kind))) (ap (λ (h : Flying). h.rendered) same ∙ is) kinds.0
kind-at (g ∷ flights) (suc i) f answer kinds at is = kind-at flights i f answer kinds.1 at is

kinds-remove : (flights : List Flying) (i : ℕ) → HaveKinds flights → HaveKinds (remove flights i)
kinds-remove [] zero kinds = tt
kinds-remove [] (suc i) kinds = tt
kinds-remove (f ∷ flights) zero kinds = kinds.1
kinds-remove (f ∷ flights) (suc i) kinds = (kinds.0, kinds-remove flights i kinds.1)

-- ---- the core's flights
number-above : (least most : ℕ) (fs : List Flight) (i n : ℕ) → AreRising least fs most → slice_get (numbers_of fs) i ≡ Some n → least < n
number-above least most [] i n rising at = absurd (let no : ⊥ = cc in no)
number-above least most (f ∷ fs) zero n rising at = let same : f.number ≡ n = cc in subst (λ m. least < m) same rising.0
number-above least most (f ∷ fs) (suc i) n rising at = omega (arith, rising.0, number-above f.number most fs i n rising.1 at)

-- the flight with the number that stands at a place, and the labels without it
pub record IsLabelled (fs : List Flight) (i n : ℕ) : Type 0 where
  pub flight : Flight
  pub found : flight_at n fs ≡ Some flight
  pub label : slice_get (flight_labels fs) i ≡ Some (n, flight.key)
  pub left : flight_labels (without n fs) ≡ remove (flight_labels fs) i

labelled : (least most : ℕ) (fs : List Flight) (i n : ℕ) → AreRising least fs most → slice_get (numbers_of fs) i ≡ Some n → IsLabelled fs i n
labelled least most [] i n rising at = absurd (let no : ⊥ = cc in no)
labelled least most (f ∷ fs) zero n rising at =
    let same : f.number ≡ n = cc in
    let here : (f.number == n) ≡ true = grind (arith, nat_tests, same) in
    record { flight = f; found = rw here refl; label = ap (λ (m : ℕ). Some (m, f.key)) same; left = rw here refl }
labelled least most (f ∷ fs) (suc i) n rising at =
    let above = number-above f.number most fs i n rising.1 at in
    let apart : (f.number == n) ≡ false = grind (arith, nat_tests, above) in
    let rest = labelled f.number most fs i n rising.1 at in
    record { flight = rest.flight; found = rw apart rest.found; label = rest.label; left = rw apart (ap (λ ls. (f.number, f.key) ∷ ls) rest.left) }

-- ---- a flight is out of the air
pub ticketed-left : (core after_ : Core) (ts : List TicketedFlight) (i : ℕ) (t : TicketedFlight) → AreTicketed core ts → slice_get ts i ≡ Some t → flights_of after_ ≡ without t.ticket (flights_of core) → (FlightsRise core → FlightsRise after_)
    → numbers_of (without t.ticket (flights_of core)) ≡ remove (numbers_of (flights_of core)) i → AreTicketed after_ (remove ts i)
ticketed-left core after_ ts i t ticketed at flights rises left = record {
  tickets = map-remove (λ (u : TicketedFlight). u.ticket) ts i ∙ ap (λ ns. remove ns i) ticketed.tickets ∙ sym left ∙ ap numbers_of (sym flights);
  rising = rises ticketed.rising;
  kinds = subst HaveKinds (sym (map-remove (λ (u : TicketedFlight). u.flying) ts i)) (kinds-remove (flying_of ts) i ticketed.kinds);
}

-- one connection changes, if it is open
pub updated-with : (g : ℕ → Option Connection) (h other : Connection → Connection) (k q : ℕ) → ((x : Connection) → h x ≡ other x) → update nat_eq g k (option_map h (g k)) q ≡ (if nat_eq q k then option_map other (g q) else g q)
updated-with g h other k q same = by_test (nat_eq q k) refl
  where
    mapped : (o : Option Connection) → option_map h o ≡ option_map other o
    mapped None = refl
    mapped (Some x) = ap Some (same x)

    by_test : (b : Bool) → nat_eq q k ≡ b → update nat_eq g k (option_map h (g k)) q ≡ (if b then option_map other (g q) else g q)
    by_test true e = let is : q ≡ k = grind (arith, nat_tests, e) in rw is (update_here g k (option_map h (g k)) ∙ mapped (g k))
    by_test false e = update_apart g k (option_map h (g k)) q (λ is. let here : nat_eq q k ≡ true = grind (arith, nat_tests, is) in let no : ⊥ = cc in no)

-- what is known of a flight at its place, in a state that is stood for
pub record IsAt (core : Core) (ts : List TicketedFlight) (w : RunState) (i : ℕ) (t : TicketedFlight) : Type 0 where
  pub number : t.ticket ≡ t.flying.number
  pub flight : Flight
  pub found : flight_at t.ticket (flights_of core) ≡ Some flight
  pub key : flight.key ≡ key_of w t.flying.request
  pub labels : flight_labels (without t.ticket (flights_of core)) ≡ flying_labels w.farm (flying_of (remove ts i))
  pub at : moves.flying_at t.flying.number w.flights ≡ Some t.flying
  pub left : moves.air_without t.flying.number w.flights ≡ flying_of (remove ts i)
  pub rising : states.AirRises 0 (flying_of (remove ts i)) (flights_asked w.log)

pub is-at : (core : Core) (ts : List TicketedFlight) (fs : List Flushing) (files : Option Files) (faults : ℕ) (w : RunState) (i : ℕ) (t : TicketedFlight) → AreTicketed core ts → BehindStandsFor (behind (record { core = core; flying = flying_of ts; flushes = fs }) files faults) w
    → slice_get ts i ≡ Some t → IsAt core ts w i t
is-at core ts fs files faults w i t ticketed stands at =
    let one = labelled 0 core.asked (flights_of core) i t.ticket ticketed.rising (ticket-at core ts i t ticketed at) in
    let label : ◌≡◌ {A = Option (ℕ × Option PageKey)} (Some (t.ticket, one.flight.key)) (Some (t.flying.number, cache_key w.farm t.flying.request)) =
    sym one.label ∙ ap (λ ls. slice_get ls i) stands.flights_are ∙ slice_get-map (λ (f : Flying). (f.number, cache_key w.farm f.request)) (flying_of ts) i ∙ ap (option_map (λ (f : Flying). (f.number, cache_key w.farm f.request))) (flying-at ts i t at) in
    let there = place 0 (flying_of ts) (flights_asked w.log) i t.flying stands.rising (flying-at ts i t at) in
    let same = labels-same t.ticket t.flying.number one.flight.key (cache_key w.farm t.flying.request) label in
    record {
      number = same.0;
      flight = one.flight;
      found = one.found;
      key = same.1;
      labels = one.left ∙ ap (λ ls. remove ls i) stands.flights_are ∙ sym (map-remove (λ (f : Flying). (f.number, cache_key w.farm f.request)) (flying_of ts) i) ∙ ap (flying_labels w.farm) (sym (map-remove (λ (u : TicketedFlight). u.flying) ts i));
      at = ap (moves.flying_at t.flying.number) (sym stands.flying_is) ∙ there.at;
      left = ap (moves.air_without t.flying.number) (sym stands.flying_is) ∙ there.left ∙ sym (map-remove (λ (u : TicketedFlight). u.flying) ts i);
      rising = subst (λ fs. states.AirRises 0 fs (flights_asked w.log)) (sym (map-remove (λ (u : TicketedFlight). u.flying) ts i)) (rising-remove 0 (flying_of ts) (flights_asked w.log) i stands.rising);
    }
  where
    labels-same : (a b : ℕ) (k l : Option PageKey) → ◌≡◌ {A = Option (ℕ × Option PageKey)} (Some (a, k)) (Some (b, l)) → (a ≡ b) × (k ≡ l)
    labels-same a b k l e =
        let pairs : ◌≡◌ {A = ℕ × Option PageKey} (a, k) (b, l) = cc in
        (ap (λ (p : ℕ × Option PageKey). p.0) pairs, ap (λ (p : ℕ × Option PageKey). p.1) pairs)

-- what stands behind the connections once the flight is out of the air, with the entry that says so
over-behind : (core after_ : Core) (ts : List TicketedFlight) (fs : List Flushing) (files later : Option Files) (faults after_faults : ℕ) (w : RunState) (i : ℕ) (t : TicketedFlight) (answer : Answer) (entry : LogEntry)
    → BehindStandsFor (behind (record { core = core; flying = flying_of ts; flushes = fs }) files faults) w → IsAt core ts w i t → flights_of after_ ≡ without t.ticket (flights_of core) → after_.queue ≡ core.queue → KeepsFarm core after_
    → CoreStandsFor w.found later after_ (entry ∷ w.log) → flights_asked (entry ∷ w.log) ≡ flights_asked w.log → flushes_begun (entry ∷ w.log) ≡ flushes_begun w.log
    → BehindStandsFor (behind (record { core = after_; flying = flying_of (remove ts i); flushes = fs }) later after_faults) (over_with w t.flying.number answer entry (Some t.flying))
over-behind core after_ ts fs files later faults after_faults w i t answer entry stands is flights queue farm core_is asked begun = record {
  core_is = core_is;
  farm_is = stands.farm_is ∙ sym farm.farm;
  flying_is = sym is.left;
  rising = rw asked is.rising;
  flights_are = ap flight_labels flights ∙ is.labels;
  flushing_is = stands.flushing_is;
  flushes_are = ap (λ q. flush_numbers q.items) queue ∙ stands.flushes_are;
  flushes_rise = rw begun stands.flushes_rise;
}

-- ---- what an ending comes to
-- the ending in the state that its note leaves
pub ending-in : (w : RunState) (ended : Ended) (before : ℕ) (new : Behind) (s : RunState) → state_after_note w ended.note ≡ s → HasNoteCause before new.faults ended.conditions w ended.note → BehindStandsFor new s → s.slicing ≡ None → (response : Option model.Response)
    → RepliesFor ended.reply response → ((q : ℕ) → s.connection q ≡ (if nat_eq q ended.connection then option_map (with_end_if ended.awaited response) (w.connection q) else w.connection q)) → s.connection_count ≡ w.connection_count → IsEnding w ended before new
ending-in w ended before new s is cause stands quiet response replies connections count = record {
  cause = cause;
  behind_is = subst (BehindStandsFor new) (sym is) stands;
  slicing_is = ap (λ (u : RunState). u.slicing) is ∙ quiet;
  response = response;
  replies = replies;
  connection_is = λ q. ap (λ (u : RunState). u.connection q) is ∙ connections q;
  count_is = ap (λ (u : RunState). u.connection_count) is ∙ count;
}

-- a flight is out of the air, and its connection has this answer
over-ending : (w : RunState) (f : Flying) (answer : Answer) (entry : LogEntry) (reply : Reply) (under : Conditions) (n : Note) (before : ℕ) (new : Behind) → state_after_note w n ≡ over_with w f.number answer entry (Some f) → HasNoteCause before new.faults under w n
    → BehindStandsFor new (over_with w f.number answer entry (Some f)) → w.slicing ≡ None → ReplyStandsFor reply (model.Says answer)
    → IsEnding w (record { note = n; conditions = under; connection = f.connection; awaited = flight_awaited f.number; reply = Some reply }) before new
over-ending w f answer entry reply under n before new is cause stands quiet replies =
    ending-in w (record { note = n; conditions = under; connection = f.connection; awaited = flight_awaited f.number; reply = Some reply }) before new (over_with w f.number answer entry (Some f)) is cause stands quiet (Some (model.Says answer)) replies
    (λ q. updated-with w.connection (with_end (flight_awaited f.number) (model.Says answer)) (with_end_if (flight_awaited f.number) (Some (model.Says answer))) f.connection q (λ x. refl)) refl

-- ---- a flight is lost
pub loss-ends : (core after_ : Core) (ts : List TicketedFlight) (fs : List Flushing) (files : Option Files) (faults : ℕ) (w : RunState) (i : ℕ) (t : TicketedFlight) (pick : Pick) → AreTicketed core ts
    → BehindStandsFor (behind (record { core = core; flying = flying_of ts; flushes = fs }) files faults) w → slice_get ts i ≡ Some t → Some i ≡ position (λ flying. is_picked pick flying && is_any flying) (flying_of ts)
    → flights_of after_ ≡ without t.ticket (flights_of core) → after_.queue ≡ core.queue → KeepsFarm core after_ → ((told : Option Files) (under : CallConditions) → ExtendsCore told core told after_ under (lost_entry t.ticket ∷ [])) → w.slicing ≡ None
    → IsLoss w pick (record { note = note.Lost t.flying.number; conditions = only_disk false; connection = t.flying.connection; awaited = flight_awaited t.flying.number; reply = Some (Own 502) }) (behind (record { core = core; flying = flying_of ts; flushes = fs }) files faults)
    (behind (record { core = after_; flying = flying_of (remove ts i); flushes = fs }) files faults)
loss-ends core after_ ts fs files faults w i t pick ticketed stands at found flights queue farm log quiet =
    let is = is-at core ts fs files faults w i t ticketed stands at in
    let n = t.flying.number in
    let under : CallConditions = record { disk_failed = false; out_of_memory = false; restarts = false } in
    let extends = subst (λ m. ExtendsCore files core files after_ under (lost_entry m ∷ [])) is.number (log files under) in
    let core_is = (extends w.found).stands w.log stands.core_is in
    record {
      flying = t.flying;
      picked = ap (picked_flight pick is_any) (sym stands.flying_is) ∙ passes (λ flying. is_picked pick flying && is_any flying) ts i t found at;
      waits = refl;
      note_is = refl;
      ending = over-ending w t.flying (error_answer 502) (lost_entry n) (Own 502) (only_disk false) (note.Lost n) faults (behind (record { core = after_; flying = flying_of (remove ts i); flushes = fs }) files faults)
          (ap (over_with w n (error_answer 502) (lost_entry n)) is.at) (record { disk = refl; spoils = λ no. absurd no; shows = λ ran_out. no-false ran_out })
          (over-behind core after_ ts fs files files faults faults w i t (error_answer 502) (lost_entry n) stands is flights queue farm core_is refl refl) quiet refl;
    }

-- ---- a flight lands
landed-state : (w : RunState) (f : Flying) (answer : Answer) (fate : Fate) → moves.flying_at f.number w.flights ≡ Some f → f.rendered ≡ Some answer
    → state_after_landing w f.number fate (moves.flying_at f.number w.flights) ≡ over_with w f.number answer (Landed f.number (key_of w f.request) answer fate) (Some f)
landed-state w f answer fate at rendered =
    ap (state_after_landing w f.number fate) at ∙ ap (λ a. over_with w f.number a (Landed f.number (key_of w f.request) a fate) (Some f)) (ap (λ r. unwrap_or r fixed_answer) rendered)

-- what the landing adds to the log, of the flight's own number and page
landed-log : (core after_ : Core) (ts : List TicketedFlight) (files later : Option Files) (w : RunState) (i : ℕ) (t : TicketedFlight) (answer : Answer) (out : LandedAs) → IsAt core ts w i t
    → IfSome (flight_at t.ticket (flights_of core)) (λ flight. ExtendsCore files core later after_ (landed_under out) (Landed t.ticket flight.key answer (fate_of out) ∷ []))
    → ExtendsCore files core later after_ (landed_under out) (Landed t.flying.number (key_of w t.flying.request) answer (fate_of out) ∷ [])
landed-log core after_ ts files later w i t answer out is log =
    subst (λ k. ExtendsCore files core later after_ (landed_under out) (Landed t.flying.number k answer (fate_of out) ∷ [])) is.key
    (subst (λ n. ExtendsCore files core later after_ (landed_under out) (Landed n is.flight.key answer (fate_of out) ∷ [])) is.number
    (subst (λ o. IfSome o (λ (flight : Flight). ExtendsCore files core later after_ (landed_under out) (Landed t.ticket flight.key answer (fate_of out) ∷ []))) is.found log))

pub landing-ends : (core after_ : Core) (ts : List TicketedFlight) (fs : List Flushing) (files later : Option Files) (faults after_faults : ℕ) (w : RunState) (i : ℕ) (t : TicketedFlight) (pick : Pick) (answer : Answer) (out : LandedAs) → AreTicketed core ts
    → BehindStandsFor (behind (record { core = core; flying = flying_of ts; flushes = fs }) files faults) w → slice_get ts i ≡ Some t → Some i ≡ position (λ flying. is_picked pick flying && is_rendered flying) (flying_of ts) → t.flying.rendered ≡ Some answer
    → flights_of after_ ≡ without t.ticket (flights_of core) → after_.queue ≡ core.queue → KeepsFarm core after_
    → IfSome (flight_at t.ticket (flights_of core)) (λ flight. ExtendsCore files core later after_ (landed_under out) (Landed t.ticket flight.key answer (fate_of out) ∷ [])) → IfSome (flight_at t.ticket (flights_of core)) (λ flight. IsKeptAs flight.key out)
    → IsDiskFailure faults after_faults (landed_under out).disk_failed → w.slicing ≡ None
    → IsDelivery w pick (landing_end_of t.flying.number t.flying.connection answer out) (behind (record { core = core; flying = flying_of ts; flushes = fs }) files faults) (behind (record { core = after_; flying = flying_of (remove ts i); flushes = fs }) later after_faults)
landing-ends core after_ ts fs files later faults after_faults w i t pick answer out ticketed stands at found rendered flights queue farm log kept told quiet = by_out out log kept told
  where
    is : IsAt core ts w i t
    is = is-at core ts fs files faults w i t ticketed stands at

    picked : picked_flight pick is_rendered w.flights ≡ Some t.flying
    picked = ap (picked_flight pick is_rendered) (sym stands.flying_is) ∙ passes (λ flying. is_picked pick flying && is_rendered flying) ts i t found at

    new : Behind
    new = behind (record { core = after_; flying = flying_of (remove ts i); flushes = fs }) later after_faults

    stored : (key : Option PageKey) → MayStore core.farm w.log t.flying.number key answer → MayStore w.farm w.log t.flying.number key answer
    stored key may = subst (λ farm. MayStore farm w.log t.flying.number key answer) (sym stands.farm_is) may

    by_out : (o : LandedAs) → IfSome (flight_at t.ticket (flights_of core)) (λ flight. ExtendsCore files core later after_ (landed_under o) (Landed t.ticket flight.key answer (fate_of o) ∷ [])) → IfSome (flight_at t.ticket (flights_of core)) (λ flight. IsKeptAs flight.key o)
        → IsDiskFailure faults after_faults (landed_under o).disk_failed → IsDelivery w pick (landing_end_of t.flying.number t.flying.connection answer o) (behind (record { core = core; flying = flying_of ts; flushes = fs }) files faults) new
    by_out (landed.Kept key) log kept told =
        let extends = landed-log core after_ ts files later w i t answer (landed.Kept key) is log w.found in
        let own : is.flight.key ≡ Some key = subst (λ o. IfSome o (λ (flight : Flight). flight.key ≡ Some key)) is.found kept in
        let key_is : key_of w t.flying.request ≡ Some key = sym is.key ∙ own in
        record {
          flying = t.flying;
          answer = answer;
          picked = picked;
          rendered = rendered;
          waits = refl;
          lands = λ m allows. inl (key, key_is, refl, subst (λ k. MayStore w.farm w.log t.flying.number k answer) key_is (stored (key_of w t.flying.request) (extends.allowed w.log stands.core_is).0.1));
          ending = over-ending w t.flying answer (Landed t.flying.number (key_of w t.flying.request) answer Kept) (Says answer) (only_disk false) (note.Kept t.flying.number key) faults new (landed-state w t.flying answer Kept is.at rendered)
              (record { disk = told; spoils = λ no. absurd no; shows = λ ran_out. no-false ran_out })
              (over-behind core after_ ts fs files later faults after_faults w i t answer (Landed t.flying.number (key_of w t.flying.request) answer Kept) stands is flights queue farm (extends.stands w.log stands.core_is) refl refl) quiet refl;
        }
    by_out landed.Passed log kept told =
        let extends = landed-log core after_ ts files later w i t answer landed.Passed is log w.found in
        let never = (extends.allowed w.log stands.core_is).0.1 in
        record {
          flying = t.flying;
          answer = answer;
          picked = picked;
          rendered = rendered;
          waits = refl;
          lands = λ m allows. inr (inr (refl, λ may. never (subst (λ farm. MayStore farm w.log t.flying.number (key_of w t.flying.request) answer) stands.farm_is may)));
          ending = over-ending w t.flying answer (Landed t.flying.number (key_of w t.flying.request) answer Passed) (Says answer) (only_disk false) (note.Passed t.flying.number) faults new (landed-state w t.flying answer Passed is.at rendered)
              (record { disk = told; spoils = λ no. absurd no; shows = λ ran_out. no-false ran_out })
              (over-behind core after_ ts fs files later faults after_faults w i t answer (Landed t.flying.number (key_of w t.flying.request) answer Passed) stands is flights queue farm (extends.stands w.log stands.core_is) refl refl) quiet refl;
        }
    by_out landed.DiskFailed log kept told =
        let extends = landed-log core after_ ts files later w i t answer landed.DiskFailed is log w.found in
        record {
          flying = t.flying;
          answer = answer;
          picked = picked;
          rendered = rendered;
          waits = refl;
          lands = λ m allows. inr (inl (refl, stored (key_of w t.flying.request) (extends.allowed w.log stands.core_is).0.1, inl (allows.disk_failed refl)));
          ending = over-ending w t.flying answer (Landed t.flying.number (key_of w t.flying.request) answer Unkept) (Says answer) (only_disk true) (note.Unkept t.flying.number) faults new (landed-state w t.flying answer Unkept is.at rendered)
              (record { disk = told; spoils = λ no. absurd no; shows = λ ran_out. no-false ran_out })
              (over-behind core after_ ts fs files later faults after_faults w i t answer (Landed t.flying.number (key_of w t.flying.request) answer Unkept) stands is flights queue farm (extends.stands w.log stands.core_is) refl refl) quiet refl;
        }
    by_out landed.NoMemory log kept told =
        let extends = landed-log core after_ ts files later w i t answer landed.NoMemory is log w.found in
        record {
          flying = t.flying;
          answer = answer;
          picked = picked;
          rendered = rendered;
          waits = refl;
          lands = λ m allows. inr (inl (refl, stored (key_of w t.flying.request) (extends.allowed w.log stands.core_is).0.1, inr (allows.out_of_memory refl)));
          ending = over-ending w t.flying answer (Landed t.flying.number (key_of w t.flying.request) answer Unkept) (Says answer) (record { disk_failed = false; out_of_memory = true }) (note.Unkept t.flying.number) faults new (landed-state w t.flying answer Unkept is.at rendered)
              (record { disk = told; spoils = λ no. absurd no; shows = λ ran_out. tt })
              (over-behind core after_ ts fs files later faults after_faults w i t answer (Landed t.flying.number (key_of w t.flying.request) answer Unkept) stands is flights queue farm (extends.stands w.log stands.core_is) refl refl) quiet refl;
        }
