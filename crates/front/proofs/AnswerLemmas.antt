-- Whole answers of the cache to a request.
use Rattle.std.proofs.Common.{◌≡◌, ℕ, ◌+◌, ◌<◌, ◌≤◌, ◌++◌, ◌||◌, Bool, true, false, suc, List, [], ◌∷◌, Option, Some, Result, Ok, Err, length, refl, ap, sym, subst, ◌∙◌, arith, ◌⊎◌, inl, inr}
use Rattle.std.specs.Prelude.{◌==◌, IsTrue, nat_le}
use Rattle.flights.specs.Flights.{most_flights}
use Rattle.std.specs.Option.{option_map}
use Rattle.std.proofs.lemmas.Bool.{or_from}
use Rattle.std.proofs.lemmas.List.{append-nil}
use Rattle.std.proofs.lemmas.Map.{update_here}
use Rattle.sp_base.specs.declared.answer.Answer.{Answer}
use Rattle.sp_base.specs.Requests.{Request}
use Rattle.sp_outside.specs.Files.{Files}
use Rattle.glob_rules.specs.Rules.{allows}
use Rattle.any_config.specs.declared.farm.Farm.{Farm}
use Rattle.cover_rules.specs.declared.page.PageKey.{PageKey}
use Rattle.cover_rules.specs.declared.invalidation.Invalidation.{Invalidation}
use Rattle.dispatch_rules.specs.Caching.{cache_key}
use Rattle.http_front.specs.declared.turn.Turn.TheVariants.{Whole}
use Rattle.invalidation.specs.Invalidations.{invalidation_of, is_invalidation}
use Rattle.invalidation.specs.declared.inv_fault.InvFault.{InvFault}
use Rattle.cache_log.specs.Entries.{flights_asked, flushes_begun, stamps_drawn}
use Rattle.cache_log.specs.Rules.{IsOwed}
use Rattle.coherence_core.specs.Cores.{drawn_of}
use Rattle.coherence_core.specs.Requests.{HasRoomToFlush, MayFlush, ReachesPublisher, got_entries, got_flushes, got_labels}
use Rattle.coherence_core.specs.declared.answers.Got.{Got}
use Rattle.coherence_core.specs.declared.answers.Got.TheVariants as got
use Rattle.coherence_core.specs.declared.core_state.Core.{Core}
use Rattle.connections.specs.Connections.{Connection, Treat, is_crowded}
use Rattle.run_events.specs.declared.conditions.Conditions.{Conditions}
use Rattle.run_events.specs.declared.flying.Flying.{Flying}
use Rattle.run_events.specs.declared.flying.Flushing.{Flushing}
use Rattle.run_events.specs.declared.note.Note.{Note}
use Rattle.run_events.specs.declared.note.Note.TheVariants.{Ask as asked, Flush, Hit, Local}
use Rattle.run_events.specs.Causes.{Spoils}
use Rattle.run_events.specs.Points.{AnswersFlush, AnswersInvalidation, BeginsFlush, IsFirstPoint, are_stamps_drawn, is_front_full, is_full_of_flushes, IsPermitted, key_of, points}
use Rattle.run_events.specs.Moves.{GivesDue, GivesNext, due_if_open, due_of_connection, local_slot, new_flight, state_after_ask, state_after_flush, state_after_hit, state_after_note, treated_request, with_turn_slot}
use Rattle.run_events.specs.States.{AirRises, RunState}
use Rattle.connections.specs.AnswerQueues.{ReplyStandsFor}
use Rattle.connections.specs.Slots.{Awaits as Awaits_response, Cached, IsHit, local_response, request_slot}
use Rattle.connections.specs.declared.awaited.Awaited.TheVariants.{Flight as flight_awaited, Flush as flush_awaited}
use Rattle.connections.specs.declared.place.Reply.TheVariants.{Awaits, Says}
use Rattle.front.specs.Caches.{Allows, AreFlushesRising, AsksCache, Behind, BehindStandsFor, GivesIn, IsAnswered, IsSlicing, behind, flushing_numbers, flying_labels, local_reply, only_disk}
use Rattle.front.specs.declared.answered.Answered.{Answered}
use Rattle.front.proofs.FlightListLemmas.{rising-push}
use Rattle.front.proofs.RequestLemmas.{CoreGot, IsNoteOf, behind-after, down-note, drawn-is, farm-key, flights-many, flush-note, flushes-many, full-note, full-of, hidden-note, local-spoils, owed-from, owed-is, past-hidden, reaches, told-failure}
use Rattle.cache_log.specs.Limits.{most_flushes, most_stamps}

-- ---- whole answers
-- what an answer of the front itself leaves
local-connection : (w : RunState) (c status : ℕ) (request : Request) (peer : List ℕ) (b : Behind) → AsksCache w c request peer b → (m : Connection) → w.connection c ≡ Some m
    → (state_after_note w (Local c status)).connection c ≡ Some (with_turn_slot (request_slot request (status == 507) (local_response status)) m)
local-connection w c status request peer b asks m is =
    let same : Some asks.connection ≡ Some m = sym asks.open_is ∙ is in
    let at : asks.connection ≡ m = cc in
    let room : is_crowded m ≡ false = ap is_crowded (sym at) ∙ asks.room in
    update_here w.connection c _ ∙ ap (option_map (λ connection. with_turn_slot (local_slot (treated_request (due_of_connection w c)) status connection) connection)) is
    ∙ ap (λ r. Some (with_turn_slot (local_slot r status m) m)) (owed-is w c request peer b asks) ∙ ap (λ x. Some (with_turn_slot (request_slot request (x || status == 507) (local_response status)) m)) room

local-replies : (status : ℕ) → ReplyStandsFor (local_reply status) (local_response status)
local-replies status = by_test (status == 507) refl
  where
    by_test : (b : Bool) → (status == 507) ≡ b → ReplyStandsFor (local_reply status) (local_response status)
    by_test true is = rw is tt
    by_test false is = rw is refl

-- nothing was added to the log
kept-after : (old : Behind) (core : Core) (files : Option Files) (faults : ℕ) (request : Request) (peer : List ℕ) (disk_failed : Bool) (out : Got) → CoreGot old core files faults request peer disk_failed out → got_entries out ≡ [] → got_labels out ≡ [] → got_flushes out ≡ []
    → (w v : RunState) → BehindStandsFor old w → v.found ≡ w.found → v.farm ≡ w.farm → v.log ≡ w.log → v.flights ≡ w.flights → v.flushes ≡ w.flushes
    → BehindStandsFor (behind (record { core = core; flying = old.cache.flying; flushes = old.cache.flushes }) files faults) v
kept-after old core files faults request peer disk_failed out g none no_labels no_flushes w v tied found farm log flights flushes = behind-after old core files faults request peer disk_failed out g w v old.cache.flying old.cache.flushes
    tied found farm (log ∙ ap (λ es. es ++ w.log) (sym none)) (tied.flying_is ∙ sym flights) (rw log tied.rising) (rw no_labels (sym (append-nil (flying_labels w.farm old.cache.flying))))
    (tied.flushing_is ∙ sym flushes) (rw log tied.flushes_rise) (rw no_flushes (sym (append-nil (flushing_numbers old.cache.flushes))))

-- what is due is given by the note
gives-note : (under : Conditions) (w : RunState) (c : ℕ) (request : Request) (peer : List ℕ) (b : Behind) (note : Note) → AsksCache w c request peer b
    → ((m : Conditions) → Allows under m → IsFirstPoint m w c request note points ⊎ (IsTrue m.out_of_memory × (note ≡ Local c 507))) → GivesIn under w c note
gives-note under w c request peer b note asks by m allows =
    let owed : due_of_connection w c ≡ Treat (Whole request) = ap due_if_open asks.open_is ∙ asks.due_is in
    subst (λ s. GivesNext m w c s note) (sym asks.slicing_is) (subst (λ d. GivesDue m w c d note) (sym owed) (by m allows))

-- an answer of the front itself
pub is-local : (old : Behind) (core : Core) (files : Option Files) (faults : ℕ) (w : RunState) (c status : ℕ) (request : Request) (peer : List ℕ) (disk_failed : Bool) (out : Got) (answered : Answered) → AsksCache w c request peer old → CoreGot old core files faults request peer disk_failed out
    → got_entries out ≡ [] → got_labels out ≡ [] → got_flushes out ≡ [] → IsNoteOf disk_failed w c request (Local c status)
    → answered ≡ record { note = Local c status; reply = local_reply status; closes = status == 507; slices = false; conditions = only_disk disk_failed }
    → IsAnswered w c request answered old (behind (record { core = core; flying = old.cache.flying; flushes = old.cache.flushes }) files faults)
is-local old core files faults w c status request peer disk_failed out answered asks g none no_labels no_flushes by is = rw is (record {
  gives = gives-note (only_disk disk_failed) w c request peer old (Local c status) asks (λ m allows. inl (by.first m allows.disk_failed));
  cause = record { disk = told-failure old.faults faults disk_failed g.disk; spoils = by.spoils; shows = λ ran_out. absurd (let no : ⊥ = cc in no) };
  behind_is = kept-after old core files faults request peer disk_failed out g none no_labels no_flushes w (state_after_note w (Local c status)) asks.behind_is refl refl refl refl refl;
  slicing_is = asks.slicing_is;
  response = local_response status;
  replies = local-replies status;
  connection_is = local-connection w c status request peer old asks;
})

-- the fixed 507 where memory ran out
pub is-out : (old : Behind) (core : Core) (files : Option Files) (faults : ℕ) (w : RunState) (c : ℕ) (request : Request) (peer : List ℕ) (disk_failed : Bool) (answered : Answered) → AsksCache w c request peer old → CoreGot old core files faults request peer disk_failed got.NoMemory
    → answered ≡ record { note = Local c 507; reply = local_reply 507; closes = 507 == 507; slices = false; conditions = record { disk_failed = disk_failed; out_of_memory = true } }
    → IsAnswered w c request answered old (behind (record { core = core; flying = old.cache.flying; flushes = old.cache.flushes }) files faults)
is-out old core files faults w c request peer disk_failed answered asks g is = rw is (record {
  gives = gives-note (record { disk_failed = disk_failed; out_of_memory = true }) w c request peer old (Local c 507) asks (λ m allows. inr (allows.out_of_memory refl, refl));
  cause = record { disk = told-failure old.faults faults disk_failed g.disk; spoils = λ spoils. absurd (omega (arith, spoils.0)); shows = λ ran_out. refl };
  behind_is = kept-after old core files faults request peer disk_failed got.NoMemory g refl refl refl w (state_after_note w (Local c 507)) asks.behind_is refl refl refl refl refl;
  slicing_is = asks.slicing_is;
  response = local_response 507;
  replies = local-replies 507;
  connection_is = local-connection w c 507 request peer old asks;
})

-- the same before the cache was asked
pub is-dry : (b : Behind) (w : RunState) (c : ℕ) (request : Request) (peer : List ℕ) (answered : Answered) → AsksCache w c request peer b
    → answered ≡ record { note = Local c 507; reply = local_reply 507; closes = true; slices = false; conditions = record { disk_failed = false; out_of_memory = true } } → IsAnswered w c request answered b b
is-dry b w c request peer answered asks is = rw is (record {
  gives = gives-note (record { disk_failed = false; out_of_memory = true }) w c request peer b (Local c 507) asks (λ m allows. inr (allows.out_of_memory refl, refl));
  cause = record { disk = refl; spoils = λ spoils. absurd (omega (arith, spoils.0)); shows = λ ran_out. refl };
  behind_is = record {
    core_is = asks.behind_is.core_is;
    farm_is = asks.behind_is.farm_is;
    flying_is = asks.behind_is.flying_is;
    rising = asks.behind_is.rising;
    flights_are = asks.behind_is.flights_are;
    flushing_is = asks.behind_is.flushing_is;
    flushes_are = asks.behind_is.flushes_are;
    flushes_rise = asks.behind_is.flushes_rise;
  };
  slicing_is = asks.slicing_is;
  response = local_response 507;
  replies = local-replies 507;
  connection_is = local-connection w c 507 request peer b asks;
})

-- ---- a hit
hit-after : (w : RunState) (c : ℕ) (key : PageKey) (request : Request) → treated_request (due_of_connection w c) ≡ Some request → state_after_note w (Hit c key) ≡ state_after_hit w c key (Some request)
hit-after w c key request owed = ap (state_after_hit w c key) owed

pub is-hit : (old : Behind) (core : Core) (files : Option Files) (faults : ℕ) (w : RunState) (c : ℕ) (request : Request) (peer : List ℕ) (disk_failed : Bool) (key : PageKey) (answer : Answer) (answered : Answered) → AsksCache w c request peer old → CoreGot old core files faults request peer disk_failed (got.Hit key answer)
    → answered ≡ record { note = Hit c key; reply = Says answer; closes = false; slices = false; conditions = only_disk disk_failed }
    → IsAnswered w c request answered old (behind (record { core = core; flying = old.cache.flying; flushes = old.cache.flushes }) files faults)
is-hit old core files faults w c request peer disk_failed key answer answered asks g is =
    let b = asks.behind_is in
    let cause = g.cause w.found w.log b.core_is in
    let r = reaches w c request peer old asks cause.0 in
    let page : key_of w request ≡ Some key = farm-key w old request b ∙ cause.1 in
    let hit : IsHit w.farm w.log key answer = subst (λ f. IsHit f w.log key answer) (sym b.farm_is) (cause.2, cause.3) in
    let after = hit-after w c key request (owed-is w c request peer old asks) in
    rw is (record {
      gives = gives-note (only_disk disk_failed) w c request peer old (Hit c key) asks (λ m allows. inl (past-hidden m w c request (Hit c key) r.room r.up r.page r.admitted (inl (subst (IsPermitted w) (sym page) (answer, hit.0), (key, page, refl)))));
      cause = record { disk = told-failure old.faults faults disk_failed g.disk; spoils = λ spoils. absurd spoils; shows = λ ran_out. absurd (let no : ⊥ = cc in no) };
      behind_is = subst (BehindStandsFor (behind (record { core = core; flying = old.cache.flying; flushes = old.cache.flushes }) files faults)) (sym after)
          (behind-after old core files faults request peer disk_failed (got.Hit key answer) g w (state_after_hit w c key (Some request)) old.cache.flying old.cache.flushes b refl refl refl b.flying_is b.rising (sym (append-nil (flying_labels w.farm old.cache.flying))) b.flushing_is b.flushes_rise (sym (append-nil (flushing_numbers old.cache.flushes))));
      slicing_is = ap (λ (v : RunState). v.slicing) after ∙ asks.slicing_is;
      response = Cached w.farm w.log key;
      replies = hit;
      connection_is = λ m there. ap (λ (v : RunState). v.connection c) after ∙ update_here w.connection c _ ∙ ap (option_map (with_turn_slot (request_slot request false (Cached w.farm w.log key)))) there;
    })

-- ---- a request that is turned away
not-full : (flights stamps : ℕ) → flights < 256 → stamps < most_stamps → (nat_le 256 flights || nat_le most_stamps stamps) ≡ false
not-full flights stamps a b = or_from (nat_le 256 flights) (nat_le most_stamps stamps) (grind (arith, a)) (at_most stamps b)
  where
    at_most : (n : ℕ) → n < most_stamps → nat_le most_stamps n ≡ false
    at_most n l = grind (arith, l)

stamps-out : (w : RunState) (b : Behind) → BehindStandsFor b w → most_stamps ≤ drawn_of b.cache.core → IsTrue (are_stamps_drawn w)
stamps-out w b tied l = let same = drawn-is w.found b.files b.cache.core w.log tied.core_is in grind (arith, subst (λ n. most_stamps ≤ n) same l)

forbidden-spoils : (w : RunState) (c status : ℕ) (request : Request) (peer : List ℕ) (b : Behind) (disk_failed : Bool) → AsksCache w c request peer b → is_invalidation request ≡ true → Spoils w (Local c status) → IsTrue disk_failed
forbidden-spoils w c status request peer b disk_failed asks flush = local-spoils w c status request peer b disk_failed asks (λ owed. let page : is_invalidation request ≡ false = owed.no_invalidation in absurd (let no : ⊥ = cc in no))

may-answer : (w : RunState) (c : ℕ) (request : Request) (allowed : Bool) (r : Result Invalidation InvFault) (note : Note) → allowed ≡ true → invalidation_of request ≡ r → AnswersFlush w c r note → AnswersInvalidation allowed w c request note
may-answer w c request true r note is named answers = subst (λ x. AnswersFlush w c x note) (sym named) answers
may-answer w c request false r note is named answers = absurd (let no : ⊥ = cc in no)

full-flush : (w : RunState) (c : ℕ) (inv : Invalidation) → IsTrue (is_full_of_flushes w) → BeginsFlush (is_full_of_flushes w) w c inv (Local c 503)
full-flush w c inv full = subst (λ x. BeginsFlush x w c inv (Local c 503)) (sym full) refl

pub forbidden-note : (w : RunState) (c : ℕ) (request : Request) (peer : List ℕ) (b : Behind) (disk_failed : Bool) → AsksCache w c request peer b → b.cache.core.down ≡ false → is_invalidation request ≡ true → allows b.cache.core.farm.clients peer ≡ false → IsNoteOf disk_failed w c request (Local c 403)
forbidden-note w c request peer b disk_failed asks down flush denied = flush-note w c request peer b disk_failed (Local c 403) asks down flush (subst (λ x. AnswersInvalidation x w c request (Local c 403)) (sym denied) refl) (forbidden-spoils w c 403 request peer b disk_failed asks flush)

pub refused-note : (w : RunState) (c : ℕ) (request : Request) (peer : List ℕ) (b : Behind) (disk_failed : Bool) (fault : InvFault) → AsksCache w c request peer b → MayFlush b.cache.core request peer → invalidation_of request ≡ Err fault → IsNoteOf disk_failed w c request (Local c 400)
refused-note w c request peer b disk_failed fault asks may named = flush-note w c request peer b disk_failed (Local c 400) asks may.up may.flush (may-answer w c request _ (Err fault) (Local c 400) may.allowed named refl) (forbidden-spoils w c 400 request peer b disk_failed asks may.flush)

pub busy-note : (w : RunState) (c : ℕ) (request : Request) (peer : List ℕ) (b : Behind) (disk_failed : Bool) (inv : Invalidation) → AsksCache w c request peer b → MayFlush b.cache.core request peer → invalidation_of request ≡ Ok inv → IsTrue (is_full_of_flushes w)
    → IsNoteOf disk_failed w c request (Local c 503)
busy-note w c request peer b disk_failed inv asks may named full = flush-note w c request peer b disk_failed (Local c 503) asks may.up may.flush (may-answer w c request _ (Ok inv) (Local c 503) may.allowed named (full-flush w c inv full)) (forbidden-spoils w c 503 request peer b disk_failed asks may.flush)

pub full-purge : (w : RunState) (b : Behind) → BehindStandsFor b w → most_flushes ≤ length b.cache.core.queue.items → IsTrue (is_full_of_flushes w)
full-purge w b tied l = full-of (nat_le most_flushes (length w.flushes)) (are_stamps_drawn w) (inl (grind (arith, subst (λ n. most_flushes ≤ n) (flushes-many b w tied) l)))

pub full-air : (w : RunState) (b : Behind) → BehindStandsFor b w → most_flights ≤ length b.cache.core.flights → IsTrue (is_front_full w)
full-air w b tied l = full-of (nat_le most_flights (length w.flights)) (are_stamps_drawn w) (inl (grind (arith, subst (λ n. most_flights ≤ n) (flights-many b w tied) l)))

pub worn-note : (w : RunState) (c : ℕ) (request : Request) (peer : List ℕ) (b : Behind) (disk_failed : Bool) → AsksCache w c request peer b
    → (MayFlush b.cache.core request peer × HasRoomToFlush b.cache.core request) ⊎ ReachesPublisher b.cache.core w.log request disk_failed → most_stamps ≤ drawn_of b.cache.core → IsNoteOf disk_failed w c request (Local c 503)
worn-note w c request peer b disk_failed asks (inl flush) worn = busy-note w c request peer b disk_failed flush.1.named.0 asks flush.0 flush.1.named.1 (full-of (nat_le most_flushes (length w.flushes)) (are_stamps_drawn w) (inr (stamps-out w b asks.behind_is worn)))
worn-note w c request peer b disk_failed asks (inr page) worn = full-note w c request peer b disk_failed asks page.cache page.passed (full-of (nat_le most_flights (length w.flights)) (are_stamps_drawn w) (inr (stamps-out w b asks.behind_is worn)))

-- ---- a flight
labels-push : (farm : Farm) (flights : List Flying) (f : Flying) → flying_labels farm (flights ++ f ∷ []) ≡ flying_labels farm flights ++ (f.number, cache_key farm f.request) ∷ []
labels-push farm [] f = refl
labels-push farm (g ∷ flights) f = ap (λ ls. (g.number, cache_key farm g.request) ∷ ls) (labels-push farm flights f)

pub is-asked : (old : Behind) (core : Core) (files : Option Files) (faults : ℕ) (w : RunState) (c n : ℕ) (request : Request) (peer : List ℕ) (disk_failed : Bool) (key : Option PageKey) (answered : Answered) (flying : List Flying) → AsksCache w c request peer old
    → CoreGot old core files faults request peer disk_failed (got.Asked n key) → flying ≡ old.cache.flying ++ new_flight n c request ∷ []
    → answered ≡ record { note = asked n c key; reply = Awaits (flight_awaited n); closes = false; slices = false; conditions = only_disk disk_failed }
    → IsAnswered w c request answered old (behind (record { core = core; flying = flying; flushes = old.cache.flushes }) files faults)
is-asked old core files faults w c n request peer disk_failed key answered flying asks g added is =
    let b = asks.behind_is in
    let cause = g.cause w.found w.log b.core_is in
    let may = ((g.log w.found).allowed w.log b.core_is).0 in
    let r = reaches w c request peer old asks cause.0.cache in
    let page : key ≡ key_of w request = cause.1 ∙ sym (farm-key w old request b) in
    let number : n ≡ flights_asked w.log + 1 = may.1 in
    let next : asked n c key ≡ asked (flights_asked w.log + 1) c (key_of w request) = ap (λ x. asked x c key) number ∙ ap (asked (flights_asked w.log + 1) c) page in
    let free : is_front_full w ≡ false = not-full (length w.flights) (stamps_drawn w.log) (subst (λ x. x < 256) (flights-many old w b) cause.0.room) (subst (λ x. x < most_stamps) (drawn-is w.found old.files old.cache.core w.log b.core_is) cause.2) in
    let after : state_after_note w (asked n c key) ≡ state_after_ask w n c key (Some request) = ap (state_after_ask w n c key) (owed-is w c request peer old asks) in
    rw is (record {
      gives = gives-note (only_disk disk_failed) w c request peer old (asked n c key) asks (λ m allows. inl (past-hidden m w c request (asked n c key) r.room r.up r.page r.admitted
          (inr (λ owed. allows.disk_failed (owed-from w old request disk_failed b cause.0.passed owed), inr (λ full. let no : ⊥ = cc in no, inl (tt, next))))));
      cause = record { disk = told-failure old.faults faults disk_failed g.disk; spoils = λ spoils. owed-from w old request disk_failed b cause.0.passed (subst (IsOwed w.farm w.log) page spoils); shows = λ ran_out. absurd (let no : ⊥ = cc in no) };
      behind_is = subst (BehindStandsFor (behind (record { core = core; flying = flying; flushes = old.cache.flushes }) files faults)) (sym after)
          (behind-after old core files faults request peer disk_failed (got.Asked n key) g w (state_after_ask w n c key (Some request)) flying old.cache.flushes b refl refl refl
          (added ∙ ap (λ fs. fs ++ new_flight n c request ∷ []) b.flying_is)
          (rw added (subst (AirRises 0 (old.cache.flying ++ new_flight n c request ∷ [])) number (rising-push 0 old.cache.flying (flights_asked w.log) (new_flight n c request) b.rising (omega (arith, number)))))
          (rw added (labels-push w.farm old.cache.flying (new_flight n c request) ∙ ap (λ k. flying_labels w.farm old.cache.flying ++ (n, k) ∷ []) (sym page)))
          b.flushing_is b.flushes_rise (sym (append-nil (flushing_numbers old.cache.flushes))));
      slicing_is = ap (λ (v : RunState). v.slicing) after ∙ asks.slicing_is;
      response = Awaits_response (flight_awaited n);
      replies = refl;
      connection_is = λ m there. ap (λ (v : RunState). v.connection c) after ∙ update_here w.connection c _ ∙ ap (option_map (with_turn_slot (request_slot request false (Awaits_response (flight_awaited n))))) there;
    })

-- ---- a flush
numbers-push : (flushes : List Flushing) (f : Flushing) → flushing_numbers (flushes ++ f ∷ []) ≡ flushing_numbers flushes ++ f.number ∷ []
numbers-push [] f = refl
numbers-push (g ∷ flushes) f = ap (λ ns. g.number ∷ ns) (numbers-push flushes f)

flushes-push : (least : ℕ) (flushes : List Flushing) (most : ℕ) (f : Flushing) → AreFlushesRising least flushes most → most < f.number → AreFlushesRising least (flushes ++ f ∷ []) f.number
flushes-push least [] most f rising above = (omega (arith, rising, above), omega arith)
flushes-push least (g ∷ flushes) most f rising above = (rising.0, flushes-push g.number flushes most f rising.1 above)

slicing-begun : (w : RunState) (c n : ℕ) (inv : Invalidation) (request : Request) (flushes : List Flushing) (slices : Bool) → w.flushes ≡ flushes → slices ≡ (length flushes == 0) → IsSlicing slices c (state_after_flush w n c inv (Some request))
slicing-begun w c n inv request [] slices is first = rw (first, is) (n, refl, refl)
slicing-begun w c n inv request (f ∷ fs) slices is first =
    let quiet : slices ≡ false = first ∙ none-of (length fs) in
    rw (quiet, is) refl
  where
    none-of : (n : ℕ) → (suc n == 0) ≡ false
    none-of n = grind arith

pub is-begun : (old : Behind) (core : Core) (files : Option Files) (faults : ℕ) (w : RunState) (c n : ℕ) (request : Request) (peer : List ℕ) (disk_failed : Bool) (inv : Invalidation) (slices : Bool) (answered : Answered) (flushes : List Flushing) → AsksCache w c request peer old
    → CoreGot old core files faults request peer disk_failed (got.Flush n inv) → flushes ≡ old.cache.flushes ++ record { number = n; connection = c } ∷ [] → slices ≡ (length old.cache.flushes == 0)
    → answered ≡ record { note = Flush n c inv; reply = Awaits (flush_awaited n); closes = false; slices = slices; conditions = only_disk disk_failed }
    → IsAnswered w c request answered old (behind (record { core = core; flying = old.cache.flying; flushes = flushes }) files faults)
is-begun old core files faults w c n request peer disk_failed inv slices answered flushes asks g added first is =
    let b = asks.behind_is in
    let cause = g.cause w.found w.log b.core_is in
    let may = ((g.log w.found).allowed w.log b.core_is).0 in
    let number : n ≡ flushes_begun w.log + 1 = may.1 in
    let f : Flushing = record { number = n; connection = c } in
    let free : is_full_of_flushes w ≡ false = not-full (length w.flushes) (stamps_drawn w.log) (subst (λ x. x < 256) (flushes-many old w b) cause.2.room) (subst (λ x. x < most_stamps) (drawn-is w.found old.files old.cache.core w.log b.core_is) cause.3) in
    let begins : BeginsFlush (is_full_of_flushes w) w c inv (Flush n c inv) = subst (λ x. BeginsFlush x w c inv (Flush n c inv)) (sym free) (ap (λ x. Flush x c inv) number) in
    let by = flush-note w c request peer old disk_failed (Flush n c inv) asks cause.0.up cause.0.flush (may-answer w c request _ (Ok inv) (Flush n c inv) cause.0.allowed cause.1 begins) (λ spoils. absurd spoils) in
    let after : state_after_note w (Flush n c inv) ≡ state_after_flush w n c inv (Some request) = ap (state_after_flush w n c inv) (owed-is w c request peer old asks) in
    rw is (record {
      gives = gives-note (only_disk disk_failed) w c request peer old (Flush n c inv) asks (λ m allows. inl (by.first m allows.disk_failed));
      cause = record { disk = told-failure old.faults faults disk_failed g.disk; spoils = λ spoils. absurd spoils; shows = λ ran_out. absurd (let no : ⊥ = cc in no) };
      behind_is = subst (BehindStandsFor (behind (record { core = core; flying = old.cache.flying; flushes = flushes }) files faults)) (sym after)
          (behind-after old core files faults request peer disk_failed (got.Flush n inv) g w (state_after_flush w n c inv (Some request)) old.cache.flying flushes b refl refl refl
          b.flying_is b.rising (sym (append-nil (flying_labels w.farm old.cache.flying)))
          (added ∙ ap (λ fs. fs ++ f ∷ []) b.flushing_is)
          (rw added (subst (AreFlushesRising 0 (old.cache.flushes ++ f ∷ [])) number (flushes-push 0 old.cache.flushes (flushes_begun w.log) f b.flushes_rise (omega (arith, number)))))
          (rw added (numbers-push old.cache.flushes f)));
      slicing_is = subst (IsSlicing slices c) (sym after) (slicing-begun w c n inv request w.flushes slices refl (first ∙ ap (λ fs. length fs == 0) b.flushing_is));
      response = Awaits_response (flush_awaited n);
      replies = refl;
      connection_is = λ m there. ap (λ (v : RunState). v.connection c) after ∙ update_here w.connection c _ ∙ ap (option_map (with_turn_slot (request_slot request false (Awaits_response (flush_awaited n))))) there;
    })

-- ---- each refusal by its own cause
-- the cache is down, or has no room for what was asked
abbrev pub IsBusy : Got → Type 0
IsBusy got.Down = Unit {0}
IsBusy got.FullPurge = Unit {0}
IsBusy got.FullAir = Unit {0}
IsBusy got.Worn = Unit {0}
IsBusy _ = ⊥

pub is-down : (old : Behind) (core : Core) (files : Option Files) (faults : ℕ) (w : RunState) (c : ℕ) (request : Request) (peer : List ℕ) (disk_failed : Bool) (out : Got) (answered : Answered) → IsBusy out → AsksCache w c request peer old → CoreGot old core files faults request peer disk_failed out
    → answered ≡ record { note = Local c 503; reply = local_reply 503; closes = false; slices = false; conditions = only_disk disk_failed }
    → IsAnswered w c request answered old (behind (record { core = core; flying = old.cache.flying; flushes = old.cache.flushes }) files faults)
is-down old core files faults w c request peer disk_failed got.Down answered busy asks g is = is-local old core files faults w c 503 request peer disk_failed got.Down answered asks g refl refl refl (down-note w c request peer old disk_failed asks (g.cause w.found w.log asks.behind_is.core_is)) is
is-down old core files faults w c request peer disk_failed got.FullPurge answered busy asks g is =
    let cause = g.cause w.found w.log asks.behind_is.core_is in
    is-local old core files faults w c 503 request peer disk_failed got.FullPurge answered asks g refl refl refl (busy-note w c request peer old disk_failed cause.1.0 asks cause.0 cause.1.1 (full-purge w old asks.behind_is cause.2)) is
is-down old core files faults w c request peer disk_failed got.FullAir answered busy asks g is =
    let cause = g.cause w.found w.log asks.behind_is.core_is in
    is-local old core files faults w c 503 request peer disk_failed got.FullAir answered asks g refl refl refl (full-note w c request peer old disk_failed asks cause.0 cause.1 (full-air w old asks.behind_is cause.2)) is
is-down old core files faults w c request peer disk_failed got.Worn answered busy asks g is =
    let cause = g.cause w.found w.log asks.behind_is.core_is in
    is-local old core files faults w c 503 request peer disk_failed got.Worn answered asks g refl refl refl (worn-note w c request peer old disk_failed asks cause.0 cause.1) is
is-down old core files faults w c request peer disk_failed (got.Hit key answer) answered busy asks g is = absurd busy
is-down old core files faults w c request peer disk_failed (got.Asked ticket key) answered busy asks g is = absurd busy
is-down old core files faults w c request peer disk_failed (got.Flush n inv) answered busy asks g is = absurd busy
is-down old core files faults w c request peer disk_failed got.Denied answered busy asks g is = absurd busy
is-down old core files faults w c request peer disk_failed (got.FlushRefused fault) answered busy asks g is = absurd busy
is-down old core files faults w c request peer disk_failed got.FlushForbidden answered busy asks g is = absurd busy
is-down old core files faults w c request peer disk_failed got.NoMemory answered busy asks g is = absurd busy

pub is-forbidden : (old : Behind) (core : Core) (files : Option Files) (faults : ℕ) (w : RunState) (c : ℕ) (request : Request) (peer : List ℕ) (disk_failed : Bool) (answered : Answered) → AsksCache w c request peer old → CoreGot old core files faults request peer disk_failed got.FlushForbidden
    → answered ≡ record { note = Local c 403; reply = local_reply 403; closes = false; slices = false; conditions = only_disk disk_failed }
    → IsAnswered w c request answered old (behind (record { core = core; flying = old.cache.flying; flushes = old.cache.flushes }) files faults)
is-forbidden old core files faults w c request peer disk_failed answered asks g is =
    let cause = g.cause w.found w.log asks.behind_is.core_is in
    is-local old core files faults w c 403 request peer disk_failed got.FlushForbidden answered asks g refl refl refl (forbidden-note w c request peer old disk_failed asks cause.0 cause.1 cause.2) is

pub is-refused : (old : Behind) (core : Core) (files : Option Files) (faults : ℕ) (w : RunState) (c : ℕ) (request : Request) (peer : List ℕ) (disk_failed : Bool) (fault : InvFault) (answered : Answered) → AsksCache w c request peer old → CoreGot old core files faults request peer disk_failed (got.FlushRefused fault)
    → answered ≡ record { note = Local c 400; reply = local_reply 400; closes = false; slices = false; conditions = only_disk disk_failed }
    → IsAnswered w c request answered old (behind (record { core = core; flying = old.cache.flying; flushes = old.cache.flushes }) files faults)
is-refused old core files faults w c request peer disk_failed fault answered asks g is =
    let cause = g.cause w.found w.log asks.behind_is.core_is in
    is-local old core files faults w c 400 request peer disk_failed (got.FlushRefused fault) answered asks g refl refl refl (refused-note w c request peer old disk_failed fault asks cause.0 cause.1) is

pub is-denied : (old : Behind) (core : Core) (files : Option Files) (faults : ℕ) (w : RunState) (c : ℕ) (request : Request) (peer : List ℕ) (disk_failed : Bool) (answered : Answered) → AsksCache w c request peer old → CoreGot old core files faults request peer disk_failed got.Denied
    → answered ≡ record { note = Local c 404; reply = local_reply 404; closes = false; slices = false; conditions = only_disk disk_failed }
    → IsAnswered w c request answered old (behind (record { core = core; flying = old.cache.flying; flushes = old.cache.flushes }) files faults)
is-denied old core files faults w c request peer disk_failed answered asks g is =
    let cause = g.cause w.found w.log asks.behind_is.core_is in
    is-local old core files faults w c 404 request peer disk_failed got.Denied answered asks g refl refl refl (hidden-note w c request peer old disk_failed asks cause.0 cause.1 cause.2) is
