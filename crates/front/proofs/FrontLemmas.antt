-- Whole steps of a front.
use Rattle.std.proofs.Common.{◌≡◌, ℕ, ◌&&◌, ◌++◌, Bool, true, false, zero, suc, List, [], ◌∷◌, Option, Some, None, Result, Ok, Err, get_or, map, refl, ap, sym, subst, ◌∙◌, arith, inl, inr}
use Rattle.std.specs.Prelude.{◌==◌, ◌≢◌, IfOk, IsTrue, OnErr, OnOk, if◌then◌else◌, position, slice_get, slice_set}
use Rattle.std.proofs.lemmas.Bool.{ne_eqb}
use Rattle.std.specs.Ordering.{nat_cmp}
use Rattle.std.specs.BTreeMap.{BTreeMap, btree_map_len, get, WritesThrough}
use Rattle.sp_base.specs.declared.answer.Answer.{Answer}
use Rattle.sp_base.specs.declared.answer.Ask.{Ask}
use Rattle.sp_outside.specs.Files.{Files}
use Rattle.resource_tree.specs.Content.{Content}
use Rattle.any_config.specs.declared.farm.Farm.{Farm}
use Rattle.dispatch_rules.specs.Asking.{publisher_ask}
use Rattle.dispatch_rules.specs.Caching.{cache_key}
use Rattle.http_front.specs.Turns.{Waits}
use Rattle.cache_log.specs.Entries.{LogEntry, flights_asked}
use Rattle.cache_log.specs.Rules.{KeepsBound}
use Rattle.coherence_core.specs.Cores.{CoreStandsFor, StandsOver, flights_of, flushes_of}
use Rattle.coherence_core.specs.Sessions.{BeginsSession}
use Rattle.coherence_core.specs.declared.core_state.Core.{Core}
use Rattle.connections.specs.Connections.{Connection}
use Rattle.connections.specs.Slots.{fixed_answer}
use Rattle.run_events.specs.declared.conditions.Conditions.{Conditions}
use Rattle.run_events.specs.declared.flying.Flying.{Flying}
use Rattle.run_events.specs.declared.note.Note.{Note}
use Rattle.run_events.specs.declared.note.Note.TheVariants.{Answer as answered, Idle, Rendered}
use Rattle.run_events.specs.declared.step.Pick.{Pick}
use Rattle.run_events.specs.declared.step.Step.{Step}
use Rattle.run_events.specs.declared.step.Step.TheVariants.{Direct, Render}
use Rattle.run_events.specs.Events.{Event, Extends, IsOrFixed, RenderTo, after_event, is_picked, is_unrendered, condition_notes, picked_flight}
use Rattle.run_events.specs.Moves.{state_after_note, state_after_notes, content_rendered, flying_at, published_for, with_rendered, with_rendered_at}
use Rattle.run_events.specs.Publishers.{Publication, Publishing, direct_answer}
use Rattle.run_events.specs.States.{RunState}
use Rattle.run_events.proofs.StillEvents.{IsStillStep, step-same}
use Rattle.front.specs.Boards.{BoardAt, BoardMakesEvent, ReadAt, behind_board, event_of}
use Rattle.front.specs.Caches.{Behind, BehindStandsFor, CacheParts, behind, flying_labels, under_nothing}
use Rattle.front.specs.Fronts.{BeginsRun, FrontStandsFor, IsRenderGiven, MakesEvent}
use Rattle.front.specs.KeptConnections.{ConnectionStandsFor, ConnectionReads}
use Rattle.front.specs.declared.board.Board.{Board}
use Rattle.front.specs.declared.connection.Connection.{Connection as KeptConnection}
use Rattle.front.specs.declared.effect.Effect.{Effect}
use Rattle.front.proofs.BoardLemmas.{at-other, some-there}
use Rattle.front.proofs.CauseLemmas.{cause-one}
use Rattle.front.proofs.EventLemmas.{idle-cause}
use Rattle.front.proofs.FlightListLemmas.{found-none, found-some, get-within, got, place, rising-set}
use Rattle.front.proofs.StillLemmas.{event-session}

-- what follows from what an answer is
pub ok-map : {A E : Type 0} {P Q : A → Type 0} (r : Result A E) → IfOk r P → ((a : A) → P a → Q a) → IfOk r Q
ok-map (Ok a) p f = f a p
ok-map (Err e) p f = tt

pub ok-map-two : {A E : Type 0} {P Q R : A → Type 0} (r : Result A E) → IfOk r P → IfOk r Q → ((a : A) → P a → Q a → R a) → IfOk r R
ok-map-two (Ok a) p q f = f a p q
ok-map-two (Err e) p q f = tt

-- memory ran out where it says so, and the disk didn't fail
abbrev pub if_dry : Bool → Conditions
if_dry out_of_memory = record { disk_failed = false; out_of_memory = out_of_memory }

-- ---- a connection that is there reads
pub read-at : (b : Board) (open_connections : BTreeMap ℕ KeptConnection) (c : ℕ) (bytes : List ℕ) (k j : KeptConnection) → Some k ≡ get nat_cmp b.open_connections c → WritesThrough nat_cmp (nat_cmp c) b.open_connections j open_connections
    → ((m : Connection) → ConnectionStandsFor k m → ConnectionReads bytes m j) → ReadAt b (record { open_connections = open_connections; cache = b.cache }) c bytes
read-at b open_connections c bytes k j here writes reads =
    let updates = writes.3 (some-there _ k (sym here)) in
    record {
      before = k;
      after = j;
      before_is = sym here;
      after_is = updates.1;
      others = λ q other. updates.2 q (at-other c q other);
      count = writes.2;
      cache = refl;
      reads = reads;
    }

-- ---- an answer past the connections
pub either : {E : Type 0} (r : Result Answer E) (answer wanted : Answer) (out_of_memory : Bool) → IsRenderGiven r answer out_of_memory → IfOk r (λ a. a ≡ wanted) → IsOrFixed (if_dry out_of_memory) answer wanted
either (Ok a) answer wanted out_of_memory given ok = inl (given.0 ∙ ok, given.1)
either (Err e) answer wanted out_of_memory given ok = inr given

-- where memory runs out the answer is the fixed one
fixed-if-dry : (m : Conditions) (answer wanted : Answer) → IsOrFixed m answer wanted → IsTrue m.out_of_memory → answer ≡ fixed_answer
fixed-if-dry m answer wanted (inl own) out_of_memory = absurd (let not_out_of_memory : m.out_of_memory ≡ false = own.1 in let no : ⊥ = cc in no)
fixed-if-dry m answer wanted (inr fixed) out_of_memory = fixed.0

pub direct-event : (p : Publishing) (content later : Content) (b h : BoardAt) (target : List ℕ) (answer : Answer) (out_of_memory : Bool) (effect : Effect) → later ≡ content → h ≡ b
    → IsOrFixed (if_dry out_of_memory) answer (direct_answer p b.board.cache.core.farm content target) → effect.notes.items ≡ answered answer ∷ [] → effect.conditions ≡ if_dry out_of_memory → MakesEvent (FrontStandsFor p content b) (FrontStandsFor p later h) (Direct target) effect b.faults b.faults
direct-event p content later b h target answer out_of_memory effect same_content same_board given notes under = λ w stands.
    let wanted : direct_answer w.publishing w.farm w.content target ≡ direct_answer p b.board.cache.core.farm content target = rw (stands.publishing_is, stands.content_is, stands.board_is.behind_is.farm_is) refl in
    let or : IsOrFixed effect.conditions answer (direct_answer w.publishing w.farm w.content target) = rw (wanted, under) given in
    record {
      turns = [];
      ends = Waits;
      happens = (answer, or, notes);
      cause = rw (notes, under) (cause-one b.faults (if_dry out_of_memory) w (answered answer) (record { disk = refl; spoils = λ spoils. absurd spoils; shows = fixed-if-dry (if_dry out_of_memory) answer _ given }));
      stands = subst (FrontStandsFor p later h) (sym (ap (state_after_notes w) notes)) (record {
        publishing_is = stands.publishing_is;
        content_is = stands.content_is ∙ sym same_content;
        board_is = rw same_board stands.board_is;
      });
    }

-- ---- a flight is rendered
pub render-none : (p : Publishing) (content : Content) (b : BoardAt) (pick : Pick) (effect : Effect) → position (λ flying. is_picked pick flying && is_unrendered flying) b.board.cache.flying ≡ None → effect.notes.items ≡ Idle ∷ [] → effect.conditions ≡ under_nothing
    → MakesEvent (FrontStandsFor p content b) (FrontStandsFor p content b) (Render pick) effect b.faults b.faults
render-none p content b pick effect none notes under = λ w stands.
    let e : Event = event_of (Render pick) effect [] Waits in
    let no_flight : picked_flight pick is_unrendered w.flights ≡ None = ap (picked_flight pick is_unrendered) (sym stands.board_is.behind_is.flying_is) ∙ found-none (λ flying. is_picked pick flying && is_unrendered flying) b.board.cache.flying none in
    record {
      turns = [];
      ends = Waits;
      happens = subst (RenderTo w e) (sym no_flight) notes;
      cause = rw (notes, under) (idle-cause b.faults w);
      stands = subst (FrontStandsFor p content b) (sym (ap (state_after_notes w) notes)) stands;
    }

labels-set : (farm : Farm) (flights : List Flying) (at : ℕ) (f : Flying) (answer : Answer) → slice_get flights at ≡ Some f → flying_labels farm (slice_set flights at (with_rendered answer f)) ≡ flying_labels farm flights
labels-set farm [] at f answer here = absurd (let no : ⊥ = cc in no)
labels-set farm (g ∷ flights) zero f answer here = let same : g ≡ f = cc in ap (λ (h : Flying). (h.number, cache_key farm h.request) ∷ flying_labels farm flights) (sym same)
labels-set farm (g ∷ flights) (suc at) f answer here = ap (λ ls. (g.number, cache_key farm g.request) ∷ ls) (labels-set farm flights at f answer here)

behind-rendered : (old : Behind) (cache : CacheParts) (w : RunState) (at : ℕ) (f : Flying) (answer : Answer) → BehindStandsFor old w → slice_get old.cache.flying at ≡ Some f → cache.flying ≡ slice_set old.cache.flying at (with_rendered answer f) → cache.core ≡ old.cache.core → cache.flushes ≡ old.cache.flushes
    → BehindStandsFor (behind cache old.files old.faults) (state_after_note w (Rendered f.number answer))
behind-rendered old cache w at f answer tied here added core flushes = record {
  core_is = rw core tied.core_is;
  farm_is = rw core tied.farm_is;
  flying_is = added ∙ sym ((place 0 old.cache.flying (flights_asked w.log) at f tied.rising here).set answer) ∙ ap (map (with_rendered_at f.number answer)) tied.flying_is;
  rising = rw added (rising-set 0 old.cache.flying (flights_asked w.log) at f answer tied.rising here);
  flights_are = rw (core, added) (tied.flights_are ∙ sym (labels-set w.farm old.cache.flying at f answer here));
  flushing_is = flushes ∙ tied.flushing_is;
  flushes_are = rw (core, flushes) tied.flushes_are;
  flushes_rise = rw flushes tied.flushes_rise;
}

-- what was given for the flight's request: the answer, or the fixed one, and the content after it
pub record Renders (given : Publication) (content later : Content) (answer : Answer) (out_of_memory : Bool) : Type 0 where
  pub answer_is : IsOrFixed (if_dry out_of_memory) answer given.answer
  pub content_is : later ≡ (if answer.status == 507 then content else given.content)

pub renders : {E : Type 0} (r : Result Answer E) (given : Publication) (content later : Content) (answer : Answer) (out_of_memory : Bool) → IsRenderGiven r answer out_of_memory → IfOk r (λ a. a ≡ given.answer) → IfOk r (λ a. a.status ≢ 507) → OnOk r (later ≡ given.content)
    → OnErr r (later ≡ content) → Renders given content later answer out_of_memory
renders (Ok a) given content later answer out_of_memory gives ok status moves stays =
    let other : (answer.status == 507) ≡ false = rw gives.0 (ne_eqb a.status 507 status) in
    record { answer_is = inl (gives.0 ∙ ok, gives.1); content_is = moves ∙ rw other refl }
renders (Err e) given content later answer out_of_memory gives ok status moves stays =
    let fixed : (answer.status == 507) ≡ true = rw gives.0 refl in
    record { answer_is = inr gives; content_is = stays ∙ rw fixed refl }

-- what follows in the one case
pub ok-then : {A E : Type 0} {P Q : Type 0} (r : Result A E) → OnOk r P → (P → Q) → OnOk r Q
ok-then (Ok a) p f = f p
ok-then (Err e) p f = tt

-- what is asked for the flight at a place
asked-at : (farm : Farm) (ask : Ask) (added : List Flying) (at : ℕ) (found flying : Flying) → ask ≡ publisher_ask farm found.request → found ≡ get_or added at found → slice_get added at ≡ Some flying
    → ask ≡ publisher_ask farm flying.request
asked-at farm ask added at found flying asks is here = asks ∙ ap (λ (f : Flying). publisher_ask farm f.request) (got added at found flying is here)

pub answer-at : (p : Publishing) (content : Content) (farm : Farm) (ask : Ask) (added : List Flying) (at : ℕ) (found flying : Flying) (answer : Answer) → answer ≡ (p content ask).answer
    → ask ≡ publisher_ask farm found.request → found ≡ get_or added at found → slice_get added at ≡ Some flying → answer ≡ (p content (publisher_ask farm flying.request)).answer
answer-at p content farm ask added at found flying answer gives asks is here = gives ∙ ap (λ (a : Ask). (p content a).answer) (asked-at farm ask added at found flying asks is here)

pub content-at : (p : Publishing) (content later : Content) (farm : Farm) (ask : Ask) (added : List Flying) (at : ℕ) (found flying : Flying) → later ≡ (p content ask).content
    → ask ≡ publisher_ask farm found.request → found ≡ get_or added at found → slice_get added at ≡ Some flying → later ≡ (p content (publisher_ask farm flying.request)).content
content-at p content later farm ask added at found flying gives asks is here = gives ∙ ap (λ (a : Ask). (p content a).content) (asked-at farm ask added at found flying asks is here)

pub render-event : (p : Publishing) (content later : Content) (b mid h : BoardAt) (pick : Pick) (at n : ℕ) (answer copy : Answer) (out_of_memory : Bool) (effect : Effect) → mid ≡ b
    → position (λ flying. is_picked pick flying && is_unrendered flying) b.board.cache.flying ≡ Some at
    → ((f : Flying) → slice_get b.board.cache.flying at ≡ Some f → Renders (p content (publisher_ask b.board.cache.core.farm f.request)) content later answer out_of_memory)
    → copy ≡ answer → ((f : Flying) → slice_get mid.board.cache.flying at ≡ Some f → n ≡ f.number)
    → ((f : Flying) → slice_get mid.board.cache.flying at ≡ Some f → h.board.cache.flying ≡ slice_set mid.board.cache.flying at (with_rendered copy f)) → h.board.cache.core ≡ mid.board.cache.core → h.board.cache.flushes ≡ mid.board.cache.flushes
    → h.board.open_connections ≡ mid.board.open_connections → h.files ≡ mid.files → h.faults ≡ mid.faults
    → effect.notes.items ≡ Rendered n answer ∷ [] → effect.conditions ≡ if_dry out_of_memory → MakesEvent (FrontStandsFor p content b) (FrontStandsFor p later h) (Render pick) effect b.faults b.faults
render-event p content later b mid h pick at n answer copy out_of_memory effect same_board found given copied number added core flushes open_connections files faults notes under = λ w stands.
    let e : Event = event_of (Render pick) effect [] Waits in
    let tied = stands.board_is.behind_is in
    let found_at = found-some (λ flying. is_picked pick flying && is_unrendered flying) b.board.cache.flying at found in
    let there = get-within b.board.cache.flying at found_at.0 in
    let f = there.0 in
    let here : slice_get mid.board.cache.flying at ≡ Some f = ap (λ (x : BoardAt). slice_get x.board.cache.flying at) same_board ∙ there.1 in
    let some : picked_flight pick is_unrendered w.flights ≡ Some f = ap (picked_flight pick is_unrendered) (sym tied.flying_is) ∙ found_at.1 ∙ there.1 in
    let wanted : published_for w f.request ≡ p content (publisher_ask b.board.cache.core.farm f.request) = rw (stands.publishing_is, stands.content_is, tied.farm_is) refl in
    let gives : Renders (published_for w f.request) w.content later answer out_of_memory = rw (wanted, stands.content_is) (given f there.1) in
    let note : effect.notes.items ≡ Rendered f.number answer ∷ [] = notes ∙ ap (λ x. Rendered x answer ∷ []) (number f here) in
    let set : h.board.cache.flying ≡ slice_set b.board.cache.flying at (with_rendered answer f) =
    added f here ∙ ap (λ a. slice_set mid.board.cache.flying at (with_rendered a f)) copied ∙ ap (λ (x : BoardAt). slice_set x.board.cache.flying at (with_rendered answer f)) same_board in
    let same_lines : h.board.open_connections ≡ b.board.open_connections = open_connections ∙ ap (λ (x : BoardAt). x.board.open_connections) same_board in
    let number_is : flying_at f.number w.flights ≡ Some f = ap (flying_at f.number) (sym tied.flying_is) ∙ (place 0 b.board.cache.flying (flights_asked w.log) at f tied.rising there.1).at in
    let behind_is : BehindStandsFor (behind h.board.cache b.files b.faults) (state_after_note w (Rendered f.number answer)) = behind-rendered (behind_board b) h.board.cache w at f answer tied there.1 set (core ∙ ap (λ (x : BoardAt). x.board.cache.core) same_board) (flushes ∙ ap (λ (x : BoardAt). x.board.cache.flushes) same_board) in
    record {
      turns = [];
      ends = Waits;
      happens = subst (RenderTo w e) (sym some) (answer, rw under gives.answer_is, note);
      cause = rw (note, under) (cause-one b.faults (if_dry out_of_memory) w (Rendered f.number answer) (record { disk = refl; spoils = λ spoils. absurd spoils; shows = fixed-if-dry (if_dry out_of_memory) answer _ gives.answer_is }));
      stands = subst (FrontStandsFor p later h) (sym (ap (state_after_notes w) note)) (record {
        publishing_is = stands.publishing_is;
        content_is = ap (content_rendered w answer) number_is ∙ sym gives.content_is;
        board_is = record {
          open_connections = rw same_lines (record { each = stands.board_is.open_connections.each; count = stands.board_is.open_connections.count });
          behind_is = rw (files ∙ ap (λ (x : BoardAt). x.files) same_board, faults ∙ ap (λ (x : BoardAt). x.faults) same_board) behind_is;
          slicing_is = stands.board_is.slicing_is;
        };
      });
    }

-- ---- a step of the board
pub board-tells : (p : Publishing) (content : Content) (b h : BoardAt) (step : Step) (effect : Effect) → IsStillStep step → BoardMakesEvent b h step effect → MakesEvent (FrontStandsFor p content b) (FrontStandsFor p content h) step effect b.faults h.faults
board-tells p content b h step effect still tells = λ w stands.
    let done = tells w stands.board_is in
    let e : Event = event_of step effect done.turns done.ends in
    let stays = step-same w e step still done.happens in
    record {
      turns = done.turns;
      ends = done.ends;
      happens = done.happens;
      cause = done.cause;
      stands = record { publishing_is = stays.publishing ∙ stands.publishing_is; content_is = stays.content ∙ stands.content_is; board_is = done.stands };
    }

-- ---- the notes of a step
bound-of : ((found : ℕ) (files : Files) (core : Core) (log : List LogEntry) → StandsOver found files core log → KeepsBound core.farm found log) → (found : ℕ) (told : Option Files) (core : Core) (log : List LogEntry) → CoreStandsFor found told core log → KeepsBound core.farm found log
bound-of bound found None core log stands = absurd stands
bound-of bound found (Some files) core log stands = bound found files core log stands

pub extends : (p : Publishing) (content later : Content) (b h : BoardAt) (step : Step) (effect : Effect) (notes : List Note) → ((found : ℕ) (files : Files) (core : Core) (log : List LogEntry) → StandsOver found files core log → KeepsBound core.farm found log)
    → MakesEvent (FrontStandsFor p content b) (FrontStandsFor p later h) step effect b.faults h.faults → notes ≡ effect.notes.items ++ condition_notes effect.conditions → Extends (FrontStandsFor p content b) (FrontStandsFor p later h) b.faults h.faults step notes
extends p content later b h step effect notes bound tells is = record {
  extended = λ w before.
      let done = tells w before in
      let e : Event = event_of step effect done.turns done.ends in
      let tied = done.stands.board_is.behind_is in
      let stays = event-session w e in
      let kept : KeepsBound (after_event w e).farm (after_event w e).found (after_event w e).log = subst (λ f. KeepsBound f (after_event w e).found (after_event w e).log) (sym tied.farm_is) (bound-of bound (after_event w e).found h.files h.board.cache.core (after_event w e).log tied.core_is) in
      record {
        event = e;
        step_is = refl;
        notes_are = sym is;
        happens = (done.happens, done.cause.shows, subst (λ f. KeepsBound f w.found (after_event w e).log) stays.farm (subst (λ n. KeepsBound (after_event w e).farm n (after_event w e).log) stays.found kept));
        cause = record { disk = done.cause.disk; spoils = done.cause.spoils };
        stands = done.stands;
      };
}

-- ---- where a run begins
pub begins : (p : Publishing) (content : Content) (farm : Farm) (before : Option Files) (b : BoardAt) → BeginsSession farm before b.files b.board.cache.core → b.board.cache.core.farm ≡ farm → flights_of b.board.cache.core ≡ [] → flushes_of b.board.cache.core ≡ [] → b.board.cache.flying ≡ [] → b.board.cache.flushes ≡ []
    → ((c : ℕ) → get nat_cmp b.board.open_connections c ≡ None) → btree_map_len b.board.open_connections ≡ 0 → BeginsRun p content farm before b content
begins p content farm None b session farm_is flights flushes flying flushing none count = tt
begins p content farm (Some files) b session farm_is flights flushes flying flushing none count = λ log holds. record {
  publishing_is = refl;
  content_is = refl;
  board_is = record {
    open_connections = record { each = λ c. rw (none c) tt; count = count };
    behind_is = record {
      core_is = session log holds;
      farm_is = sym farm_is;
      flying_is = flying;
      rising = rw flying (omega arith);
      flights_are = rw (flights, flying) refl;
      flushing_is = flushing;
      flushes_are = flushes ∙ rw flushing refl;
      flushes_rise = rw flushing (omega arith);
    };
    slicing_is = refl;
  };
}
