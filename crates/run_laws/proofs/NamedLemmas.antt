-- In every run each key of a note is that of a page, and each handle a path.
use Rattle.std.proofs.Common.{◌≡◌, ◌+◌, ◌++◌, ◌&&◌, ◌∙◌, ℕ, zero, suc, Bool, true, false, not, cond, List, [], ◌∷◌, Option, Some, None, Result, Ok, Err, length, map, refl, ap, sym, subst, inl, inr, ⊎_elim}
use Rattle.std.specs.Prelude.{if◌then◌else◌, nat_eq, nat_le, slice_get}
use Rattle.std.specs.List.{find}
use Rattle.std.specs.Map.{update}
use Rattle.std.specs.Option.{option_map}
use Rattle.std.proofs.lemmas.Map.{update_apart, update_here}
use Rattle.std.proofs.lemmas.Bool.{cases_eq}
use Rattle.sp_base.specs.declared.answer.Answer.{Answer}
use Rattle.sp_base.specs.Requests.{Request}
use Rattle.sp_base.proofs.BoolLemmas.{or_first}
use Rattle.glob_rules.specs.Rules.{allows}
use Rattle.cover_rules.specs.declared.page.PageKey.{PageKey}
use Rattle.cover_rules.specs.declared.invalidation.Invalidation.{Invalidation}
use Rattle.invalidation.specs.Invalidations.{invalidation_of}
use Rattle.invalidation.specs.declared.inv_fault.InvFault.{InvFault}
use Rattle.http_front.specs.Turns.{End, SpellsTurns, Waits, Breaks}
use Rattle.http_front.specs.declared.turn.Turn.{Turn}
use Rattle.http_front.specs.declared.turn.Turn.TheVariants.{Continue, Whole}
use Rattle.cache_log.specs.Entries.{LogEntry, FlushOutcome, flights_asked, flushes_begun}
use Rattle.connections.specs.Slots.{Response, Slot, interim_slot, is_answered}
use Rattle.connections.specs.Connections.{Close, Connection, Due, Nothing, Refuse, Send, Treat, after_turn, due_at_end, due_at_slot, due_at_turn, due_without_sending, fresh, next_turn, with_due_continue, with_piece, with_slot}
use Rattle.connections.specs.Connections as model
use Rattle.run_events.specs.declared.conditions.Conditions.{Conditions}
use Rattle.run_events.specs.declared.flying.Flying.{Flying}
use Rattle.run_events.specs.declared.flying.Flushing.{Flushing}
use Rattle.run_events.specs.declared.note.Note.{Note}
use Rattle.run_events.specs.declared.note.Note.TheVariants.{Answer as answered, Ask as asked, Hit, Local, Flush, Sliced, Done, Failed, Rendered, Kept, Unkept, Passed, Lost, Sent, Shut, Refused, Idle, Up, Down, Hurt, OutOfMemory}
use Rattle.run_events.specs.declared.step.Step.{Step}
use Rattle.run_events.specs.declared.step.Step.TheVariants as step
use Rattle.run_events.specs.Points.{AnswersFlush, AnswersInvalidation, BeginsFlush, IsFirstPoint, is_full_of_flushes, key_of, peer_of, points}
use Rattle.run_events.specs.Moves.{GivesDue, GivesNext, Serves, due_if_open, due_of_connection, flying_at, flush_at, has_number, on_connection, over_with, state_after_ask, state_after_ending, state_after_flush, state_after_hit, state_after_note, state_after_notes, treated_request, with_rendered_at, with_turn_slot, air_without}
use Rattle.run_events.specs.Restarts.{without_connections}
use Rattle.run_events.specs.Events.{DeliverAs, DeliverTo, Event, HappensBy, LeadsNotes, LoseTo, MayLand, PieceTo, PurgeTo, RenderTo, Run, after_event, condition_notes, going, is_any, is_picked, is_rendered, is_unrendered, most_connections, notes_of, opening, picked_flight, state_after_going, state_after_opening, state_before_notes}
use Rattle.run_events.specs.States.{RunState, Start, start_of}
use Rattle.run_laws.specs.Named.{EventsNamePages, NamePages, NamesPage}
use Rattle.run_laws.proofs.FormLemmas.{AreCutNotes, IsCutNote, IsSliceNote, restart-cut, slice-form}
use Rattle.run_laws.proofs.RequestLemmas.{HasPath, HavePaths, KeysAreOfPaths, ReadsPaths, handle-of-request, key-of-page, turns-have-paths}
use Rattle.run_events.specs.Named.{IsHandle}

-- ---- lists
both-named : (a b : List Note) → NamePages a → NamePages b → NamePages (a ++ b)
both-named [] b first second = second
both-named (note ∷ a) b first second = (first.0, both-named a b first.1 second)

conditions-named : (m : Conditions) → NamePages (condition_notes m)
conditions-named m = by_both m.disk_failed m.out_of_memory
  where
    by_both : (a b : Bool) → NamePages ((if a then Hurt ∷ [] else []) ++ (if b then OutOfMemory ∷ [] else []))
    by_both true true = (tt, (tt, tt))
    by_both true false = (tt, tt)
    by_both false true = (tt, tt)
    by_both false false = tt

-- the requests of the flights have paths
abbrev pub FlightsHavePaths : List Flying → Type 0
FlightsHavePaths [] = Unit {0}
FlightsHavePaths (f ∷ flights) = HasPath f.request × FlightsHavePaths flights

push-named : (flights : List Flying) (f : Flying) → FlightsHavePaths flights → HasPath f.request → FlightsHavePaths (flights ++ f ∷ [])
push-named [] f all has = (has, tt)
push-named (g ∷ flights) f all has = (all.0, push-named flights f all.1 has)

air_without-named : (n : ℕ) (flights : List Flying) → FlightsHavePaths flights → FlightsHavePaths (air_without n flights)
air_without-named n [] all = tt
air_without-named n (f ∷ flights) all = by_test (has_number n f) (air_without-named n flights all.1)
  where
    by_test : (b : Bool) → FlightsHavePaths (air_without n flights) → FlightsHavePaths (cond (not b) (f ∷ air_without n flights) (air_without n flights))
    by_test true rest = rest
    by_test false rest = (all.0, rest)

rendered-named : (n : ℕ) (a : Answer) (flights : List Flying) → FlightsHavePaths flights → FlightsHavePaths (map (with_rendered_at n a) flights)
rendered-named n a [] all = tt
rendered-named n a (f ∷ flights) all = (by_test (has_number n f), rendered-named n a flights all.1)
  where
    by_test : (b : Bool) → HasPath (if b then record f { rendered = Some a } else f).request
    by_test true = all.0
    by_test false = all.0

found-named : (test : Flying → Bool) (flights : List Flying) (f : Flying) → FlightsHavePaths flights → find test flights ≡ Some f → HasPath f.request
found-named test [] f all e = absurd (let no : ⊥ = cc in no)
found-named test (g ∷ flights) f all e = by_test (test g) refl (found-named test flights f all.1)
  where
    by_test : (b : Bool) → test g ≡ b → (find test flights ≡ Some f → HasPath f.request) → HasPath f.request
    by_test true passes rest = let some : Some g ≡ Some f = rw passes at e in let same : g ≡ f = cc (some) in subst (λ (x : Flying). HasPath x.request) same all.0
    by_test false passes rest = rest (rw passes at e)

-- ---- connections
-- each request that is still to be treated has a path
abbrev pub TurnsHavePaths : (ℕ → Option Connection) → Type 0
TurnsHavePaths connection = (c : ℕ) (k : Connection) → connection c ≡ Some k → k.closing ≡ false → HavePaths k.turns

-- no turn comes, and what was closing is closing
abbrev Keeps : Connection → Connection → Type 0
Keeps c d = d.closing ≡ false → (c.closing ≡ false) × (d.turns ≡ c.turns)

slot-keeps : (slot : Slot) (c : Connection) → Keeps c (with_slot slot c)
slot-keeps slot c e = (or_first c.closing slot.closes e, refl)

turn-keeps : (turn : Option Turn) (c : Connection) → Keeps c (after_turn turn c)
turn-keeps None c e = (e, refl)
turn-keeps (Some Continue) c e = slot-keeps interim_slot c e
turn-keeps (Some (Whole request)) c e = (e, refl)

continue-keeps : (c : Connection) → Keeps c (with_due_continue c)
continue-keeps c = by_test c.closing
  where
    by_test : (b : Bool) → Keeps c (if b then c else after_turn (next_turn c) c)
    by_test true e = (e, refl)
    by_test false e = turn-keeps (next_turn c) c e

turn-slot-keeps : (slot : Slot) (c : Connection) → Keeps c (with_turn_slot slot c)
turn-slot-keeps slot c e =
    let second = continue-keeps (with_slot slot c) e in
    let first = slot-keeps slot c second.0 in (first.0, second.1 ∙ first.1)

update-named : (connection : ℕ → Option Connection) (c : ℕ) (now : Option Connection) → TurnsHavePaths connection → ((k : Connection) → now ≡ Some k → k.closing ≡ false → HavePaths k.turns) → TurnsHavePaths (update nat_eq connection c now)
update-named connection c now named here q k e closed = ⊎_elim
    (λ same. here k (sym (subst (λ x. update nat_eq connection c now x ≡ now) same (update_here connection c now)) ∙ e) closed)
    (λ apart. named q k (sym (update_apart connection c now q (λ x. apart (sym x))) ∙ e) closed)
    (cases_eq c q)

none-named : (connection : ℕ → Option Connection) (c : ℕ) → TurnsHavePaths connection → TurnsHavePaths (update nat_eq connection c None)
none-named connection c named = update-named connection c None named (λ k e closed. absurd (let never : ⊥ = cc in never))

map-named : (connection : ℕ → Option Connection) (c : ℕ) (f : Connection → Connection) → ((j : Connection) → Keeps j (f j)) → TurnsHavePaths connection → TurnsHavePaths (update nat_eq connection c (option_map f (connection c)))
map-named connection c f keeps named = update-named connection c (option_map f (connection c)) named (λ k e closed. by_open (connection c) refl k e closed)
  where
    by_open : (o : Option Connection) → connection c ≡ o → (k : Connection) → option_map f o ≡ Some k → k.closing ≡ false → HavePaths k.turns
    by_open None is k e closed = absurd (let never : ⊥ = cc in never)
    by_open (Some j) is k e closed =
        let same : f j ≡ k = cc (e) in
        let kept = keeps j (ap (λ (x : Connection). x.closing) same ∙ closed) in
        subst (λ (x : Connection). HavePaths x.turns) same (subst HavePaths (sym kept.1) (named c j is kept.0))

-- ---- states
-- what is treated later, and what is in the air, has paths
pub record Named (w : RunState) : Type 0 where
  pub turns : TurnsHavePaths w.connection
  pub flights : FlightsHavePaths w.flights

ask-named : (w : RunState) (n c : ℕ) (key : Option PageKey) (at : Option Request) → Named w → ((request : Request) → at ≡ Some request → HasPath request) → Named (state_after_ask w n c key at)
ask-named w n c key None named has = named
ask-named w n c key (Some request) named has = record {
  turns = map-named w.connection c _ (turn-slot-keeps _) named.turns;
  flights = push-named w.flights _ named.flights (has request refl);
}

hit-named : (w : RunState) (c : ℕ) (key : PageKey) (at : Option Request) → Named w → Named (state_after_hit w c key at)
hit-named w c key None named = named
hit-named w c key (Some request) named = record { turns = map-named w.connection c _ (turn-slot-keeps _) named.turns; flights = named.flights }

flush-named : (w : RunState) (v c : ℕ) (inv : Invalidation) (at : Option Request) → Named w → Named (state_after_flush w v c inv at)
flush-named w v c inv None named = named
flush-named w v c inv (Some request) named = record { turns = map-named w.connection c _ (turn-slot-keeps _) named.turns; flights = named.flights }

ending-named : (w : RunState) (v : ℕ) (outcome : FlushOutcome) (response : Response) (at : Option Flushing) → Named w → Named (state_after_ending w v outcome response at)
ending-named w v outcome response None named = named
ending-named w v outcome response (Some flush) named = record { turns = map-named w.connection flush.connection _ (λ j e. (e, refl)) named.turns; flights = named.flights }

over-named : (w : RunState) (n : ℕ) (answer : Answer) (entry : LogEntry) (at : Option Flying) → Named w → Named (over_with w n answer entry at)
over-named w n answer entry None named = named
over-named w n answer entry (Some f) named = record { turns = map-named w.connection f.connection _ (λ j e. (e, refl)) named.turns; flights = air_without-named n w.flights named.flights }

-- the note asks for nothing
abbrev AsksNothing : Note → Type 0
AsksNothing (asked n c key) = ⊥
AsksNothing _ = Unit {0}

rest-named : (w : RunState) (note : Note) → AsksNothing note → Named w → Named (state_after_note w note)
rest-named w (asked n c key) is named = absurd is
rest-named w (Hit c key) is named = hit-named w c key (treated_request (due_of_connection w c)) named
rest-named w (Local c status) is named = record { turns = map-named w.connection c _ (λ j. turn-slot-keeps _ j) named.turns; flights = named.flights }
rest-named w (Flush v c inv) is named = flush-named w v c inv (treated_request (due_of_connection w c)) named
rest-named w (Sliced v) is named = record { turns = named.turns; flights = named.flights }
rest-named w (Done v) is named = ending-named w v _ _ (flush_at v w.flushes) named
rest-named w (Failed v failure) is named = ending-named w v _ _ (flush_at v w.flushes) named
rest-named w (Rendered n answer) is named = record { turns = named.turns; flights = rendered-named n answer w.flights named.flights }
rest-named w (Kept n key) is named = over-named w n _ _ (flying_at n w.flights) named
rest-named w (Unkept n) is named = over-named w n _ _ (flying_at n w.flights) named
rest-named w (Passed n) is named = over-named w n _ _ (flying_at n w.flights) named
rest-named w (Lost n) is named = over-named w n _ _ (flying_at n w.flights) named
rest-named w (Sent c bytes) is named = record { turns = map-named w.connection c _ (λ j e. (e, refl)) named.turns; flights = named.flights }
rest-named w (Shut c) is named = record { turns = none-named w.connection c named.turns; flights = named.flights }
rest-named w (Up epoch) is named = record { turns = named.turns; flights = named.flights }
rest-named w Down is named = record { turns = named.turns; flights = named.flights }
rest-named w note is named = named

-- ---- the request that is treated
at-has-path : (turns : List Turn) (n : ℕ) (request : Request) → HavePaths turns → slice_get turns n ≡ Some (Whole request) → HasPath request
at-has-path [] n request all e = absurd (let never : ⊥ = cc in never)
at-has-path (Continue ∷ turns) zero request all e = absurd (let never : ⊥ = cc in never)
at-has-path (Whole first ∷ turns) zero request all e =
    let same : first ≡ request = cc (e) in subst HasPath same all.0
at-has-path (Continue ∷ turns) (suc n) request all e = at-has-path turns n request all e
at-has-path (Whole first ∷ turns) (suc n) request all e = at-has-path turns n request all.1 e

-- a turn that is due is the next one, of a connection that isn't closing
pub record IsNext (k : Connection) (turn : Turn) : Type 0 where
  pub reads_on : k.closing ≡ false
  pub next : next_turn k ≡ Some turn

end-treats : (end : End) (turn : Turn) → due_at_end end ≡ Treat turn → ⊥
end-treats Waits turn e = cc (e)
end-treats (Breaks fault) turn e = cc (e)

turn-treats : (o : Option Turn) (end : End) (turn : Turn) → due_at_turn o end ≡ Treat turn → o ≡ Some turn
turn-treats None end turn e = absurd (end-treats end turn e)
turn-treats (Some t) end turn e = cc (e)

free-treats : (k : Connection) (turn : Turn) → due_without_sending k ≡ Treat turn → IsNext k turn
free-treats k turn e = by_both k.over k.closing refl e
  where
    by_both : (over closing : Bool) → k.closing ≡ closing → (if over then Close else (if closing then Nothing else due_at_turn (next_turn k) k.ends)) ≡ Treat turn → IsNext k turn
    by_both true closing is e = absurd (let never : ⊥ = cc in never)
    by_both false true is e = absurd (let never : ⊥ = cc in never)
    by_both false false is e = record { reads_on = is; next = turn-treats (next_turn k) k.ends turn e }

slot-treats : (k : Connection) (slot : Option Slot) (turn : Turn) → due_at_slot slot k ≡ Treat turn → IsNext k turn
slot-treats k None turn e = free-treats k turn e
slot-treats k (Some slot) turn e = by_answer (is_answered slot.response) e
  where
    by_answer : (b : Bool) → (if b then Send slot else due_without_sending k) ≡ Treat turn → IsNext k turn
    by_answer true e = absurd (let never : ⊥ = cc in never)
    by_answer false e = free-treats k turn e

pub due-treats : (k : Connection) (turn : Turn) → model.due k ≡ Treat turn → IsNext k turn
due-treats k turn e = by_over k.over e
  where
    by_over : (b : Bool) → (if b then Close else due_at_slot (slice_get k.slots k.sent) k) ≡ Treat turn → IsNext k turn
    by_over true e = absurd (let never : ⊥ = cc in never)
    by_over false e = slot-treats k (slice_get k.slots k.sent) turn e

treated-has-path : (w : RunState) (c : ℕ) (request : Request) → Named w → due_of_connection w c ≡ Treat (Whole request) → HasPath request
treated-has-path w c request named e = by_open (w.connection c) refl e
  where
    by_open : (o : Option Connection) → w.connection c ≡ o → due_if_open o ≡ Treat (Whole request) → HasPath request
    by_open None is e = absurd (let never : ⊥ = cc in never)
    by_open (Some k) is e =
        let at = due-treats k (Whole request) e in
        at-has-path k.turns (length k.slots) request (named.turns c k is at.reads_on) at.next

-- ---- notes
-- the note is so, and what comes after it
pub record NoteNamed (w : RunState) (note : Note) : Type 0 where
  pub names : NamesPage note
  pub state : Named (state_after_note w note)

pub record NotesNamed (w : RunState) (notes : List Note) : Type 0 where
  pub names : NamePages notes
  pub state : Named (state_after_notes w notes)

-- a note that names neither
abbrev NamesNothing : Note → Type 0
NamesNothing (asked n c key) = ⊥
NamesNothing (Hit c key) = ⊥
NamesNothing (Flush v c inv) = ⊥
NamesNothing (Kept n key) = ⊥
NamesNothing _ = Unit {0}

plain-named : (w : RunState) (note : Note) → NamesNothing note → Named w → NoteNamed w note
plain-named w (asked n c key) is named = absurd is
plain-named w (Hit c key) is named = absurd is
plain-named w (Flush v c inv) is named = absurd is
plain-named w (Kept n key) is named = absurd is
plain-named w (answered answer) is named = record { names = tt; state = named }
plain-named w (Local c status) is named = record { names = tt; state = rest-named w (Local c status) tt named }
plain-named w (Sliced v) is named = record { names = tt; state = rest-named w (Sliced v) tt named }
plain-named w (Done v) is named = record { names = tt; state = rest-named w (Done v) tt named }
plain-named w (Failed v failure) is named = record { names = tt; state = rest-named w (Failed v failure) tt named }
plain-named w (Rendered n answer) is named = record { names = tt; state = rest-named w (Rendered n answer) tt named }
plain-named w (Unkept n) is named = record { names = tt; state = rest-named w (Unkept n) tt named }
plain-named w (Passed n) is named = record { names = tt; state = rest-named w (Passed n) tt named }
plain-named w (Lost n) is named = record { names = tt; state = rest-named w (Lost n) tt named }
plain-named w (Sent c bytes) is named = record { names = tt; state = rest-named w (Sent c bytes) tt named }
plain-named w (Shut c) is named = record { names = tt; state = rest-named w (Shut c) tt named }
plain-named w (Refused c) is named = record { names = tt; state = named }
plain-named w Idle is named = record { names = tt; state = named }
plain-named w (Up epoch) is named = record { names = tt; state = rest-named w (Up epoch) tt named }
plain-named w Down is named = record { names = tt; state = rest-named w Down tt named }
plain-named w Hurt is named = record { names = tt; state = named }
plain-named w OutOfMemory is named = record { names = tt; state = named }

slice-named : (w : RunState) (v : ℕ) (note : Note) → IsSliceNote v note → Named w → NoteNamed w note
slice-named w v note (inl done) named = rw done (plain-named w (Done v) tt named)
slice-named w v note (inr (inl sliced)) named = rw sliced (plain-named w (Sliced v) tt named)
slice-named w v note (inr (inr failed)) named = rw failed.1 (plain-named w (Failed v failed.0) tt named)

idle-named : (w : RunState) (notes : List Note) → Named w → notes ≡ Idle ∷ [] → NotesNamed w notes
idle-named w notes named is = rw is (record { names = (tt, tt); state = named })

cuts-named : (w : RunState) (notes : List Note) → AreCutNotes notes → Named w → NotesNamed w notes
cuts-named w [] are named = record { names = tt; state = named }
cuts-named w (note ∷ notes) are named =
    let one = plain-named w note (cut-nothing note are.0) named in
    let rest = cuts-named (state_after_note w note) notes are.1 one.state in
    record { names = (one.names, rest.names); state = rest.state }
  where
    cut-nothing : (n : Note) → IsCutNote n → NamesNothing n
    cut-nothing (Lost n) is = tt
    cut-nothing (Failed v failure) is = tt
    cut-nothing (Shut c) is = tt
    cut-nothing (Up epoch) is = tt
    cut-nothing Down is = tt
    cut-nothing n is = absurd is

module _ (reads : ReadsPaths) (keys : KeysAreOfPaths) where
  begins_named : (w : RunState) (c : ℕ) (full : Bool) (inv : Invalidation) (note : Note) → IsHandle inv.handle → Named w → BeginsFlush full w c inv note → NoteNamed w note
  begins_named w c true inv note is named gives = rw gives (plain-named w (Local c 503) tt named)
  begins_named w c false inv note is named gives = rw gives (record { names = is; state = rest-named w (Flush (flushes_begun w.log + 1) c inv) tt named })

  flushes_named : (w : RunState) (c : ℕ) (request : Request) (read : Result Invalidation InvFault) (note : Note) → invalidation_of request ≡ read → Named w → AnswersFlush w c read note → NoteNamed w note
  flushes_named w c request (Err fault) note from named gives = rw gives (plain-named w (Local c 400) tt named)
  flushes_named w c request (Ok inv) note from named gives = begins_named w c (is_full_of_flushes w) inv note (handle-of-request reads request inv from) named gives

  invalidation_named : (w : RunState) (c : ℕ) (request : Request) (may : Bool) (note : Note) → Named w → AnswersInvalidation may w c request note → NoteNamed w note
  invalidation_named w c request false note named gives = rw gives (plain-named w (Local c 403) tt named)
  invalidation_named w c request true note named gives = flushes_named w c request (invalidation_of request) note refl named gives

  first_named : (m : Conditions) (w : RunState) (c : ℕ) (request : Request) (note : Note) → HasPath request → treated_request (due_of_connection w c) ≡ Some request → Named w → IsFirstPoint m w c request note points → NoteNamed w note
  first_named m w c request note has treated named (inl crowded) = rw crowded.1 (plain-named w (Local c 503) tt named)
  first_named m w c request note has treated named (inr (_, inl fallen)) = rw fallen.1 (plain-named w (Local c 503) tt named)
  first_named m w c request note has treated named (inr (_, inr (_, inl inv))) = invalidation_named w c request (allows w.farm.clients (peer_of (w.connection c))) note named inv.1
  first_named m w c request note has treated named (inr (_, inr (_, inr (_, inl hidden)))) = rw hidden.1 (plain-named w (Local c 404) tt named)
  first_named m w c request note has treated named (inr (_, inr (_, inr (_, inr (_, inl held))))) =
      rw held.1.2 (record { names = key-of-page keys w.farm request (Some held.1.0) has held.1.1; state = rest-named w (Hit c held.1.0) tt named })
  first_named m w c request note has treated named (inr (_, inr (_, inr (_, inr (_, inr (_, inl full)))))) = rw full.1 (plain-named w (Local c 503) tt named)
  first_named m w c request note has treated named (inr (_, inr (_, inr (_, inr (_, inr (_, inr (_, inl free))))))) =
      rw free.1 (record {
        names = key-of-page keys w.farm request (key_of w request) has refl;
        state = ask-named w (flights_asked w.log + 1) c (key_of w request) (treated_request (due_of_connection w c)) named (λ other is. let some : Some request ≡ Some other = sym treated ∙ is in let same : request ≡ other = cc (some) in subst HasPath same has);
      })
  first_named m w c request note has treated named (inr (_, inr (_, inr (_, inr (_, inr (_, inr (_, inr (never, _)))))))) = absurd never

  gives_named : (m : Conditions) (w : RunState) (c : ℕ) (owed : Due) (note : Note) → due_of_connection w c ≡ owed → Named w → GivesDue m w c owed note → NoteNamed w note
  gives_named m w c (Send slot) note is named gives = rw gives.1 (plain-named w (Sent c gives.0) tt named)
  gives_named m w c (Treat Continue) note is named gives = absurd gives
  gives_named m w c (Treat (Whole request)) note is named (inl first) = first_named m w c request note (treated-has-path w c request named is) (ap treated_request is) named first
  gives_named m w c (Treat (Whole request)) note is named (inr out_of_memory) = rw out_of_memory.1 (plain-named w (Local c 507) tt named)
  gives_named m w c (Refuse fault) note is named gives = rw gives (plain-named w (Local c _) tt named)
  gives_named m w c Close note is named gives = rw gives (plain-named w (Shut c) tt named)
  gives_named m w c Nothing note is named gives = absurd gives

  next_named : (m : Conditions) (w : RunState) (c : ℕ) (slicing : Option ℕ) (note : Note) → Named w → GivesNext m w c slicing note → NoteNamed w note
  next_named m w c None note named gives = gives_named m w c (due_of_connection w c) note refl named gives
  next_named m w c (Some v) note named gives = slice-named w v note (slice-form m v note gives) named

  serves_named : (m : Conditions) (w : RunState) (c : ℕ) (notes : List Note) → Named w → Serves m w c notes → NotesNamed w notes
  serves_named m w c [] named serves = record { names = tt; state = named }
  serves_named m w c (note ∷ notes) named serves =
      let one = next_named m w c w.slicing note named serves.0 in
      let rest = serves_named m (state_after_note w note) c notes one.state serves.1 in
      record { names = (one.names, rest.names); state = rest.state }

  leads_named : (w : RunState) (m : Conditions) (first : Note) (c : ℕ) (notes : List Note) → NoteNamed w first → LeadsNotes w m first c notes → NotesNamed w notes
  leads_named w m first c notes one leads =
      let rest = serves_named m (state_after_note w first) c leads.rest one.state leads.settles.serves in
      rw leads.begins (record { names = (one.names, rest.names); state = rest.state })

  -- ---- events
  opened_named : (w : RunState) (c : ℕ) (peer : List ℕ) (notes : List Note) (at : Option Connection) → Named w → notes ≡ opening c w.connection_count at → NotesNamed (state_after_opening w c peer at) notes
  opened_named w c peer notes (Some k) named is = idle-named w notes named is
  opened_named w c peer notes None named is = by_room (nat_le most_connections w.connection_count) is
    where
      v : RunState
      v = record w { connection = update nat_eq w.connection c (Some (fresh peer)); connection_count = w.connection_count + 1 }

      new : (k : Connection) → Some (fresh peer) ≡ Some k → k.closing ≡ false → HavePaths k.turns
      new k e closed = let same : fresh peer ≡ k = cc (e) in subst (λ (x : Connection). HavePaths x.turns) same tt

      by_room : (full : Bool) → notes ≡ (if full then Refused c ∷ [] else []) → NotesNamed (if full then w else v) notes
      by_room true is = rw is (record { names = (tt, tt); state = named })
      by_room false is = rw is (record { names = tt; state = record { turns = update-named w.connection c (Some (fresh peer)) named.turns new; flights = named.flights } })

  gone_named : (w : RunState) (c : ℕ) (notes : List Note) (at : Option Connection) → Named w → notes ≡ going at → NotesNamed (state_after_going w c at) notes
  gone_named w c notes None named is = idle-named w notes named is
  gone_named w c notes (Some k) named is = rw is (record { names = tt; state = record { turns = none-named w.connection c named.turns; flights = named.flights } })

  -- a piece that is read
  read_named : (k : Connection) (bytes : List ℕ) (turns : List Turn) (ends : End) → (k.closing ≡ false → SpellsTurns (k.stream ++ bytes) (k.turns ++ turns) ends) → (with_piece bytes turns ends k).closing ≡ false → HavePaths (with_piece bytes turns ends k).turns
  read_named k bytes turns ends spells closed = by_closing k.closing refl closed
    where
      fed : Connection
      fed = record k { stream = k.stream ++ bytes; turns = k.turns ++ turns; ends = ends }

      by_closing : (b : Bool) → k.closing ≡ b → (if b then k else with_due_continue fed).closing ≡ false → HavePaths (if b then k else with_due_continue fed).turns
      by_closing true is closed = absurd (let never : ⊥ = cc in never)
      by_closing false is closed = subst HavePaths (sym (continue-keeps fed closed).1) (turns-have-paths reads (k.stream ++ bytes) (k.turns ++ turns) ends (spells is))

  piece_named : (w : RunState) (e : Event) (c : ℕ) (bytes : List ℕ) (at : Option Connection) → w.connection c ≡ at → Named w → PieceTo w e c bytes at → NotesNamed (on_connection w c (with_piece bytes e.turns e.ends)) e.body
  piece_named w e c bytes None at named is = idle-named _ e.body (record {
    turns = update-named w.connection c (option_map (with_piece bytes e.turns e.ends) (w.connection c)) named.turns (λ k some closed. absurd (let none : option_map (with_piece bytes e.turns e.ends) (w.connection c) ≡ None = ap (option_map (with_piece bytes e.turns e.ends)) at in let never : ⊥ = cc (none, some) in never));
    flights = named.flights;
  }) is
  piece_named w e c bytes (Some k) at named feeds = serves_named e.conditions (on_connection w c (with_piece bytes e.turns e.ends)) c e.body (record {
    turns = update-named w.connection c (option_map (with_piece bytes e.turns e.ends) (w.connection c)) named.turns (λ j some closed.
        let now : Some (with_piece bytes e.turns e.ends k) ≡ Some j = sym (ap (option_map (with_piece bytes e.turns e.ends)) at) ∙ some in
        let same : with_piece bytes e.turns e.ends k ≡ j = cc (now) in
        subst (λ (x : Connection). HavePaths x.turns) same (read_named k bytes e.turns e.ends feeds.spells (ap (λ (x : Connection). x.closing) same ∙ closed)));
    flights = named.flights;
  }) feeds.settles.serves

  render_named : (w : RunState) (e : Event) (flying : Option Flying) → Named w → RenderTo w e flying → NotesNamed w e.body
  render_named w e None named is = idle-named w e.body named is
  render_named w e (Some f) named to =
      let one = plain-named w (Rendered f.number to.0) tt named in
      rw to.2 (record { names = (tt, tt); state = one.state })

  landing_named : (w : RunState) (m : Conditions) (f : Flying) (answer : Answer) (note : Note) → HasPath f.request → Named w → MayLand w m f answer note → NoteNamed w note
  landing_named w m f answer note has named (inl kept) =
      rw kept.2 (record { names = key-of-page keys w.farm f.request (Some kept.0) has kept.1; state = rest-named w (Kept f.number kept.0) tt named })
  landing_named w m f answer note has named (inr (inl unkept)) = rw unkept.0 (plain-named w (Unkept f.number) tt named)
  landing_named w m f answer note has named (inr (inr passed)) = rw passed.0 (plain-named w (Passed f.number) tt named)

  deliver_named : (w : RunState) (e : Event) (f : Flying) (answer : Option Answer) → HasPath f.request → Named w → DeliverAs w e f answer → NotesNamed w e.body
  deliver_named w e f None has named is = idle-named w e.body named is
  deliver_named w e f (Some answer) has named to = leads_named w e.conditions to.0 f.connection e.body (landing_named w e.conditions f answer to.0 has named to.1) to.2

  delivers_named : (w : RunState) (e : Event) (flying : Option Flying) → ((f : Flying) → flying ≡ Some f → HasPath f.request) → Named w → DeliverTo w e flying → NotesNamed w e.body
  delivers_named w e None has named is = idle-named w e.body named is
  delivers_named w e (Some f) has named to = deliver_named w e f f.rendered (has f refl) named to

  loses_named : (w : RunState) (e : Event) (flying : Option Flying) → Named w → LoseTo w e flying → NotesNamed w e.body
  loses_named w e None named is = idle-named w e.body named is
  loses_named w e (Some f) named to = leads_named w e.conditions (Lost f.number) f.connection e.body (plain-named w (Lost f.number) tt named) to

  purges_named : (w : RunState) (e : Event) (flushes : List Flushing) → Named w → PurgeTo w e flushes → NotesNamed w e.body
  purges_named w e [] named is = idle-named w e.body named is
  purges_named w e (flush ∷ flushes) named to = leads_named w e.conditions to.0 flush.connection e.body (slice-named w flush.number to.0 (slice-form e.conditions flush.number to.0 to.1) named) to.2

  step_named : (w : RunState) (e : Event) (s : Step) → Named w → HappensBy w e s → NotesNamed (state_before_notes w e s) e.body
  step_named w e (step.Opened c peer) named is = opened_named w c peer e.body (w.connection c) named is
  step_named w e (step.Piece c bytes) named to = piece_named w e c bytes (w.connection c) refl named to
  step_named w e (step.Gone c) named is = gone_named w c e.body (w.connection c) named is
  step_named w e (step.Direct target) named to = rw to.2 (record { names = (tt, tt); state = named })
  step_named w e (step.Render pick) named to = render_named w e (picked_flight pick is_unrendered w.flights) named to
  step_named w e (step.Deliver pick) named to = delivers_named w e (picked_flight pick is_rendered w.flights) (λ f found. found-named (λ flying. is_picked pick flying && is_rendered flying) w.flights f named.flights found) named to
  step_named w e (step.Lose pick) named to = loses_named w e (picked_flight pick is_any w.flights) named to
  step_named w e step.Purge named to = purges_named w e w.flushes named to
  step_named w e step.Restart named to = cuts-named (without_connections w) e.body (restart-cut w e.conditions e.body to) (record { turns = λ c k some closed. absurd (let never : ⊥ = cc in never); flights = named.flights })

  run_named : (w : RunState) (events : List Event) → Named w → Run w events → EventsNamePages (map notes_of events)
  run_named w [] named run = tt
  run_named w (e ∷ events) named run =
      let one = step_named w e e.step named run.0.0 in
      (both-named e.body (condition_notes e.conditions) one.names (conditions-named e.conditions), run_named (after_event w e) events one.state run.1)

  pub notes_named : (s : Start) (events : List Event) → Run (start_of s) events → EventsNamePages (map notes_of events)
  notes_named s events run = run_named (start_of s) events (record { turns = λ c k some closed. absurd (let never : ⊥ = cc in never); flights = tt }) run
