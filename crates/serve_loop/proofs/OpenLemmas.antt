-- Which connections are open in the world while the notes of an event are handed on.
use Rattle.std.proofs.Common.{◌≡◌, ◌++◌, ◌∙◌, ◌⊎◌, inl, inr, ℕ, Bool, true, false, List, [], ◌∷◌, Option, Some, None, IsSome, is_some, sym, ap, subst, refl, append_assoc, if◌then◌else◌, nat_le}
use Rattle.std.proofs.lemmas.Bool.{false≢true, ne_eqb}
use Rattle.std.proofs.lemmas.Bool.Decides.{eqb_tells}
use Rattle.std.proofs.lemmas.Option.{none-some}
use Rattle.std.proofs.lemmas.List.{append-nil}
use Rattle.std.proofs.lemmas.Grind.{flat_map-append}
use Rattle.outside_world.specs.Worlds.{is_connected, told_more}
use Rattle.outside_world.specs.declared.world.WorldEntry.{WorldEntry}
use Rattle.outside_world.specs.declared.world.WorldEntry.TheVariants.{Sent as sent_entry, Unsent, Shut as shut_entry}
use Rattle.connections.specs.Connections.{Connection}
use Rattle.connections.specs.Ids.{ConnectionId}
use Rattle.run_events.specs.declared.note.Note.{Note}
use Rattle.run_events.specs.declared.note.Note.TheVariants as note
use Rattle.run_events.specs.declared.step.Step.{Step}
use Rattle.run_events.specs.declared.step.Step.TheVariants.{Opened, Piece, Gone, Direct, Render, Deliver, Lose, Purge, Restart}
use Rattle.run_events.specs.States.{RunState}
use Rattle.run_events.specs.Moves.{state_after_note, state_after_notes}
use Rattle.run_events.specs.Events.{Event, Happens, HappensBy, after_event, condition_notes, going, most_connections, notes_of, opening, state_after_opening, state_before_notes}
use Rattle.run_events.proofs.NoteLemmas.{notes_append}
use Rattle.run_laws.specs.Addressed.{AddsNoConnection, AreAddressed, IsAddressed, WasThereOrOpenedIfThere, LeavesSession, opened_by_step}
use Rattle.serve_loop.specs.Turns.{IsFailedAt, entries_of_note, entries_of_notes}
use Rattle.serve_loop.specs.Hands.{AreOfOpen, IsOfOpen}
use Rattle.serve_loop.specs.Served.{HasOpenConnections}
use Rattle.serve_loop.specs.Steps.{HasOpened, HasOthersOpen}
use Rattle.serve_loop.proofs.LogLemmas.{open_more}
use Rattle.serve_loop.proofs.HandingLemmas.{AreOfOpenIn}

-- what is so of the notes of each event
pub record NoteLaws : Type 0 where
  pub notes : (w : RunState) (e : Event) → Happens w e → LeavesSession e.step → AreAddressed e.step (state_before_notes w e e.step) e.body
  pub begun : (w : RunState) (e : Event) → WasThereOrOpenedIfThere e.step w (state_before_notes w e e.step)
  pub brings : (w : RunState) (n : Note) → AddsNoConnection w (state_after_note w n)
  pub shut : (w : RunState) (c : ConnectionId) → (state_after_note w (note.Shut c)).connection c ≡ None

-- the connections of the state are open after the log
abbrev pub AreOpenAfter : List WorldEntry → RunState → Type 0
AreOpenAfter log w = (c : ConnectionId) → IsSome (w.connection c) → is_connected log c ≡ true

-- ---- one note

still_open : (log : List WorldEntry) (u v : RunState) → AddsNoConnection u v → AreOpenAfter log u → AreOpenAfter (log ++ []) v
still_open log u v adds h c there = subst (λ l. is_connected l c ≡ true) (sym (append-nil log)) (h c (adds c there))

not_there : (o : Option Connection) → o ≡ None → IsSome o → ⊥
not_there o is there = false≢true (sym (ap (λ (x : Option Connection). is_some x) is) ∙ there)

shut_keeps : (log : List WorldEntry) (c d : ConnectionId) → (c ≡ d → ⊥) → is_connected log d ≡ true → is_connected (log ++ shut_entry c ∷ []) d ≡ true
shut_keeps log c d ne h = open_more log d (shut_entry c) ∙ (ap (λ b. if b then false else is_connected log d) (ne_eqb c d ne) ∙ h)

-- where this one isn't there, the others stay open when it is shut
shut_leaves_others : (log : List WorldEntry) (u v : RunState) (c : ConnectionId) → AddsNoConnection u v → v.connection c ≡ None → AreOpenAfter log u → AreOpenAfter (log ++ shut_entry c ∷ []) v
shut_leaves_others log u v c adds gone h d there =
    shut_keeps log c d (λ e. not_there (v.connection d) (ap v.connection (sym e) ∙ gone) there) (h d (adds d there))

open_after_note : NoteLaws → (step : Step) (u : RunState) (log : List WorldEntry) (n : Note) → opened_by_step step ≡ None → IsAddressed step u n → AreOpenAfter log u
    → IsOfOpen log n × AreOpenAfter (log ++ entries_of_note n) (state_after_note u n)
open_after_note laws step u log (note.Sent c bytes) none a h =
    (h c a, λ d there. open_more log d (sent_entry c bytes) ∙ h d (laws.brings u (note.Sent c bytes) d there))
open_after_note laws step u log (note.Shut c) none a h =
    (h c a, shut_leaves_others log u (state_after_note u (note.Shut c)) c (laws.brings u (note.Shut c)) (laws.shut u c) h)
open_after_note laws step u log (note.Refused c) none a h = absurd (none-some c (sym none ∙ a))
open_after_note laws step u log (note.Answer x) none a h = (tt, still_open log u (state_after_note u (note.Answer x)) (laws.brings u (note.Answer x)) h)
open_after_note laws step u log (note.Ask n c k) none a h = (tt, still_open log u (state_after_note u (note.Ask n c k)) (laws.brings u (note.Ask n c k)) h)
open_after_note laws step u log (note.Hit c k) none a h = (tt, still_open log u (state_after_note u (note.Hit c k)) (laws.brings u (note.Hit c k)) h)
open_after_note laws step u log (note.Local c s) none a h = (tt, still_open log u (state_after_note u (note.Local c s)) (laws.brings u (note.Local c s)) h)
open_after_note laws step u log (note.Flush n c i) none a h = (tt, still_open log u (state_after_note u (note.Flush n c i)) (laws.brings u (note.Flush n c i)) h)
open_after_note laws step u log (note.Sliced n) none a h = (tt, still_open log u (state_after_note u (note.Sliced n)) (laws.brings u (note.Sliced n)) h)
open_after_note laws step u log (note.Done n) none a h = (tt, still_open log u (state_after_note u (note.Done n)) (laws.brings u (note.Done n)) h)
open_after_note laws step u log (note.Failed n f) none a h = (tt, still_open log u (state_after_note u (note.Failed n f)) (laws.brings u (note.Failed n f)) h)
open_after_note laws step u log (note.Rendered n x) none a h = (tt, still_open log u (state_after_note u (note.Rendered n x)) (laws.brings u (note.Rendered n x)) h)
open_after_note laws step u log (note.Kept n k) none a h = (tt, still_open log u (state_after_note u (note.Kept n k)) (laws.brings u (note.Kept n k)) h)
open_after_note laws step u log (note.Unkept n) none a h = (tt, still_open log u (state_after_note u (note.Unkept n)) (laws.brings u (note.Unkept n)) h)
open_after_note laws step u log (note.Passed n) none a h = (tt, still_open log u (state_after_note u (note.Passed n)) (laws.brings u (note.Passed n)) h)
open_after_note laws step u log (note.Lost n) none a h = (tt, still_open log u (state_after_note u (note.Lost n)) (laws.brings u (note.Lost n)) h)
open_after_note laws step u log note.Idle none a h = (tt, still_open log u u (λ c there. there) h)
open_after_note laws step u log (note.Up e) none a h = (tt, still_open log u (state_after_note u (note.Up e)) (laws.brings u (note.Up e)) h)
open_after_note laws step u log note.Down none a h = (tt, still_open log u (state_after_note u note.Down) (laws.brings u note.Down) h)
open_after_note laws step u log note.Hurt none a h = (tt, still_open log u u (λ c there. there) h)
open_after_note laws step u log note.OutOfMemory none a h = (tt, still_open log u u (λ c there. there) h)

-- ---- several

-- the notes name open connections, and the connections are open after them
abbrev LeavesOpen : List WorldEntry → RunState → List Note → Type 0
LeavesOpen log u notes = AreOfOpen log notes × AreOpenAfter (log ++ entries_of_notes notes) (state_after_notes u notes)

nothing_noted : (log : List WorldEntry) (u : RunState) → AreOpenAfter log u → LeavesOpen log u []
nothing_noted log u h = (tt, still_open log u u (λ c there. there) h)

open_after_notes : NoteLaws → (step : Step) (u : RunState) (log : List WorldEntry) (notes : List Note) → opened_by_step step ≡ None → AreAddressed step u notes → AreOpenAfter log u → LeavesOpen log u notes
open_after_notes laws step u log [] none a h = nothing_noted log u h
open_after_notes laws step u log (n ∷ notes) none a h =
    let one = open_after_note laws step u log n none a.0 h in
    let rest = open_after_notes laws step (state_after_note u n) (log ++ entries_of_note n) notes none a.1 one.1 in
    ((one.0, rest.0), λ c there. subst (λ l. is_connected l c ≡ true) (append_assoc log (entries_of_note n) (entries_of_notes notes)) (rest.1 c there))

-- ---- an opening

opened_in_room : (b : Bool) (w x : RunState) (c : ConnectionId) (log : List WorldEntry) → w.connection c ≡ None → is_connected log c ≡ true → AreOpenAfter log (if b then w else x)
    → LeavesOpen log (if b then w else x) (if b then note.Refused c ∷ [] else [])
opened_in_room true w x c log none is h = ((is, tt), shut_leaves_others log w w c (λ d there. there) none h)
opened_in_room false w x c log none is h = nothing_noted log x h

opened_here : (w : RunState) (c : ConnectionId) (peer : List ℕ) (log : List WorldEntry) (there : Option Connection) → w.connection c ≡ there → is_connected log c ≡ true → AreOpenAfter log (state_after_opening w c peer there)
    → LeavesOpen log (state_after_opening w c peer there) (opening c w.connection_count there)
opened_here w c peer log (Some connection) e is h = ((tt, tt), still_open log w w (λ d there. there) h)
opened_here w c peer log None e is h = opened_in_room (nat_le most_connections w.connection_count) w _ c log e is h

-- ---- an event

-- the connections are open before its notes
before_open : NoteLaws → (w : RunState) (e : Event) (log : List WorldEntry) → AreOpenAfter log w → ((c : ConnectionId) → opened_by_step e.step ≡ Some c → is_connected log c ≡ true) → AreOpenAfter log (state_before_notes w e e.step)
before_open laws w e log h opened c there = elim (laws.begun w e c there) [ inl was ↦ h c was | inr is ↦ opened c is ]

body_by_step : NoteLaws → (w : RunState) (e : Event) (step : Step) (log : List WorldEntry) → HappensBy w e step → AreAddressed step (state_before_notes w e step) e.body → AreOpenAfter log (state_before_notes w e step)
    → ((c : ConnectionId) → opened_by_step step ≡ Some c → is_connected log c ≡ true) → LeavesOpen log (state_before_notes w e step) e.body
body_by_step laws w e (Opened c peer) log h a is opened = subst (λ body. LeavesOpen log (state_after_opening w c peer (w.connection c)) body) (sym h) (opened_here w c peer log (w.connection c) refl (opened c refl) is)
body_by_step laws w e (Piece c bytes) log h a is opened = open_after_notes laws (Piece c bytes) (state_before_notes w e (Piece c bytes)) log e.body refl a is
body_by_step laws w e (Gone c) log h a is opened = open_after_notes laws (Gone c) (state_before_notes w e (Gone c)) log e.body refl a is
body_by_step laws w e (Direct target) log h a is opened = open_after_notes laws (Direct target) w log e.body refl a is
body_by_step laws w e (Render pick) log h a is opened = open_after_notes laws (Render pick) w log e.body refl a is
body_by_step laws w e (Deliver pick) log h a is opened = open_after_notes laws (Deliver pick) w log e.body refl a is
body_by_step laws w e (Lose pick) log h a is opened = open_after_notes laws (Lose pick) w log e.body refl a is
body_by_step laws w e Purge log h a is opened = open_after_notes laws Purge w log e.body refl a is
body_by_step laws w e Restart log h a is opened = open_after_notes laws Restart (state_before_notes w e Restart) log e.body refl a is

-- ---- with the notes that name what it ran under

of_open_append : (log : List WorldEntry) (one two : List Note) → AreOfOpen log one → ((l : List WorldEntry) → AreOfOpen l two) → AreOfOpen log (one ++ two)
of_open_append log [] two h k = k log
of_open_append log (n ∷ one) two h k = (h.0, of_open_append (log ++ entries_of_note n) one two h.1 k)

conditions_of_open : (a b : Bool) (log : List WorldEntry) → AreOfOpen log ((if a then note.Hurt ∷ [] else []) ++ (if b then note.OutOfMemory ∷ [] else []))
conditions_of_open true true log = (tt, (tt, tt))
conditions_of_open true false log = (tt, tt)
conditions_of_open false true log = (tt, tt)
conditions_of_open false false log = tt

conditions_tell_nothing : (a b : Bool) → entries_of_notes ((if a then note.Hurt ∷ [] else []) ++ (if b then note.OutOfMemory ∷ [] else [])) ≡ []
conditions_tell_nothing true true = refl
conditions_tell_nothing true false = refl
conditions_tell_nothing false true = refl
conditions_tell_nothing false false = refl

conditions_do_nothing : (a b : Bool) (u : RunState) → state_after_notes u ((if a then note.Hurt ∷ [] else []) ++ (if b then note.OutOfMemory ∷ [] else [])) ≡ u
conditions_do_nothing true true u = refl
conditions_do_nothing true false u = refl
conditions_do_nothing false true u = refl
conditions_do_nothing false false u = refl

conditions_are_addressed : (a b : Bool) (step : Step) (u : RunState) → AreAddressed step u ((if a then note.Hurt ∷ [] else []) ++ (if b then note.OutOfMemory ∷ [] else []))
conditions_are_addressed true true step u = (tt, (tt, tt))
conditions_are_addressed true false step u = (tt, tt)
conditions_are_addressed false true step u = (tt, tt)
conditions_are_addressed false false step u = tt

pub entries_of_event : (e : Event) → entries_of_notes (notes_of e) ≡ entries_of_notes e.body
entries_of_event e =
    flat_map-append entries_of_note e.body (condition_notes e.conditions)
    ∙ (ap (λ es. entries_of_notes e.body ++ es) (conditions_tell_nothing e.conditions.disk_failed e.conditions.out_of_memory) ∙ append-nil (entries_of_notes e.body))

state_of_event : (w : RunState) (e : Event) → state_after_notes (state_before_notes w e e.step) (notes_of e) ≡ after_event w e
state_of_event w e =
    notes_append (state_before_notes w e e.step) e.body (condition_notes e.conditions)
    ∙ conditions_do_nothing e.conditions.disk_failed e.conditions.out_of_memory (after_event w e)

addressed_append : (step : Step) (u : RunState) (one two : List Note) → AreAddressed step u one → ((v : RunState) → AreAddressed step v two) → AreAddressed step u (one ++ two)
addressed_append step u [] two h k = k u
addressed_append step u (n ∷ one) two h k = (h.0, addressed_append step (state_after_note u n) one two h.1 k)

addressed_before : (step : Step) (u : RunState) (one two : List Note) → AreAddressed step u (one ++ two) → AreAddressed step u one
addressed_before step u [] two h = tt
addressed_before step u (n ∷ one) two h = (h.0, addressed_before step (state_after_note u n) one two h.1)

bring_none : NoteLaws → (u : RunState) (notes : List Note) → AddsNoConnection u (state_after_notes u notes)
bring_none laws u [] c there = there
bring_none laws u (n ∷ notes) c there = laws.brings u n c (bring_none laws (state_after_note u n) notes c there)

body_leaves_open : NoteLaws → (w : RunState) (e : Event) (log : List WorldEntry) → Happens w e → LeavesSession e.step → AreOpenAfter log w → ((c : ConnectionId) → opened_by_step e.step ≡ Some c → is_connected log c ≡ true)
    → LeavesOpen log (state_before_notes w e e.step) e.body
body_leaves_open laws w e log h session is opened = body_by_step laws w e e.step log h.0 (laws.notes w e h session) (before_open laws w e log is opened) opened

-- the notes of an event name open connections
pub event_names_open : NoteLaws → (w : RunState) (e : Event) (told : Option (List WorldEntry)) → Happens w e → LeavesSession e.step → HasOpenConnections told w → HasOpened e.step told → AreOfOpenIn told (notes_of e)
event_names_open laws w e None h session is opened = tt
event_names_open laws w e (Some log) h session is opened =
    of_open_append log e.body (condition_notes e.conditions) (body_leaves_open laws w e log h session is opened).0 (conditions_of_open e.conditions.disk_failed e.conditions.out_of_memory)

-- and the connections are open after them
pub event_leaves_open : NoteLaws → (w : RunState) (e : Event) (told : Option (List WorldEntry)) → Happens w e → LeavesSession e.step → HasOpenConnections told w → HasOpened e.step told
    → HasOpenConnections (told_more told (entries_of_notes (notes_of e))) (after_event w e)
event_leaves_open laws w e None h session is opened = tt
event_leaves_open laws w e (Some log) h session is opened =
    subst (λ es. AreOpenAfter (log ++ es) (after_event w e)) (sym (entries_of_event e)) (body_leaves_open laws w e log h session is opened).1

-- ---- a connection that goes

going_tells_nothing : (there : Option Connection) → entries_of_notes (going there) ≡ []
going_tells_nothing None = refl
going_tells_nothing (Some connection) = refl

pub gone_tells_nothing : (w : RunState) (e : Event) (c : ConnectionId) → e.step ≡ Gone c → Happens w e → [] ≡ entries_of_notes (notes_of e)
gone_tells_nothing w e c is h = sym (entries_of_event e ∙ (ap entries_of_notes (subst (HappensBy w e) is h.0) ∙ going_tells_nothing (w.connection c)))

-- those that are there are open, where it was the one that wasn't
pub gone_leaves_open : NoteLaws → (w : RunState) (e : Event) (c : ConnectionId) (told : Option (List WorldEntry)) → e.step ≡ Gone c → (after_event w e).connection c ≡ None → HasOthersOpen c told w → HasOpenConnections told (after_event w e)
gone_leaves_open laws w e c None is gone others = tt
gone_leaves_open laws w e c (Some log) is gone others = λ d there. elim (laws.begun w e d (bring_none laws (state_before_notes w e e.step) e.body d there)) [
  | inl was ↦ elim (others d was) [ inl open_there ↦ open_there | inr same ↦ absurd (not_there ((after_event w e).connection d) (ap (after_event w e).connection same ∙ gone) there) ]
  | inr opens ↦ absurd (none-some d (subst (λ s. opened_by_step s ≡ Some d) is opens))
]

-- ---- a sending that failed

abbrev is_sent : Note → Bool
is_sent (note.Sent c bytes) = true
is_sent _ = false

-- nothing is sent
abbrev SendNothing : List Note → Type 0
SendNothing [] = Unit {0}
SendNothing (n ∷ notes) = (is_sent n ≡ false) × SendNothing notes

send_nothing_append : (one two : List Note) → SendNothing one → SendNothing two → SendNothing (one ++ two)
send_nothing_append [] two h k = k
send_nothing_append (n ∷ one) two h k = (h.0, send_nothing_append one two h.1 k)

something_is_sent : (before : List Note) (c : ConnectionId) (bytes : List ℕ) (later : List Note) → SendNothing (before ++ note.Sent c bytes ∷ later) → ⊥
something_is_sent [] c bytes later h = false≢true (sym h.0)
something_is_sent (n ∷ before) c bytes later h = something_is_sent before c bytes later h.1

conditions_send_nothing : (a b : Bool) → SendNothing ((if a then note.Hurt ∷ [] else []) ++ (if b then note.OutOfMemory ∷ [] else []))
conditions_send_nothing true true = (refl, (refl, tt))
conditions_send_nothing true false = (refl, tt)
conditions_send_nothing false true = (refl, tt)
conditions_send_nothing false false = tt

room_sends_nothing : (b : Bool) (c : ConnectionId) → SendNothing (if b then note.Refused c ∷ [] else [])
room_sends_nothing true c = (refl, tt)
room_sends_nothing false c = tt

opening_sends_nothing : (c : ConnectionId) (count : ℕ) (there : Option Connection) → SendNothing (opening c count there)
opening_sends_nothing c count (Some connection) = (refl, tt)
opening_sends_nothing c count None = room_sends_nothing (nat_le most_connections count) c

-- after a log with what was handed on of it, the others are open
failure_keeps : (log more : List WorldEntry) (c d : ConnectionId) → is_connected (log ++ more) d ≡ true → (is_connected (log ++ (more ++ Unsent c ∷ shut_entry c ∷ [])) d ≡ true) ⊎ (d ≡ c)
failure_keeps log more c d h =
    elim (eqb_tells c d) [
      | inl same ↦ inr (sym same.1)
      | inr other ↦ inl (subst (λ l. is_connected l d ≡ true) (append_assoc (log ++ more) (Unsent c ∷ []) (shut_entry c ∷ []) ∙ append_assoc log more (Unsent c ∷ shut_entry c ∷ []))
          (shut_keeps ((log ++ more) ++ Unsent c ∷ []) c d other.1 (open_more (log ++ more) d (Unsent c) ∙ h)))
    ]

failure_by_step : NoteLaws → (w : RunState) (e : Event) (step : Step) (log : List WorldEntry) (c : ConnectionId) (before : List Note) (bytes : List ℕ) (later : List Note) → opened_by_step step ≡ None
    → AreAddressed step (state_before_notes w e step) e.body → AreOpenAfter log (state_before_notes w e step) → notes_of e ≡ before ++ note.Sent c bytes ∷ later
    → (d : ConnectionId) → IsSome ((state_after_notes (state_before_notes w e step) e.body).connection d) → is_connected (log ++ entries_of_notes before) d ≡ true
failure_by_step laws w e step log c before bytes later none a is notes_are d there =
    let u = state_before_notes w e step in
    let rest = note.Sent c bytes ∷ later in
    let addressed = addressed_append step u e.body (condition_notes e.conditions) a (λ v. conditions_are_addressed e.conditions.disk_failed e.conditions.out_of_memory step v) in
    let first = addressed_before step u before rest (subst (AreAddressed step u) notes_are addressed) in
    let same = notes_append u e.body (condition_notes e.conditions) ∙ conditions_do_nothing e.conditions.disk_failed e.conditions.out_of_memory (state_after_notes u e.body) in
    let split = sym same ∙ (ap (state_after_notes u) notes_are ∙ notes_append u before rest) in
    (open_after_notes laws step u log before none first is).1 d
    (bring_none laws (state_after_notes u before) rest d (subst (λ (v : RunState). IsSome (v.connection d)) split there))

-- a step that isn't to open a connection, or one after which nothing is sent
opens_or_not : (w : RunState) (e : Event) (step : Step) → HappensBy w e step → (opened_by_step step ≡ None) ⊎ SendNothing (notes_of e)
opens_or_not w e (Opened c peer) h =
    inr (send_nothing_append e.body (condition_notes e.conditions) (subst SendNothing (sym h) (opening_sends_nothing c w.connection_count (w.connection c))) (conditions_send_nothing e.conditions.disk_failed e.conditions.out_of_memory))
opens_or_not w e (Piece c bytes) h = inl refl
opens_or_not w e (Gone c) h = inl refl
opens_or_not w e (Direct target) h = inl refl
opens_or_not w e (Render pick) h = inl refl
opens_or_not w e (Deliver pick) h = inl refl
opens_or_not w e (Lose pick) h = inl refl
opens_or_not w e Purge h = inl refl
opens_or_not w e Restart h = inl refl

-- where a sending failed the others are open
pub failure_leaves_others_open : NoteLaws → (w : RunState) (e : Event) (told : Option (List WorldEntry)) (c : ConnectionId) (entries : List WorldEntry) → Happens w e → LeavesSession e.step → HasOpenConnections told w → HasOpened e.step told
    → IsFailedAt c (notes_of e) entries → HasOthersOpen c (told_more told entries) (after_event w e)
failure_leaves_others_open laws w e None c entries h session is opened failed = tt
failure_leaves_others_open laws w e (Some log) c entries h session is opened failed = λ d there. elim (opens_or_not w e e.step h.0) [
  | inl none ↦ subst (λ es. (is_connected (log ++ es) d ≡ true) ⊎ (d ≡ c)) (sym failed.entries_are) (failure_keeps log (entries_of_notes failed.before) c d
      (failure_by_step laws w e e.step log c failed.before failed.bytes failed.later none (laws.notes w e h session) (before_open laws w e log is opened) failed.notes_are d there))
  | inr nothing ↦ absurd (something_is_sent failed.before c failed.bytes failed.later (subst SendNothing failed.notes_are nothing))
]
