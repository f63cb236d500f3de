-- A restart of a board is an event.
use Rattle.std.proofs.Common.{◌≡◌, ℕ, ◌-◌, ◌++◌, true, List, [], ◌∷◌, Option, Some, None, map, refl, ap, sym, subst, ◌∙◌, arith, ◌⊎◌, inl, inr}
use Rattle.std.specs.Prelude.{IsTrue, is_some, nat_eq}
use Rattle.std.specs.Map.{update}
use Rattle.std.specs.Option.{option_map}
use Rattle.std.specs.Ordering.{nat_cmp}
use Rattle.std.specs.BTreeMap.{get, keys, btree_map_len}
use Rattle.std.proofs.lemmas.List.{append_assoc}
use Rattle.std.proofs.lemmas.Map.{update_apart, update_here}
use Rattle.std.proofs.lemmas.Bool.{cases_eq}
use Rattle.http_front.specs.Turns.{Waits}
use Rattle.error_answers.specs.Errors.{error_answer}
use Rattle.cache_log.specs.Entries.{FlushOutcome, Failed as failed_outcome, Up as up_entry, Down as down_entry}
use Rattle.cache_log.specs.Rules.{Allowed}
use Rattle.connections.specs.declared.awaited.Awaited.TheVariants.{Flush as flush_awaited}
use Rattle.connections.specs.Slots.{Response, Says}
use Rattle.connections.specs.Connections.{Connection, with_end}
use Rattle.run_events.specs.declared.conditions.Conditions.{Conditions}
use Rattle.run_events.specs.declared.flying.Flying.{Flying}
use Rattle.run_events.specs.declared.flying.Flushing.{Flushing}
use Rattle.run_events.specs.declared.note.Failure.TheVariants.{Restart as cut_off}
use Rattle.run_events.specs.declared.note.Note.{Note}
use Rattle.run_events.specs.declared.note.Note.TheVariants.{Failed, Shut}
use Rattle.run_events.specs.declared.step.Step.TheVariants.{Restart}
use Rattle.run_events.specs.Causes.{SomeShowsOutOfMemory, Spoils, SpoilAtMost}
use Rattle.run_events.specs.Moves.{failure_status, flush_at, state_after_ending, state_after_note, state_after_notes}
use Rattle.run_events.specs.Restarts.{EndsRestart, cut_notes, without_connections}
use Rattle.run_events.specs.Points.{call_conditions}
use Rattle.run_events.specs.States.{RunState}
use Rattle.run_events.proofs.NoteLemmas.{notes_append}
use Rattle.front.specs.Boards.{BoardAt, BoardStandsFor, EntryStandsFor, IsEventOf, behind_board}
use Rattle.front.specs.Caches.{Behind, BehindStandsFor}
use Rattle.front.specs.Restarts.{AreKeys, IsReopened, IsShut, LosesFlights, failed_notes, lost_notes}
use Rattle.front.specs.declared.connection.Connection.{Connection as KeptConnection}
use Rattle.front.specs.declared.effect.Effect.{Effect}
use Rattle.front.specs.declared.restarts.Reopened.{Reopened}
use Rattle.front.proofs.BoardLemmas.{behind-same}
use Rattle.front.proofs.CauseLemmas.{shows-push}
use Rattle.sp_outside.specs.Causes.{IsDiskFailure}

-- ---- connections that are shut
-- what notes of shut connections leave
record Shuts (v u : RunState) : Type 0 where
  pub farm : u.farm ≡ v.farm
  pub found : u.found ≡ v.found
  pub flights : u.flights ≡ v.flights
  pub flushes : u.flushes ≡ v.flushes
  pub log : u.log ≡ v.log
  pub slicing : u.slicing ≡ v.slicing

shuts : (v : RunState) (cs : List ℕ) → Shuts v (state_after_notes v (map Shut cs))
shuts v [] = record { farm = refl; found = refl; flights = refl; flushes = refl; log = refl; slicing = refl }
shuts v (c ∷ cs) = let rest = shuts (state_after_note v (Shut c)) cs in record { farm = rest.farm; found = rest.found; flights = rest.flights; flushes = rest.flushes; log = rest.log; slicing = rest.slicing }

-- no connection is open, and none is counted
record NoneOpen (v : RunState) : Type 0 where
  pub connections : (c : ℕ) → v.connection c ≡ None
  pub count : v.connection_count ≡ 0

shut-none : (v : RunState) (c : ℕ) → NoneOpen v → NoneOpen (state_after_note v (Shut c))
shut-none v c open_none = record {
  connections = λ q. by_place q (cases_eq c q);
  count = omega (arith, open_none.count);
}
  where
    by_place : (q : ℕ) → (c ≡ q) ⊎ (c ≡ q → ⊥) → update nat_eq v.connection c None q ≡ None
    by_place q (inl at) = subst (λ x. update nat_eq v.connection c None x ≡ None) at (update_here v.connection c None)
    by_place q (inr apart) = update_apart v.connection c None q (λ e. apart (sym e)) ∙ open_none.connections q

shuts-none : (v : RunState) (cs : List ℕ) → NoneOpen v → NoneOpen (state_after_notes v (map Shut cs))
shuts-none v [] open_none = open_none
shuts-none v (c ∷ cs) open_none = shuts-none (state_after_note v (Shut c)) cs (shut-none v c open_none)

-- ---- flushes that are cut off
ending-none : (v : RunState) (number : ℕ) (outcome : FlushOutcome) (response : Response) (flush : Option Flushing) → NoneOpen v → v.slicing ≡ None → NoneOpen (state_after_ending v number outcome response flush) × ((state_after_ending v number outcome response flush).slicing ≡ None)
ending-none v number outcome response None open_none quiet = (open_none, quiet)
ending-none v number outcome response (Some flush) open_none quiet = (record { connections = λ q. by_place q (cases_eq flush.connection q); count = open_none.count }, refl)
  where
    by_place : (q : ℕ) → (flush.connection ≡ q) ⊎ (flush.connection ≡ q → ⊥) → update nat_eq v.connection flush.connection (option_map (with_end (flush_awaited number) response) (v.connection flush.connection)) q ≡ None
    by_place q (inl at) = subst (λ x. update nat_eq v.connection flush.connection (option_map (with_end (flush_awaited number) response) (v.connection flush.connection)) x ≡ None) at
        (update_here v.connection flush.connection _ ∙ ap (option_map (with_end (flush_awaited number) response)) (open_none.connections flush.connection))
    by_place q (inr apart) = update_apart v.connection flush.connection _ q (λ e. apart (sym e)) ∙ open_none.connections q

failed-none : (v : RunState) (flushes : List Flushing) → NoneOpen v → v.slicing ≡ None → NoneOpen (state_after_notes v (failed_notes flushes)) × ((state_after_notes v (failed_notes flushes)).slicing ≡ None)
failed-none v [] open_none quiet = (open_none, quiet)
failed-none v (f ∷ flushes) open_none quiet =
    let first = ending-none v f.number failed_outcome (Says (error_answer (failure_status cut_off))) (flush_at f.number v.flushes) open_none quiet in
    failed-none (state_after_note v (Failed f.number cut_off)) flushes first.0 first.1

-- ---- nothing is spoilt
abbrev pub AreQuiet : List Note → Type 0
AreQuiet [] = Unit {0}
AreQuiet (note ∷ notes) = ((w : RunState) → Spoils w note → ⊥) × AreQuiet notes

quiet-append : (notes more : List Note) → AreQuiet notes → AreQuiet more → AreQuiet (notes ++ more)
quiet-append [] more a b = b
quiet-append (n ∷ notes) more a b = (a.0, quiet-append notes more a.1 b)

quiet-spoils : (n : ℕ) (w : RunState) (notes : List Note) → AreQuiet notes → SpoilAtMost n w notes
quiet-spoils n w [] quiet = tt
quiet-spoils n w (note ∷ notes) quiet = inl (quiet.0 w, quiet-spoils n (state_after_note w note) notes quiet.1)

lost-quiet : (flights : List Flying) → AreQuiet (lost_notes flights)
lost-quiet [] = tt
lost-quiet (f ∷ flights) = (λ w is. is, lost-quiet flights)

failed-quiet : (flushes : List Flushing) → AreQuiet (failed_notes flushes)
failed-quiet [] = tt
failed-quiet (f ∷ flushes) = (λ w is. let no : ⊥ = cc in no, failed-quiet flushes)

shut-quiet : (cs : List ℕ) → AreQuiet (map Shut cs)
shut-quiet [] = tt
shut-quiet (c ∷ cs) = (λ w is. is, shut-quiet cs)

last-quiet : (v : RunState) (m : Conditions) (note : Note) → EndsRestart v m note → (w : RunState) → Spoils w note → ⊥
last-quiet v m note (inl up) w is = subst (λ n. Spoils w n) up.1 is
last-quiet v m note (inr down) w is = subst (λ n. Spoils w n) down.0 is

-- ---- which connections are open
entry-is : (o : Option KeptConnection) (connection : Option Connection) → EntryStandsFor o connection → is_some connection ≡ is_some o
entry-is None None stands = refl
entry-is (Some k) (Some m) stands = refl
entry-is None (Some m) stands = absurd stands
entry-is (Some k) None stands = absurd stands

-- ---- the end of a restart
record Ends (v u : RunState) (m : Conditions) (note : Note) (b : Behind) : Type 0 where
  pub behind_is : BehindStandsFor b (state_after_note u note)
  pub slicing_is : (state_after_note u note).slicing ≡ u.slicing
  pub connections : (c : ℕ) → (state_after_note u note).connection c ≡ u.connection c
  pub count : (state_after_note u note).connection_count ≡ u.connection_count

ends-at : (v u : RunState) (m : Conditions) (note : Note) (b : Behind) → Shuts v u → EndsRestart v m note → BehindStandsFor b (state_after_note v note) → Ends v u m note b
ends-at v u m note b same (inl up) stands =
    rw up.1 (record { behind_is = behind-same b _ _ (rw up.1 at stands) same.farm same.found same.flights same.flushes (ap (λ l. up_entry up.0 ∷ l) same.log); slicing_is = refl; connections = λ c. refl; count = refl })
ends-at v u m note b same (inr down) stands =
    rw down.0 (record { behind_is = behind-same b _ _ (rw down.0 at stands) same.farm same.found same.flights same.flushes (ap (λ l. down_entry ∷ l) same.log); slicing_is = refl; connections = λ c. refl; count = refl })

ends-same : (v u : RunState) (m : Conditions) (note : Note) → Shuts v u → EndsRestart v m note → EndsRestart u m note
ends-same v u m note same (inl up) = inl (up.0, up.1, subst (λ l. Allowed u.farm (call_conditions m true) (up_entry up.0) l) (sym same.log) (subst (λ f. Allowed f (call_conditions m true) (up_entry up.0) v.log) (sym same.farm) up.2))
ends-same v u m note same (inr down) = inr (down.0, subst (λ l. Allowed u.farm (call_conditions m true) down_entry l) (sym same.log) (subst (λ f. Allowed f (call_conditions m true) down_entry v.log) (sym same.farm) down.1))

pub restart-event : (b : BoardAt) (mid : Behind) (h : BoardAt) (reopened : Reopened) (effect : Effect) (w : RunState) → BoardStandsFor b w → LosesFlights (behind_board b) mid → mid.cache.flushes ≡ b.board.cache.flushes → mid.faults ≡ b.faults → AreKeys b.board.open_connections
    → IsReopened mid (behind_board h) reopened → ((c : ℕ) → get nat_cmp h.board.open_connections c ≡ None) → btree_map_len h.board.open_connections ≡ 0
    → effect.notes.items ≡ (lost_notes b.board.cache.flying ++ (failed_notes mid.cache.flushes ++ map Shut (keys b.board.open_connections))) ++ reopened.note ∷ [] → effect.conditions ≡ reopened.conditions
    → IsEventOf (BoardStandsFor h) w Restart effect b.faults h.faults
restart-event b mid h reopened effect w tied loses flushes faults are_keys reopens gone empty notes under =
    let cs = keys b.board.open_connections in
    let v0 = without_connections w in
    let shut0 : IsShut v0 = record { connections = λ c. refl; count = refl; slicing_is = tied.slicing_is } in
    let stands0 : BehindStandsFor (behind_board b) v0 = behind-same (behind_board b) w v0 tied.behind_is refl refl refl refl refl in
    let v1 = state_after_notes v0 (lost_notes b.board.cache.flying) in
    let lost = loses v0 stands0 shut0 in
    let v2 = state_after_notes v1 (failed_notes mid.cache.flushes) in
    let stands2 = reopens.stands v1 lost.0 lost.1 in
    let ends2 = reopens.ends v1 lost.0 lost.1 in
    let none2 = failed-none v1 mid.cache.flushes (record { connections = lost.1.connections; count = lost.1.count }) lost.1.slicing_is in
    let u = state_after_notes v2 (map Shut cs) in
    let same = shuts v2 cs in
    let none3 = shuts-none v2 cs none2.0 in
    let last = ends-at v2 u reopened.conditions reopened.note (behind_board h) same ends2 stands2 in
    let cut = lost_notes b.board.cache.flying ++ (failed_notes mid.cache.flushes ++ map Shut cs) in
    let cut_is : state_after_notes v0 cut ≡ u = notes_append v0 (lost_notes b.board.cache.flying) (failed_notes mid.cache.flushes ++ map Shut cs) ∙ notes_append v1 (failed_notes mid.cache.flushes) (map Shut cs) in
    let end_is : state_after_notes v0 effect.notes.items ≡ state_after_note u reopened.note = ap (state_after_notes v0) notes ∙ notes_append v0 cut (reopened.note ∷ []) ∙ ap (λ x. state_after_note x reopened.note) cut_is in
    let cut_notes_is : cut ≡ cut_notes w cs = ap (λ fs. lost_notes fs ++ (failed_notes mid.cache.flushes ++ map Shut cs)) tied.behind_is.flying_is ∙ ap (λ fs. lost_notes w.flights ++ (failed_notes fs ++ map Shut cs)) (flushes ∙ tied.behind_is.flushing_is) in
    let ends_here : EndsRestart (state_after_notes v0 (cut_notes w cs)) reopened.conditions reopened.note = subst (λ x. EndsRestart x reopened.conditions reopened.note) (sym (ap (state_after_notes v0) (sym cut_notes_is) ∙ cut_is)) (ends-same v2 u reopened.conditions reopened.note same ends2) in
    let quiet : AreQuiet effect.notes.items = subst AreQuiet (sym notes) (quiet-append cut (reopened.note ∷ []) (quiet-append _ _ (lost-quiet b.board.cache.flying) (quiet-append _ _ (failed-quiet mid.cache.flushes) (shut-quiet cs))) (last-quiet v2 reopened.conditions reopened.note ends2, tt)) in
    record {
      turns = [];
      ends = Waits;
      happens = record {
        connections = cs;
        are_open = record { rising = are_keys.rising; each = λ c. entry-is _ _ (tied.open_connections.each c) ∙ are_keys.each c };
        last = reopened.note;
        notes_are = notes ∙ ap (λ ns. ns ++ reopened.note ∷ []) cut_notes_is;
        ends = subst (λ m. EndsRestart (state_after_notes v0 (cut_notes w cs)) m reopened.note) (sym under) ends_here;
      };
      cause = record {
        disk = subst (λ m. IsDiskFailure b.faults h.faults m.disk_failed) (sym under) (subst (λ n. IsDiskFailure n h.faults reopened.conditions.disk_failed) faults reopens.disk);
        spoils = λ few. quiet-spoils (h.faults - b.faults) v0 effect.notes.items quiet;
        shows = λ ran_out. subst (SomeShowsOutOfMemory v0) (sym notes) (shows-push v0 cut reopened.note (inr (reopens.shows (state_after_notes v0 cut) (subst (λ m. IsTrue m.out_of_memory) under ran_out))));
      };
      stands = subst (BoardStandsFor h) (sym end_is) (record {
        open_connections = record { each = λ c. rw (gone c, last.connections c, none3.connections c) tt; count = empty ∙ sym (last.count ∙ none3.count) };
        behind_is = last.behind_is;
        slicing_is = last.slicing_is ∙ same.slicing ∙ none2.1;
      });
    }

pub notes-joined : (none first second third all : List Note) (a b c : List Note) (last : Note) → none ≡ [] → first ≡ none ++ a → second ≡ first ++ b → third ≡ second ++ c → all ≡ third ++ last ∷ [] → all ≡ (a ++ (b ++ c)) ++ last ∷ []
notes-joined none first second third all a b c last is one two three four = four ∙ ap (λ l. l ++ last ∷ []) (three ∙ ap (λ l. l ++ c) (two ∙ ap (λ l. l ++ b) (one ∙ ap (λ l. l ++ a) is)) ∙ append_assoc a b c)
