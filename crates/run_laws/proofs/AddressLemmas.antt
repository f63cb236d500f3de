-- Of which connections the notes of an event are.
use Rattle.std.proofs.Common.{◌≡◌, ◌+◌, ◌⊎◌, ◌∙◌, ℕ, Bool, true, false, List, [], ◌∷◌, Option, Some, None, refl, ap, sym, subst, inl, inr, ⊎_elim}
use Rattle.std.specs.Prelude.{if◌then◌else◌, IsSome, is_some, nat_eq, nat_le}
use Rattle.std.specs.Map.{update}
use Rattle.std.proofs.lemmas.Map.{update_apart, update_here}
use Rattle.std.proofs.lemmas.Bool.{cases_eq}
use Rattle.http_front.specs.declared.turn.Turn.TheVariants.{Continue, Whole}
use Rattle.connections.specs.Connections.{Close, Connection, Due, Nothing, Refuse, Send, Treat, fresh, with_piece}
use Rattle.run_events.specs.declared.conditions.Conditions.{Conditions}
use Rattle.run_events.specs.declared.note.Note.{Note}
use Rattle.run_events.specs.declared.note.Note.TheVariants.{Shut}
use Rattle.run_events.specs.declared.step.Step.{Step}
use Rattle.run_events.specs.declared.step.Step.TheVariants as step
use Rattle.run_events.specs.States.{RunState}
use Rattle.run_events.specs.Moves.{GivesDue, GivesNext, due_if_open, due_of_connection, state_after_note, state_after_notes}
use Rattle.run_events.specs.Events.{Event, HappensBy, going, most_connections, state_after_going, state_after_opening, state_before_notes}
use Rattle.run_laws.specs.Addressed.{AddsNoConnection, AreAddressed, IsAddressed, WasThereOrOpenedIfThere, LeavesSession}
use Rattle.run_laws.proofs.CountLemmas.{note-there, there-map}
use Rattle.run_laws.proofs.EachNoteLemmas.{AllIn, IsOfEach, step-all}
use Rattle.run_laws.proofs.FormLemmas.{IsLandingNote, IsRequestNote, IsSliceNote, slice-form, treated-form}

-- ---- notes
-- a connection to which something is due is there
due-there : (o : Option Connection) → (due_if_open o ≡ Nothing → ⊥) → IsSome o
due-there None some = absurd (some refl)
due-there (Some k) some = refl

request-addressed : (s : Step) (w : RunState) (c : ℕ) (note : Note) → IsRequestNote w c note → IsAddressed s w note
request-addressed s w c note (inl local) = rw local.1 tt
request-addressed s w c note (inr (inl ask)) = rw ask.1 tt
request-addressed s w c note (inr (inr (inl hit))) = rw hit.1 tt
request-addressed s w c note (inr (inr (inr flush))) = rw flush.1 tt

slice-addressed : (s : Step) (w : RunState) (v : ℕ) (note : Note) → IsSliceNote v note → IsAddressed s w note
slice-addressed s w v note (inl done) = rw done tt
slice-addressed s w v note (inr (inl sliced)) = rw sliced tt
slice-addressed s w v note (inr (inr failed)) = rw failed.1 tt

landing-addressed : (s : Step) (w : RunState) (n : ℕ) (note : Note) → IsLandingNote n note → IsAddressed s w note
landing-addressed s w n note (inl kept) = rw kept.1 tt
landing-addressed s w n note (inr (inl unkept)) = rw unkept tt
landing-addressed s w n note (inr (inr passed)) = rw passed tt

gives-addressed : (s : Step) (m : Conditions) (w : RunState) (c : ℕ) (owed : Due) (note : Note) → due_of_connection w c ≡ owed → GivesDue m w c owed note → IsAddressed s w note
gives-addressed s m w c (Send slot) note is gives = rw gives.1 (due-there (w.connection c) (λ none. absurd (let one : Send slot ≡ Nothing = sym is ∙ none in cc one)))
gives-addressed s m w c (Treat Continue) note is gives = absurd gives
gives-addressed s m w c (Treat (Whole request)) note is gives = request-addressed s w c note (treated-form m w c request note gives)
gives-addressed s m w c (Refuse fault) note is gives = rw gives tt
gives-addressed s m w c Close note is gives = rw gives (due-there (w.connection c) (λ none. absurd (let one : Close ≡ Nothing = sym is ∙ none in cc one)))
gives-addressed s m w c Nothing note is gives = absurd gives

next-addressed : (s : Step) (m : Conditions) (w : RunState) (c : ℕ) (slicing : Option ℕ) (note : Note) → GivesNext m w c slicing note → IsAddressed s w note
next-addressed s m w c None note gives = gives-addressed s m w c (due_of_connection w c) note refl gives
next-addressed s m w c (Some v) note gives = slice-addressed s w v note (slice-form m v note gives)

-- ---- an event
each-addressed : (s : Step) → LeavesSession s → IsOfEach (IsAddressed s) s
each-addressed s stays = record {
  due = λ m w c note gives. next-addressed s m w c w.slicing note gives;
  slice = λ m w v note gives. slice-addressed s w v note (slice-form m v note gives);
  landing = landing-addressed s;
  lost = λ w n. tt;
  idle = λ w. tt;
  answer = λ w answer. tt;
  rendered = λ w n answer. tt;
  refused = λ w c opens. opens;
  cut = λ is. absurd (subst LeavesSession is stays);
}

all-addressed : (s : Step) (w : RunState) (notes : List Note) → AllIn (IsAddressed s) w notes → AreAddressed s w notes
all-addressed s w [] all = tt
all-addressed s w (note ∷ notes) all = (all.0, all-addressed s (state_after_note w note) notes all.1)

pub step-addressed : (w : RunState) (e : Event) (s : Step) → LeavesSession s → HappensBy w e s → AreAddressed s (state_before_notes w e s) e.body
step-addressed w e s stays happens = all-addressed s (state_before_notes w e s) e.body (step-all (IsAddressed s) w e s (each-addressed s stays) happens)

-- ---- which connections are there
-- one is there no more
gone-there : (connection : ℕ → Option Connection) (c q : ℕ) → IsSome (update nat_eq connection c None q) → IsSome (connection q)
gone-there connection c q some = ⊎_elim
    (λ same. absurd (let none : false ≡ true = sym (ap is_some (update_here connection c None)) ∙ subst (λ x. is_some (update nat_eq connection c None x) ≡ true) (sym same) some in cc none))
    (λ apart. sym (ap is_some (update_apart connection c None q (λ e. apart (sym e)))) ∙ some)
    (cases_eq c q)

opened-there : (w : RunState) (c : ℕ) (peer : List ℕ) (at : Option Connection) → WasThereOrOpenedIfThere (step.Opened c peer) w (state_after_opening w c peer at)
opened-there w c peer (Some k) q some = inl some
opened-there w c peer None q some = by_room (nat_le most_connections w.connection_count) some
  where
    v : RunState
    v = record w { connection = update nat_eq w.connection c (Some (fresh peer)); connection_count = w.connection_count + 1 }

    by_room : (full : Bool) → IsSome ((if full then w else v).connection q) → IsSome (w.connection q) ⊎ (Some c ≡ Some q)
    by_room true some = inl some
    by_room false some = ⊎_elim
        (λ same. inr (ap Some same))
        (λ apart. inl (sym (ap is_some (update_apart w.connection c (Some (fresh peer)) q (λ e. apart (sym e)))) ∙ some))
        (cases_eq c q)

going-there : (w : RunState) (c : ℕ) (at : Option Connection) (q : ℕ) → IsSome ((state_after_going w c at).connection q) → IsSome (w.connection q)
going-there w c None q some = some
going-there w c (Some k) q some = gone-there w.connection c q some

pub begun-there : (w : RunState) (e : Event) (s : Step) → WasThereOrOpenedIfThere s w (state_before_notes w e s)
begun-there w e (step.Opened c peer) = opened-there w c peer (w.connection c)
begun-there w e (step.Piece c bytes) = λ q some. inl (sym (there-map w.connection c (with_piece bytes e.turns e.ends) q) ∙ some)
begun-there w e (step.Gone c) = λ q some. inl (going-there w c (w.connection c) q some)
begun-there w e step.Restart = λ q some. absurd (cc some)
begun-there w e s = λ q some. inl some

pub note-brings : (w : RunState) (note : Note) → AddsNoConnection w (state_after_note w note)
note-brings w (Shut c) = λ q some. gone-there w.connection c q some
note-brings w note = λ q some. sym ((note-there w note tt).there q) ∙ some

pub shut-gone : (w : RunState) (c : ℕ) → (state_after_note w (Shut c)).connection c ≡ None
shut-gone w c = update_here w.connection c None

gone-none : (w : RunState) (c : ℕ) (at : Option Connection) (notes : List Note) → w.connection c ≡ at → notes ≡ going at → (state_after_notes (state_after_going w c at) notes).connection c ≡ None
gone-none w c None notes at is = rw is at
gone-none w c (Some k) notes at is = rw is (update_here w.connection c None)

pub step-gone : (w : RunState) (e : Event) (c : ℕ) (s : Step) → s ≡ step.Gone c → HappensBy w e s → (state_after_notes (state_before_notes w e s) e.body).connection c ≡ None
step-gone w e c s is = subst (λ s. HappensBy w e s → (state_after_notes (state_before_notes w e s) e.body).connection c ≡ None) (sym is) (λ happens. gone-none w c (w.connection c) e.body refl happens)
