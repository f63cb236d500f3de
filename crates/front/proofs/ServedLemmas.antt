-- Notes that are given one after another, up to where nothing more is owed.
use Rattle.std.proofs.Common.{◌≡◌, ℕ, ◌++◌, Bool, false, [], ◌∷◌, ap, sym, subst, ◌∙◌}
use Rattle.std.specs.Prelude.{IfOk, OnOk, Result, Ok, Err}
use Rattle.run_events.specs.declared.conditions.Conditions.{Conditions}
use Rattle.run_events.specs.declared.note.Note.{Note}
use Rattle.run_events.specs.Moves.{Serves, due_of_connection, state_after_note, state_after_notes}
use Rattle.run_events.specs.States.{RunState}
use Rattle.front.specs.Boards.{AllGiven, HaveCause, OpenAfterNote, OpenStandsFor, end_or_nothing}
use Rattle.front.specs.Caches.{Allows, Behind, GivesIn, HasNoteCause, under_both, under_nothing}
use Rattle.front.specs.Serving.{NotesThen}
use Rattle.front.specs.declared.connection.Connection.{Connection as KeptConnection}
use Rattle.front.specs.declared.effect.Effect.{Effect}
use Rattle.front.proofs.CauseLemmas.{allows-left, allows-right, cause-none, cause-push}
use Rattle.front.proofs.MoveLemmas.{afters-push, serves-push}

-- ---- what was given up to now
pub open-still : {w : RunState} {c : ℕ} {k : KeptConnection} {b : Behind} → OpenAfterNote false w c k b → OpenStandsFor w c k b
open-still meets = record { connection = meets.connection; open_is = meets.open_is; holds = meets.holds; behind_is = meets.behind_is; slicing_is = meets.slicing_is }

pub open-after : {w : RunState} {c : ℕ} {k : KeptConnection} {b : Behind} → OpenStandsFor w c k b → OpenAfterNote false w c k b
open-after meets = record { connection = meets.connection; open_is = meets.open_is; holds = meets.holds; behind_is = meets.behind_is; slicing_is = meets.slicing_is }

pub given-none : (effect : Effect) (w : RunState) (c : ℕ) (k : KeptConnection) (b : Behind) → effect.notes.items ≡ [] → effect.conditions ≡ under_nothing → OpenStandsFor w c k b → NotesThen false effect w c k b b
given-none effect w c k b none nothing meets = record {
  serves = λ m allows. rw none tt;
  cause = rw (none, nothing) (cause-none b.faults w);
  meets = rw none (open-after meets);
}

pub given-more : (slices later : Bool) (effect after_ : Effect) (w : RunState) (c : ℕ) (k j : KeptConnection) (old mid new : Behind) (note : Note) (under : Conditions) → NotesThen slices effect w c k old mid
    → GivesIn under (state_after_notes w effect.notes.items) c note → HasNoteCause mid.faults new.faults under (state_after_notes w effect.notes.items) note
    → OpenAfterNote later (state_after_note (state_after_notes w effect.notes.items) note) c j new → after_.notes.items ≡ effect.notes.items ++ note ∷ [] → after_.conditions ≡ under_both effect.conditions under → NotesThen later after_ w c j old new
given-more slices later effect after_ w c k j old mid new note under given gives cause meets notes conditions = record {
  serves = λ m allows.
      let both : Allows (under_both effect.conditions under) m = subst (λ x. Allows x m) conditions allows in
      subst (Serves m w c) (sym notes) (serves-push m w c effect.notes.items note (given.serves m (allows-left effect.conditions under m both)) (gives m (allows-right effect.conditions under m both)));
  cause = rw (notes, conditions) (cause-push old.faults mid.faults new.faults effect.conditions under w effect.notes.items note given.cause cause);
  meets = subst (λ u. OpenAfterNote later u c j new) (sym (ap (state_after_notes w) notes ∙ afters-push w effect.notes.items note)) meets;
}

-- nothing more is owed, or the end is
pub given-all : (over : Bool) (effect : Effect) (w : RunState) (c : ℕ) (k j : KeptConnection) (old mid new : Behind) → NotesThen false effect w c k old mid → (due_of_connection (state_after_notes w effect.notes.items) c ≡ end_or_nothing over) × (new ≡ mid) × OpenStandsFor (state_after_notes w effect.notes.items) c j new
    → AllGiven effect over w c j old new
given-all over effect w c k j old mid new given rest = record {
  given = record {
    serves = given.serves;
    cause = subst (λ (b : Behind). HaveCause old.faults b.faults effect.conditions w effect.notes.items) (sym rest.1) given.cause;
    meets = rest.2;
  };
  then_due = rest.0;
}

-- ---- results
-- what follows from what a result is
pub ok-map : {A E : Type 0} {P Q : A → Type 0} (r : Result A E) → IfOk r P → ((a : A) → P a → Q a) → IfOk r Q
ok-map (Ok a) p f = f a p
ok-map (Err e) p f = tt

pub on-ok : {A E : Type 0} {P Q R : Type 0} (r : Result A E) → OnOk r P → OnOk r Q → (P → Q → R) → OnOk r R
on-ok (Ok a) p q f = f p q
on-ok (Err e) p q f = tt
