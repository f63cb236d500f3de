-- What one step of a server makes of a run, from its event and what was handed on of it.
use Rattle.std.proofs.Common.{◌≡◌, ◌≤◌, ◌∙◌, List, [], ◌∷◌, Some, None, sym, ap, subst, refl, arith}
use Rattle.std.proofs.lemmas.List.{append-nil}
use Rattle.outside_world.specs.Faults.{HasRisenBy}
use Rattle.outside_world.specs.Worlds.{told_more}
use Rattle.outside_world.specs.declared.world.WorldEntry.{WorldEntry}
use Rattle.outside_world.specs.declared.world.WorldEntry.TheVariants.{Unsent, Shut as shut_entry}
use Rattle.connections.specs.Ids.{ConnectionId}
use Rattle.run_events.specs.declared.note.Note.{Note}
use Rattle.run_events.specs.declared.note.Note.TheVariants as note
use Rattle.run_events.specs.declared.step.Step.{Step}
use Rattle.run_events.specs.declared.step.Step.TheVariants.{Gone}
use Rattle.run_events.specs.States.{RunState}
use Rattle.run_events.specs.Events.{Event, FurtherEvent, HasCause, Happens, after_event, notes_of}
use Rattle.run_laws.specs.Rounds.{HasNothingDue, LeavesFlights}
use Rattle.front.specs.Fronts.{FrontStandsFor}
use Rattle.serve_loop.specs.declared.handing.HandedOn.{HandedOn}
use Rattle.serve_loop.specs.declared.handing.HandedOn.TheVariants.{All, FailedAt, NoMemory}
use Rattle.serve_loop.specs.Turns.{Goes, IsHandedOn, Stage, due_step, entries_of_note, entries_of_notes, stage_after, stage_handed}
use Rattle.serve_loop.specs.Hands.{HandsOn, failures_of}
use Rattle.serve_loop.specs.Served.{HasOpenConnections, count_unsent}
use Rattle.serve_loop.specs.Steps.{AwaitsStep, CutsGoneOf, TurnGoesOn, HasOthersOpen, TurnIsCut, MakesGoneOf, MakesStep, ServerAt, ServesRun}
use Rattle.serve_loop.proofs.LogLemmas.{told_nothing}
use Rattle.serve_loop.proofs.HandingLemmas.{TellsHanded, handing_is_told}
use Rattle.serve_loop.proofs.OpenLemmas.{NoteLaws, event_leaves_open, event_names_open, failure_leaves_others_open, gone_leaves_open, gone_tells_nothing}
use Rattle.serve_loop.proofs.ChainLemmas.{goes_on_then, goes_on_until_cut, unsent_append}

-- what is so of each event
pub record EventLaws : Type 0 where
  pub noted : NoteLaws
  pub due : (w : RunState) (e : Event) → HasNothingDue w → Happens w e → HasNothingDue (after_event w e)
  pub gone : (w : RunState) (e : Event) (c : ConnectionId) → Happens w e → e.step ≡ Gone c → (after_event w e).connection c ≡ None
  pub same : (w : RunState) (e : Event) → HasNothingDue w → Happens w e → LeavesFlights e.step → (after_event w e).flights ≡ w.flights

-- ---- how many sendings failed

note_is_sent : (n : Note) → count_unsent (entries_of_note n) ≡ 0
note_is_sent (note.Sent c bytes) = refl
note_is_sent (note.Shut c) = refl
note_is_sent (note.Refused c) = refl
note_is_sent (note.Answer x) = refl
note_is_sent (note.Ask n c k) = refl
note_is_sent (note.Hit c k) = refl
note_is_sent (note.Local c s) = refl
note_is_sent (note.Flush n c i) = refl
note_is_sent (note.Sliced n) = refl
note_is_sent (note.Done n) = refl
note_is_sent (note.Failed n f) = refl
note_is_sent (note.Rendered n x) = refl
note_is_sent (note.Kept n k) = refl
note_is_sent (note.Unkept n) = refl
note_is_sent (note.Passed n) = refl
note_is_sent (note.Lost n) = refl
note_is_sent note.Idle = refl
note_is_sent (note.Up e) = refl
note_is_sent note.Down = refl
note_is_sent note.Hurt = refl
note_is_sent note.OutOfMemory = refl

notes_are_sent : (notes : List Note) → count_unsent (entries_of_notes notes) ≡ 0
notes_are_sent [] = refl
notes_are_sent (n ∷ notes) = unsent_append (entries_of_note n) (entries_of_notes notes) ∙ (omega (arith, note_is_sent n, notes_are_sent notes))

unsents_of_handing : (r : HandedOn) (notes : List Note) (entries : List WorldEntry) → IsHandedOn r notes entries → count_unsent entries ≡ failures_of r
unsents_of_handing All notes entries h = ap count_unsent h ∙ notes_are_sent notes
unsents_of_handing (FailedAt c) notes entries h =
    ap count_unsent h.entries_are ∙ (unsent_append (entries_of_notes h.before) (Unsent c ∷ shut_entry c ∷ []) ∙ (omega (arith, notes_are_sent h.before)))
unsents_of_handing NoMemory notes entries h = ap count_unsent h.entries_are ∙ notes_are_sent h.before

-- ---- one event

abbrev goes_by : (old new : ServerAt) (stage : Stage) (w : RunState) (e : Event) (r : HandedOn) (entries : List WorldEntry) → due_step stage w ≡ Some e.step → IsHandedOn r (notes_of e) entries → Happens w e
    → HasCause old.board.faults new.board.faults w e → new.told ≡ told_more old.told entries → HasRisenBy (failures_of r) old.send_faults new.send_faults
    → TurnGoesOn old new stage w (stage_handed r (stage_after stage w)) (after_event w e)
goes_by old new stage w e r entries due handed happens cause told unsents = record {
  made = record { event = e; handed = r; entries = entries } ∷ [];
  leads = (due, handed, (refl, refl));
  run = (happens, tt);
  told = told ∙ ap (told_more old.told) (sym (append-nil entries));
  unsents = subst (λ n. HasRisenBy n old.send_faults new.send_faults) (sym (ap count_unsent (append-nil entries) ∙ unsents_of_handing r (notes_of e) entries handed)) unsents;
  caused = (new.board.faults, cause, refl);
}

-- ---- an event of a step

-- an event of the step, where it was due, and what was handed on of it
pub record StepTaken (old new : ServerAt) (step : Step) (stage : Stage) (w : RunState) (r : HandedOn) : Type 0 where
  pub event : Event
  pub step_is : event.step ≡ step
  pub due : due_step stage w ≡ Some event.step
  pub happens : Happens w event
  pub cause : HasCause old.board.faults new.board.faults w event
  pub stands : FrontStandsFor new.publishing new.content new.board (after_event w event)
  pub nothing_due : HasNothingDue w
  pub awaits : AwaitsStep event.step old.told w
  pub told : TellsHanded r old.told new.told (notes_of event)
  pub unsents : HasRisenBy (failures_of r) old.send_faults new.send_faults

pub step_taken : (laws : EventLaws) (old new : ServerAt) (step : Step) (stage : Stage) (w : RunState) (r : HandedOn) (notes : List Note)
    → FurtherEvent (FrontStandsFor new.publishing new.content new.board) old.board.faults new.board.faults w step notes
    → ServesRun old w → AwaitsStep step old.told w → due_step stage w ≡ Some step → HandsOn r old.told new.told notes → HasRisenBy (failures_of r) old.send_faults new.send_faults
    → StepTaken old new step stage w r
step_taken laws old new step stage w r notes f serves awaits due hands unsents =
    let awaits_event = subst (λ s. AwaitsStep s old.told w) (sym f.step_is) awaits in
    record {
      event = f.event;
      step_is = f.step_is;
      due = due ∙ ap Some (sym f.step_is);
      happens = f.happens;
      cause = f.cause;
      stands = f.stands;
      nothing_due = serves.nothing_due;
      awaits = awaits_event;
      told = handing_is_told r old.told new.told (notes_of f.event) (event_names_open laws.noted w f.event old.told f.happens awaits_event.session awaits_event.connections awaits_event.opened)
          (subst (λ n. HandsOn r old.told new.told n) (sym f.notes_are) hands);
      unsents = unsents;
    }

abbrev taken_goes_on : (old new : ServerAt) (step : Step) (stage : Stage) (w : RunState) (r : HandedOn) (t : StepTaken old new step stage w r) → TurnGoesOn old new stage w (stage_handed r (stage_after stage w)) (after_event w t.event)
taken_goes_on old new step stage w r t = goes_by old new stage w t.event r t.told.entries t.due t.told.handed t.happens t.cause t.told.told_is t.unsents

taken_serves : (laws : EventLaws) (old new : ServerAt) (step : Step) (stage : Stage) (w : RunState) (r : HandedOn) (t : StepTaken old new step stage w r) → ServesRun new (after_event w t.event)
taken_serves laws old new step stage w r t = record { stands = t.stands; nothing_due = laws.due w t.event t.nothing_due t.happens }

-- all of it was handed on
pub step_made : (laws : EventLaws) (old new : ServerAt) (step : Step) (stage : Stage) (w : RunState) → StepTaken old new step stage w All → MakesStep old new step stage w
step_made laws old new step stage w t = record {
  event = t.event;
  step_is = t.step_is;
  happens = t.happens;
  left = after_event w t.event;
  goes_on = taken_goes_on old new step stage w All t;
  serving = record {
    serves = taken_serves laws old new step stage w All t;
    connections = subst (λ told. HasOpenConnections told (after_event w t.event)) (sym (t.told.told_is ∙ ap (told_more old.told) t.told.handed))
        (event_leaves_open laws.noted w t.event old.told t.happens t.awaits.session t.awaits.connections t.awaits.opened);
  };
  flights = refl;
}

-- a sending failed, and its connection went
pub step_failed : (laws : EventLaws) (old mid new : ServerAt) (step : Step) (stage : Stage) (w : RunState) (c : ConnectionId) → StepTaken old mid step stage w (FailedAt c) → MakesGoneOf c mid new → MakesStep old new step stage w
step_failed laws old mid new step stage w c t goes =
    let v = after_event w t.event in
    let serves = taken_serves laws old mid step stage w (FailedAt c) t in
    let others = subst (λ told. HasOthersOpen c told v) (sym t.told.told_is)
    (failure_leaves_others_open laws.noted w t.event old.told c t.told.entries t.happens t.awaits.session t.awaits.connections t.awaits.opened t.told.handed) in
    let gone = goes (Goes c (stage_after stage w)) v serves others refl in
    record {
      event = t.event;
      step_is = t.step_is;
      happens = t.happens;
      left = gone.left;
      goes_on = goes_on_then old mid new stage (Goes c (stage_after stage w)) (stage_after stage w) w v gone.left (taken_goes_on old mid step stage w (FailedAt c) t) gone.goes_on;
      serving = gone.serving;
      flights = gone.flights ∙ laws.same v gone.event serves.nothing_due gone.happens (subst LeavesFlights (sym gone.step_is) tt);
    }

-- memory ran out as it went
pub step_failed_short : (laws : EventLaws) (old mid new : ServerAt) (step : Step) (stage : Stage) (w : RunState) (c : ConnectionId) → StepTaken old mid step stage w (FailedAt c) → CutsGoneOf c mid new → TurnIsCut old new stage w
step_failed_short laws old mid new step stage w c t cuts =
    let v = after_event w t.event in
    let serves = taken_serves laws old mid step stage w (FailedAt c) t in
    let others = subst (λ told. HasOthersOpen c told v) (sym t.told.told_is)
    (failure_leaves_others_open laws.noted w t.event old.told c t.told.entries t.happens t.awaits.session t.awaits.connections t.awaits.opened t.told.handed) in
    goes_on_until_cut old mid new stage (Goes c (stage_after stage w)) w v (taken_goes_on old mid step stage w (FailedAt c) t) (cuts (Goes c (stage_after stage w)) v serves others refl)

-- memory ran out as it was handed on
pub step_short : (old new : ServerAt) (step : Step) (stage : Stage) (w : RunState) → StepTaken old new step stage w NoMemory → TurnIsCut old new stage w
step_short old new step stage w t =
    let goes = taken_goes_on old new step stage w NoMemory t in
    record {
      made = goes.made;
      due = (t.due, t.told.handed, tt);
      run = goes.run;
      told = goes.told;
      unsents = goes.unsents;
      last = new.board.faults;
      caused = goes.caused;
      last_is = omega arith;
    }

-- memory ran out before there was an event
pub cut_at_once : (old new : ServerAt) (stage : Stage) (w : RunState) → new.told ≡ old.told → new.send_faults ≡ old.send_faults → old.board.faults ≤ new.board.faults → TurnIsCut old new stage w
cut_at_once old new stage w told sends count = record {
  made = [];
  due = tt;
  run = tt;
  told = told ∙ sym (told_nothing old.told);
  unsents = (omega arith, omega arith);
  last = old.board.faults;
  caused = refl;
  last_is = count;
}

-- ---- a connection that goes

pub connection_went : (laws : EventLaws) (old new : ServerAt) (c : ConnectionId) (stage : Stage) (w : RunState) (notes : List Note) → FurtherEvent (FrontStandsFor new.publishing new.content new.board) old.board.faults new.board.faults w (Gone c) notes
    → ServesRun old w → HasOthersOpen c old.told w → due_step stage w ≡ Some (Gone c) → new.told ≡ old.told → new.send_faults ≡ old.send_faults → MakesStep old new (Gone c) stage w
connection_went laws old new c stage w notes f serves others due told sends = record {
  event = f.event;
  step_is = f.step_is;
  happens = f.happens;
  left = after_event w f.event;
  goes_on = goes_by old new stage w f.event All [] (due ∙ ap Some (sym f.step_is)) (gone_tells_nothing w f.event c f.step_is f.happens) f.happens f.cause (told ∙ sym (told_nothing old.told))
      (omega arith, omega arith);
  serving = record {
    serves = record { stands = f.stands; nothing_due = laws.due w f.event serves.nothing_due f.happens };
    connections = subst (λ t. HasOpenConnections t (after_event w f.event)) (sym told)
        (gone_leaves_open laws.noted w f.event c old.told f.step_is (laws.gone w f.event c f.happens f.step_is) others);
  };
  flights = refl;
}
