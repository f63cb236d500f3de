-- A run without choices: no hit is given, no flush begins, and the cache stays up.
use Rattle.std.proofs.Common.{◌≡◌, ℕ, ◌+◌, Bool, true, false, List, [], ◌∷◌, Option, Some, None, refl, sym, subst, ap, ◌∙◌, ⊎_elim}
use Rattle.std.specs.Prelude.{if◌then◌else◌, nat_eq, nat_le, ◌==◌}
use Rattle.std.specs.Map.{update}
use Rattle.std.specs.Option.{option_map}
use Rattle.std.specs.List.{AllByRecursion}
use Rattle.std.proofs.lemmas.Map.{update_apart, update_here}
use Rattle.std.proofs.lemmas.Bool.{cases_eq}
use Rattle.sp_base.specs.declared.answer.Answer.{Answer}
use Rattle.sp_base.specs.Requests.{Request}
use Rattle.cover_rules.specs.declared.page.PageKey.{PageKey}
use Rattle.error_answers.specs.Errors.{error_answer}
use Rattle.cache_log.specs.Entries.{LogEntry, Landed, Lost as lost_entry, Done as done_outcome, Failed as failed_outcome, downs_since}
use Rattle.connections.specs.declared.awaited.Awaited.TheVariants.{Flight as flight_awaited}
use Rattle.connections.specs.Slots.{Fixed, Says, local_response}
use Rattle.connections.specs.Connections.{Connection, fresh, with_piece, with_sent}
use Rattle.run_events.specs.declared.flying.Flying.{Flying}
use Rattle.run_events.specs.declared.note.Note.{Note}
use Rattle.run_events.specs.declared.note.Note.TheVariants.{Ask as asked, Hit, Local, Flush, Sliced, Done, Failed, Rendered, Kept, Unkept, Passed, Lost, Sent, Shut, Up, Down}
use Rattle.run_events.specs.declared.step.Step.{Step}
use Rattle.run_events.specs.declared.step.Step.TheVariants as step
use Rattle.run_events.specs.States.{RunState}
use Rattle.run_events.specs.Moves.{answer_in, due_of_connection, failure_status, flying_at, flush_at, key_in, local_slot, over_with, state_after_ask, state_after_ending, state_after_note, state_after_notes, treated_request}
use Rattle.run_events.specs.Events.{Event, after_event, most_connections, state_after_going, state_after_opening, state_before_notes}
use Rattle.run_laws.specs.Determined.{LeavesNoChoice}
use Rattle.run_laws.proofs.PlainLemmas.{ArePlain, IsPlain, plain-ended, plain-fed, plain-treated}

pub record Quiet (w : RunState) : Type 0 where
  pub flushes : w.flushes ≡ []
  pub slicing : w.slicing ≡ None
  pub downs : downs_since w.log ≡ 0
  pub plain : (c : ℕ) (k : Connection) → w.connection c ≡ Some k → ArePlain k.slots

-- one connection changes
plain-update : (w : RunState) (d : ℕ) (change : Connection → Connection) → ((k : Connection) → ArePlain k.slots → ArePlain (change k).slots) → ((c : ℕ) (k : Connection) → w.connection c ≡ Some k → ArePlain k.slots)
    → (c : ℕ) (k : Connection) → update nat_eq w.connection d (option_map change (w.connection d)) c ≡ Some k → ArePlain k.slots
plain-update w d change keeps plain c k at = ⊎_elim
    (λ same. here (w.connection d) refl (sym (update_here w.connection d (option_map change (w.connection d))) ∙ subst (λ x. update nat_eq w.connection d (option_map change (w.connection d)) x ≡ Some k) (sym same) at))
    (λ apart. plain c k (sym (update_apart w.connection d (option_map change (w.connection d)) c (λ e. apart (sym e))) ∙ at))
    (cases_eq d c)
  where
    here : (o : Option Connection) → w.connection d ≡ o → option_map change o ≡ Some k → ArePlain k.slots
    here None is e = absurd (cc e)
    here (Some j) is e = let same : change j ≡ k = cc e in subst (λ (x : Connection). ArePlain x.slots) same (keeps j (plain d j is))

plain-gone : (w : RunState) (d : ℕ) → ((c : ℕ) (k : Connection) → w.connection c ≡ Some k → ArePlain k.slots) → (c : ℕ) (k : Connection) → update nat_eq w.connection d None c ≡ Some k → ArePlain k.slots
plain-gone w d plain c k at = ⊎_elim
    (λ same. absurd (let none : None ≡ Some k = sym (update_here w.connection d None) ∙ subst (λ x. update nat_eq w.connection d None x ≡ Some k) (sym same) at in let never : ⊥ = cc in never))
    (λ apart. plain c k (sym (update_apart w.connection d None c (λ e. apart (sym e))) ∙ at))
    (cases_eq d c)

plain-opened : (w : RunState) (d : ℕ) (peer : List ℕ) → ((c : ℕ) (k : Connection) → w.connection c ≡ Some k → ArePlain k.slots) → (c : ℕ) (k : Connection) → update nat_eq w.connection d (Some (fresh peer)) c ≡ Some k → ArePlain k.slots
plain-opened w d peer plain c k at = ⊎_elim
    (λ same.
    let one : Some (fresh peer) ≡ Some k = sym (update_here w.connection d (Some (fresh peer))) ∙ subst (λ x. update nat_eq w.connection d (Some (fresh peer)) x ≡ Some k) (sym same) at in
    let is : fresh peer ≡ k = cc one in
    subst (λ (x : Connection). ArePlain x.slots) is tt)
    (λ apart. plain c k (sym (update_apart w.connection d (Some (fresh peer)) c (λ e. apart (sym e))) ∙ at))
    (cases_eq d c)

-- ---- notes
plain-local : (status : ℕ) → IsPlain (local_response status)
plain-local status = by_test (status == 507)
  where
    by_test : (b : Bool) → IsPlain (if b then Fixed else Says (error_answer status))
    by_test true = tt
    by_test false = tt

plain-slot : (request : Option Request) (status : ℕ) (k : Connection) → IsPlain (local_slot request status k).response
plain-slot None status k = plain-local status
plain-slot (Some request) status k = plain-local status

quiet-asked : (w : RunState) (n c : ℕ) (key : Option PageKey) (request : Option Request) → Quiet w → Quiet (state_after_ask w n c key request)
quiet-asked w n c key None quiet = quiet
quiet-asked w n c key (Some request) quiet = record { flushes = quiet.flushes; slicing = quiet.slicing; downs = quiet.downs; plain = plain-update w c _ (λ k are. plain-treated _ k tt are) quiet.plain }

quiet-over : (w : RunState) (n : ℕ) (answer : Answer) (entry : LogEntry) (flying : Option Flying) → downs_since (entry ∷ w.log) ≡ downs_since w.log → Quiet w → Quiet (over_with w n answer entry flying)
quiet-over w n answer entry None same quiet = quiet
quiet-over w n answer entry (Some f) same quiet = record { flushes = quiet.flushes; slicing = quiet.slicing; downs = same ∙ quiet.downs; plain = plain-update w f.connection _ (λ k are. plain-ended (flight_awaited n) (Says answer) k.slots tt are) quiet.plain }

pub quiet-note : (w : RunState) (note : Note) → LeavesNoChoice note → Quiet w → Quiet (state_after_note w note)
quiet-note w (asked n c key) none quiet = quiet-asked w n c key (treated_request (due_of_connection w c)) quiet
quiet-note w (Hit c key) none quiet = absurd none
quiet-note w (Local c status) none quiet = record { flushes = quiet.flushes; slicing = quiet.slicing; downs = quiet.downs; plain = plain-update w c _ (λ k are. plain-treated _ k (plain-slot (treated_request (due_of_connection w c)) status k) are) quiet.plain }
quiet-note w (Flush v c inv) none quiet = absurd none
quiet-note w (Sliced v) none quiet = record { flushes = quiet.flushes; slicing = refl; downs = quiet.downs; plain = quiet.plain }
quiet-note w (Done v) none quiet = subst (λ o. Quiet (state_after_ending w v done_outcome (Says (error_answer 200)) o)) (sym (ap (flush_at v) quiet.flushes)) quiet
quiet-note w (Failed v failure) none quiet = subst (λ o. Quiet (state_after_ending w v failed_outcome (Says (error_answer (failure_status failure))) o)) (sym (ap (flush_at v) quiet.flushes)) quiet
quiet-note w (Rendered n answer) none quiet = record { flushes = quiet.flushes; slicing = quiet.slicing; downs = quiet.downs; plain = quiet.plain }
quiet-note w (Kept n key) none quiet = quiet-over w n (answer_in (flying_at n w.flights)) (Landed n (key_in w (flying_at n w.flights)) (answer_in (flying_at n w.flights)) _) (flying_at n w.flights) refl quiet
quiet-note w (Unkept n) none quiet = quiet-over w n (answer_in (flying_at n w.flights)) (Landed n (key_in w (flying_at n w.flights)) (answer_in (flying_at n w.flights)) _) (flying_at n w.flights) refl quiet
quiet-note w (Passed n) none quiet = quiet-over w n (answer_in (flying_at n w.flights)) (Landed n (key_in w (flying_at n w.flights)) (answer_in (flying_at n w.flights)) _) (flying_at n w.flights) refl quiet
quiet-note w (Lost n) none quiet = quiet-over w n (error_answer 502) (lost_entry n) (flying_at n w.flights) refl quiet
quiet-note w (Sent c bytes) none quiet = record { flushes = quiet.flushes; slicing = quiet.slicing; downs = quiet.downs; plain = plain-update w c (with_sent bytes) (λ k are. are) quiet.plain }
quiet-note w (Shut c) none quiet = record { flushes = quiet.flushes; slicing = quiet.slicing; downs = quiet.downs; plain = plain-gone w c quiet.plain }
quiet-note w (Up epoch) none quiet = record { flushes = quiet.flushes; slicing = quiet.slicing; downs = refl; plain = quiet.plain }
quiet-note w Down none quiet = absurd none
quiet-note w note none quiet = quiet

pub quiet-notes : (w : RunState) (notes : List Note) → AllByRecursion LeavesNoChoice notes → Quiet w → Quiet (state_after_notes w notes)
quiet-notes w [] none quiet = quiet
quiet-notes w (note ∷ notes) none quiet = quiet-notes (state_after_note w note) notes none.1 (quiet-note w note none.0 quiet)

-- ---- steps
quiet-opened : (w : RunState) (c : ℕ) (peer : List ℕ) (at : Option Connection) → Quiet w → Quiet (state_after_opening w c peer at)
quiet-opened w c peer (Some k) quiet = quiet
quiet-opened w c peer None quiet = by_room (nat_le most_connections w.connection_count)
  where
    by_room : (full : Bool) → Quiet (if full then w else record w { connection = update nat_eq w.connection c (Some (fresh peer)); connection_count = w.connection_count + 1 })
    by_room true = quiet
    by_room false = record { flushes = quiet.flushes; slicing = quiet.slicing; downs = quiet.downs; plain = plain-opened w c peer quiet.plain }

quiet-going : (w : RunState) (c : ℕ) (at : Option Connection) → Quiet w → Quiet (state_after_going w c at)
quiet-going w c None quiet = quiet
quiet-going w c (Some k) quiet = record { flushes = quiet.flushes; slicing = quiet.slicing; downs = quiet.downs; plain = plain-gone w c quiet.plain }

pub quiet-begun : (w : RunState) (e : Event) (s : Step) → Quiet w → Quiet (state_before_notes w e s)
quiet-begun w e (step.Opened c peer) quiet = quiet-opened w c peer (w.connection c) quiet
quiet-begun w e (step.Piece c bytes) quiet = record { flushes = quiet.flushes; slicing = quiet.slicing; downs = quiet.downs; plain = plain-update w c (with_piece bytes e.turns e.ends) (λ k are. plain-fed bytes e.turns e.ends k are) quiet.plain }
quiet-begun w e (step.Gone c) quiet = quiet-going w c (w.connection c) quiet
quiet-begun w e step.Restart quiet = record { flushes = quiet.flushes; slicing = quiet.slicing; downs = quiet.downs; plain = λ c k at. absurd (cc at) }
quiet-begun w e s quiet = quiet

pub quiet-event : (w : RunState) (e : Event) → AllByRecursion LeavesNoChoice e.body → Quiet w → Quiet (after_event w e)
quiet-event w e none quiet = quiet-notes (state_before_notes w e e.step) e.body none (quiet-begun w e e.step quiet)
