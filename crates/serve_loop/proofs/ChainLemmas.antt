-- What was made, and then what is made next.
use Rattle.std.proofs.Common.{◌≡◌, ◌+◌, ◌++◌, ◌∙◌, ℕ, true, false, List, [], ◌∷◌, Option, sym, ap, subst, refl, arith, cond}
use Rattle.std.proofs.lemmas.List.Sums.{sum_by-append}
use Rattle.std.proofs.lemmas.List.{map-append}
use Rattle.std.proofs.lemmas.Grind.{flat_map-append}
use Rattle.outside_world.specs.Faults.{HasRisenBy}
use Rattle.outside_world.specs.Worlds.{told_more}
use Rattle.outside_world.specs.declared.world.WorldEntry.{WorldEntry}
use Rattle.run_events.specs.States.{RunState}
use Rattle.run_events.specs.Events.{Event, Run, after_event, state_after_events}
use Rattle.serve_loop.specs.Turns.{AreDue, HandedEvent, MayRest, Stage, entries_made, events_made, stage_after, stage_handed}
use Rattle.serve_loop.specs.Served.{AreCaused, count_unsent, is_unsent}
use Rattle.serve_loop.specs.Steps.{TurnGoesOn, TurnIsCut, LeadsTo, ServerAt}
use Rattle.serve_loop.proofs.LogLemmas.{told_nothing, told_twice}

-- ---- runs, and their counts

pub run_append : (w : RunState) (a b : List Event) → Run w a → Run (state_after_events w a) b → Run w (a ++ b)
run_append w [] b h k = k
run_append w (e ∷ a) b h k = (h.0, run_append (after_event w e) a b h.1 k)

pub state_append : (w : RunState) (a b : List Event) → state_after_events w (a ++ b) ≡ state_after_events (state_after_events w a) b
state_append w [] b = refl
state_append w (e ∷ a) b = state_append (after_event w e) a b

pub caused_append : (before middle after : ℕ) (w : RunState) (a b : List Event) → AreCaused before middle w a → AreCaused middle after (state_after_events w a) b → AreCaused before after w (a ++ b)
caused_append before middle after w [] b h k = subst (λ n. AreCaused n after w b) (sym h) k
caused_append before middle after w (e ∷ a) b h k = (h.0, h.1, caused_append h.0 middle after (after_event w e) a b h.2 k)

pub risen_more : (n m before middle after : ℕ) → HasRisenBy n before middle → HasRisenBy m middle after → HasRisenBy (n + m) before after
risen_more n m before middle after h k = (omega arith, omega arith)

pub unsent_append : (a b : List WorldEntry) → count_unsent (a ++ b) ≡ count_unsent a + count_unsent b
unsent_append a b = sum_by-append (λ entry. cond (is_unsent entry) 1 0) a b

-- ---- from stage to stage

pub leads_append : (stage : Stage) (w : RunState) (a : List HandedEvent) (middle : Stage) (v : RunState) (b : List HandedEvent) (later : Stage) (u : RunState)
    → LeadsTo stage w a middle v → LeadsTo middle v b later u → LeadsTo stage w (a ++ b) later u
leads_append stage w [] middle v b later u h k = subst (λ s. LeadsTo s w b later u) (sym h.0) (subst (λ x. LeadsTo middle x b later u) (sym h.1) k)
leads_append stage w (m ∷ a) middle v b later u h k =
    (h.0, h.1, leads_append (stage_handed m.handed (stage_after stage w)) (after_event w m.event) a middle v b later u h.2 k)

-- the state that they lead to is that after them
pub leads_to_state : (stage : Stage) (w : RunState) (a : List HandedEvent) (later : Stage) (v : RunState) → LeadsTo stage w a later v → state_after_events w (events_made a) ≡ v
leads_to_state stage w [] later v h = h.1
leads_to_state stage w (m ∷ a) later v h = leads_to_state (stage_handed m.handed (stage_after stage w)) (after_event w m.event) a later v h.2

-- where no step is due at the end they are a whole turn
pub leads_to_rest : (stage : Stage) (w : RunState) (a : List HandedEvent) (later : Stage) (v : RunState) → LeadsTo stage w a later v → MayRest true later v → AreDue true stage w a
leads_to_rest stage w [] later v h k = subst (λ s. MayRest true s w) (sym h.0) (subst (λ x. MayRest true later x) (sym h.1) k)
leads_to_rest stage w (m ∷ a) later v h k =
    (h.0, h.1, leads_to_rest (stage_handed m.handed (stage_after stage w)) (after_event w m.event) a later v h.2 k)

leads_then_due : (stage : Stage) (w : RunState) (a : List HandedEvent) (middle : Stage) (v : RunState) (b : List HandedEvent)
    → LeadsTo stage w a middle v → AreDue false middle v b → AreDue false stage w (a ++ b)
leads_then_due stage w [] middle v b h k = subst (λ s. AreDue false s w b) (sym h.0) (subst (λ x. AreDue false middle x b) (sym h.1) k)
leads_then_due stage w (m ∷ a) middle v b h k =
    (h.0, h.1, leads_then_due (stage_handed m.handed (stage_after stage w)) (after_event w m.event) a middle v b h.2 k)

events_append : (a b : List HandedEvent) → events_made (a ++ b) ≡ events_made a ++ events_made b
events_append a b = map-append (λ (m : HandedEvent). m.event) a b

entries_append : (a b : List HandedEvent) → entries_made (a ++ b) ≡ entries_made a ++ entries_made b
entries_append a b = flat_map-append (λ (m : HandedEvent). m.entries) a b

-- ---- what goes on

pub goes_nowhere : (s : ServerAt) (stage : Stage) (w : RunState) → TurnGoesOn s s stage w stage w
goes_nowhere s stage w = record {
  made = [];
  leads = (refl, refl);
  run = tt;
  told = sym (told_nothing s.told);
  unsents = (omega arith, omega arith);
  caused = refl;
}

run_of_both : (w v : RunState) (a b : List HandedEvent) → state_after_events w (events_made a) ≡ v → Run w (events_made a) → Run v (events_made b) → Run w (events_made (a ++ b))
run_of_both w v a b e h k =
    subst (λ es. Run w es) (sym (events_append a b)) (run_append w (events_made a) (events_made b) h (subst (λ x. Run x (events_made b)) (sym e) k))

told_of_both : (old middle new : Option (List WorldEntry)) (a b : List HandedEvent) → middle ≡ told_more old (entries_made a) → new ≡ told_more middle (entries_made b) → new ≡ told_more old (entries_made (a ++ b))
told_of_both old middle new a b h k =
    k ∙ (ap (λ t. told_more t (entries_made b)) h ∙ (told_twice old (entries_made a) (entries_made b) ∙ ap (told_more old) (sym (entries_append a b))))

unsents_of_both : (before middle after : ℕ) (a b : List HandedEvent) → HasRisenBy (count_unsent (entries_made a)) before middle → HasRisenBy (count_unsent (entries_made b)) middle after
    → HasRisenBy (count_unsent (entries_made (a ++ b))) before after
unsents_of_both before middle after a b h k =
    subst (λ n. HasRisenBy n before after) (sym (ap count_unsent (entries_append a b) ∙ unsent_append (entries_made a) (entries_made b)))
    (risen_more (count_unsent (entries_made a)) (count_unsent (entries_made b)) before middle after h k)

caused_of_both : (before middle after : ℕ) (w v : RunState) (a b : List HandedEvent) → state_after_events w (events_made a) ≡ v → AreCaused before middle w (events_made a) → AreCaused middle after v (events_made b)
    → AreCaused before after w (events_made (a ++ b))
caused_of_both before middle after w v a b e h k =
    subst (λ es. AreCaused before after w es) (sym (events_append a b))
    (caused_append before middle after w (events_made a) (events_made b) h (subst (λ x. AreCaused middle after x (events_made b)) (sym e) k))

pub goes_on_then : (s t u : ServerAt) (stage middle later : Stage) (w v x : RunState) → TurnGoesOn s t stage w middle v → TurnGoesOn t u middle v later x → TurnGoesOn s u stage w later x
goes_on_then s t u stage middle later w v x h k =
    let e = leads_to_state stage w h.made middle v h.leads in
    record {
      made = h.made ++ k.made;
      leads = leads_append stage w h.made middle v k.made later x h.leads k.leads;
      run = run_of_both w v h.made k.made e h.run k.run;
      told = told_of_both s.told t.told u.told h.made k.made h.told k.told;
      unsents = unsents_of_both s.send_faults t.send_faults u.send_faults h.made k.made h.unsents k.unsents;
      caused = caused_of_both s.board.faults t.board.faults u.board.faults w v h.made k.made e h.caused k.caused;
    }

pub goes_on_until_cut : (s t u : ServerAt) (stage middle : Stage) (w v : RunState) → TurnGoesOn s t stage w middle v → TurnIsCut t u middle v → TurnIsCut s u stage w
goes_on_until_cut s t u stage middle w v h k =
    let e = leads_to_state stage w h.made middle v h.leads in
    record {
      made = h.made ++ k.made;
      due = leads_then_due stage w h.made middle v k.made h.leads k.due;
      run = run_of_both w v h.made k.made e h.run k.run;
      told = told_of_both s.told t.told u.told h.made k.made h.told k.told;
      unsents = unsents_of_both s.send_faults t.send_faults u.send_faults h.made k.made h.unsents k.unsents;
      last = k.last;
      caused = caused_of_both s.board.faults t.board.faults k.last w v h.made k.made e h.caused k.caused;
      last_is = k.last_is;
    }
