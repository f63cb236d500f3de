-- The events that were made so far are a run, and their lines were written or are gathered.
use Rattle.std.proofs.Common.{◌≡◌, ◌≤◌, ◌+◌, ◌++◌, ℕ, List, [], ◌∷◌, Option, Some, None, Ok, Err, inl, inr, length, map, suc, take, sym, ◌∙◌, ap, subst, refl, arith, append_assoc, length-append}
use Rattle.std.specs.List.{filter_map, cons_option}
use Rattle.std.proofs.lemmas.List.{take_all, append-nil, append_assoc as list_assoc, append-nil as list_nil, map_push}
use Rattle.std.proofs.lemmas.List.Elements.{filter_map-append}
use Rattle.std.proofs.Math.Seq.{take-append-add}
use Rattle.sp_outside.specs.Told.{held_after}
use Rattle.sp_outside.specs.Causes.{HasSinkCause}
use Rattle.sp_outside.specs.declared.sink.SinkFault.{SinkFault}
use Rattle.sp_outside.specs.declared.sink.SinkFault.TheVariants.{Failed as sink_failed, NoMemory as sink_memory}
use Rattle.sockets.proofs.Giving.{held_after-append, held_after-nil}
use Rattle.resource_tree.specs.Content.{Content}
use Rattle.content_json.specs.ContentOf.{content as content_of}
use Rattle.any_config.specs.declared.farm.Farm.{Farm}
use Rattle.sling_dispatch.specs.Farms.{farm_in, farm_text}
use Rattle.run_events.specs.Events.{Event, Happens, Run, after_event, state_after_events, notes_of}
use Rattle.run_events.specs.States.{RunState, start_of}
use Rattle.run_events.specs.declared.note.Note.{Note}
use Rattle.run_events.specs.declared.step.Step.{Step}
use Rattle.replay_text.specs.EventLines.{line_of, IsEventLine}
use Rattle.replay_text.specs.Lines.{text_of_lines}
use Rattle.replay_text.specs.Scenario.{IsActs}
use Rattle.replay_text.specs.Transcript.{event_text, transcript_from, transcript}
use Rattle.replay_text.specs.declared.event_line.EventLine.{EventLine}
use Rattle.replay_text.specs.declared.scenario.Scenario.{Scenario}
use Rattle.sling_dispatch.specs.Runs.{AreArmed, Arming, IsArmed, IsSession, Unarmed, arming_after, arming_in, arming_of, asked_publisher_host, sling_start, step_of, told_of_events}
use Rattle.sling_dispatch.specs.ScriptedDisks.{arming_of_disk}
use Rattle.sling_dispatch.specs.Fronts.{IsNext, IsPlayed, SessionStandsFor}
use Rattle.sling_dispatch.specs.Endings.{Events, Broken}
use Rattle.sling_dispatch.specs.Reports.{StreamReport, report_of}
use Rattle.sling_dispatch.specs.InnerEndings.{AreActLines, IsDueOf, TellsText, ending_by, PlaysAll}
use Rattle.sling_dispatch.specs.declared.ending.Ending.{Ending}
use Rattle.sling_dispatch.specs.declared.ending.Ending.TheVariants.{Done, NoMemory}
use Rattle.sling_dispatch.specs.declared.session.Session.{Session}
use Rattle.sling_dispatch.proofs.ArmedLemmas.{Fit, armed_after, fit_plan, fit_event, armed_plan, armed_event, after_plan, after_event_armed, armed_by}

transcript_push : (n : ℕ) (events : List (List Note)) (notes : List Note)
    → transcript_from n (events ++ notes ∷ []) ≡ transcript_from n events ++ event_text (n + length events) notes
transcript_push n [] notes =
    let e : n ≡ n + 0 = omega arith in
    append-nil (event_text n notes) ∙ ap (λ k. event_text k notes) e
transcript_push n (first ∷ events) notes =
    let e : n + 1 + length events ≡ n + length (first ∷ events) = omega arith in
    ap (λ t. event_text n first ++ t) (transcript_push (n + 1) events notes ∙ ap (λ k. transcript_from (n + 1) events ++ event_text k notes) e)
    ∙ sym (append_assoc (event_text n first) (transcript_from (n + 1) events) (event_text (n + length (first ∷ events)) notes))

length_map : {A B : Type 0} (f : A → B) (xs : List A) → length (map f xs) ≡ length xs
length_map f [] = refl
length_map f (x ∷ xs) = ap (λ n. suc n) (length_map f xs)

-- what a run is when one more event comes
abbrev pub Goes : Type 0
Goes = (w : RunState) (events : List Event) (e : Event) → Run w events → Happens (state_after_events w events) e → Run w (events ++ e ∷ [])

abbrev pub Leaves : Type 0
Leaves = (w : RunState) (events : List Event) (e : Event) → state_after_events w (events ++ e ∷ []) ≡ after_event (state_after_events w events) e

-- what each line says of how the disk may fail
abbrev pub armings_of : List EventLine → List (Option Arming)
armings_of acts = map arming_of acts

-- Some acts were done. Of the lines of their events some were sent, and the rest is gathered.
pub record Played (tree : Content) (farm : Farm) (acts rest : List ℕ) (s : Session) (old new : Option (List ℕ)) (gathered : List ℕ) : Type 0 where
  pub made : List EventLine
  pub left : List EventLine
  pub acts_are : IsActs acts (made ++ left)
  pub left_are : IsActs rest left
  pub events : List Event
  pub steps : map (λ (e : Event). e.step) events ≡ filter_map (step_of (asked_publisher_host farm)) made
  pub run : Run (start_of (sling_start farm tree)) events
  pub fit : Fit (armings_of made) events
  pub armed : AreArmed Unarmed (start_of (sling_start farm tree)) (armings_of made) events
  pub may_fail : armed_after Unarmed (armings_of made) events ≡ arming_of_disk s.disk
  pub count_is : length events ≡ s.event
  pub stands : SessionStandsFor s (state_after_events (start_of (sling_start farm tree)) events)
  pub sent : List ℕ
  pub written : new ≡ held_after old sent
  pub text_is : told_of_events events ≡ sent ++ gathered

pub played_none : (tree : Content) (farm : Farm) (acts : List ℕ) (s : Session) (old : Option (List ℕ)) → AreActLines acts → SessionStandsFor s (start_of (sling_start farm tree))
    → arming_of_disk s.disk ≡ Unarmed → s.event ≡ 0 → (q : Played tree farm acts acts s old old []) × (q.events ≡ [])
played_none tree farm acts s old are stands unarmed event = (
  record {
    made = [];
    left = are.0;
    acts_are = are.1;
    left_are = are.1;
    events = [];
    steps = refl;
    run = tt;
    fit = tt;
    armed = tt;
    may_fail = sym unarmed;
    count_is = sym event;
    stands = stands;
    sent = [];
    written = sym (held_after-nil old);
    text_is = refl;
  },
  refl,
)

-- how lines tell their acts
abbrev pub FirstIsTold : Type 0
FirstIsTold = (lines rest : List ℕ) (acts : List EventLine) (act : EventLine) → IsActs lines acts → IsEventLine act → lines ≡ line_of act ++ 10 ∷ rest
    → (left : List EventLine) × (acts ≡ act ∷ left) × IsActs rest left

-- what one act more says
armings_push : (made : List EventLine) (act : EventLine) (o : Option Arming) → arming_of act ≡ o → armings_of (made ++ act ∷ []) ≡ armings_of made ++ o ∷ []
armings_push made act o e = map_push arming_of made act ∙ ap (λ (x : Option Arming). armings_of made ++ x ∷ []) e

made_push : (host : List ℕ) (made : List EventLine) (act : EventLine) (o : Option Step) → step_of host act ≡ o
    → filter_map (step_of host) (made ++ act ∷ []) ≡ filter_map (step_of host) made ++ cons_option o []
made_push host made act o e =
    filter_map-append (step_of host) made (act ∷ []) ∙ ap (λ (x : Option Step). filter_map (step_of host) made ++ cons_option x []) e

-- the next line plans failures
pub played_plan : (tree : Content) (farm : Farm) (acts rest after : List ℕ) (s t : Session) (old new : Option (List ℕ)) (gathered text : List ℕ) (act : EventLine) (left : List EventLine) (planned : Arming)
    → (p : Played tree farm acts rest s old new gathered) → step_of (asked_publisher_host farm) act ≡ None → arming_of act ≡ Some planned → p.left ≡ act ∷ left → IsActs after left
    → IsPlayed None (Some planned) s t text → (q : Played tree farm acts after t old new (gathered ++ text)) × (q.events ≡ p.events)
played_plan tree farm acts rest after s t old new gathered text act left planned p step arms is left_are x =
    let host = asked_publisher_host farm in
    let w = start_of (sling_start farm tree) in
    let lines = armings_push p.made act (Some planned) arms in (
      record {
        made = p.made ++ act ∷ [];
        left = left;
        acts_are = subst (IsActs acts) (ap (λ t. p.made ++ t) is ∙ sym (list_assoc p.made (act ∷ []) left)) p.acts_are;
        left_are = left_are;
        events = p.events;
        steps = p.steps ∙ sym (made_push host p.made act None step ∙ list_nil (filter_map (step_of host) p.made));
        run = p.run;
        fit = subst (λ (o : List (Option Arming)). Fit o p.events) (sym lines) (fit_plan (armings_of p.made) p.events planned p.fit);
        armed = subst (λ (o : List (Option Arming)). AreArmed Unarmed w o p.events) (sym lines) (armed_plan Unarmed w (armings_of p.made) p.events planned p.fit p.armed);
        may_fail = ap (λ (o : List (Option Arming)). armed_after Unarmed o p.events) lines ∙ after_plan Unarmed (armings_of p.made) p.events planned p.fit ∙ sym x.0.1;
        count_is = p.count_is ∙ sym x.0.2;
        stands = x.0.0 (state_after_events w p.events) p.stands;
        sent = p.sent;
        written = p.written;
        text_is = p.text_is ∙ ap (λ g. p.sent ++ g) (sym (ap (λ g. gathered ++ g) x.1 ∙ append-nil gathered));
      },
      refl,
    )

-- the next event was made, and its lines are to be gathered
pub played_event : Goes → Leaves → (tree : Content) (farm : Farm) (acts rest after : List ℕ) (s t : Session) (old new : Option (List ℕ)) (gathered text : List ℕ) (act : EventLine) (left : List EventLine) (step : Step)
    → (p : Played tree farm acts rest s old new gathered) → step_of (asked_publisher_host farm) act ≡ Some step → arming_of act ≡ None → p.left ≡ act ∷ left → IsActs after left → (x : IsPlayed (Some step) None s t text)
    → (q : Played tree farm acts after t old new (gathered ++ text)) × (event : Event) × (q.events ≡ p.events ++ event ∷ []) × (x.0 ≡ notes_of event)
played_event goes leaves tree farm acts rest after s t old new gathered text act left step p step_is arms_none is left_are x =
    let host = asked_publisher_host farm in
    let w = start_of (sling_start farm tree) in
    let lines = armings_push p.made act None arms_none in
    let notes = x.0 in
    let made = x.1.0 in
    let next = made.extends.extended (state_after_events w p.events) p.stands in
    let event = next.event in
    let events = p.events ++ event ∷ [] in
    let armed = arming_in (arming_of_disk s.disk) step in
    let arms = armed_by armed (arming_of_disk t.disk) made.after (state_after_events w p.events) event made.counted next.cause in
    let at : arming_in (armed_after Unarmed (armings_of p.made) p.events) event.step ≡ armed
    = ap (λ (a : Arming). arming_in a event.step) p.may_fail ∙ ap (λ (x : Step). arming_in (arming_of_disk s.disk) x) next.step_is in
    let here : IsArmed (arming_in (armed_after Unarmed (armings_of p.made) p.events) event.step) (state_after_events w p.events) event
    = subst (λ (a : Arming). IsArmed a (state_after_events w p.events) event) (sym at) arms.0 in
    let number : 1 + length (map notes_of p.events) ≡ t.event = omega (arith, p.count_is, length_map notes_of p.events, x.1.1) in
    let told : told_of_events events ≡ told_of_events p.events ++ event_text t.event notes = ap transcript (map_push notes_of p.events event) ∙ transcript_push 1 (map notes_of p.events) (notes_of event)
    ∙ ap (λ k. told_of_events p.events ++ event_text k (notes_of event)) number ∙ ap (λ ns. told_of_events p.events ++ event_text t.event ns) next.notes_are in (
      record {
        made = p.made ++ act ∷ [];
        left = left;
        acts_are = subst (IsActs acts) (ap (λ t. p.made ++ t) is ∙ sym (list_assoc p.made (act ∷ []) left)) p.acts_are;
        left_are = left_are;
        events = events;
        steps = map_push (λ (y : Event). y.step) p.events event ∙ ap (λ t. t ++ event.step ∷ []) p.steps ∙ ap (λ u. filter_map (step_of host) p.made ++ u ∷ []) next.step_is
            ∙ sym (made_push host p.made act (Some step) step_is);
        run = goes w p.events event p.run next.happens;
        fit = subst (λ (o : List (Option Arming)). Fit o events) (sym lines) (fit_event (armings_of p.made) p.events event p.fit);
        armed = subst (λ (o : List (Option Arming)). AreArmed Unarmed w o events) (sym lines) (armed_event Unarmed w (armings_of p.made) p.events event p.fit p.armed here);
        may_fail = ap (λ (o : List (Option Arming)). armed_after Unarmed o events) lines ∙ after_event_armed Unarmed (armings_of p.made) p.events event p.fit
            ∙ ap (λ (a : Arming). arming_after a event) at ∙ arms.1;
        count_is = omega (arith, p.count_is, length-append p.events (event ∷ []), x.1.1);
        stands = subst (SessionStandsFor t) (sym (leaves w p.events event)) next.stands;
        sent = p.sent;
        written = p.written;
        text_is = told ∙ ap (λ t. told_of_events p.events ++ t) (sym x.2) ∙ ap (λ t. t ++ text) p.text_is ∙ append_assoc p.sent gathered text;
      },
      event,
      refl,
      sym next.notes_are,
    )

-- the next line was played
pub played_next : Goes → Leaves → FirstIsTold → (tree : Content) (farm : Farm) (acts rest after : List ℕ) (s t : Session) (old new : Option (List ℕ)) (gathered text : List ℕ)
    → Played tree farm acts rest s old new gathered → IsNext (asked_publisher_host farm) rest after s t text → Played tree farm acts after t old new (gathered ++ text)
played_next goes leaves told_first tree farm acts rest after s t old new gathered text p x =
    let first = told_first rest after p.left x.act p.left_are x.is_line x.lines_are in
    by_step (step_of (asked_publisher_host farm) x.act) (arming_of x.act) refl refl x.played first
  where
    by_step : (o : Option Step) (a : Option Arming) → step_of (asked_publisher_host farm) x.act ≡ o → arming_of x.act ≡ a → IsPlayed o a s t text
        → ((left : List EventLine) × (p.left ≡ x.act ∷ left) × IsActs after left) → Played tree farm acts after t old new (gathered ++ text)
    by_step None None e f played first = absurd played
    by_step None (Some planned) e f played (left, is, are) = (played_plan tree farm acts rest after s t old new gathered text x.act left planned p e f is are played).0
    by_step (Some step) None e f played (left, is, are) = (played_event goes leaves tree farm acts rest after s t old new gathered text x.act left step p e f is are played).0
    by_step (Some step) (Some planned) e f played first = absurd played

-- the lines after an act's are shorter
pub next_shorter : (host rest after : List ℕ) (s t : Session) (text : List ℕ) → IsNext host rest after s t text → length after + 1 ≤ length rest
next_shorter host rest after s t text x = omega (arith, ap length x.lines_are, length-append (line_of x.act) (10 ∷ after))

-- more of the lines were sent
pub played_sent : (tree : Content) (farm : Farm) (acts rest : List ℕ) (s : Session) (old mid new : Option (List ℕ)) (gathered sent left : List ℕ)
    → Played tree farm acts rest s old mid gathered → new ≡ held_after mid sent → sent ++ left ≡ gathered → Played tree farm acts rest s old new left
played_sent tree farm acts rest s old mid new gathered sent left p e same = record {
  made = p.made;
  left = p.left;
  acts_are = p.acts_are;
  left_are = p.left_are;
  events = p.events;
  steps = p.steps;
  run = p.run;
  fit = p.fit;
  armed = p.armed;
  may_fail = p.may_fail;
  count_is = p.count_is;
  stands = p.stands;
  sent = p.sent ++ sent;
  written = e ∙ ap (λ m. held_after m sent) p.written ∙ held_after-append old p.sent sent;
  text_is = p.text_is ∙ ap (λ t. p.sent ++ t) (sym same) ∙ sym (append_assoc p.sent sent left);
}

pub session_of : (tree : Content) (farm : Farm) (acts rest : List ℕ) (t : Session) (old new : Option (List ℕ)) (gathered : List ℕ) (s : Scenario) → s.acts ≡ acts → content_of s.content ≡ Ok tree
    → farm_in (farm_text s.farm) ≡ Ok farm → (p : Played tree farm acts rest t old new gathered) → IsSession s p.left p.events
session_of tree farm acts rest t old new gathered s same reads farm_reads p = record {
  tree = tree;
  reads = reads;
  farm = farm;
  farm_reads = farm_reads;
  made = p.made;
  acts = subst (λ (b : List ℕ). IsActs b (p.made ++ p.left)) (sym same) p.acts_are;
  steps = p.steps;
  run = p.run;
  armed = p.armed;
}

-- only a prefix of what was gathered was written
prefix_due : (tree : Content) (farm : Farm) (acts rest : List ℕ) (k : ℕ) (t : Session) (mid : Option (List ℕ)) (gathered : List ℕ) (sink : StreamReport (List ℕ))
    → Played tree farm acts rest t sink.old mid gathered → sink.new ≡ held_after mid (take k gathered) → (s : Scenario) → s.acts ≡ acts
    → content_of s.content ≡ Ok tree → farm_in (farm_text s.farm) ≡ Ok farm → Broken (IsDueOf s) sink
prefix_due tree farm acts rest k t mid gathered sink p e s same reads farm_reads =
    let long = length p.sent in record {
      writing = Events s p.events;
      due = (refl, (p.left, session_of tree farm acts rest t _ _ gathered s same reads farm_reads p));
      wrote = (
        long + k,
        e ∙ ap (λ m. held_after m (take k gathered)) p.written ∙ held_after-append sink.old p.sent (take k gathered)
            ∙ ap (held_after sink.old) (sym (take-append-add p.sent gathered k) ∙ ap (take (long + k)) (sym p.text_is)),
      );
    }

-- the sink failed, or lacked memory, while it was to take what was gathered
pub broken_off : (tree : Content) (farm : Farm) (acts rest : List ℕ) (k : ℕ) (t : Session) (mid : Option (List ℕ)) (gathered : List ℕ) (fault : SinkFault)
    (sink : StreamReport (List ℕ)) → Played tree farm acts rest t sink.old mid gathered → sink.new ≡ held_after mid (take k gathered)
    → HasSinkCause {T = Unit {0}} sink.faults_old sink.faults_new (Err fault) → PlaysAll tree farm acts (ending_by fault) sink
broken_off tree farm acts rest k t mid gathered sink_failed sink p e cause = λ s same reads farm_reads.
    (prefix_due tree farm acts rest k t mid gathered sink p e s same reads farm_reads, cause)
broken_off tree farm acts rest k t mid gathered sink_memory sink p e cause = λ s same reads farm_reads.
    (prefix_due tree farm acts rest k t mid gathered sink p e s same reads farm_reads, cause)

-- no more events are made, since memory ran out, and what was gathered is written
pub played_stopped : (tree : Content) (farm : Farm) (acts rest : List ℕ) (t : Session) (mid : Option (List ℕ)) (gathered : List ℕ) (ending : Ending)
    (sink : StreamReport (List ℕ)) → Played tree farm acts rest t sink.old mid gathered
    → TellsText NoMemory gathered ending (report_of mid sink.new sink.faults_old sink.faults_new) → PlaysAll tree farm acts ending sink
played_stopped tree farm acts rest t mid gathered ending sink p (inl told) =
    subst (λ x. PlaysAll tree farm acts x sink) (sym told.0)
    (broken_off tree farm acts rest (length gathered) t mid gathered sink_memory sink p
    (told.1 ∙ ap (held_after mid) (sym (take_all (length gathered) gathered (omega arith)))) told.2)
played_stopped tree farm acts rest t mid gathered ending sink p (inr (inl told)) =
    subst (λ x. PlaysAll tree farm acts x sink) (sym told.0) (broken_off tree farm acts rest told.1.0 t mid gathered sink_failed sink p told.1.1 told.2)
played_stopped tree farm acts rest t mid gathered ending sink p (inr (inr told)) =
    subst (λ x. PlaysAll tree farm acts x sink) (sym told.0) (broken_off tree farm acts rest told.1.0 t mid gathered sink_memory sink p told.1.1 told.2)

-- no act is left where no byte is
pub none_left : (rest : List ℕ) (left : List EventLine) → IsActs rest left → rest ≡ [] → left ≡ []
none_left rest [] are e = refl
none_left rest (act ∷ left) are e =
    absurd (omega (arith, ap length (sym are.bytes_are ∙ e), length-append (line_of act) (10 ∷ text_of_lines (map line_of left))))

-- all acts were done, and what was gathered is written
pub played_all : (tree : Content) (farm : Farm) (acts rest : List ℕ) (t : Session) (mid : Option (List ℕ)) (gathered : List ℕ) (ending : Ending)
    (sink : StreamReport (List ℕ)) → rest ≡ [] → Played tree farm acts rest t sink.old mid gathered
    → TellsText Done gathered ending (report_of mid sink.new sink.faults_old sink.faults_new) → PlaysAll tree farm acts ending sink
played_all tree farm acts rest t mid gathered ending sink whole p (inl told) =
    subst (λ x. PlaysAll tree farm acts x sink) (sym told.0) (λ s same reads farm_reads.
    let session = session_of tree farm acts rest t _ _ gathered s same reads farm_reads p in record {
      writing = Events s p.events;
      due = (refl, (p.left, session));
      ends = (refl, subst (λ (left : List EventLine). IsSession s left p.events) (none_left rest p.left p.left_are whole) session);
      wrote = (told.1 ∙ ap (λ m. held_after m gathered) p.written ∙ held_after-append sink.old p.sent gathered ∙ ap (held_after sink.old) (sym p.text_is), told.2);
    })
played_all tree farm acts rest t mid gathered ending sink whole p (inr (inl told)) =
    subst (λ x. PlaysAll tree farm acts x sink) (sym told.0) (broken_off tree farm acts rest told.1.0 t mid gathered sink_failed sink p told.1.1 told.2)
played_all tree farm acts rest t mid gathered ending sink whole p (inr (inr told)) =
    subst (λ x. PlaysAll tree farm acts x sink) (sym told.0) (broken_off tree farm acts rest told.1.0 t mid gathered sink_memory sink p told.1.1 told.2)

-- what a text tells of the sink, from the call's beginning on
pub told_from : (good : Ending) (gathered text : List ℕ) (ending : Ending) (mid : Option (List ℕ)) (faults : ℕ) (sink : StreamReport (List ℕ)) → text ≡ gathered
    → faults ≡ sink.faults_old → TellsText good text ending (report_of mid sink.new faults sink.faults_new)
    → TellsText good gathered ending (report_of mid sink.new sink.faults_old sink.faults_new)
told_from good gathered text ending mid faults sink same none t =
    subst (λ (b : List ℕ). TellsText good b ending (report_of mid sink.new sink.faults_old sink.faults_new)) same
    (subst (λ (n : ℕ). TellsText good text ending (report_of mid sink.new n sink.faults_new)) none t)
