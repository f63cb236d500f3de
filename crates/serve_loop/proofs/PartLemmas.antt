-- What a turn is made of: flights that land, one slice, and connections that go.
use Rattle.std.proofs.Common.{◌≡◌, ◌≢◌, ◌++◌, ◌∙◌, ◌⊎◌, inl, inr, ⊎_elim, ℕ, Bool, true, false, List, [], ◌∷◌, Option, Some, None, IsSome, is_some, sym, ap, subst, refl, if◌then◌else◌}
use Rattle.std.specs.List.{AllByRecursion, find}
use Rattle.std.proofs.lemmas.Bool.{false≢true}
use Rattle.std.proofs.lemmas.Option.{none-some, same_Some}
use Rattle.outside_world.specs.declared.world.Happening.{Happening}
use Rattle.outside_world.specs.declared.world.Happening.TheVariants.{Opened as opened_news, Piece as piece_news, Gone as gone_news, Quiet}
use Rattle.outside_world.specs.declared.world.WorldEntry.{WorldEntry}
use Rattle.outside_world.specs.declared.world.WorldEntry.TheVariants.{Unsent, Shut as shut_entry}
use Rattle.connections.specs.Ids.{ConnectionId}
use Rattle.run_events.specs.declared.flying.Flying.{Flying}
use Rattle.run_events.specs.declared.flying.Flushing.{Flushing}
use Rattle.run_events.specs.declared.note.Note.{Note}
use Rattle.run_events.specs.declared.step.Pick.TheVariants.{First}
use Rattle.run_events.specs.declared.step.Step.{Step}
use Rattle.run_events.specs.declared.step.Step.TheVariants.{Opened, Piece, Gone, Direct, Render, Deliver, Lose, Purge, Restart}
use Rattle.run_events.specs.States.{RunState}
use Rattle.run_events.specs.Events.{Event, Happens, Run, after_event, is_unrendered, notes_of, state_after_events}
use Rattle.run_events.specs.Moves.{with_rendered}
use Rattle.run_laws.specs.Rounds.{AreUnrendered, HasNothingDue, LeavesFlights, LeavesUnrendered}
use Rattle.serve_loop.specs.declared.handing.HandedOn.{HandedOn}
use Rattle.serve_loop.specs.declared.handing.HandedOn.TheVariants.{All, FailedAt, NoMemory}
use Rattle.serve_loop.specs.Turns.{AreDue, AreWholeTurns, Begins, Delivers, Goes, HandedEvent, IsCutTurn, IsHandedOn, MayRest, Renders, Rests, ServedTurn, Stage, Stops, due_step, entries_of_notes, events_made, has_unrendered, is_flushing, stage_after, stage_handed, stage_of, turn_events, with_cut}
use Rattle.serve_loop.specs.TurnParts.{ConnectionsGoForACause, EndsUnsent, HasOneSlice, IsGoing, MayGo, TurnsHaveOneSlice, TurnsLandAll}
use Rattle.serve_loop.proofs.ChainLemmas.{state_append}
use Rattle.serve_loop.proofs.RoundLemmas.{FirstLeft, FlightLaws, first_is_found, render_due}
use Rattle.serve_loop.proofs.TurnLemmas.{events_of_both}

-- what is so after an event where nothing was due
abbrev pub StaysIdle : Type 0
StaysIdle = (w : RunState) (e : Event) → HasNothingDue w → Happens w e → HasNothingDue (after_event w e)

-- ---- which step is due

some_left : (flights : List Flying) → is_some (find is_unrendered flights) ≡ true → AreUnrendered flights → FirstLeft flights
some_left [] some h = absurd (false≢true some)
some_left (flying ∷ later) some h = record { flying = flying; later = later; flights_are = refl; unrendered = h.0; rest = h.1 }

none_left : (flights : List Flying) → is_some (find is_unrendered flights) ≡ false → AreUnrendered flights → flights ≡ []
none_left [] none h = refl
none_left (flying ∷ later) none h = absurd (false≢true (sym none ∙ ap (λ (o : Option Flying). is_some o) (first_is_found flying later h.0)))

-- where no flight is to be rendered
due_after_rounds : (w : RunState) → has_unrendered w ≡ false → due_step Renders w ≡ (if is_flushing w.flushes then Some Purge else None)
due_after_rounds w has = ap (λ b. if b then Some (Render First) else (if is_flushing w.flushes then Some Purge else None)) has

flushes_there : (flushes : List Flushing) (step : Step) → (if is_flushing flushes then Some Purge else None) ≡ Some step → (step ≡ Purge) × (flushes ≢ [])
flushes_there [] step is = absurd (none-some step is)
flushes_there (flush ∷ flushes) step is = (sym (same_Some Purge step is), λ e. cc e)

flushes_gone : (flushes : List Flushing) → (if is_flushing flushes then Some Purge else None) ≡ None → flushes ≡ []
flushes_gone [] is = refl
flushes_gone (flush ∷ flushes) is = absurd (none-some Purge (sym is))

due_slice : (w : RunState) (step : Step) → has_unrendered w ≡ false → due_step Renders w ≡ Some step → (step ≡ Purge) × (w.flushes ≢ [])
due_slice w step has is = flushes_there w.flushes step (sym (due_after_rounds w has) ∙ is)

due_render : (w : RunState) (step : Step) → has_unrendered w ≡ true → due_step Renders w ≡ Some step → step ≡ Render First
due_render w step has is = sym (same_Some (Render First) step (sym (render_due w has) ∙ is))

then_delivers : (w : RunState) (b : Bool) → has_unrendered w ≡ b → stage_after Renders w ≡ (if b then Delivers else Rests)
then_delivers w b has = ap (λ x. if x then Delivers else Rests) has

-- ---- the flights at each stage

-- the step is one of what comes
abbrev IsOfNews : Step → Type 0
IsOfNews (Opened c peer) = Unit {0}
IsOfNews (Piece c bytes) = Unit {0}
IsOfNews (Gone c) = Unit {0}
IsOfNews _ = ⊥

news_render_none : (step : Step) → IsOfNews step → LeavesUnrendered step
news_render_none (Opened c peer) h = tt
news_render_none (Piece c bytes) h = tt
news_render_none (Gone c) h = tt
news_render_none (Direct target) h = absurd h
news_render_none (Render pick) h = absurd h
news_render_none (Deliver pick) h = absurd h
news_render_none (Lose pick) h = absurd h
news_render_none Purge h = absurd h
news_render_none Restart h = absurd h

-- the first of the flights is rendered, and no other
record FirstIsRendered (flights : List Flying) : Type 0 where
  flying : Flying
  later : List Flying
  flights_are : flights ≡ flying ∷ later
  rendered : IsSome flying.rendered
  unrendered : AreUnrendered later

abbrev FlightsAt : Stage → List Flying → Type 0
FlightsAt (Begins step) flights = IsOfNews step × (flights ≡ [])
FlightsAt Renders flights = AreUnrendered flights
FlightsAt Delivers flights = FirstIsRendered flights
FlightsAt Rests flights = flights ≡ []
FlightsAt (Goes c later) flights = FlightsAt later flights
FlightsAt Stops flights = Unit {0}

begins_at : (news : Happening) (flights : List Flying) → flights ≡ [] → FlightsAt (stage_of news) flights
begins_at (opened_news c peer) flights none = (tt, none)
begins_at (piece_news c bytes) flights none = (tt, none)
begins_at (gone_news c) flights none = (tt, none)
begins_at Quiet flights none = subst AreUnrendered (sym none) tt

after_rounds : FlightLaws → (w : RunState) (e : Event) (b : Bool) → has_unrendered w ≡ b → HasNothingDue w → Happens w e → due_step Renders w ≡ Some e.step → AreUnrendered w.flights → FlightsAt (stage_after Renders w) (after_event w e).flights
after_rounds laws w e true has nothing happens is at =
    let first = some_left w.flights has at in
    let answer = laws.rendered w e first.flying first.later nothing happens (due_render w e.step has is) first.flights_are first.unrendered in
    let there : FirstIsRendered (after_event w e).flights = record { flying = with_rendered answer.0 first.flying; later = first.later; flights_are = answer.1; rendered = refl; unrendered = first.rest } in
    subst (λ s. FlightsAt s (after_event w e).flights) (sym (then_delivers w true has)) there
after_rounds laws w e false has nothing happens is at =
    let step_is : e.step ≡ Purge = (due_slice w e.step has is).0 in
    subst (λ s. FlightsAt s (after_event w e).flights) (sym (then_delivers w false has)) (laws.same w e nothing happens (subst LeavesFlights (sym step_is) tt) ∙ none_left w.flights has at)

after_due : FlightLaws → (stage : Stage) (w : RunState) (e : Event) → HasNothingDue w → Happens w e → due_step stage w ≡ Some e.step → FlightsAt stage w.flights → FlightsAt (stage_after stage w) (after_event w e).flights
after_due laws (Begins step) w e nothing happens is at = laws.unrendered w e happens (subst LeavesUnrendered (same_Some step e.step is) (news_render_none step at.0)) (subst AreUnrendered (sym at.1) tt)
after_due laws Renders w e nothing happens is at = after_rounds laws w e (has_unrendered w) refl nothing happens is at
after_due laws Delivers w e nothing happens is at = subst AreUnrendered (sym (laws.landed w e at.flying at.later nothing happens (sym (same_Some (Deliver First) e.step is)) at.flights_are at.rendered)) at.unrendered
after_due laws Rests w e nothing happens is at = absurd (none-some e.step is)
after_due laws (Goes c later) w e nothing happens is at = subst (FlightsAt later) (sym (laws.same w e nothing happens (subst LeavesFlights (same_Some (Gone c) e.step is) tt))) at
after_due laws Stops w e nothing happens is at = absurd (none-some e.step is)

handed_at : (h : HandedOn) (stage : Stage) (flights : List Flying) → FlightsAt stage flights → FlightsAt (stage_handed h stage) flights
handed_at All stage flights at = at
handed_at (FailedAt c) stage flights at = at
handed_at NoMemory stage flights at = tt

rest_at_renders : (w : RunState) (b : Bool) → has_unrendered w ≡ b → due_step Renders w ≡ None → AreUnrendered w.flights → (w.flights ≡ []) × (w.flushes ≡ [])
rest_at_renders w true has rest at = absurd (none-some (Render First) (sym rest ∙ render_due w has))
rest_at_renders w false has rest at = (none_left w.flights has at, flushes_gone w.flushes (sym (due_after_rounds w has) ∙ rest))

at_rest : (stage : Stage) (w : RunState) → MayRest true stage w → FlightsAt stage w.flights → w.flights ≡ []
at_rest (Begins step) w rest at = at.1
at_rest Renders w rest at = (rest_at_renders w (has_unrendered w) refl rest at).0
at_rest Delivers w rest at = absurd (none-some (Deliver First) (sym rest))
at_rest Rests w rest at = at
at_rest (Goes c later) w rest at = absurd (none-some (Gone c) (sym rest))
at_rest Stops w rest at = absurd rest

made_land : FlightLaws → StaysIdle → (stage : Stage) (w : RunState) (made : List HandedEvent) → HasNothingDue w → Run w (events_made made) → AreDue true stage w made → FlightsAt stage w.flights → (state_after_events w (events_made made)).flights ≡ []
made_land laws idle stage w [] nothing run due at = at_rest stage w due at
made_land laws idle stage w (m ∷ made) nothing run due at =
    made_land laws idle (stage_handed m.handed (stage_after stage w)) (after_event w m.event) made (idle w m.event nothing run.0) run.1 due.2
    (handed_at m.handed (stage_after stage w) (after_event w m.event).flights (after_due laws stage w m.event nothing run.0 due.0 at))

-- ---- turns, one after another

run_first : (w : RunState) (a b : List Event) → Run w (a ++ b) → Run w a
run_first w [] b run = tt
run_first w (e ∷ a) b run = (run.0, run_first (after_event w e) a b run.1)

run_rest : (w : RunState) (a b : List Event) → Run w (a ++ b) → Run (state_after_events w a) b
run_rest w [] b run = run
run_rest w (e ∷ a) b run = run_rest (after_event w e) a b run.1

pub run_whole : (w : RunState) (turns : List ServedTurn) (cut : Option ServedTurn) → Run w (turn_events (with_cut turns cut)) → Run w (turn_events turns)
run_whole w turns None run = run
run_whole w turns (Some turn) run = run_first w (turn_events turns) (turn_events (turn ∷ [])) (subst (Run w) (events_of_both turns (turn ∷ [])) run)

whole_first : (w : RunState) (before after : List ServedTurn) → AreWholeTurns w (before ++ after) → AreWholeTurns w before
whole_first w [] after h = tt
whole_first w (turn ∷ before) after h = (h.0, whole_first (state_after_events w (events_made turn.made)) before after h.1)

whole_at : (w : RunState) (before : List ServedTurn) (turn : ServedTurn) (after : List ServedTurn) → AreWholeTurns w (before ++ turn ∷ after) → AreDue true (stage_of turn.news) (state_after_events w (turn_events before)) turn.made
whole_at w [] turn after h = h.0
whole_at w (t ∷ before) turn after h =
    subst (λ v. AreDue true (stage_of turn.news) v turn.made) (sym (state_append w (events_made t.made) (turn_events before))) (whole_at (state_after_events w (events_made t.made)) before turn after h.1)

-- between turns nothing is in the air, and nothing is due
record IsBetween (w : RunState) : Type 0 where
  flights : w.flights ≡ []
  nothing_due : HasNothingDue w

stays_idle : StaysIdle → (w : RunState) (events : List Event) → HasNothingDue w → Run w events → HasNothingDue (state_after_events w events)
stays_idle idle w [] nothing run = nothing
stays_idle idle w (e ∷ events) nothing run = stays_idle idle (after_event w e) events (idle w e nothing run.0) run.1

turn_between : FlightLaws → StaysIdle → (w : RunState) (turn : ServedTurn) → IsBetween w → Run w (events_made turn.made) → AreDue true (stage_of turn.news) w turn.made → IsBetween (state_after_events w (events_made turn.made))
turn_between laws idle w turn between run due = record {
  flights = made_land laws idle (stage_of turn.news) w turn.made between.nothing_due run due (begins_at turn.news w.flights between.flights);
  nothing_due = stays_idle idle w (events_made turn.made) between.nothing_due run;
}

turns_between : FlightLaws → StaysIdle → (w : RunState) (turns : List ServedTurn) → IsBetween w → Run w (turn_events turns) → AreWholeTurns w turns → IsBetween (state_after_events w (turn_events turns))
turns_between laws idle w [] between run whole = between
turns_between laws idle w (turn ∷ turns) between run whole =
    let first = turn_between laws idle w turn between (run_first w (events_made turn.made) (turn_events turns) run) whole.0 in
    subst IsBetween (sym (state_append w (events_made turn.made) (turn_events turns)))
    (turns_between laws idle (state_after_events w (events_made turn.made)) turns first (run_rest w (events_made turn.made) (turn_events turns) run) whole.1)

-- the run up to some of the turns
run_before : (w : RunState) (turns before after : List ServedTurn) → turns ≡ before ++ after → Run w (turn_events turns) → Run w (turn_events before ++ turn_events after)
run_before w turns before after is run = subst (Run w) (ap (λ (ts : List ServedTurn). turn_events ts) is ∙ events_of_both before after) run

pub all_land : FlightLaws → StaysIdle → TurnsLandAll
all_land laws idle w limit end disk world s rest before after is =
    let run = run_before w s.turns before after is (run_whole w s.turns s.cut s.run) in
    (turns_between laws idle w before (record { flights = rest.flights; nothing_due = rest.nothing_due }) (run_first w (turn_events before) (turn_events after) run)
    (whole_first w before after (subst (AreWholeTurns w) is s.whole))).flights

-- ---- one slice

-- before the slice
abbrev IsEarly : Stage → Type 0
IsEarly (Begins step) = IsOfNews step
IsEarly Renders = Unit {0}
IsEarly Delivers = Unit {0}
IsEarly Rests = ⊥
IsEarly (Goes c later) = IsEarly later
IsEarly Stops = ⊥

-- after it
abbrev IsLate : Stage → Type 0
IsLate (Begins step) = ⊥
IsLate Renders = ⊥
IsLate Delivers = ⊥
IsLate Rests = Unit {0}
IsLate (Goes c later) = IsLate later
IsLate Stops = ⊥

begins_early : (news : Happening) → IsEarly (stage_of news)
begins_early (opened_news c peer) = tt
begins_early (piece_news c bytes) = tt
begins_early (gone_news c) = tt
begins_early Quiet = tt

-- a whole turn doesn't stop
stopped : (w : RunState) (made : List HandedEvent) → AreDue true Stops w made → ⊥
stopped w [] due = due
stopped w (m ∷ made) due = none-some m.event.step due.0

handed_early : (h : HandedOn) (stage : Stage) (w : RunState) (made : List HandedEvent) → IsEarly stage → AreDue true (stage_handed h stage) w made → IsEarly (stage_handed h stage)
handed_early All stage w made early due = early
handed_early (FailedAt c) stage w made early due = early
handed_early NoMemory stage w made early due = absurd (stopped w made due)

handed_late : (h : HandedOn) (stage : Stage) (w : RunState) (made : List HandedEvent) → IsLate stage → AreDue true (stage_handed h stage) w made → IsLate (stage_handed h stage)
handed_late All stage w made late due = late
handed_late (FailedAt c) stage w made late due = late
handed_late NoMemory stage w made late due = absurd (stopped w made due)

news_slice_none : (step : Step) → IsOfNews step → step ≢ Purge
news_slice_none step h is = subst IsOfNews is h

-- the step makes no slice, and the slice is still to come
record ComesBefore (stage : Stage) (w : RunState) (step : Step) : Type 0 where
  no_slice : step ≢ Purge
  early : IsEarly (stage_after stage w)

-- the step is the slice of an unfinished flush
record IsTheSlice (stage : Stage) (w : RunState) (step : Step) : Type 0 where
  step_is : step ≡ Purge
  unfinished : w.flushes ≢ []
  flights : w.flights ≡ []
  late : IsLate (stage_after stage w)

kind_at_renders : (w : RunState) (step : Step) (b : Bool) → has_unrendered w ≡ b → due_step Renders w ≡ Some step → AreUnrendered w.flights → ComesBefore Renders w step ⊎ IsTheSlice Renders w step
kind_at_renders w step true has is at = inl (record {
  no_slice = λ purge. (let no : Render First ≡ Purge = sym (due_render w step has is) ∙ purge in cc no);
  early = subst IsEarly (sym (then_delivers w true has)) tt;
})
kind_at_renders w step false has is at =
    let slice = due_slice w step has is in
    inr (record {
      step_is = slice.0;
      unfinished = slice.1;
      flights = none_left w.flights has at;
      late = subst IsLate (sym (then_delivers w false has)) tt;
    })

kind_of : (stage : Stage) (w : RunState) (step : Step) → IsEarly stage → due_step stage w ≡ Some step → FlightsAt stage w.flights → ComesBefore stage w step ⊎ IsTheSlice stage w step
kind_of (Begins s) w step early is at = inl (record { no_slice = λ purge. news_slice_none s early (same_Some s step is ∙ purge); early = tt })
kind_of Renders w step early is at = kind_at_renders w step (has_unrendered w) refl is at
kind_of Delivers w step early is at = inl (record { no_slice = λ purge. (let no : Deliver First ≡ Purge = same_Some (Deliver First) step is ∙ purge in cc no); early = tt })
kind_of Rests w step early is at = absurd early
kind_of (Goes c later) w step early is at = inl (record { no_slice = λ purge. (let no : Gone c ≡ Purge = same_Some (Gone c) step is ∙ purge in cc no); early = early })
kind_of Stops w step early is at = absurd early

none_unfinished : (stage : Stage) (w : RunState) → IsEarly stage → MayRest true stage w → FlightsAt stage w.flights → w.flushes ≡ []
none_unfinished (Begins step) w early rest at = absurd (none-some step (sym rest))
none_unfinished Renders w early rest at = (rest_at_renders w (has_unrendered w) refl rest at).1
none_unfinished Delivers w early rest at = absurd (none-some (Deliver First) (sym rest))
none_unfinished Rests w early rest at = absurd early
none_unfinished (Goes c later) w early rest at = absurd (none-some (Gone c) (sym rest))
none_unfinished Stops w early rest at = absurd early

-- after the slice connections go, and nothing else happens
rest_goes : (stage : Stage) (w : RunState) (made : List HandedEvent) → IsLate stage → AreDue true stage w made → AllByRecursion (λ (n : HandedEvent). IsGoing n.event.step) made
rest_goes stage w [] late due = tt
rest_goes (Begins step) w (n ∷ made) late due = absurd late
rest_goes Renders w (n ∷ made) late due = absurd late
rest_goes Delivers w (n ∷ made) late due = absurd late
rest_goes Rests w (n ∷ made) late due = absurd (none-some n.event.step due.0)
rest_goes (Goes c later) w (n ∷ made) late due =
    (subst IsGoing (same_Some (Gone c) n.event.step due.0) tt, rest_goes (stage_handed n.handed later) (after_event w n.event) made (handed_late n.handed later (after_event w n.event) made late due.2) due.2)
rest_goes Stops w (n ∷ made) late due = absurd late

made_slice : FlightLaws → StaysIdle → (stage : Stage) (w : RunState) (made : List HandedEvent) → IsEarly stage → HasNothingDue w → Run w (events_made made) → AreDue true stage w made → FlightsAt stage w.flights → HasOneSlice w made
made_slice laws idle stage w [] early nothing run due at = record {
  first = [];
  last = [];
  made_is = refl;
  no_slice = tt;
  landed = at_rest stage w due at;
  slice = none_unfinished stage w early due at;
}
made_slice laws idle stage w (m ∷ made) early nothing run due at = ⊎_elim
    (λ (before : ComesBefore stage w m.event.step).
    let next = stage_handed m.handed (stage_after stage w) in
    let v = after_event w m.event in
    let rest = made_slice laws idle next v made (handed_early m.handed (stage_after stage w) v made before.early due.2) (idle w m.event nothing run.0) run.1 due.2
    (handed_at m.handed (stage_after stage w) v.flights (after_due laws stage w m.event nothing run.0 due.0 at)) in
    record {
      first = m ∷ rest.first;
      last = rest.last;
      made_is = ap (λ (ms : List HandedEvent). m ∷ ms) rest.made_is;
      no_slice = (before.no_slice, rest.no_slice);
      landed = rest.landed;
      slice = rest.slice;
    })
    (λ (here : IsTheSlice stage w m.event.step). record {
      first = [];
      last = m ∷ made;
      made_is = refl;
      no_slice = tt;
      landed = here.flights;
      slice = (here.unfinished, here.step_is, rest_goes (stage_handed m.handed (stage_after stage w)) (after_event w m.event) made (handed_late m.handed (stage_after stage w) (after_event w m.event) made here.late due.2) due.2);
    })
    (kind_of stage w m.event.step early due.0 at)

pub one_slice : FlightLaws → StaysIdle → TurnsHaveOneSlice
one_slice laws idle w limit end disk world s rest before turn after is =
    let run = run_before w s.turns before (turn ∷ after) is (run_whole w s.turns s.cut s.run) in
    let whole = subst (AreWholeTurns w) is s.whole in
    let v = state_after_events w (turn_events before) in
    let between = turns_between laws idle w before (record { flights = rest.flights; nothing_due = rest.nothing_due }) (run_first w (turn_events before) (turn_events (turn ∷ after)) run) (whole_first w before (turn ∷ after) whole) in
    made_slice laws idle (stage_of turn.news) v turn.made (begins_early turn.news) between.nothing_due
    (run_first v (events_made turn.made) (turn_events after) (run_rest w (turn_events before) (turn_events (turn ∷ after)) run))
    (whole_at w before turn after whole) (begins_at turn.news v.flights between.flights)

-- ---- connections that go

-- not where a connection goes, nor where a turn begins
abbrev IsPlain : Stage → Type 0
IsPlain (Begins step) = ⊥
IsPlain (Goes c later) = ⊥
IsPlain _ = Unit {0}

-- a stage that a turn comes to
abbrev IsReached : Stage → Type 0
IsReached (Goes c later) = IsPlain later
IsReached _ = Unit {0}

plain_after_rounds : (b : Bool) → IsPlain (if b then Delivers else Rests)
plain_after_rounds true = tt
plain_after_rounds false = tt

plain_after : (stage : Stage) (w : RunState) → IsReached stage → IsPlain (stage_after stage w)
plain_after (Begins step) w reached = tt
plain_after Renders w reached = plain_after_rounds (has_unrendered w)
plain_after Delivers w reached = tt
plain_after Rests w reached = tt
plain_after (Goes c later) w reached = reached
plain_after Stops w reached = tt

plain_reached : (stage : Stage) → IsPlain stage → IsReached stage
plain_reached (Begins step) plain = tt
plain_reached Renders plain = tt
plain_reached Delivers plain = tt
plain_reached Rests plain = tt
plain_reached (Goes c later) plain = absurd plain
plain_reached Stops plain = tt

handed_reached : (h : HandedOn) (stage : Stage) → IsPlain stage → IsReached (stage_handed h stage)
handed_reached All stage plain = plain_reached stage plain
handed_reached (FailedAt c) stage plain = plain
handed_reached NoMemory stage plain = tt

none_goes_at_renders : (w : RunState) (c : ConnectionId) (b : Bool) → has_unrendered w ≡ b → due_step Renders w ≡ Some (Gone c) → ⊥
none_goes_at_renders w c true has is = (let no : Gone c ≡ Render First = due_render w (Gone c) has is in cc no)
none_goes_at_renders w c false has is = (let no : Gone c ≡ Purge = (due_slice w (Gone c) has is).0 in cc no)

none_goes : (stage : Stage) (w : RunState) (c : ConnectionId) → IsPlain stage → due_step stage w ≡ Some (Gone c) → ⊥
none_goes (Begins step) w c plain is = plain
none_goes Renders w c plain is = none_goes_at_renders w c (has_unrendered w) refl is
none_goes Delivers w c plain is = (let no : Deliver First ≡ Gone c = same_Some (Deliver First) (Gone c) is in cc no)
none_goes Rests w c plain is = none-some (Gone c) is
none_goes (Goes d later) w c plain is = plain
none_goes Stops w c plain is = none-some (Gone c) is

-- it goes since the sending before failed
goes_as_handed : (h : HandedOn) (notes : List Note) (entries : List WorldEntry) (stage : Stage) (w : RunState) (c : ConnectionId) → IsPlain stage → IsHandedOn h notes entries → due_step (stage_handed h stage) w ≡ Some (Gone c)
    → (before : List WorldEntry) × (entries ≡ before ++ Unsent c ∷ shut_entry c ∷ [])
goes_as_handed All notes entries stage w c plain handed is = absurd (none_goes stage w c plain is)
goes_as_handed (FailedAt d) notes entries stage w c plain handed is =
    let step : Gone d ≡ Gone c = same_Some (Gone d) (Gone c) is in
    let same : d ≡ c = cc step in
    (entries_of_notes handed.before, subst (λ (x : ConnectionId). entries ≡ entries_of_notes handed.before ++ Unsent x ∷ shut_entry x ∷ []) same handed.entries_are)
goes_as_handed NoMemory notes entries stage w c plain handed is = absurd (none-some (Gone c) is)

goes_after : (b : Bool) (prev : HandedEvent) (stage : Stage) (w : RunState) (before : List HandedEvent) (m : HandedEvent) (after : List HandedEvent) (c : ConnectionId) → IsPlain stage → IsHandedOn prev.handed (notes_of prev.event) prev.entries
    → AreDue b (stage_handed prev.handed stage) w (before ++ m ∷ after) → m.event.step ≡ Gone c → EndsUnsent c (prev ∷ before)
goes_after b prev stage w [] m after c plain handed due going =
    let failed = goes_as_handed prev.handed (notes_of prev.event) prev.entries stage w c plain handed (due.0 ∙ ap (λ (s : Step). Some s) going) in
    record { earlier = []; last = prev; made_is = refl; entries = failed.0; entries_are = failed.1 }
goes_after b prev stage w (n ∷ before) m after c plain handed due going =
    let here = stage_handed prev.handed stage in
    let rest = goes_after b n (stage_after here w) (after_event w n.event) before m after c (plain_after here w (handed_reached prev.handed stage plain)) due.1 due.2 going in
    record { earlier = prev ∷ rest.earlier; last = rest.last; made_is = ap (λ (ms : List HandedEvent). prev ∷ ms) rest.made_is; entries = rest.entries; entries_are = rest.entries_are }

news_reached : (news : Happening) → IsReached (stage_of news)
news_reached (opened_news c peer) = tt
news_reached (piece_news c bytes) = tt
news_reached (gone_news c) = tt
news_reached Quiet = tt

news_goes : (news : Happening) (w : RunState) (c : ConnectionId) → due_step (stage_of news) w ≡ Some (Gone c) → news ≡ gone_news c
news_goes (opened_news d peer) w c is = absurd (let no : Opened d peer ≡ Gone c = same_Some (Opened d peer) (Gone c) is in cc no)
news_goes (piece_news d bytes) w c is = absurd (let no : Piece d bytes ≡ Gone c = same_Some (Piece d bytes) (Gone c) is in cc no)
news_goes (gone_news d) w c is =
    let step : Gone d ≡ Gone c = same_Some (Gone d) (Gone c) is in
    let same : d ≡ c = cc step in
    ap (λ (x : ConnectionId). gone_news x) same
news_goes Quiet w c is = absurd (none_goes Renders w c tt is)

turn_goes : (b : Bool) (news : Happening) (w : RunState) (before : List HandedEvent) (m : HandedEvent) (after : List HandedEvent) (c : ConnectionId) → AreDue b (stage_of news) w (before ++ m ∷ after) → m.event.step ≡ Gone c → MayGo news c before
turn_goes b news w [] m after c due going = inl (refl, news_goes news w c (due.0 ∙ ap (λ (s : Step). Some s) going))
turn_goes b news w (n ∷ before) m after c due going = inr (goes_after b n (stage_after (stage_of news) w) (after_event w n.event) before m after c (plain_after (stage_of news) w (news_reached news)) due.1 due.2 going)

pub go_for_a_cause : ConnectionsGoForACause
go_for_a_cause w limit end disk world s turn (inl there) before m after c is going =
    turn_goes true turn.news (state_after_events w (turn_events there.0)) before m after c
    (subst (AreDue true (stage_of turn.news) (state_after_events w (turn_events there.0))) is (whole_at w there.0 turn there.1.0 (subst (AreWholeTurns w) there.1.1 s.whole))) going
go_for_a_cause w limit end disk world s turn (inr cut) before m after c is going =
    turn_goes false turn.news (state_after_events w (turn_events s.turns)) before m after c
    (subst (AreDue false (stage_of turn.news) (state_after_events w (turn_events s.turns))) is (subst (λ (o : Option ServedTurn). IsCutTurn (state_after_events w (turn_events s.turns)) o) cut s.cut_is)) going
