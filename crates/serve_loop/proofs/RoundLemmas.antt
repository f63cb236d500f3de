-- The steps of a turn: what came, the flights that are rendered and landed, and a slice of a flush.
use Rattle.std.proofs.Common.{◌≡◌, ◌≤◌, ◌+◌, ◌∙◌, ℕ, Bool, true, false, not, List, [], ◌∷◌, Option, Some, None, IsSome, is_some, length, sym, ap, subst, refl, arith, cond, if◌then◌else◌}
use Rattle.std.specs.List.{find}
use Rattle.std.specs.Option.{option_map}
use Rattle.std.proofs.lemmas.Bool.{false≢true}
use Rattle.std.proofs.lemmas.Option.{none-some}
use Rattle.outside_world.specs.declared.world.Happening.{Happening}
use Rattle.outside_world.specs.declared.world.Happening.TheVariants.{Opened as opened_news, Piece as piece_news, Gone as gone_news, Quiet}
use Rattle.outside_world.specs.declared.world.WorldEntry.{WorldEntry}
use Rattle.connections.specs.Ids.{ConnectionId}
use Rattle.run_events.specs.declared.flying.Flying.{Flying}
use Rattle.run_events.specs.declared.flying.Flushing.{Flushing}
use Rattle.run_events.specs.declared.step.Pick.TheVariants.{First}
use Rattle.run_events.specs.declared.step.Step.{Step}
use Rattle.run_events.specs.declared.step.Step.TheVariants.{Opened, Piece, Gone, Render, Deliver, Purge}
use Rattle.run_events.specs.States.{RunState}
use Rattle.run_events.specs.Events.{Event, Happens, after_event, is_unrendered}
use Rattle.run_events.specs.Moves.{with_rendered}
use Rattle.run_laws.specs.Addressed.{LeavesSession, opened_by_step}
use Rattle.run_laws.specs.Rounds.{AreUnrendered, HasNothingDue, LandsTheFirst, LeavesFlights, LeavesUnrendered, RendersTheFirst}
use Rattle.serve_loop.specs.Turns.{Begins, Delivers, Renders, Rests, Stage, due_step, has_unrendered, is_flushing, stage_of}
use Rattle.serve_loop.specs.Served.{HasOpenConnections}
use Rattle.serve_loop.specs.Steps.{AwaitsNews, AwaitsStep, ComesToFlights, ComesToRest, CutsEnd, CutsGoneOf, CutsLanding, CutsLandings, CutsStepOf, EndsTurn, TurnGoesOn, HasOpened, TurnIsCut, IsServing, LandsAll, LandsFirst, LandsSome, LeavesInAir, MakesGoneOf, MakesStep, MakesStepOf, ServerAt, ServesRun}
use Rattle.serve_loop.proofs.ChainLemmas.{goes_nowhere, goes_on_then, goes_on_until_cut}
use Rattle.flights.specs.Flights.{most_flights}

-- what is so of flights
pub record FlightLaws : Type 0 where
  pub rendered : RendersTheFirst
  pub landed : LandsTheFirst
  pub same : (w : RunState) (e : Event) → HasNothingDue w → Happens w e → LeavesFlights e.step → (after_event w e).flights ≡ w.flights
  pub unrendered : (w : RunState) (e : Event) → Happens w e → LeavesUnrendered e.step → AreUnrendered w.flights → AreUnrendered (after_event w e).flights

opens_nothing : (step : Step) (told : Option (List WorldEntry)) → opened_by_step step ≡ None → HasOpened step told
opens_nothing step None none = tt
opens_nothing step (Some log) none = λ c opens. absurd (none-some c (sym none ∙ opens))

-- ---- flights that are left

pub none_said : (number : Option ℕ) (b : Bool) → is_some number ≡ not b → b ≡ true → is_some number ≡ false
none_said number b is h = is ∙ ap not h

pub some_said : (number : Option ℕ) (b : Bool) → is_some number ≡ not b → b ≡ false → is_some number ≡ true
some_said number b is h = is ∙ ap not h

pub first_is_found : (flying : Flying) (later : List Flying) → flying.rendered ≡ None → find is_unrendered (flying ∷ later) ≡ Some flying
first_is_found flying later h = ap (λ r. cond (not (is_some r)) (Some flying) (find is_unrendered later)) h

pub none_is_left : (flights : List Flying) (number : Option ℕ) → number ≡ option_map (λ (flying : Flying). flying.number) (find is_unrendered flights) → is_some number ≡ false → AreUnrendered flights → flights ≡ []
none_is_left [] number is none h = refl
none_is_left (flying ∷ later) number is none h =
    absurd (false≢true (sym none ∙ ap (λ (o : Option ℕ). is_some o) (is ∙ ap (option_map (λ (f : Flying). f.number)) (first_is_found flying later h.0))))

-- the first flight, which isn't rendered
pub record FirstLeft (flights : List Flying) : Type 0 where
  pub flying : Flying
  pub later : List Flying
  pub flights_are : flights ≡ flying ∷ later
  pub unrendered : flying.rendered ≡ None
  pub rest : AreUnrendered later

pub first_is_left : (flights : List Flying) (number : Option ℕ) → number ≡ option_map (λ (flying : Flying). flying.number) (find is_unrendered flights) → is_some number ≡ true → AreUnrendered flights → FirstLeft flights
first_is_left [] number is some h = absurd (false≢true (sym (ap (λ (o : Option ℕ). is_some o) is) ∙ some))
first_is_left (flying ∷ later) number is some h = record { flying = flying; later = later; flights_are = refl; unrendered = h.0; rest = h.1 }

-- ---- the first flight

render_is_due : (w : RunState) (flying : Flying) (later : List Flying) → w.flights ≡ flying ∷ later → flying.rendered ≡ None → has_unrendered w ≡ true
render_is_due w flying later flights h = ap (λ fs. is_some (find is_unrendered fs)) flights ∙ ap (λ (o : Option Flying). is_some o) (first_is_found flying later h)

-- the first flight was rendered
pub record FirstRendered (old mid : ServerAt) (w : RunState) (flying : Flying) (later : List Flying) : Type 0 where
  pub left : RunState
  pub answered : Flying
  pub flights_are : left.flights ≡ answered ∷ later
  pub rendered : IsSome answered.rendered
  pub goes_on : TurnGoesOn old mid Renders w Delivers left
  pub serving : IsServing mid left

step_of_flights : (step : Step) (s : ServerAt) (w : RunState) → opened_by_step step ≡ None → LeavesSession step → IsServing s w → AwaitsStep step s.told w
step_of_flights step s w none session serving = record { session = session; connections = serving.connections; opened = opens_nothing step s.told none }

pub render_due : (w : RunState) → has_unrendered w ≡ true → due_step Renders w ≡ Some (Render First)
render_due w h = ap (λ b. if b then Some (Render First) else (if is_flushing w.flushes then Some Purge else None)) h

pub first_rendered : FlightLaws → (old mid : ServerAt) (w : RunState) (flying : Flying) (later : List Flying) → MakesStepOf (Render First) old mid → IsServing old w → w.flights ≡ flying ∷ later → flying.rendered ≡ None
    → FirstRendered old mid w flying later
first_rendered laws old mid w flying later renders serving flights h =
    let has = render_is_due w flying later flights h in
    let made = renders Renders w serving.serves (step_of_flights (Render First) old w refl tt serving) (render_due w has) in
    let answer = laws.rendered w made.event flying later serving.serves.nothing_due made.happens made.step_is flights h in
    record {
      left = made.left;
      answered = with_rendered answer.0 flying;
      flights_are = made.flights ∙ answer.1;
      rendered = refl;
      goes_on = subst (λ s. TurnGoesOn old mid Renders w s made.left) (ap (λ b. if b then Delivers else Rests) has) made.goes_on;
      serving = made.serving;
    }

pub first_landed : FlightLaws → (old mid new : ServerAt) (w : RunState) (flying : Flying) (later : List Flying) → FirstRendered old mid w flying later → MakesStepOf (Deliver First) mid new → LeavesInAir later old new Renders w Renders
first_landed laws old mid new w flying later r delivers =
    let v = r.left in
    let made = delivers Delivers v r.serving.serves (step_of_flights (Deliver First) mid v refl tt r.serving) refl in
    record {
      left = made.left;
      goes_on = goes_on_then old mid new Renders Delivers Renders w v made.left r.goes_on made.goes_on;
      serving = made.serving;
      flights_are = made.flights ∙ laws.landed v made.event r.answered later r.serving.serves.nothing_due made.happens made.step_is r.flights_are r.rendered;
    }

pub first_cut : (old new : ServerAt) (w : RunState) (flying : Flying) (later : List Flying) → CutsStepOf (Render First) old new → IsServing old w → w.flights ≡ flying ∷ later → flying.rendered ≡ None → TurnIsCut old new Renders w
first_cut old new w flying later cuts serving flights h = cuts Renders w serving.serves (step_of_flights (Render First) old w refl tt serving) (render_due w (render_is_due w flying later flights h))

pub landing_cut : (old mid new : ServerAt) (w : RunState) (flying : Flying) (later : List Flying) → FirstRendered old mid w flying later → CutsStepOf (Deliver First) mid new → TurnIsCut old new Renders w
landing_cut old mid new w flying later r cuts =
    goes_on_until_cut old mid new Renders Delivers w r.left r.goes_on (cuts Delivers r.left r.serving.serves (step_of_flights (Deliver First) mid r.left refl tt r.serving) refl)

-- ---- all flights

pub none_landed_yet : (s : ServerAt) (w : RunState) → IsServing s w → AreUnrendered w.flights → LandsSome s s 0 w
none_landed_yet s w serving h = record {
  left = w;
  goes_on = goes_nowhere s Renders w;
  serving = serving;
  unrendered = h;
  few = omega (arith, serving.serves.nothing_due.few);
}

pub one_more_landed : (old mid new : ServerAt) (rounds : ℕ) (w : RunState) (l : LandsSome old mid rounds w) → FirstLeft l.left.flights → LandsFirst mid new → LandsSome old new (rounds + 1) w
one_more_landed old mid new rounds w l f lands =
    let n = lands l.left f.flying f.later l.serving f.flights_are f.unrendered in
    let before : length l.left.flights ≡ length f.later + 1 = ap (λ fs. length fs) f.flights_are ∙ omega arith in
    let after : length n.left.flights ≡ length f.later = ap (λ fs. length fs) n.flights_are in
    record {
      left = n.left;
      goes_on = goes_on_then old mid new Renders Renders Renders w l.left n.left l.goes_on n.goes_on;
      serving = n.serving;
      unrendered = subst AreUnrendered (sym n.flights_are) f.rest;
      few = omega (arith, l.few, before, after);
    }

pub all_landed : (old new : ServerAt) (rounds : ℕ) (w : RunState) (l : LandsSome old new rounds w) → l.left.flights ≡ [] → LeavesInAir [] old new Renders w Renders
all_landed old new rounds w l none = record { left = l.left; goes_on = l.goes_on; serving = l.serving; flights_are = none }

no_more : (flights : List Flying) (rounds : ℕ) → length flights + rounds ≤ most_flights → most_flights ≤ rounds → flights ≡ []
no_more [] rounds h k = refl
no_more (flying ∷ later) rounds h k = absurd (omega arith)

pub rounds_land_all : (old new : ServerAt) (rounds : ℕ) (w : RunState) → LandsSome old new rounds w → most_flights ≤ rounds → LeavesInAir [] old new Renders w Renders
rounds_land_all old new rounds w l k = all_landed old new rounds w l (no_more l.left.flights rounds l.few k)

pub landings_cut : (old mid new : ServerAt) (rounds : ℕ) (w : RunState) (l : LandsSome old mid rounds w) → FirstLeft l.left.flights → CutsLanding mid new → TurnIsCut old new Renders w
landings_cut old mid new rounds w l f cuts =
    goes_on_until_cut old mid new Renders Renders w l.left l.goes_on (cuts l.left f.flying f.later l.serving f.flights_are f.unrendered)

-- ---- a slice of a flush

none_unrendered : (w : RunState) → w.flights ≡ [] → has_unrendered w ≡ false
none_unrendered w h = ap (λ fs. is_some (find is_unrendered fs)) h

some_flush : (flushes : List Flushing) → (flushes ≡ [] → ⊥) → is_flushing flushes ≡ true
some_flush [] h = absurd (h refl)
some_flush (flush ∷ flushes) h = refl

due_at_end : (w : RunState) (b : Bool) → w.flights ≡ [] → is_flushing w.flushes ≡ b → due_step Renders w ≡ (if b then Some Purge else None)
due_at_end w b none is =
    ap (λ has. if has then Some (Render First) else (if is_flushing w.flushes then Some Purge else None)) (none_unrendered w none) ∙ ap (λ has. if has then Some Purge else None) is

pub slice_ends : FlightLaws → (old new : ServerAt) (w : RunState) → MakesStepOf Purge old new → IsServing old w → w.flights ≡ [] → (w.flushes ≡ [] → ⊥) → ComesToRest old new Renders w
slice_ends laws old new w purges serving none some =
    let made = purges Renders w serving.serves (step_of_flights Purge old w refl tt serving) (due_at_end w true none (some_flush w.flushes some)) in
    record {
      later = Rests;
      left = made.left;
      goes_on = subst (λ s. TurnGoesOn old new Renders w s made.left) (ap (λ b. if b then Delivers else Rests) (none_unrendered w none)) made.goes_on;
      resting = refl;
      rests = record {
        serving = made.serving;
        flights = made.flights ∙ (laws.same w made.event serving.serves.nothing_due made.happens (subst LeavesFlights (sym made.step_is) tt) ∙ none);
      };
    }

pub slice_cut : (old new : ServerAt) (w : RunState) → CutsStepOf Purge old new → IsServing old w → w.flights ≡ [] → (w.flushes ≡ [] → ⊥) → TurnIsCut old new Renders w
slice_cut old new w cuts serving none some = cuts Renders w serving.serves (step_of_flights Purge old w refl tt serving) (due_at_end w true none (some_flush w.flushes some))

pub no_slice : (s : ServerAt) (w : RunState) → IsServing s w → w.flights ≡ [] → w.flushes ≡ [] → ComesToRest s s Renders w
no_slice s w serving none no_flush = record {
  later = Renders;
  left = w;
  goes_on = goes_nowhere s Renders w;
  resting = due_at_end w false none (ap is_flushing no_flush);
  rests = record { serving = serving; flights = none };
}

-- ---- what came

came_by : FlightLaws → (old new : ServerAt) (step : Step) (w : RunState) → MakesStep old new step (Begins step) w → LeavesUnrendered step → w.flights ≡ [] → ComesToFlights old new (Begins step) w
came_by laws old new step w made leaves none = record {
  left = made.left;
  goes_on = made.goes_on;
  serving = made.serving;
  unrendered = subst AreUnrendered (sym made.flights) (laws.unrendered w made.event made.happens (subst LeavesUnrendered (sym made.step_is) leaves) (subst AreUnrendered (sym none) tt));
}

pub opened_begins : FlightLaws → (old new : ServerAt) (news : Happening) (c : ConnectionId) (peer : List ℕ) (w : RunState) → news ≡ opened_news c peer → MakesStepOf (Opened c peer) old new → ServesRun old w → AwaitsNews news old.told w
    → w.flights ≡ [] → ComesToFlights old new (stage_of news) w
opened_begins laws old new news c peer w is makes serves awaits none =
    let waits = subst (λ n. AwaitsNews n old.told w) is awaits in
    subst (λ n. ComesToFlights old new (stage_of n) w) (sym is)
    (came_by laws old new (Opened c peer) w (makes (Begins (Opened c peer)) w serves (record { session = tt; connections = waits.0; opened = waits.1 }) refl) tt none)

pub opened_cut : (old new : ServerAt) (news : Happening) (c : ConnectionId) (peer : List ℕ) (w : RunState) → news ≡ opened_news c peer → CutsStepOf (Opened c peer) old new → ServesRun old w → AwaitsNews news old.told w
    → TurnIsCut old new (stage_of news) w
opened_cut old new news c peer w is cuts serves awaits =
    let waits = subst (λ n. AwaitsNews n old.told w) is awaits in
    subst (λ n. TurnIsCut old new (stage_of n) w) (sym is) (cuts (Begins (Opened c peer)) w serves (record { session = tt; connections = waits.0; opened = waits.1 }) refl)

piece_awaits : (c : ConnectionId) (bytes : List ℕ) (told : Option (List WorldEntry)) (w : RunState) → HasOpenConnections told w → AwaitsStep (Piece c bytes) told w
piece_awaits c bytes told w awaits = record { session = tt; connections = awaits; opened = opens_nothing (Piece c bytes) told refl }

pub piece_begins : FlightLaws → (old new : ServerAt) (news : Happening) (c : ConnectionId) (bytes : List ℕ) (w : RunState) → news ≡ piece_news c bytes → MakesStepOf (Piece c bytes) old new → ServesRun old w → AwaitsNews news old.told w
    → w.flights ≡ [] → ComesToFlights old new (stage_of news) w
piece_begins laws old new news c bytes w is makes serves awaits none =
    subst (λ n. ComesToFlights old new (stage_of n) w) (sym is)
    (came_by laws old new (Piece c bytes) w (makes (Begins (Piece c bytes)) w serves (piece_awaits c bytes old.told w (subst (λ n. AwaitsNews n old.told w) is awaits)) refl) tt none)

pub piece_cut : (old new : ServerAt) (news : Happening) (c : ConnectionId) (bytes : List ℕ) (w : RunState) → news ≡ piece_news c bytes → CutsStepOf (Piece c bytes) old new → ServesRun old w → AwaitsNews news old.told w
    → TurnIsCut old new (stage_of news) w
piece_cut old new news c bytes w is cuts serves awaits =
    subst (λ n. TurnIsCut old new (stage_of n) w) (sym is)
    (cuts (Begins (Piece c bytes)) w serves (piece_awaits c bytes old.told w (subst (λ n. AwaitsNews n old.told w) is awaits)) refl)

pub gone_begins : FlightLaws → (old new : ServerAt) (news : Happening) (c : ConnectionId) (w : RunState) → news ≡ gone_news c → MakesGoneOf c old new → ServesRun old w → AwaitsNews news old.told w → w.flights ≡ []
    → ComesToFlights old new (stage_of news) w
gone_begins laws old new news c w is makes serves awaits none =
    subst (λ n. ComesToFlights old new (stage_of n) w) (sym is)
    (came_by laws old new (Gone c) w (makes (Begins (Gone c)) w serves (subst (λ n. AwaitsNews n old.told w) is awaits) refl) tt none)

pub gone_cut : (old new : ServerAt) (news : Happening) (c : ConnectionId) (w : RunState) → news ≡ gone_news c → CutsGoneOf c old new → ServesRun old w → AwaitsNews news old.told w → TurnIsCut old new (stage_of news) w
gone_cut old new news c w is cuts serves awaits =
    subst (λ n. TurnIsCut old new (stage_of n) w) (sym is) (cuts (Begins (Gone c)) w serves (subst (λ n. AwaitsNews n old.told w) is awaits) refl)

pub quiet_begins : (s : ServerAt) (w : RunState) → ServesRun s w → AwaitsNews Quiet s.told w → w.flights ≡ [] → ComesToFlights s s (stage_of Quiet) w
quiet_begins s w serves awaits none = record {
  left = w;
  goes_on = goes_nowhere s Renders w;
  serving = record { serves = serves; connections = awaits };
  unrendered = subst AreUnrendered (sym none) tt;
}

-- ---- all of a turn

pub turn_rests : (old one two new : ServerAt) (stage : Stage) (w : RunState) → ComesToFlights old one stage w → LandsAll one two → EndsTurn two new → ComesToRest old new stage w
turn_rests old one two new stage w first lands ends =
    let second = lands first.left first.serving first.unrendered in
    let third = ends second.left second.serving second.flights_are in
    record {
      later = third.later;
      left = third.left;
      goes_on = goes_on_then old two new stage Renders third.later w second.left third.left (goes_on_then old one two stage Renders Renders w first.left second.left first.goes_on second.goes_on) third.goes_on;
      resting = third.resting;
      rests = third.rests;
    }

pub turn_cut_landing : (old one new : ServerAt) (stage : Stage) (w : RunState) → ComesToFlights old one stage w → CutsLandings one new → TurnIsCut old new stage w
turn_cut_landing old one new stage w first cuts = goes_on_until_cut old one new stage Renders w first.left first.goes_on (cuts first.left first.serving first.unrendered)

pub turn_cut_at_end : (old one two new : ServerAt) (stage : Stage) (w : RunState) → ComesToFlights old one stage w → LandsAll one two → CutsEnd two new → TurnIsCut old new stage w
turn_cut_at_end old one two new stage w first lands cuts =
    let second = lands first.left first.serving first.unrendered in
    goes_on_until_cut old two new stage Renders w second.left (goes_on_then old one two stage Renders Renders w first.left second.left first.goes_on second.goes_on) (cuts second.left second.serving second.flights_are)
