-- Turns, one after another, and what serving comes to.
use Rattle.std.proofs.Common.{◌≡◌, ◌≤◌, ◌<◌, ◌+◌, ◌++◌, ◌∙◌, ◌⊎◌, inl, inr, ℕ, Bool, true, false, List, [], ◌∷◌, Option, Some, None, IsTrue, map, sym, ap, subst, refl, arith, unwrap_or, if◌then◌else◌}
use Rattle.std.proofs.lemmas.Bool.Decides.{eqb_tells}
use Rattle.std.proofs.lemmas.List.{append-nil, length_push}
use Rattle.std.proofs.lemmas.Grind.{flat_map-append}
use Rattle.sp_outside.specs.Files.{Files}
use Rattle.resource_tree.specs.Content.{Content}
use Rattle.outside_world.specs.Faults.{HasRisenBy}
use Rattle.outside_world.specs.Worlds.{is_connected, told_came, told_more}
use Rattle.outside_world.specs.declared.world.Happening.{Happening}
use Rattle.outside_world.specs.declared.world.Happening.TheVariants.{Opened as opened_news, Piece as piece_news, Gone as gone_news, Quiet}
use Rattle.outside_world.specs.declared.world.WorldEntry.{WorldEntry}
use Rattle.outside_world.specs.declared.world.WorldEntry.TheVariants.{Came}
use Rattle.any_config.specs.declared.farm.Farm.{Farm}
use Rattle.cache_log.specs.Entries.{LogEntry}
use Rattle.cache_log.specs.Rules.{AllAllowed, CallConditions, IsLegal}
use Rattle.coherence_core.specs.Holds.{Holds, HoldsClosed}
use Rattle.coherence_core.specs.Sessions.{failed_entries, lost_entries}
use Rattle.connections.specs.Ids.{ConnectionId}
use Rattle.run_events.specs.declared.flying.Flying.{Flying}
use Rattle.run_events.specs.declared.flying.Flushing.{Flushing}
use Rattle.run_events.specs.Publishers.{Publishing}
use Rattle.run_events.specs.States.{RunState}
use Rattle.run_events.specs.Events.{Run, state_after_events}
use Rattle.front.specs.declared.board.Board.{Board}
use Rattle.front.specs.Boards.{BoardAt, at_disk}
use Rattle.front.specs.Endings.{closing_entries_of}
use Rattle.front.specs.Fronts.{FrontStandsFor}
use Rattle.serve_loop.specs.declared.serving.ServeEnd.TheVariants.{Turns, WorldFailed, NoMemory}
use Rattle.serve_loop.specs.Turns.{AreDue, AreWholeTurns, ServedTurn, entries_made, events_made, stage_of, turn_entries, turn_events, with_cut}
use Rattle.serve_loop.specs.Served.{AreCaused, HasOpenConnections, HoldsWhatIsLeft, IsServerAtRest, IsServed, count_unsent, disk_report, left_log, world_report}
use Rattle.serve_loop.specs.Steps.{AwaitsNews, CutsOffTurn, CutsTurn, MakesTurn, RestsAt, ServerAt, TakesTurn, TakesTurns, server_at}
use Rattle.serve_loop.proofs.LogLemmas.{open_more, told_nothing, told_twice}
use Rattle.serve_loop.proofs.ChainLemmas.{caused_append, leads_to_rest, leads_to_state, risen_more, run_append, state_append, unsent_append}

-- ---- what came

either : (b was : Bool) → was ≡ true → (if b then true else was) ≡ true
either true was h = refl
either false was h = h

opened_is_open : (log : List WorldEntry) (c d : ConnectionId) (peer : List ℕ) → c ≡ d → is_connected (log ++ Came (opened_news c peer) ∷ []) d ≡ true
opened_is_open log c d peer same =
    open_more log d (Came (opened_news c peer)) ∙ elim (eqb_tells c d) [
      | inl is ↦ ap (λ b. if b then true else is_connected log d) is.0
      | inr other ↦ absurd (other.1 same)
    ]

others_stay_open : (log : List WorldEntry) (c d : ConnectionId) → is_connected log d ≡ true → (is_connected (log ++ Came (gone_news c) ∷ []) d ≡ true) ⊎ (d ≡ c)
others_stay_open log c d h =
    elim (eqb_tells c d) [
      | inl same ↦ inr (sym same.1)
      | inr other ↦ inl (open_more log d (Came (gone_news c)) ∙ (ap (λ b. if b then false else is_connected log d) other.0 ∙ h))
    ]

pub news_awaited : (news : Happening) (told : Option (List WorldEntry)) (w : RunState) → HasOpenConnections told w → AwaitsNews news (told_came told news) w
news_awaited (opened_news c peer) None w h = (tt, tt)
news_awaited (opened_news c peer) (Some log) w h =
    (λ d there. open_more log d (Came (opened_news c peer)) ∙ either _ (is_connected log d) (h d there), λ d opens. opened_is_open log c d peer (ap (λ (o : Option ℕ). unwrap_or o c) opens))
news_awaited (piece_news c bytes) None w h = tt
news_awaited (piece_news c bytes) (Some log) w h = λ d there. open_more log d (Came (piece_news c bytes)) ∙ h d there
news_awaited (gone_news c) None w h = tt
news_awaited (gone_news c) (Some log) w h = λ d there. others_stay_open log c d (h d there)
news_awaited Quiet None w h = tt
news_awaited Quiet (Some log) w h = λ d there. open_more log d (Came Quiet) ∙ h d there

-- ---- one turn

pub took_turn : (publishing : Publishing) (content : Content) (board : BoardAt) (told came : Option (List WorldEntry)) (sends : ℕ) (new : ServerAt) (news : Happening) (w : RunState) → came ≡ told_came told news
    → MakesTurn news (server_at publishing content board came sends) new → RestsAt (server_at publishing content board told sends) w → TakesTurn (server_at publishing content board told sends) new w
took_turn publishing content board told came sends new news w e makes rests =
    let awaits = subst (λ t. AwaitsNews news t w) (sym e) (news_awaited news told w rests.serving.connections) in
    let all = makes w (record { stands = rests.serving.serves.stands; nothing_due = rests.serving.serves.nothing_due }) awaits rests.flights in
    let made = all.goes_on.made in
    record {
      turn = record { news = news; made = made };
      whole = leads_to_rest (stage_of news) w made all.later all.left all.goes_on.leads all.resting;
      run = all.goes_on.run;
      told = all.goes_on.told ∙ (ap (λ t. told_more t (entries_made made)) e ∙ told_twice told (Came news ∷ []) (entries_made made));
      unsents = all.goes_on.unsents;
      caused = all.goes_on.caused;
      rests = subst (RestsAt new) (sym (leads_to_state (stage_of news) w made all.later all.left all.goes_on.leads)) all.rests;
    }

came_unsent : (news : Happening) (entries : List WorldEntry) → count_unsent (Came news ∷ entries) ≡ count_unsent entries
came_unsent news entries = omega arith

pub cut_turn : (publishing : Publishing) (content : Content) (board : BoardAt) (told came : Option (List WorldEntry)) (sends : ℕ) (new : ServerAt) (news : Happening) (w : RunState) → came ≡ told_came told news
    → CutsTurn news (server_at publishing content board came sends) new → RestsAt (server_at publishing content board told sends) w → CutsOffTurn (server_at publishing content board told sends) new w
cut_turn publishing content board told came sends new news w e cuts rests =
    let awaits = subst (λ t. AwaitsNews news t w) (sym e) (news_awaited news told w rests.serving.connections) in
    let some = cuts w (record { stands = rests.serving.serves.stands; nothing_due = rests.serving.serves.nothing_due }) awaits rests.flights in
    let events_are : events_made some.made ++ [] ≡ events_made some.made = append-nil (events_made some.made) in
    let entries_are : (Came news ∷ entries_made some.made) ++ [] ≡ Came news ∷ entries_made some.made = append-nil (Came news ∷ entries_made some.made) in
    record {
      cut = Some (record { news = news; made = some.made });
      cut_is = some.due;
      run = subst (Run w) (sym events_are) some.run;
      told = some.told ∙ (ap (λ t. told_more t (entries_made some.made)) e ∙ (told_twice told (Came news ∷ []) (entries_made some.made) ∙ ap (told_more told) (sym entries_are)));
      unsents = subst (λ n. HasRisenBy n sends new.send_faults) (sym (ap count_unsent entries_are ∙ came_unsent news (entries_made some.made))) some.unsents;
      last = some.last;
      caused = subst (λ es. AreCaused board.faults some.last w es) (sym events_are) some.caused;
      last_is = some.last_is;
    }

pub no_turn : (old new : ServerAt) (w : RunState) → new ≡ old → CutsOffTurn old new w
no_turn old new w e = record {
  cut = None;
  cut_is = tt;
  run = tt;
  told = ap (λ (s : ServerAt). s.told) e ∙ sym (told_nothing old.told);
  unsents = subst (λ (s : ServerAt). HasRisenBy 0 old.send_faults s.send_faults) (sym e) (omega arith, omega arith);
  last = old.board.faults;
  caused = refl;
  last_is = subst (λ (s : ServerAt). old.board.faults ≤ s.board.faults) (sym e) (omega arith);
}

-- ---- several

pub events_of_both : (a b : List ServedTurn) → turn_events (a ++ b) ≡ turn_events a ++ turn_events b
events_of_both a b = flat_map-append (λ (turn : ServedTurn). events_made turn.made) a b

entries_of_both : (a b : List ServedTurn) → turn_entries (a ++ b) ≡ turn_entries a ++ turn_entries b
entries_of_both a b = flat_map-append (λ (turn : ServedTurn). Came turn.news ∷ entries_made turn.made) a b

whole_push : (w : RunState) (turns : List ServedTurn) (turn : ServedTurn) → AreWholeTurns w turns → AreDue true (stage_of turn.news) (state_after_events w (turn_events turns)) turn.made → AreWholeTurns w (turns ++ turn ∷ [])
whole_push w [] turn h k = (k, tt)
whole_push w (t ∷ turns) turn h k = (
  h.0,
  whole_push (state_after_events w (events_made t.made)) turns turn h.1
      (subst (λ v. AreDue true (stage_of turn.news) v turn.made) (state_append w (events_made t.made) (turn_events turns)) k),
)

pub no_turns : (s : ServerAt) (w : RunState) → RestsAt s w → TakesTurns s s 0 w
no_turns s w rests = record {
  turns = [];
  count_is = refl;
  whole = tt;
  run = tt;
  told = sym (told_nothing s.told);
  unsents = (omega arith, omega arith);
  caused = refl;
  rests = rests;
}

pub one_more_turn : (old mid new : ServerAt) (count : ℕ) (w : RunState) (t : TakesTurns old mid count w) → TakesTurn mid new (state_after_events w (turn_events t.turns)) → TakesTurns old new (count + 1) w
one_more_turn old mid new count w t n =
    let turns = t.turns in
    let turn = n.turn in
    let events_are : turn_events (turns ++ turn ∷ []) ≡ turn_events turns ++ events_made turn.made = events_of_both turns (turn ∷ []) ∙ ap (λ es. turn_events turns ++ es) (append-nil (events_made turn.made)) in
    let entries_are : turn_entries (turns ++ turn ∷ []) ≡ turn_entries turns ++ Came turn.news ∷ entries_made turn.made =
    entries_of_both turns (turn ∷ []) ∙ ap (λ es. turn_entries turns ++ es) (append-nil (Came turn.news ∷ entries_made turn.made)) in
    record {
      turns = turns ++ turn ∷ [];
      count_is = length_push turns turn ∙ ap (λ m. m + 1) t.count_is;
      whole = whole_push w turns turn t.whole n.whole;
      run = subst (Run w) (sym events_are) (run_append w (turn_events turns) (events_made turn.made) t.run n.run);
      told = n.told ∙ (ap (λ told. told_more told (Came turn.news ∷ entries_made turn.made)) t.told ∙ (told_twice old.told (turn_entries turns) (Came turn.news ∷ entries_made turn.made) ∙ ap (told_more old.told) (sym entries_are)));
      unsents = subst (λ m. HasRisenBy m old.send_faults new.send_faults)
          (sym (ap count_unsent entries_are ∙ (unsent_append (turn_entries turns) (Came turn.news ∷ entries_made turn.made) ∙ ap (λ m. count_unsent (turn_entries turns) + m) (came_unsent turn.news (entries_made turn.made)))))
          (risen_more (count_unsent (turn_entries turns)) (count_unsent (entries_made turn.made)) old.send_faults mid.send_faults new.send_faults t.unsents n.unsents);
      caused = subst (λ es. AreCaused old.board.faults new.board.faults w es) (sym events_are) (caused_append old.board.faults mid.board.faults new.board.faults w (turn_events turns) (events_made turn.made) t.caused n.caused);
      rests = subst (RestsAt new) (sym (ap (state_after_events w) events_are ∙ state_append w (turn_events turns) (events_made turn.made))) n.rests;
    }

-- ---- what serving comes to

pub rests_at_first : (publishing : Publishing) (content : Content) (board : BoardAt) (told : Option (List WorldEntry)) (sends : ℕ) (w : RunState) → FrontStandsFor publishing content board w → IsServerAtRest w told
    → RestsAt (server_at publishing content board told sends) w
rests_at_first publishing content board told sends w stands rest = record {
  serving = record {
    serves = record { stands = stands; nothing_due = rest.nothing_due };
    connections = rest.connections;
  };
  flights = rest.flights;
}

-- where nothing is in the air the files hold the log, closed, which may be closed so; and logs grow by what is allowed
pub record FilesHold : Type 0 where
  pub held : (publishing : Publishing) (content : Content) (board : Board) (files : Files) (faults : ℕ) (w : RunState) → FrontStandsFor publishing content (at_disk board (Some files) faults) w → Holds w.farm files w.log
  pub landed : (publishing : Publishing) (content : Content) (board : Board) (files : Files) (faults : ℕ) (w : RunState) → FrontStandsFor publishing content (at_disk board (Some files) faults) w → w.flights ≡ []
      → HoldsClosed w.farm files (left_log w)
  pub allowed : (publishing : Publishing) (content : Content) (board : Board) (files : Files) (faults : ℕ) (w : RunState) (under : CallConditions) → FrontStandsFor publishing content (at_disk board (Some files) faults) w → IsTrue under.restarts
      → AllAllowed w.farm under (closing_entries_of w) w.log
  pub grows : (farm : Farm) (under : CallConditions) (entries log : List LogEntry) → AllAllowed farm under entries log → IsLegal farm log → IsLegal farm (entries ++ log)

-- the conditions of a restart in which nothing failed
abbrev under_restart : CallConditions
under_restart = record { disk_failed = false; out_of_memory = false; restarts = true }

-- where nothing is in the air the unfinished flushes alone are cut off
abbrev failures_of_flushes : RunState → List LogEntry
failures_of_flushes w = failed_entries (map (λ (flush : Flushing). flush.number) w.flushes)

only_flushes : (w : RunState) → w.flights ≡ [] → closing_entries_of w ≡ failures_of_flushes w
only_flushes w none = ap (λ (fs : List Flying). failures_of_flushes w ++ lost_entries (map (λ (flying : Flying). flying.number) fs)) none ∙ append-nil (failures_of_flushes w)

held_at_rest : FilesHold → (publishing : Publishing) (content : Content) (board : Board) (files : Option Files) (faults : ℕ) (told : Option (List WorldEntry)) (sends : ℕ) (w : RunState)
    → RestsAt (server_at publishing content (at_disk board files faults) told sends) w → HoldsWhatIsLeft files w
held_at_rest hold publishing content board None faults told sends w rests = absurd rests.serving.serves.stands.board_is.behind_is.core_is
held_at_rest hold publishing content board (Some files) faults told sends w rests =
    let stands = rests.serving.serves.stands in
    let allowed : AllAllowed w.farm under_restart (failures_of_flushes w) w.log =
    subst (λ (entries : List LogEntry). AllAllowed w.farm under_restart entries w.log) (only_flushes w rests.flights) (hold.allowed publishing content board files faults w under_restart stands refl) in
    record {
      files = files;
      told_is = refl;
      held = hold.held publishing content board files faults w stands;
      holds = hold.landed publishing content board files faults w stands rests.flights;
      legal = hold.grows w.farm under_restart (failures_of_flushes w) w.log allowed;
    }

-- a server that serves from here to there
pub record Serving : Type 0 where
  pub publishing : Publishing
  pub content_old : Content
  pub content_new : Content
  pub board_old : Board
  pub board_new : Board
  pub files_old : Option Files
  pub files_new : Option Files
  pub faults_old : ℕ
  pub faults_new : ℕ
  pub told_old : Option (List WorldEntry)
  pub told_new : Option (List WorldEntry)
  pub sends_old : ℕ
  pub sends_new : ℕ

abbrev pub begins_as : Serving → ServerAt
begins_as s = server_at s.publishing s.content_old (at_disk s.board_old s.files_old s.faults_old) s.told_old s.sends_old

abbrev pub ends_as : Serving → ServerAt
ends_as s = server_at s.publishing s.content_new (at_disk s.board_new s.files_new s.faults_new) s.told_new s.sends_new

pub served_turns : FilesHold → (s : Serving) (limit next_old next_new : ℕ) (w : RunState) → TakesTurns (begins_as s) (ends_as s) limit w
    → IsServed w limit Turns (disk_report s.files_old s.files_new s.faults_old s.faults_new) (world_report s.told_old s.told_new next_old next_new s.sends_old s.sends_new)
served_turns hold s limit next_old next_new w t = record {
  turns = t.turns;
  cut = None;
  run = t.run;
  whole = t.whole;
  cut_is = tt;
  may_cut = refl;
  count = t.count_is;
  told = t.told;
  unsents = t.unsents;
  last = s.faults_new;
  caused = t.caused;
  last_is = refl;
  held = held_at_rest hold s.publishing s.content_new s.board_new s.files_new s.faults_new s.told_new s.sends_new (state_after_events w (turn_events t.turns)) t.rests;
}

pub served_until_failure : FilesHold → (s : Serving) (limit count next_old next_new : ℕ) (w : RunState) → count < limit → TakesTurns (begins_as s) (ends_as s) count w
    → IsServed w limit WorldFailed (disk_report s.files_old s.files_new s.faults_old s.faults_new) (world_report s.told_old s.told_new next_old next_new s.sends_old s.sends_new)
served_until_failure hold s limit count next_old next_new w few t = record {
  turns = t.turns;
  cut = None;
  run = t.run;
  whole = t.whole;
  cut_is = tt;
  may_cut = refl;
  count = omega (arith, t.count_is, few);
  told = t.told;
  unsents = t.unsents;
  last = s.faults_new;
  caused = t.caused;
  last_is = refl;
  held = held_at_rest hold s.publishing s.content_new s.board_new s.files_new s.faults_new s.told_new s.sends_new (state_after_events w (turn_events t.turns)) t.rests;
}

cut_events : (turns : List ServedTurn) (cut : Option ServedTurn) → turn_events (with_cut turns cut) ≡ turn_events turns ++ turn_events (with_cut [] cut)
cut_events turns None = sym (append-nil (turn_events turns))
cut_events turns (Some turn) = events_of_both turns (turn ∷ [])

cut_entries : (turns : List ServedTurn) (cut : Option ServedTurn) → turn_entries (with_cut turns cut) ≡ turn_entries turns ++ turn_entries (with_cut [] cut)
cut_entries turns None = sym (append-nil (turn_entries turns))
cut_entries turns (Some turn) = entries_of_both turns (turn ∷ [])

pub served_until_cut : (s : Serving) (mid : ServerAt) (limit count next_old next_new : ℕ) (w : RunState) → count < limit → (t : TakesTurns (begins_as s) mid count w) → CutsOffTurn mid (ends_as s) (state_after_events w (turn_events t.turns))
    → IsServed w limit NoMemory (disk_report s.files_old s.files_new s.faults_old s.faults_new) (world_report s.told_old s.told_new next_old next_new s.sends_old s.sends_new)
served_until_cut s mid limit count next_old next_new w few t k =
    let events_are = cut_events t.turns k.cut in
    let entries_are = cut_entries t.turns k.cut in
    let more = turn_entries (with_cut [] k.cut) in
    record {
      turns = t.turns;
      cut = k.cut;
      run = subst (Run w) (sym events_are) (run_append w (turn_events t.turns) (turn_events (with_cut [] k.cut)) t.run k.run);
      whole = t.whole;
      cut_is = k.cut_is;
      may_cut = tt;
      count = omega (arith, t.count_is, few);
      told = k.told ∙ (ap (λ told. told_more told more) t.told ∙ (told_twice s.told_old (turn_entries t.turns) more ∙ ap (told_more s.told_old) (sym entries_are)));
      unsents = subst (λ m. HasRisenBy m s.sends_old s.sends_new) (sym (ap count_unsent entries_are ∙ unsent_append (turn_entries t.turns) more))
          (risen_more (count_unsent (turn_entries t.turns)) (count_unsent more) s.sends_old mid.send_faults s.sends_new t.unsents k.unsents);
      last = k.last;
      caused = subst (λ es. AreCaused s.faults_old k.last w es) (sym events_are) (caused_append s.faults_old mid.board.faults k.last w (turn_events t.turns) (turn_events (with_cut [] k.cut)) t.caused k.caused);
      last_is = k.last_is;
      held = tt;
    }
