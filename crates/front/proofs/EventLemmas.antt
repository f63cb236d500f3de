-- Whole events of a board.
use Rattle.std.proofs.Common.{◌≡◌, ◌≢◌, ℕ, ◌+◌, ◌-◌, ◌<◌, ◌≤◌, ◌&&◌, Bool, true, false, List, [], ◌∷◌, Option, Some, None, refl, ap, sym, subst, ◌∙◌, arith, ⊎_elim}
use Rattle.std.specs.Prelude.{if◌then◌else◌, is_some, nat_eq, nat_le, position}
use Rattle.std.specs.List.{find}
use Rattle.std.specs.Map.{update}
use Rattle.std.specs.Option.{option_map}
use Rattle.std.specs.Ordering.{nat_cmp}
use Rattle.std.specs.BTreeMap.{BTreeMap, get, Updates, btree_map_len}
use Rattle.std.proofs.lemmas.Map.{update_apart, update_here}
use Rattle.std.proofs.lemmas.Bool.{cases_eq}
use Rattle.sp_base.proofs.OptionLemmas.{none_from_test, value_there}
use Rattle.http_front.specs.Turns.{Waits}
use Rattle.connections.specs.Connections.{with_piece, fresh}
use Rattle.run_events.specs.declared.flying.Flying.{Flying}
use Rattle.run_events.specs.declared.note.Note.{Note}
use Rattle.run_events.specs.declared.note.Note.TheVariants.{Idle, Refused}
use Rattle.run_events.specs.declared.step.Pick.{Pick}
use Rattle.run_events.specs.declared.step.Step.TheVariants.{Deliver, Gone, Lose, Opened, Piece, Purge}
use Rattle.run_events.specs.Events.{DeliverAs, DeliverTo, Event, LeadsNotes, LoseTo, PieceTo, PurgeTo, after_event, state_after_going, going, is_any, is_picked, is_rendered, most_connections, state_after_opening, opening, picked_flight}
use Rattle.run_events.specs.Moves.{state_after_note, state_after_notes, Settles, on_connection}
use Rattle.run_events.specs.States.{RunState}
use Rattle.front.specs.Boards.{BoardAt, BoardStandsFor, FirstThen, HaveCause, IsEventOf, ReadAt, SettlesIn, at_disk, behind_board, event_of}
use Rattle.front.specs.Caches.{Behind, BehindStandsFor, IsDelivery, IsLoss, IsPurging, behind, under_nothing}
use Rattle.front.specs.KeptConnections.{ConnectionStandsFor}
use Rattle.front.specs.declared.answered.Ended.{Ended as EndedAs}
use Rattle.front.specs.declared.board.Board.{Board}
use Rattle.front.specs.declared.connection.Connection.{Connection as KeptConnection}
use Rattle.front.specs.declared.effect.Effect.{Effect}
use Rattle.front.proofs.BoardLemmas.{at-other, behind-same, open_connections-after, open_connections-without, one-fewer, tied-none, tied-some}
use Rattle.front.proofs.CauseLemmas.{allows-self, cause-none, cause-one}
use Rattle.front.proofs.FlightListLemmas.{found-none}
use Rattle.front.proofs.MoveLemmas.{Frame}

-- ---- events without a call that fails
-- a note that nothing was done shows nothing
pub idle-cause : (a : ℕ) (w : RunState) → HaveCause a a under_nothing w (Idle ∷ [])
idle-cause a w = cause-one a under_nothing w Idle (record { disk = refl; spoils = λ is. absurd is; shows = λ is. absurd (let no : ⊥ = cc in no) })

refused-cause : (a c : ℕ) (w : RunState) → HaveCause a a under_nothing w (Refused c ∷ [])
refused-cause a c w = cause-one a under_nothing w (Refused c) (record { disk = refl; spoils = λ is. absurd is; shows = λ is. absurd (let no : ⊥ = cc in no) })

cause-as : (a : ℕ) (effect : Effect) (w : RunState) (notes : List Note) → effect.notes.items ≡ notes → effect.conditions ≡ under_nothing → HaveCause a a under_nothing w notes → HaveCause a a effect.conditions w effect.notes.items
cause-as a effect w notes is under cause = rw (is, under) cause

-- ---- a connection is there
full-opening : (c count : ℕ) → nat_le most_connections count ≡ true → opening c count None ≡ Refused c ∷ []
full-opening c count full = rw full refl

free-opening : (c count : ℕ) → nat_le most_connections count ≡ false → opening c count None ≡ []
free-opening c count free = rw free refl

full-opened : (w : RunState) (c : ℕ) (peer : List ℕ) → nat_le most_connections w.connection_count ≡ true → state_after_opening w c peer None ≡ w
full-opened w c peer full = rw full refl

free-opened : (w : RunState) (c : ℕ) (peer : List ℕ) → nat_le most_connections w.connection_count ≡ false → state_after_opening w c peer None ≡ record w { connection = update nat_eq w.connection c (Some (fresh peer)); connection_count = w.connection_count + 1 }
free-opened w c peer free = rw free refl

pub opened-there : (b : BoardAt) (w : RunState) (c : ℕ) (peer : List ℕ) (effect : Effect) → BoardStandsFor b w → is_some (get nat_cmp b.board.open_connections c) ≡ true → effect.notes.items ≡ Idle ∷ [] → effect.conditions ≡ under_nothing
    → IsEventOf (BoardStandsFor b) w (Opened c peer) effect b.faults b.faults
opened-there b w c peer effect tied there notes under =
    let some = value_there _ there in
    let connection = tied-some _ _ some.0 (tied.open_connections.each c) some.1 in
    let before : state_after_opening w c peer (w.connection c) ≡ w = ap (state_after_opening w c peer) connection.open_is in
    let state : state_after_notes (state_after_opening w c peer (w.connection c)) effect.notes.items ≡ w = ap (state_after_notes (state_after_opening w c peer (w.connection c))) notes ∙ before in
    record {
      turns = [];
      ends = Waits;
      happens = notes ∙ sym (ap (opening c w.connection_count) connection.open_is);
      cause = cause-as b.faults effect _ (Idle ∷ []) notes under (idle-cause b.faults _);
      stands = subst (BoardStandsFor b) (sym state) tied;
    }

pub opened-full : (b : BoardAt) (w : RunState) (c : ℕ) (peer : List ℕ) (effect : Effect) → BoardStandsFor b w → get nat_cmp b.board.open_connections c ≡ None → most_connections ≤ btree_map_len b.board.open_connections → effect.notes.items ≡ Refused c ∷ []
    → effect.conditions ≡ under_nothing → IsEventOf (BoardStandsFor b) w (Opened c peer) effect b.faults b.faults
opened-full b w c peer effect tied absent many notes under =
    let none : w.connection c ≡ None = tied-none _ _ (tied.open_connections.each c) absent in
    let full : nat_le most_connections w.connection_count ≡ true = grind (arith, many, tied.open_connections.count) in
    let before : state_after_opening w c peer (w.connection c) ≡ w = ap (state_after_opening w c peer) none ∙ full-opened w c peer full in
    let state : state_after_notes (state_after_opening w c peer (w.connection c)) effect.notes.items ≡ w = ap (state_after_notes (state_after_opening w c peer (w.connection c))) notes ∙ before in
    record {
      turns = [];
      ends = Waits;
      happens = notes ∙ sym (ap (opening c w.connection_count) none ∙ full-opening c w.connection_count full);
      cause = cause-as b.faults effect _ (Refused c ∷ []) notes under (refused-cause b.faults c _);
      stands = subst (BoardStandsFor b) (sym state) tied;
    }

pub opened-new : (b : BoardAt) (w : RunState) (c : ℕ) (peer : List ℕ) (k : KeptConnection) (open_connections : BTreeMap ℕ KeptConnection) (effect : Effect) → BoardStandsFor b w → get nat_cmp b.board.open_connections c ≡ None
    → btree_map_len b.board.open_connections < most_connections → ConnectionStandsFor k (fresh peer) → Updates nat_cmp b.board.open_connections open_connections c (Some k) → btree_map_len open_connections ≡ btree_map_len b.board.open_connections + 1
    → effect.notes.items ≡ [] → effect.conditions ≡ under_nothing → IsEventOf (BoardStandsFor (at_disk (record { open_connections = open_connections; cache = b.board.cache }) b.files b.faults)) w (Opened c peer) effect b.faults b.faults
opened-new b w c peer k open_connections effect tied absent few holds updates more notes under =
    let none : w.connection c ≡ None = tied-none _ _ (tied.open_connections.each c) absent in
    let free : nat_le most_connections w.connection_count ≡ false = grind (arith, few, tied.open_connections.count) in
    let v : RunState = record w { connection = update nat_eq w.connection c (Some (fresh peer)); connection_count = w.connection_count + 1 } in
    let state : state_after_notes (state_after_opening w c peer (w.connection c)) effect.notes.items ≡ v = ap (state_after_notes (state_after_opening w c peer (w.connection c))) notes ∙ ap (state_after_opening w c peer) none ∙ free-opened w c peer free in
    record {
      turns = [];
      ends = Waits;
      happens = notes ∙ sym (ap (opening c w.connection_count) none ∙ free-opening c w.connection_count free);
      cause = cause-as b.faults effect _ [] notes under (cause-none b.faults _);
      stands = subst (BoardStandsFor (at_disk (record { open_connections = open_connections; cache = b.board.cache }) b.files b.faults)) (sym state) (record {
        open_connections = record {
          each = λ q. ⊎_elim
              (λ at. rw (← at, updates.1, update_here w.connection c (Some (fresh peer))) holds)
              (λ apart. let other : q ≢ c = λ e. apart (sym e) in rw (updates.2 q (at-other c q other), update_apart w.connection c (Some (fresh peer)) q other) (tied.open_connections.each q))
              (cases_eq c q);
          count = omega (arith, more, tied.open_connections.count);
        };
        behind_is = behind-same (behind_board b) w v tied.behind_is refl refl refl refl refl;
        slicing_is = tied.slicing_is;
      });
    }

-- ---- bytes come
pub piece-there : (b : BoardAt) (g : Board) (h : BoardAt) (w : RunState) (c : ℕ) (bytes : List ℕ) (effect : Effect) → BoardStandsFor b w → ReadAt b.board g c bytes
    → ((u : RunState) → BoardStandsFor (at_disk g b.files b.faults) u → SettlesIn effect.conditions u c effect.notes.items b.faults h.faults × BoardStandsFor h (state_after_notes u effect.notes.items)) → IsEventOf (BoardStandsFor h) w (Piece c bytes) effect b.faults h.faults
piece-there b g h w c bytes effect tied read settled =
    let connection = tied-some _ _ read.before (tied.open_connections.each c) read.before_is in
    let got = read.reads connection.connection connection.holds in
    let e : Event = event_of (Piece c bytes) effect got.turns got.ends in
    let v = on_connection w c (with_piece bytes got.turns got.ends) in
    let now : v.connection c ≡ Some (with_piece bytes got.turns got.ends connection.connection) = update_here w.connection c _ ∙ ap (option_map (with_piece bytes got.turns got.ends)) connection.open_is in
    let frame : Frame c w v = record { others = λ d apart. update_apart w.connection c _ d apart; count = refl } in
    let same : BehindStandsFor (behind_board b) v = behind-same (behind_board b) w v tied.behind_is refl refl refl refl refl in
    let fed : BoardStandsFor (at_disk g b.files b.faults) v = record {
      open_connections = open_connections-after b.board.open_connections g.open_connections w v c read.after _ tied.open_connections read.after_is read.others read.count now got.holds frame;
      behind_is = subst (λ x. BehindStandsFor (behind x b.files b.faults) v) (sym read.cache) same;
      slicing_is = tied.slicing_is;
    } in
    let done = settled v fed in
    record {
      turns = got.turns;
      ends = got.ends;
      happens = subst (PieceTo w e c bytes) (sym connection.open_is) (record { spells = got.spells; settles = done.0.settles effect.conditions (allows-self effect.conditions) });
      cause = done.0.cause;
      stands = done.1;
    }

pub piece-none : (b : BoardAt) (w : RunState) (c : ℕ) (bytes : List ℕ) (effect : Effect) → BoardStandsFor b w → is_some (get nat_cmp b.board.open_connections c) ≡ false → effect.notes.items ≡ Idle ∷ [] → effect.conditions ≡ under_nothing
    → IsEventOf (BoardStandsFor b) w (Piece c bytes) effect b.faults b.faults
piece-none b w c bytes effect tied absent notes under =
    let none : w.connection c ≡ None = tied-none _ _ (tied.open_connections.each c) (none_from_test _ absent) in
    let e : Event = event_of (Piece c bytes) effect [] Waits in
    let v = on_connection w c (with_piece bytes [] Waits) in
    let same : (q : ℕ) → v.connection q ≡ w.connection q = λ q. ⊎_elim
    (λ at. subst (λ x. v.connection x ≡ w.connection x) at (update_here w.connection c _ ∙ ap (option_map (with_piece bytes [] Waits)) none ∙ sym none))
    (λ apart. update_apart w.connection c _ q (λ x. apart (sym x)))
    (cases_eq c q) in
    let state : after_event w e ≡ v = ap (state_after_notes v) notes in
    record {
      turns = [];
      ends = Waits;
      happens = subst (PieceTo w e c bytes) (sym none) notes;
      cause = cause-as b.faults effect _ (Idle ∷ []) notes under (idle-cause b.faults _);
      stands = subst (BoardStandsFor b) (sym state) (record {
        open_connections = record { each = λ q. rw (same q) (tied.open_connections.each q); count = tied.open_connections.count };
        behind_is = behind-same (behind_board b) w v tied.behind_is refl refl refl refl refl;
        slicing_is = tied.slicing_is;
      });
    }

-- ---- a connection is gone
pub gone-there : (b : BoardAt) (w : RunState) (c : ℕ) (open_connections : BTreeMap ℕ KeptConnection) (o : Option KeptConnection) (effect : Effect) → BoardStandsFor b w → is_some (get nat_cmp b.board.open_connections c) ≡ true
    → Updates nat_cmp b.board.open_connections open_connections c None → o ≡ get nat_cmp b.board.open_connections c → btree_map_len open_connections + (if is_some o then 1 else 0) ≡ btree_map_len b.board.open_connections → effect.notes.items ≡ []
    → effect.conditions ≡ under_nothing → IsEventOf (BoardStandsFor (at_disk (record { open_connections = open_connections; cache = b.board.cache }) b.files b.faults)) w (Gone c) effect b.faults b.faults
gone-there b w c open_connections o effect tied there updates was len notes under =
    let some = value_there _ there in
    let fewer = one-fewer o some.0 _ _ (was ∙ some.1) len in
    let connection = tied-some _ _ some.0 (tied.open_connections.each c) some.1 in
    let v : RunState = record w { connection = update nat_eq w.connection c None; connection_count = w.connection_count - 1 } in
    let state : state_after_notes (state_after_going w c (w.connection c)) effect.notes.items ≡ v = ap (state_after_notes (state_after_going w c (w.connection c))) notes ∙ ap (state_after_going w c) connection.open_is in
    record {
      turns = [];
      ends = Waits;
      happens = notes ∙ sym (ap going connection.open_is);
      cause = cause-as b.faults effect _ [] notes under (cause-none b.faults _);
      stands = subst (BoardStandsFor (at_disk (record { open_connections = open_connections; cache = b.board.cache }) b.files b.faults)) (sym state) (record {
        open_connections = open_connections-without b.board.open_connections open_connections w v c tied.open_connections updates fewer (update_here w.connection c None) (λ q other. update_apart w.connection c None q other) (omega (arith, fewer, tied.open_connections.count));
        behind_is = behind-same (behind_board b) w v tied.behind_is refl refl refl refl refl;
        slicing_is = tied.slicing_is;
      });
    }

pub gone-none : (b : BoardAt) (w : RunState) (c : ℕ) (effect : Effect) → BoardStandsFor b w → is_some (get nat_cmp b.board.open_connections c) ≡ false → effect.notes.items ≡ Idle ∷ [] → effect.conditions ≡ under_nothing
    → IsEventOf (BoardStandsFor b) w (Gone c) effect b.faults b.faults
gone-none b w c effect tied absent notes under =
    let none : w.connection c ≡ None = tied-none _ _ (tied.open_connections.each c) (none_from_test _ absent) in
    let state : state_after_notes (state_after_going w c (w.connection c)) effect.notes.items ≡ w = ap (state_after_notes (state_after_going w c (w.connection c))) notes ∙ ap (state_after_going w c) none in
    record {
      turns = [];
      ends = Waits;
      happens = notes ∙ sym (ap going none);
      cause = cause-as b.faults effect _ (Idle ∷ []) notes under (idle-cause b.faults _);
      stands = subst (BoardStandsFor b) (sym state) tied;
    }

-- ---- a flight is over, or a flush has a slice
picked-none : (flying : List Flying) (w : RunState) (pick : Pick) (can : Flying → Bool) → flying ≡ w.flights → position (λ f. is_picked pick f && can f) flying ≡ None → picked_flight pick can w.flights ≡ None
picked-none flying w pick can same none = ap (find (λ f. is_picked pick f && can f)) (sym same) ∙ found-none (λ f. is_picked pick f && can f) flying none

pub delivered-none : (b h : BoardAt) (w : RunState) (pick : Pick) (effect : Effect) → BoardStandsFor b w → h ≡ b → position (λ f. is_picked pick f && is_rendered f) b.board.cache.flying ≡ None → effect.notes.items ≡ Idle ∷ [] → effect.conditions ≡ under_nothing
    → IsEventOf (BoardStandsFor h) w (Deliver pick) effect b.faults h.faults
delivered-none b h w pick effect tied same none notes under =
    let e : Event = event_of (Deliver pick) effect [] Waits in
    rw same (record {
      turns = [];
      ends = Waits;
      happens = subst (DeliverTo w e) (sym (picked-none b.board.cache.flying w pick is_rendered tied.behind_is.flying_is none)) notes;
      cause = cause-as b.faults effect _ (Idle ∷ []) notes under (idle-cause b.faults _);
      stands = subst (BoardStandsFor b) (sym (ap (state_after_notes w) notes)) tied;
    })

pub lost-none : (b h : BoardAt) (w : RunState) (pick : Pick) (effect : Effect) → BoardStandsFor b w → h ≡ b → position (λ f. is_picked pick f && is_any f) b.board.cache.flying ≡ None → effect.notes.items ≡ Idle ∷ [] → effect.conditions ≡ under_nothing
    → IsEventOf (BoardStandsFor h) w (Lose pick) effect b.faults h.faults
lost-none b h w pick effect tied same none notes under =
    let e : Event = event_of (Lose pick) effect [] Waits in
    rw same (record {
      turns = [];
      ends = Waits;
      happens = subst (LoseTo w e) (sym (picked-none b.board.cache.flying w pick is_any tied.behind_is.flying_is none)) notes;
      cause = cause-as b.faults effect _ (Idle ∷ []) notes under (idle-cause b.faults _);
      stands = subst (BoardStandsFor b) (sym (ap (state_after_notes w) notes)) tied;
    })

pub sliced-none : (b h : BoardAt) (w : RunState) (effect : Effect) → w.flushes ≡ [] → BoardStandsFor h w → h.faults ≡ b.faults → effect.notes.items ≡ Idle ∷ [] → effect.conditions ≡ under_nothing → IsEventOf (BoardStandsFor h) w Purge effect b.faults h.faults
sliced-none b h w effect none tied faults notes under =
    let e : Event = event_of Purge effect [] Waits in
    record {
      turns = [];
      ends = Waits;
      happens = subst (PurgeTo w e) (sym none) notes;
      cause = rw faults (cause-as b.faults effect _ (Idle ∷ []) notes under (idle-cause b.faults _));
      stands = subst (BoardStandsFor h) (sym (ap (state_after_notes w) notes)) tied;
    }

leads : (w : RunState) (ended : EndedAs) (effect : Effect) (before : ℕ) (h : BoardAt) (c : ℕ) → ended.connection ≡ c → FirstThen ended w effect before h → LeadsNotes w effect.conditions ended.note c effect.notes.items
leads w ended effect before h c same led = record { rest = led.rest; begins = led.begins; settles = subst (λ q. Settles effect.conditions (state_after_note w ended.note) q led.rest) same (led.settles effect.conditions (allows-self effect.conditions)) }

pub landed : (b h : BoardAt) (old new : Behind) (w : RunState) (pick : Pick) (ended : EndedAs) (effect : Effect) → IsDelivery w pick ended old new → FirstThen ended w effect b.faults h → IsEventOf (BoardStandsFor h) w (Deliver pick) effect b.faults h.faults
landed b h old new w pick ended effect lands led =
    let e : Event = event_of (Deliver pick) effect [] Waits in
    let lands_as : DeliverAs w e lands.flying (Some lands.answer) = (ended.note, lands.lands effect.conditions led.first, leads w ended effect b.faults h lands.flying.connection lands.waits led) in
    record {
      turns = [];
      ends = Waits;
      happens = subst (DeliverTo w e) (sym lands.picked) (subst (DeliverAs w e lands.flying) (sym lands.rendered) lands_as);
      cause = led.cause;
      stands = led.board_is;
    }

pub lost : (b h : BoardAt) (old new : Behind) (w : RunState) (pick : Pick) (ended : EndedAs) (effect : Effect) → IsLoss w pick ended old new → FirstThen ended w effect b.faults h → IsEventOf (BoardStandsFor h) w (Lose pick) effect b.faults h.faults
lost b h old new w pick ended effect loss led =
    let e : Event = event_of (Lose pick) effect [] Waits in
    record {
      turns = [];
      ends = Waits;
      happens = subst (LoseTo w e) (sym loss.picked) (subst (λ n. LeadsNotes w effect.conditions n loss.flying.connection effect.notes.items) loss.note_is (leads w ended effect b.faults h loss.flying.connection loss.waits led));
      cause = led.cause;
      stands = led.board_is;
    }

pub sliced : (b h : BoardAt) (old new : Behind) (w : RunState) (ended : EndedAs) (effect : Effect) → IsPurging w ended old new → FirstThen ended w effect b.faults h → IsEventOf (BoardStandsFor h) w Purge effect b.faults h.faults
sliced b h old new w ended effect slice led =
    let e : Event = event_of Purge effect [] Waits in
    record {
      turns = [];
      ends = Waits;
      happens = subst (PurgeTo w e) (sym slice.flushes_are) (ended.note, slice.gives effect.conditions led.first, leads w ended effect b.faults h slice.flush.connection slice.waits led);
      cause = led.cause;
      stands = led.board_is;
    }
