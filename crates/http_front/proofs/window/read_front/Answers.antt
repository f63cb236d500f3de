use Rattle.std.proofs.Common.{◌≤◌, length, sym, subst}
use Rattle.http_front.specs.Turns.{longest_head}
use Rattle.http_front.specs.StreamBeginnings.{IsWindowStart}
use Rattle.http_front.proofs.ParserLemmas.{room_is_enough}
use Rattle.http_front.proofs.StartLemmas.{window_short, start_whole, start_refused, start_long, start_partial}
use Rattle.http_front.proofs.window.read_front.Goals as goal

pub read_whole-requires : goal.read_whole-requires
read_whole-requires c = subst (λ w. length w ≤ longest_head) (sym c.window-window.ensures) (window_short c.args.stream.now)

pub returns-in-Whole : goal.returns-in-Whole
returns-in-Whole c =
    start_whole c.args.stream.now c.window-window.result.now c.in-Whole.head c.in-Whole.len c.window-window.ensures
    (subst (IsWindowStart c.window-window.result.now 8192) c.in-Whole.is c.in_ok-head.ensures)

pub returns-in-Partial : goal.returns-in-Partial
returns-in-Partial c =
    start_long c.args.stream.now c.window-window.result.now c.window-window.ensures
    (subst (IsWindowStart c.window-window.result.now 8192) c.in-Partial.is c.in_ok-head.ensures) c.if-window-eq-LONGEST_HEAD.true

pub returns-in-Partial-2 : goal.returns-in-Partial-2
returns-in-Partial-2 c =
    start_partial c.args.stream.now c.window-window.result.now c.window-window.ensures
    (subst (IsWindowStart c.window-window.result.now 8192) c.in-Partial-2.is c.in_ok-head.ensures) c.if-window-eq-LONGEST_HEAD.false

pub returns-in-Refused : goal.returns-in-Refused
returns-in-Refused c =
    start_refused c.args.stream.now c.window-window.result.now c.in-Refused.fault c.window-window.ensures
    (subst (IsWindowStart c.window-window.result.now 8192) c.in-Refused.is c.in_ok-head.ensures)

pub returns-in-Crowded : goal.returns-in-Crowded
returns-in-Crowded c =
    absurd
    (room_is_enough c.window-window.result.now (subst (λ w. length w ≤ longest_head) (sym c.window-window.ensures) (window_short c.args.stream.now))
    (subst (IsWindowStart c.window-window.result.now 8192) c.in-Crowded.is c.in_ok-head.ensures))
