use Rattle.std.proofs.Common.{◌<◌, ◌≤◌, ◌+◌, ◌*◌, sym, arith, length, drop, length-drop}
use Rattle.std.proofs.lemmas.List.{drop-drop}
use Rattle.http_front.proofs.IntakeLemmas.{leads_asked, leads_unasked}
use Rattle.http_front.proofs.intake.Intake.begin_body.Goals as goal

pub returns-then-awaits : goal.returns-then-awaits
returns-then-awaits c =
    let items = c.args.self.now.buffer.items in
    let at = c.args.self.now.start in
    let less : 2 * length (drop (at + c.args.len) items) + 1 < 2 * length (drop at items) =
    omega (arith, length-drop (at + c.args.len) items, length-drop at items, c.requires.some, c.requires.fits) in (
      leads_asked c.args.self.now (drop (at + c.args.len) items) c.args.head c.args.len c.requires.heading (sym (drop-drop c.args.len at items)) c.requires.begins c.if-awaits.true,
      omega (arith, less),
    )

pub returns-else-awaits : goal.returns-else-awaits
returns-else-awaits c =
    let items = c.args.self.now.buffer.items in
    let at = c.args.self.now.start in
    let less : 2 * length (drop (at + c.args.len) items) + 1 ≤ 2 * length (drop at items) =
    omega (arith, length-drop (at + c.args.len) items, length-drop at items, c.requires.some, c.requires.fits) in (
      leads_unasked c.args.self.now (drop (at + c.args.len) items) c.args.head c.args.len c.requires.heading (sym (drop-drop c.args.len at items)) c.requires.begins c.if-awaits.false,
      tt,
      omega (arith, less),
    )
