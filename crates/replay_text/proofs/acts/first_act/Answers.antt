use Rattle.std.proofs.Common.{◌∷◌, ◌∙◌, sym, ap, arith}
use Rattle.replay_text.specs.Lines.{newlines}
use Rattle.replay_text.specs.EventLines.{line_of}
use Rattle.replay_text.proofs.LineLaws.{newlines-append, one_first_line}
use Rattle.replay_text.proofs.EventLaws.{newlines-line_of}
use Rattle.replay_text.proofs.acts.first_act.Goals as goal

pub returns-in_default-clause-none : goal.returns-in_default-clause-none
returns-in_default-clause-none c = λ act rest ok e.
    absurd (omega (arith, ap newlines e, newlines-append (line_of act) (10 ∷ rest), c.in_default.ensures.none))

pub returns-in_default-2-clause-none : goal.returns-in_default-2-clause-none
returns-in_default-2-clause-none c = λ act rest ok e.
    let none = rw c.in_default-2.is at c.in_ok-act.ensures.none in
    let first = c.in-Some.ensures.some in
    none act ok (one_first_line c.in-Some.line.now (line_of act) c.in-Some.rest.now rest first.one (newlines-line_of act ok) (sym first.is ∙ e)).0
