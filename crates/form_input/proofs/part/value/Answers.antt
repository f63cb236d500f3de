use Rattle.std.proofs.Common.{sym, ap, ◌∙◌, option_copied, Option, List, ℕ}
use Rattle.form_input.specs.Lines.{lines_left}
use Rattle.form_input.specs.Multipart.{value_in}
use Rattle.form_input.proofs.PartLemmas.{value_step, value_found, value_none}
use Rattle.form_input.proofs.part.value.Goals as goal

pub returns-then-is_empty : goal.returns-then-is_empty
returns-then-is_empty c = value_found c.args.part.now c.loop-later.rest.now c.next_line.result.0.now (option_copied c.next_line.result.1) c.loop-later.invariant c.next_line.ensures.lines (sym c.is_empty.ensures ∙ c.if-is_empty.true)

pub loop-later-preserved : goal.loop-later-preserved
loop-later-preserved c =
    let step = value_step c.args.part.now c.loop-later.rest.now c.next_line.result.0.now (option_copied c.next_line.result.1) c.loop-later.invariant c.next_line.ensures.lines (sym c.is_empty.ensures ∙ c.if-is_empty.false) in
    sym (ap (λ (o : Option (List ℕ)). value_in (lines_left o)) (ap option_copied c.in-Some.is)) ∙ step

pub returns-in-None : goal.returns-in-None
returns-in-None c =
    let step = value_step c.args.part.now c.loop-later.rest.now c.next_line.result.0.now (option_copied c.next_line.result.1) c.loop-later.invariant c.next_line.ensures.lines (sym c.is_empty.ensures ∙ c.if-is_empty.false) in
    sym value_none ∙ sym (ap (λ (o : Option (List ℕ)). value_in (lines_left o)) (ap option_copied c.in-None.is)) ∙ step
