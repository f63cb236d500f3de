use Rattle.std.proofs.Common.{sym, ap, ◌∙◌, option_copied, Option, List, ℕ}
use Rattle.form_input.specs.Lines.{lines_left}
use Rattle.form_input.specs.Multipart.{disposition_in}
use Rattle.form_input.proofs.PartLemmas.{disposition_step, disposition_found, disposition_ends, disposition_none}
use Rattle.form_input.proofs.part.disposition.Goals as goal

pub returns-then-is_empty : goal.returns-then-is_empty
returns-then-is_empty c = disposition_ends c.args.part.now c.loop-line.rest.now c.next_line.result.0.now (option_copied c.next_line.result.1) c.loop-line.invariant c.next_line.ensures.lines (sym c.is_empty.ensures ∙ c.if-is_empty.true)

pub returns-in-Some : goal.returns-in-Some
returns-in-Some c = disposition_found c.args.part.now c.loop-line.rest.now c.next_line.result.0.now c.in-Some.value.now (option_copied c.next_line.result.1) c.loop-line.invariant c.next_line.ensures.lines (sym c.is_empty.ensures ∙ c.if-is_empty.false) (sym c.after_name.ensures ∙ ap option_copied c.in-Some.is)

pub loop-line-preserved : goal.loop-line-preserved
loop-line-preserved c =
    let step = disposition_step c.args.part.now c.loop-line.rest.now c.next_line.result.0.now (option_copied c.next_line.result.1) c.loop-line.invariant c.next_line.ensures.lines (sym c.is_empty.ensures ∙ c.if-is_empty.false) (sym c.after_name.ensures ∙ ap option_copied c.in_default.is) in
    sym (ap (λ (o : Option (List ℕ)). disposition_in (lines_left o)) (ap option_copied c.in-Some-later.is)) ∙ step

pub returns-in-None : goal.returns-in-None
returns-in-None c =
    let step = disposition_step c.args.part.now c.loop-line.rest.now c.next_line.result.0.now (option_copied c.next_line.result.1) c.loop-line.invariant c.next_line.ensures.lines (sym c.is_empty.ensures ∙ c.if-is_empty.false) (sym c.after_name.ensures ∙ ap option_copied c.in_default.is) in
    sym disposition_none ∙ sym (ap (λ (o : Option (List ℕ)). disposition_in (lines_left o)) (ap option_copied c.in-None.is)) ∙ step
