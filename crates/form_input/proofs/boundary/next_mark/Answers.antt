use Rattle.std.proofs.Common.{◌≡◌, ◌++◌, ◌∷◌, sym, ap, ◌∙◌, option_copied, List, ℕ}
use Rattle.form_input.specs.Lines.{lines_left}
use Rattle.form_input.proofs.BoundaryLemmas.{passed_nothing, passed_line, reached, none_left, copied}
use Rattle.form_input.proofs.boundary.next_mark.Goals as goal

pub loop-form-init : goal.loop-form-init
loop-form-init c = passed_nothing c.args.dash.now c.args.end c.args.text.now

pub returns-then-not-is_plain-clause-some : goal.returns-then-not-is_plain-clause-some
returns-then-not-is_plain-clause-some c =
    let after = copied (λ (rest : List ℕ). c.loop-form.rest.now ≡ c.next_line.result.0.now ++ 13 ∷ 10 ∷ rest) c.next_line.result.1 c.next_line.ensures.ended in
    let plain = rw c.line_form-form.ensures at (sym c.if-not-is_plain.ensures) in
    let r = reached c.args.dash.now c.args.end c.args.text.now c.loop-form.rest.now c.next_line.result.0.now (option_copied c.next_line.result.1) c.next_line.ensures.lines after plain c.requires c.loop-form.invariant in
    record {
      before = r.before ∙ ap lines_left (sym c.before-then-not-is_plain.ensures);
      later = rw (c.is_closing.ensures, c.line_form-form.ensures) r.later;
    }

pub loop-form-preserved : goal.loop-form-preserved
loop-form-preserved c =
    let first = rw c.in-Some.is at c.next_line.ensures.lines in
    let ended = rw c.in-Some.is at c.next_line.ensures.ended in
    let plain = rw c.line_form-form.ensures at (sym c.if-not-is_plain.ensures) in
    passed_line c.args.dash.now c.args.end c.args.text.now c.loop-form.rest.now c.next_line.result.0.now c.in-Some.more.now first c.next_line.ensures.alone ended plain c.requires c.loop-form.invariant

pub returns-in-None-clause-none : goal.returns-in-None-clause-none
returns-in-None-clause-none c =
    let first = rw c.in-None.is at c.next_line.ensures.lines in
    let plain = rw c.line_form-form.ensures at (sym c.if-not-is_plain.ensures) in
    none_left c.args.dash.now c.args.end c.args.text.now c.loop-form.rest.now c.next_line.result.0.now first plain c.loop-form.invariant
