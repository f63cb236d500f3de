use Rattle.std.proofs.Common.{◌∙◌, ap, sym, string_bytes, rules}
use Rattle.htl_blocks.specs.Sheets.{SheetText}
use Rattle.htl_blocks.proofs.SheetSteps.{finished_parts, is_memory, memory_lacks}
use Rattle.htl_blocks.proofs.sheet.finished.Goals as goal

pub returns-in_err-push_text-clause-err : goal.returns-in_err-push_text-clause-err
returns-in_err-push_text-clause-err c =
    let lacks = is_memory c.in_err-push_text.field-0.0 (memory_lacks c.in_err-push_text.field-0.0 c.sheet.inside.pieces (string_bytes c.sheet.inside.tail) c.sheet.invariant.1 c.in_err-push_text.ensures.fault) in
    search rules

pub returns-clause-parts : goal.returns-clause-parts
returns-clause-parts c =
    let same = c.requires ∙ sym (ap (λ (s : SheetText). s.scope) c.sheet.view_is) in
    let whole = finished_parts c.sheet.inside.of c.args.scope.now c.sheet.inside.pieces c.push_text.new.self (string_bytes c.sheet.inside.tail) same c.in_ok-push_text.ensures.ok in
    (c.list_of.ensures.scope ∙ c.requires, c.list_of.ensures.parts ∙ whole ∙ ap (λ (s : SheetText). s.parts) c.sheet.view_is, c.list_of.ensures.rounds ∙ ap (λ (s : SheetText). s.rounds) c.sheet.view_is)
