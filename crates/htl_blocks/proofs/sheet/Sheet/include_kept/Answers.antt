use Rattle.std.proofs.Common.{◌≡◌, ◌∙◌, [], ap, refl, string_bytes, rules}
use Rattle.htl_blocks.specs.Pieces.{piece_parts}
use Rattle.htl_blocks.specs.Sheets.{SheetText, Stops}
use Rattle.htl_blocks.proofs.SheetSteps.{inclusion_result, memory_lacks}
use Rattle.htl_blocks.proofs.sheet.Sheet.include_kept.Goals as goal

pub returns : goal.returns
returns c =
    let empty : string_bytes c.replace-text.new.dest ≡ [] = rw c.replace-text.ensures.after c.new.ensures.bytes in
    let all = ap (λ (s : SheetText). s.keeping) c.self.view_is ∙ c.requires.keeping in
    let before = rw c.replace-text.ensures.value at c.in_ok-push_text.ensures.ok in
    rw (empty, ← c.self.view_is)
    (inclusion_result c.push_inclusion.result _ c.self.inside.of c.self.inside.keeping c.self.inside.pieces c.push_text.new.self c.push_inclusion.new.self c.args.piece (string_bytes c.self.inside.tail) c.self.inside.rounds
    refl all c.requires.piece before c.push_inclusion.ensures.ok c.push_inclusion.ensures.fault)

pub returns-in_err-push_text : goal.returns-in_err-push_text
returns-in_err-push_text c =
    let over = rw c.replace-text.ensures.value at c.in_err-push_text.ensures.fault in
    let stops : Stops c.in_err-push_text.field-0.0 c.args.self.now (piece_parts c.args.self.now.scope c.args.piece) = λ known. absurd (memory_lacks c.in_err-push_text.field-0.0 c.self.inside.pieces (string_bytes c.self.inside.tail) c.self.invariant.1 over known) in
    search rules
