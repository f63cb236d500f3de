use Rattle.std.proofs.Common.{ap, sym, subst, ◌∙◌, length}
use Rattle.htl_blocks.specs.declared.piece.Piece.{Piece}
use Rattle.htl_blocks.specs.Pieces.{piece_parts}
use Rattle.htl_blocks.proofs.SheetSteps.{no_inclusions_in_text, text_of_text}
use Rattle.publisher.specs.Waits.{IsSizeOf}
use Rattle.publisher.proofs.waiting.size_of_piece.Goals as goal

pub returns-in-Text : goal.returns-in-Text
returns-in-Text c scope =
    subst (λ (p : Piece). IsSizeOf (record { text = length c.text.result.now; inclusions = 0 }) (piece_parts scope p)) (sym c.in-Text.is) (ap length (c.text.ensures ∙ sym (text_of_text c.in-Text.text)), sym (no_inclusions_in_text c.in-Text.text))
