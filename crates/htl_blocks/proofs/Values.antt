-- Values of one piece at most.
use Rattle.std.proofs.Common.{◌≡◌, ◌<◌, ◌≤◌, List, [], ◌∷◌, length, Some, None, refl, arith}
use Rattle.htl_text.specs.declared.piece.TemplatePiece.{TemplatePiece}
use Rattle.htl_blocks.specs.Attributes.{at_most_one}

pub few_pieces : (ps : List TemplatePiece) → length ps < 2 → at_most_one ps ≡ Some ps
few_pieces [] h = refl
few_pieces (p ∷ []) h = refl
few_pieces (p ∷ q ∷ ps) h = absurd (omega (arith, h))

pub many_pieces : (ps : List TemplatePiece) → 2 ≤ length ps → at_most_one ps ≡ None
many_pieces [] h = absurd (omega (arith, h))
many_pieces (p ∷ []) h = absurd (omega (arith, h))
many_pieces (p ∷ q ∷ ps) h = refl
