use Rattle.std.proofs.Common.{◌≡◌, ◌≤◌, length}
use denote.Text.{Utf8}
use denote.Shadow.{shadow}
use Rattle.htl_text.specs.Template.{before, template_pieces}
use Rattle.htl_text.proofs.template.Template.read.Given as goal

abbrev pub invariant-loop-pieces : goal.invariant-loop-pieces
invariant-loop-pieces l = shadow (Utf8 l.rest) × (length l.rest ≤ length l.text) × (before l.pieces (template_pieces (length l.text) 0 l.rest) ≡ template_pieces (length l.text) 0 l.text)

abbrev pub decreases-loop-pieces : goal.decreases-loop-pieces
decreases-loop-pieces l = length l.rest
