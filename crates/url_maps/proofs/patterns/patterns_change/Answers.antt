use Rattle.std.proofs.Common.{◌∙◌, ℕ, List, ap, sym}
use Rattle.url_maps.specs.PatternRows.{touches}
use Rattle.url_maps.proofs.RowLemmas.{left_patterns}
use Rattle.url_maps.proofs.patterns.patterns_change.Goals as goal

pub returns : goal.returns
returns c =
    left_patterns c.args.tree.now c.args.patch.now
    (ap (λ (p : List (List ℕ)). touches c.args.patch.now p) (sym c.in_ok-parent.ensures) ∙ sym c.touches.ensures ∙ c.if-touches.false)
