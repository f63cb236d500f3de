use Rattle.std.proofs.Common.{◌≡◌, ◌-◌, ◌+◌, ◌*◌, [], ◌∷◌, length}
use denote.Text.{Utf8}
use denote.Shadow.{shadow}
use Rattle.htl_syntax.specs.Read.{nesting, chain, compare, both, choice}
use Rattle.htl_syntax.proofs.reader.+reader.Given as goal

abbrev pub decreases-atom : goal.decreases-atom
decreases-atom l = 20 * l.depth + 3

abbrev pub decreases-both : goal.decreases-both
decreases-both l = 20 * l.depth + 8

abbrev pub decreases-choice : goal.decreases-choice
decreases-choice l = 20 * l.depth + 11

abbrev pub decreases-compare : goal.decreases-compare
decreases-compare l = 20 * l.depth + 6

abbrev pub decreases-either : goal.decreases-either
decreases-either l = 20 * l.depth + 10

abbrev pub decreases-items : goal.decreases-items
decreases-items l = 20 * l.depth + 13

abbrev pub decreases-more_boths : goal.decreases-more_boths
decreases-more_boths l = 20 * l.depth + 9

abbrev pub decreases-more_compares : goal.decreases-more_compares
decreases-more_compares l = 20 * l.depth + 7

abbrev pub decreases-more_items : goal.decreases-more_items
decreases-more_items l = 20 * l.depth + 12

abbrev pub decreases-nesting : goal.decreases-nesting
decreases-nesting l = 20 * l.depth + 0

abbrev pub decreases-operand : goal.decreases-operand
decreases-operand l = 20 * l.depth + 4

abbrev pub decreases-other_choice : goal.decreases-other_choice
decreases-other_choice l = 20 * l.depth + 1

abbrev pub decreases-start : goal.decreases-start
decreases-start l = 20 * l.depth + 2

abbrev pub invariant-more_boths-loop-turn : goal.invariant-more_boths-loop-turn
invariant-more_boths-loop-turn l =
    shadow (Utf8 l.rest) × (chain (both l.depth (nesting l.depth)) 124 (length l.text - l._turn) l.found l.rest ≡ chain (both l.depth (nesting l.depth)) 124 (length l.text) [] l.text)

abbrev pub invariant-more_compares-loop-turn : goal.invariant-more_compares-loop-turn
invariant-more_compares-loop-turn l =
    shadow (Utf8 l.rest) × (chain (compare l.depth (nesting l.depth)) 38 (length l.text - l._turn) l.found l.rest ≡ chain (compare l.depth (nesting l.depth)) 38 (length l.text) [] l.text)

abbrev pub invariant-more_items-loop-turn : goal.invariant-more_items-loop-turn
invariant-more_items-loop-turn l =
    shadow (Utf8 l.rest) × (chain (choice l.depth (nesting l.depth)) 44 (length l.text - l._turn) l.found l.rest ≡ chain (choice l.depth (nesting l.depth)) 44 (length l.text) (l.fn.first ∷ []) l.text)

abbrev pub decreases-bracketed : goal.decreases-bracketed
decreases-bracketed l = 20 * l.depth + 1

abbrev pub decreases-compared_with : goal.decreases-compared_with
decreases-compared_with l = 20 * l.depth + 5

abbrev pub decreases-choices : goal.decreases-choices
decreases-choices l = 20 * l.depth + 2
