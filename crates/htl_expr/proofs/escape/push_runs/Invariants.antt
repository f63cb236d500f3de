use Rattle.std.proofs.Common.{◌≡◌, ◌≤◌, ◌++◌, string_bytes, length}
use Rattle.std.specs.List.{flat_map}
use denote.Text.{Utf8}
use denote.Shadow.{shadow}
use Rattle.htl_expr.specs.Print.{html_escape}
use Rattle.htl_expr.specs.Writing.{Begins}
use Rattle.htl_expr.proofs.escape.push_runs.Given as goal

abbrev pub invariant-loop-reference : goal.invariant-loop-reference
invariant-loop-reference l = shadow (Utf8 l.rest) × (string_bytes l.text ++ flat_map html_escape l.rest ≡ string_bytes l.fn.text ++ flat_map html_escape l.fn.plain) × (length (string_bytes l.text) ≤ l.most) × Begins (string_bytes l.fn.text) (string_bytes l.text)

abbrev pub decreases-loop-reference : goal.decreases-loop-reference
decreases-loop-reference l = length l.rest
