use Rattle.std.proofs.Common.{◌≡◌, ◌≤◌, ◌++◌, length, take, string_bytes}
use Rattle.std.specs.List.{flat_map}
use Rattle.htl_expr.specs.Bindings.{with_vars}
use Rattle.htl_expr.specs.Variables.{vars_of}
use Rattle.htl_text.specs.Template.{piece_text}
use Rattle.htl_text.proofs.template.Template.write.Given as goal

abbrev pub invariant-loop-piece : goal.invariant-loop-piece
invariant-loop-piece l =
    (l.of ≡ l.fn.of) × (string_bytes l.text ≡ string_bytes l.fn.text ++ flat_map (piece_text (with_vars l.fn.of (vars_of l.fn.vars))) (take l.piece-index l.fn.self)) × (length (string_bytes l.text) ≤ l.fn.most)
