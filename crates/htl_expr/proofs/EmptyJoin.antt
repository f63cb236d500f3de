-- A list that is joined by the empty text is put together before it is written.
use Rattle.std.proofs.Common.{◌≡◌, ◌≢◌, ◌<◌, ◌≤◌, ◌-◌, ℕ, List, Option, Some, None, length, arith}
use Rattle.htl_syntax.specs.declared.expression.Context.{Context}
use Rattle.htl_syntax.specs.declared.expression.Context.TheVariants as context
use Rattle.htl_expr.specs.declared.room.WriteFault.{WriteFault}
use Rattle.htl_expr.specs.declared.room.WriteFault.TheVariants.{TooLong, NoMemory}
use Rattle.htl_expr.specs.Print.{in_context}
use Rattle.htl_expr.specs.Writing.{IsStopped}
use Rattle.htl_expr.proofs.EscapeLemmas.{escaped_longer}
use Rattle.htl_expr.proofs.Writing.{begins_same, no_room}

in_context_longer : (context : Option Context) (t : List ℕ) → length t ≤ length (in_context context t)
in_context_longer None t = escaped_longer t
in_context_longer (Some context.Text) t = escaped_longer t
in_context_longer (Some context.Unsafe) t = omega arith

-- what has no room as it stands has none when it is escaped
pub has_no_room : (most room : ℕ) (f : WriteFault) (context : Option Context) (old text : List ℕ) → length old ≤ most → room ≡ most - length old
    → (f ≢ NoMemory → (f ≡ TooLong) × (room < length text)) → IsStopped most f old (in_context context text) old
has_no_room most room f context old text le is fault =
    (begins_same old, λ known. let x = fault known in let more = in_context_longer context text in (x.0, no_room most old (in_context context text) le (omega (arith, is, x.1, more))))
