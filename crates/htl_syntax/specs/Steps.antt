-- Parts of the lines of the reading. Only private functions need this.
use Rattle.std.specs.Prelude.{ℕ, ◌==◌, if◌then◌else◌, List, [], length, Option, Some, Result, Ok, Err}
use Rattle.sp_base.specs.Outcomes.{◌>>=◌}
use Rattle.htl_syntax.specs.declared.stop.ExprStop.{ExprStop}
use Rattle.htl_syntax.specs.declared.stop.ExprStop.TheVariants.{Unexpected}
use Rattle.htl_syntax.specs.declared.node.ExprNode.{ExprNode}
use Rattle.htl_syntax.specs.declared.node.Comparison.{Comparison}
use Rattle.htl_syntax.specs.declared.expression.Context.{Context}
use Rattle.htl_syntax.specs.declared.reader.Nested.{Nested}
use Rattle.htl_syntax.specs.declared.reader.Nested.TheVariants.{Choice}
use Rattle.htl_syntax.specs.Tokens.{Outcome, expect}
use Rattle.htl_syntax.specs.Read.{Given, access_of, accesses, first_access, comparison, operand, other_choice, nesting, join_option, context_option, options}

-- a node, and the text after it
abbrev pub followed_by : ExprNode → List ℕ → Outcome ExprNode
followed_by e t = Ok (e, t)

-- a node with the accesses that follow it
abbrev pub accessed : ℕ → ExprNode → List ℕ → Outcome ExprNode
accessed depth e t = accesses depth (length t) [] t >>= λ fs. Ok (access_of e fs.0, fs.1)

-- a node that is made of an access
abbrev pub of_access : ℕ → (List ℕ → ExprNode) → List ℕ → Outcome ExprNode
of_access depth make t = first_access depth t >>= λ f. Ok (make f.0, f.1)

-- what nests, up to the byte that closes it
abbrev pub bracketed : ℕ → Nested → ℕ → List ℕ → Outcome ExprNode
bracketed depth which closing t = nesting depth which t >>= λ x. expect closing x.1 >>= λ r. Ok (x.0, r)

-- a comparison and the operand after it
abbrev pub compared_with : ℕ → List ℕ → Outcome (Comparison × ExprNode)
compared_with depth t = comparison t >>= λ op. operand depth (nesting depth) op.1 >>= λ b. Ok ((op.0, b.0), b.1)

-- what is chosen if a condition holds, and if not
abbrev pub both_choices : ℕ → List ℕ → Outcome (ExprNode × ExprNode)
both_choices depth t = nesting depth Choice t >>= λ a. other_choice depth (nesting depth) a.1 >>= λ b. Ok ((a.0, b.0), b.1)

-- a join text, with the context that is given
abbrev pub with_join : Option Context → List ℕ → Outcome Given
with_join context t = join_option t >>= λ x. Ok ((Some x.0, context), x.1)

-- a context, with the join text that is given
abbrev pub with_context : Option (List ℕ) → List ℕ → Outcome Given
with_context join t = context_option t >>= λ x. Ok ((join, Some x.0), x.1)

-- the options, after which nothing stands
abbrev pub last_options : List ℕ → Result Given ExprStop
last_options t = options t >>= λ o. if length o.1 == 0 then Ok o.0 else Err (Unexpected (length o.1))
