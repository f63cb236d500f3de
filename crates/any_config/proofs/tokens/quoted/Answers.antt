use Rattle.std.proofs.Common.{◌≡◌, ◌∙◌, rules, true}
use Rattle.sp_base.specs.Bytes.{begins_with_byte}
use Rattle.any_config.proofs.TokenLemmas.{quoted_ok, quoted_bad}
use Rattle.any_config.proofs.tokens.quoted.Goals as goal

pub returns-in_ok-of-in-Ok : goal.returns-in_ok-of-in-Ok
returns-in_ok-of-in-Ok c =
    let at : begins_with_byte c.args.mark c.split_at.result.1.now ≡ true = search rules in
    rw c.quoted_node.ensures
    (quoted_ok c.args.mark c.run_len.result c.args.text.now c.tail-inside.result.now c.split_at.result.0.now c.split_at.result.1.now c.in_ok-of-in-Ok.field-0 c.tail.result.now c.tail-inside.ensures
    c.run_len.ensures.value c.split_at.ensures.front c.split_at.ensures.back at c.in-Ok.ensures.cases.1 (c.in_ok-of-in-Ok.ensures ∙ c.in-Ok.ensures.cases.0) c.tail.ensures)

pub returns-in-Err : goal.returns-in-Err
returns-in-Err c =
    let at : begins_with_byte c.args.mark c.split_at.result.1.now ≡ true = search rules in
    quoted_bad c.args.mark c.run_len.result c.args.text.now c.tail-inside.result.now c.split_at.result.0.now c.split_at.result.1.now c.tail-inside.ensures c.run_len.ensures.value c.split_at.ensures.front c.split_at.ensures.back at
    c.in-Err.ensures.cases.0
