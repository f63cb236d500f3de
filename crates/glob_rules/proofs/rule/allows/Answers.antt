use Rattle.std.proofs.Common.{◌≡◌, ◌∙◌, sym, ap, rules, arith, true, false}
use Rattle.std.specs.Str.{chars}
use Rattle.glob_rules.specs.Globs.{is_match}
use Rattle.glob_rules.specs.Rules.{allows}
use Rattle.glob_rules.proofs.RuleLemmas.{allows_here, allows_before}
use Rattle.glob_rules.proofs.rule.allows.Goals as goal

pub returns-then-matches : goal.returns-then-matches
returns-then-matches c =
    let list = c.as_slice-rules.result.now in
    let yes : is_match c.index-rules-left.result.glob (chars c.args.text.now) ≡ true = search rules in
    sym (allows_here list c.loop-left.left c.index-rules-left.result c.args.text.now (omega arith) (omega arith) c.index-rules-left.is yes) ∙ c.loop-left.invariant.1
    ∙ ap (λ rules. allows rules c.args.text.now) c.as_slice-rules.ensures

pub loop-left-preserved : goal.loop-left-preserved
loop-left-preserved c =
    let list = c.as_slice-rules.result.now in
    let no : is_match c.index-rules-left.result.glob (chars c.args.text.now) ≡ false = search rules in
    (omega arith, sym (allows_before list c.loop-left.left c.index-rules-left.result c.args.text.now (omega arith) (omega arith) c.index-rules-left.is no) ∙ c.loop-left.invariant.1)
