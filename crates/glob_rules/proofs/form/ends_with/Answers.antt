use Rattle.std.proofs.Common.{◌≡◌, rules, nat_eq}
use Rattle.std.specs.List.{ends_with}
use Rattle.glob_rules.proofs.FormLemmas.{ends_is_match}
use Rattle.glob_rules.proofs.form.ends_with.Goals as goal

pub returns : goal.returns
returns c =
    let bytes : c.ends_with.result ≡ ends_with nat_eq c.args.text.now c.args.literal.now = search rules in
    ends_is_match c.args.text.now c.args.literal.now c.ends_with.result c.utf8.text c.utf8.literal bytes
