use Rattle.std.proofs.Common.{◌≡◌, rules, nat_eq}
use Rattle.std.specs.List.{starts_with}
use Rattle.glob_rules.proofs.FormLemmas.{begins_is}
use Rattle.glob_rules.proofs.form.begins_with.Goals as goal

pub returns : goal.returns
returns c =
    let bytes : c.starts_with.result ≡ starts_with nat_eq c.args.text.now c.args.literal.now = search rules in
    begins_is c.args.text.now c.args.literal.now c.starts_with.result c.utf8.text c.utf8.literal bytes
