use Rattle.std.proofs.Common.{rules}
use Rattle.glob_rules.proofs.FormLemmas.{whole_is}
use Rattle.glob_rules.proofs.form.is_text.Goals as goal

pub returns : goal.returns
returns c = whole_is c.args.text.now c.args.literal.now _ c.utf8.text c.utf8.literal (search rules)
